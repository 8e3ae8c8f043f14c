-- A run in which a host departs: carol hands in 1, and sends 7 to both hosts that have a copy of what she endorses.
use Rattle.std.specs.Prelude.{◌≡◌, ℕ, nat_eq, Bool, List, [], ◌∷◌, slice_index_or}
use Rattle.vd_base.specs.declared.form.Form.{Form}
use Rattle.vd_base.specs.declared.protocols.Proto.{Proto}
use Rattle.vd_base.specs.declared.protocols.Proto.TheVariants.{Local, Rep}
use Rattle.vd_base.specs.HostSets.{host_set}
use Rattle.vd_core.specs.declared.normal.Right.TheVariants.{Input, Endorse}
use Rattle.vd_execution.specs.Joint.{Hosts, fresh}
use Rattle.vd_split.specs.Block.{Block, End, Let, Output, each}
use Rattle.vd_split.specs.Emission.{emitting_at_start}
use Rattle.vd_semantics.specs.ProgramMeaning.{state_at_start}
use Rattle.vd_semantics.specs.World.{world_at_start}
use Rattle.vd_backend_laws.specs.Given.{zero_deal}
use Rattle.vd_backend_laws.specs.Parts.{suite_calls}
use Rattle.vd_backend_laws.specs.Whole.{inputs_of}
use Rattle.vd_noninter_protocols.specs.Example.{slot}
use Rattle.vd_integrity_runs.specs.IntegrityBackendsExample.{alice, bob, carol, carol_departs}
use Rattle.vd_integrity_runs.specs.Endorsed.{Given, all_done, given_step}
use Rattle.vd_integrity_runs.specs.Runs.{RunsBlock}

-- her input is endorsed, and output to alice and to bob
abbrev pub handed_on : Form → Block
handed_on to = Let (slot 0) (Input carol) (Let (slot 1) (Endorse (slot 0) to) (Output (slot 1) alice 0 (Output (slot 1) bob 0 End)))

abbrev pub places : ℕ → Proto
places x = slice_index_or (Local carol ∷ Rep (host_set 3) ∷ []) x (Local carol)

abbrev pub handed_in : List (List ℕ)
handed_in = [] ∷ [] ∷ (1 ∷ []) ∷ []

-- the one endorsement
abbrev pub becomes_trusted : ℕ → ℕ → Bool
becomes_trusted x y = nat_eq x 1

-- what the program tells, where this word is endorsed
abbrev pub told_given : Form → ℕ → List (List ℕ)
told_given to word =
    let begin : Given = record { state = state_at_start (world_at_start 3 handed_in); left = word ∷ [] } in
    (all_done (each (given_step becomes_trusted) (handed_on to)) 0 begin).state.world.outputs

-- There is such a run; both print the word that she sent, as the program does where that word is endorsed.
pub record PrintsWhatSheSent (to : Form) : Type 0 where
  pub after : Hosts
  pub runs : RunsBlock 3 places carol_departs (zero_deal (inputs_of handed_in)) becomes_trusted (handed_on to) (emitting_at_start (suite_calls 3) places) fresh after
  pub alice_prints : (after alice.0).printed ≡ 7 ∷ []
  pub bob_prints : (after bob.0).printed ≡ 7 ∷ []
  pub told : told_given to 7 ≡ (7 ∷ []) ∷ (7 ∷ []) ∷ [] ∷ []
