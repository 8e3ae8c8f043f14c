-- The clear words that come to a host of a program in its joint run, and on which inputs they depend.
use Rattle.std.specs.Prelude.{◌≡◌, ℕ, ◌^◌, ◌<◌, Bool, List, length, slice_index}
use Rattle.vd_base.specs.declared.ids.HostId.{HostId}
use Rattle.vd_base.specs.declared.protocols.Proto.{Proto}
use Rattle.vd_base.specs.Holders.{proto_in}
use Rattle.vd_core.specs.declared.normal.NormalForm.{NormalForm}
use Rattle.vd_constraints.specs.declared.labels.Labels.{Labels}
use Rattle.vd_space.specs.Reading.{problem_of}
use Rattle.vd_space.specs.Cheapest.{IsAssignment}
use Rattle.vd_execution.specs.World.{Tape}
use Rattle.vd_execution.specs.Deals.{IsValidDeal}
use Rattle.vd_execution.specs.Joint.{fresh, joint}
use Rattle.vd_split.specs.Block.{block_of}
use Rattle.vd_split.specs.Emission.{emitting_at_start}
use Rattle.vd_core.specs.Numbers.{NumbersFit}
use Rattle.vd_backend_laws.specs.Machine.{machine}
use Rattle.vd_backend_laws.specs.Parts.{suite_calls}
use Rattle.vd_backend_laws.specs.Suite.{AreGiven}
use Rattle.vd_backend_laws.specs.Whole.{code_at, inputs_of}
use Rattle.vd_projection.specs.Assignments.{IsValidFor}
use Rattle.vd_noninter.specs.Reading.{declassified_words, SameInputs}
use Rattle.vd_noninter_protocols.specs.Assigned.{heard_words}
use Rattle.vd_noninter_protocols.specs.Telling.{told}

-- inputs of words, and a valid deal with these inputs
pub record IsDealt (inputs : List (List ℕ)) (t : Tape) : Type 0 where
  pub words : (h i : ℕ) → slice_index (inputs_of inputs h) i < 2 ^ 32
  pub deal : IsValidDeal t
  pub given : AreGiven (inputs_of inputs) t

-- the words that come to a host of the program in clear in the joint run, in order
abbrev pub told_words : NormalForm → List Proto → HostId → List (List ℕ) → Tape → List ℕ
told_words p protocols h inputs t =
    told (machine t (inputs_of inputs)) (suite_calls (length p.hosts)) protocols h (block_of p.body)
    (emitting_at_start (suite_calls (length p.hosts)) (proto_in protocols)) fresh

-- they are those of the clear run
abbrev pub TellsWhatIsHeard : Type 0
TellsWhatIsHeard = (p : NormalForm) (l : Labels) (protocols : List Proto) → IsValidFor p l protocols → (h : HostId) → h.0 < length p.hosts
    → (inputs : List (List ℕ)) (t : Tape) → IsDealt inputs t → told_words p protocols h inputs t ≡ heard_words p l protocols h inputs

-- what it prints in the joint run
abbrev pub printed_words : NormalForm → List Proto → HostId → Tape → List ℕ
printed_words p protocols h t = (joint t (code_at (proto_in protocols) p) fresh h.0).printed

-- the same clear words come to a host in two joint runs, and it prints the same
pub record AreToldTheSame (p : NormalForm) (protocols : List Proto) (h : HostId) (first second : List (List ℕ)) (t u : Tape) : Type 0 where
  pub words : told_words p protocols h first t ≡ told_words p protocols h second u
  pub prints : printed_words p protocols h t ≡ printed_words p protocols h u

-- so where their inputs agree on known hosts, and on the words of these declassifications, whatever the two deals
abbrev pub TellsOnly : NormalForm → List Proto → HostId → (ℕ → ℕ → Bool) → (ℕ → Bool) → Type 0
TellsOnly p protocols h released known =
    (first second : List (List ℕ)) (t u : Tape) → IsDealt first t → IsDealt second u → SameInputs known first second
    → declassified_words p released first ≡ declassified_words p released second
    → AreToldTheSame p protocols h first second t u

-- so at every valid assignment
abbrev pub TellsOnlyAssigned : NormalForm → Labels → HostId → (ℕ → ℕ → Bool) → (ℕ → Bool) → Type 0
TellsOnlyAssigned p l h released known =
    NumbersFit p → h.0 < length p.hosts → (protocols : List Proto) → IsAssignment (problem_of p l) protocols → TellsOnly p protocols h released known
