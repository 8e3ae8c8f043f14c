-- What one host of a program sends another in the joint run.
use Rattle.std.specs.Prelude.{◌≡◌, ◌≢◌, ℕ, ◌<◌, List, None, length}
use Rattle.vd_base.specs.declared.protocols.Proto.{Proto}
use Rattle.vd_core.specs.declared.normal.NormalForm.{NormalForm}
use Rattle.vd_tape.specs.declared.deal_items.deal.Deal.{Deal}
use Rattle.vd_execution.specs.Step.{Source, Inputs}
use Rattle.vd_execution.specs.World.{Supply, words_of}
use Rattle.vd_execution.specs.Joint.{Joint, Hosts}
use Rattle.vd_execution.specs.Claims.{last_of}
use Rattle.vd_world.specs.Supplies.{AreFiles, supply_of_files}
use Rattle.vd_projection.specs.Programs.{joint_of}

-- the hosts of a program at the end of the joint run, on lists that are followed by zeros
abbrev pub last : NormalForm → (protocols : List Proto) → (inputs : List (List ℕ)) → List Deal → Hosts
last program protocols inputs deals = last_of (supply_of_files inputs deals) (joint_of program protocols)

-- the words of all packets that the one host has sent the other
abbrev pub talk : NormalForm → (protocols : List Proto) → (inputs : List (List ℕ)) → List Deal → (from to : ℕ) → List ℕ
talk program protocols inputs deals from to = words_of ((last program protocols inputs deals from).sent to)

-- each dealt item that the joint run takes is there
abbrev pub DealReaches : Supply → Joint → Type 0
DealReaches s j = (h : ℕ) (source : Source) (i : ℕ) → source ≢ Inputs → i < (last_of s j h).cursors source → s h source i ≢ None

-- inputs and a deal for all hosts of a program, and the deal reaches for its joint run
pub record IsPlayable (program : NormalForm) (protocols : List Proto) (inputs : List (List ℕ)) (deals : List Deal) : Type 0 where
  pub files : AreFiles inputs deals
  pub all_inputs : length inputs ≡ length program.hosts
  pub all_deals : length deals ≡ length program.hosts
  pub reaches : DealReaches (supply_of_files inputs deals) (joint_of program protocols)
