-- The first kind of dealt items that does not reach for a run of two hosts.
use Rattle.std.specs.Prelude.{◌≡◌, ◌≢◌, ◌↔◌, ℕ, ◌-◌, ◌≤◌, List, Option, None}
use Rattle.vd_base.specs.declared.protocols.Proto.{Proto}
use Rattle.vd_core.specs.declared.normal.NormalForm.{NormalForm}
use Rattle.vd_constraints.specs.declared.labels.Labels.{Labels}
use Rattle.vd_tape.specs.declared.deal_items.deal.Deal.{Deal}
use Rattle.vd_tape.specs.declared.deal_items.deal.DealKind.{DealKind}
use Rattle.vd_execution.specs.Step.{Source, Inputs}
use Rattle.vd_execution.specs.Joint.{Hosts, fresh, joint}
use Rattle.vd_execution.specs.Gadgets.{Gadget}
use Rattle.vd_execution.specs.Plans.{Plan, joint_of}
use Rattle.vd_machine.specs.Dealt.{counts_of}
use Rattle.vd_views.specs.Explained.{IsOfTwo, plan_of}
use Rattle.vd_views.specs.Files.{tape_of}
use Rattle.vd_excuse_walk.specs.Files.{first_short, list_of_kind}

-- of two hosts, the list of a kind that one has with the other
abbrev pub list_at : DealKind → (host : ℕ) → Source
list_at kind g = list_of_kind kind (1 - g)

-- the hosts at the end of a run on these lists, each followed by zeros
abbrev pub end_of : Plan Gadget → (inputs : List (List ℕ)) → List Deal → Hosts
end_of plan inputs deals = joint (tape_of inputs deals) (joint_of plan) fresh

-- the first kind of which one of two hosts takes more than it was dealt
abbrev pub short_kind : Plan Gadget → (inputs : List (List ℕ)) → List Deal → Option DealKind
short_kind plan inputs deals = first_short deals (end_of plan inputs deals)

-- no item is taken past the end of any list
abbrev pub TakesNoMore : Plan Gadget → (inputs : List (List ℕ)) → List Deal → Type 0
TakesNoMore plan inputs deals = (g : ℕ) (s : Source) → s ≢ Inputs → (end_of plan inputs deals g).cursors s ≤ counts_of deals g s

-- no kind is short exactly where no item is taken past the end of any list
abbrev pub ShortKindsAreExact : Type 0
ShortKindsAreExact =
    (p : NormalForm) (l : Labels) (protocols : List Proto) → IsOfTwo p l protocols → (inputs : List (List ℕ)) (deals : List Deal)
    → (short_kind (plan_of p protocols) inputs deals ≡ None) ↔ TakesNoMore (plan_of p protocols) inputs deals
