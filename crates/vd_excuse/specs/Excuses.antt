-- Deal files that are computed along both runs explain the second one.
use Rattle.std.specs.Prelude.{◌≡◌, ◌≢◌, ℕ, ◌+◌, ◌-◌, ◌<◌, ◌≤◌, List, [], ◌∷◌, Some, length, map, slice_get}
use Rattle.std.specs.List.{range_with_len}
use Rattle.vd_base.specs.HostSets.{host}
use Rattle.vd_base.specs.declared.ids.HostId.{HostId}
use Rattle.vd_base.specs.declared.protocols.Proto.{Proto}
use Rattle.vd_core.specs.declared.normal.NormalForm.{NormalForm}
use Rattle.vd_constraints.specs.declared.labels.Labels.{Labels}
use Rattle.vd_tape.specs.declared.deal_items.deal.Deal.{Deal}
use Rattle.vd_machine.specs.Machines.{list_of}
use Rattle.vd_execution.specs.Registers.{nth}
use Rattle.vd_execution.specs.Step.{Source, Inputs, OwnWords, Triples, BitTriples, Pairs}
use Rattle.vd_execution.specs.World.{Tape, zeros_of}
use Rattle.vd_execution.specs.Joint.{fresh}
use Rattle.vd_execution.specs.Gadgets.{Gadget}
use Rattle.vd_execution.specs.Plans.{Plan}
use Rattle.vd_views.specs.Views.{alone}
use Rattle.vd_views.specs.Contract.{with_inputs}
use Rattle.vd_views.specs.Excused.{excused}
use Rattle.vd_excuse_walk.specs.declared.equivocation_laws.step.Step.{Step}
use Rattle.vd_excuse_walk.specs.Walks.{Both, both_steps, walks}
use Rattle.vd_excuse_walk.specs.Items.{pair_of, triple_of}
use Rattle.vd_excuse.specs.Claims.{LeadTo}
use Rattle.vd_views.specs.Explained.{IsOfTwo, plan_of, input_words, AgreeFor}
use Rattle.vd_machine.specs.Dealt.{counts_of}
use Rattle.vd_views.specs.Files.{tape_of, AreEnough, AreAsLong, IsExcuse}

-- both runs at their starts: the second one has the second inputs, and so far the deal of the first
abbrev pub both_at_start : Tape → (second : List (List ℕ)) → Both
both_at_start t second = record { deal = with_inputs t (input_words second); first = fresh; second = fresh }

-- and after these steps, on lists that are followed by zeros
abbrev pub both_after : ℕ → List Step → (first second : List (List ℕ)) → List Deal → Both
both_after h steps first second deals = both_steps (walks (alone h) (tape_of first deals) steps) (both_at_start (tape_of first deals) second)

-- the second run takes no item past the end of these lists
abbrev pub ReachesToo : List Deal → Both → Type 0
ReachesToo deals both = (g : ℕ) (s : Source) → s ≢ Inputs → (both.second g).cursors s ≤ counts_of deals g s

-- and its deal has zeros there
abbrev pub EndsToo : List Deal → Both → Type 0
EndsToo deals both = (g : ℕ) (s : Source) (i : ℕ) → s ≢ Inputs → counts_of deals g s ≤ i → both.deal g s i ≡ zeros_of s

-- the file of one of two hosts, which has a list of each kind for the other
pub record IsOneOfTwo (me : ℕ) (deal : Deal) : Type 0 where
  pub hosts : deal.hosts ≡ 2
  pub number : deal.me.0 ≡ me
  pub triples : length deal.triples ≡ 1
  pub bits : length deal.bits ≡ 1
  pub pairs : length deal.pairs ≡ 1

-- files of two hosts, as long as the first ones, that have the second deal where these lengths reach for it
pub record AreExcused (h : ℕ) (steps : List Step) (first second : List (List ℕ)) (deals stored : List Deal) : Type 0 where
  pub two : length stored ≡ 2
  pub each : (g : ℕ) (deal : Deal) → slice_get stored g ≡ Some deal → IsOneOfTwo g deal
  pub as_long : AreAsLong deals stored
  pub same : let both = both_after h steps first second deals in ReachesToo deals both → EndsToo deals both → tape_of second stored ≡ both.deal

-- they are files that explain the second inputs
abbrev pub ExcusedFilesExplain : Type 0
ExcusedFilesExplain =
    (p : NormalForm) (l : Labels) (protocols : List Proto) → IsOfTwo p l protocols → (h : HostId) → h.0 < 2 → (first second : List (List ℕ)) → length second ≤ 2
    → AgreeFor p l protocols (alone h.0) first second → (deals stored : List Deal) → AreEnough (plan_of p protocols) first deals
    → (steps : List Step) → LeadTo steps (plan_of p protocols) → AreExcused h.0 steps first second deals stored
    → IsExcuse h.0 (plan_of p protocols) first second deals stored

-- ---- which files they are

-- the first items of a list of a deal
abbrev pub items_of : {X : Type 0} → (List ℕ → X) → (ℕ → List ℕ) → (count : ℕ) → List X
items_of make z count = map (λ i. make (z i)) (range_with_len 0 count)

-- what one of two hosts has of a deal, as many items of each kind as stand in this file
abbrev pub file_of : Tape → (me : ℕ) → Deal → Deal
file_of z me d = record {
  hosts = 2;
  me = host me;
  own = items_of (λ xs. nth xs 0) (z me OwnWords) (length d.own);
  triples = items_of triple_of (z me (Triples (1 - me))) (length (list_of d.triples me (1 - me))) ∷ [];
  bits = items_of triple_of (z me (BitTriples (1 - me))) (length (list_of d.bits me (1 - me))) ∷ [];
  pairs = items_of pair_of (z me (Pairs (1 - me))) (length (list_of d.pairs me (1 - me))) ∷ [];
}

abbrev pub files_from : Tape → (me : ℕ) → List Deal → List Deal
files_from z me [] = []
files_from z me (d ∷ deals) = file_of z me d ∷ files_from z (me + 1) deals

-- the files that explain the second inputs
abbrev pub excuse_files : ℕ → Plan Gadget → (first second : List (List ℕ)) → List Deal → List Deal
excuse_files h plan first second deals =
    let t = tape_of first deals in files_from (excused (alone h) t plan (with_inputs t (input_words second)) fresh fresh) 0 deals

-- there are no others
abbrev pub ExcusedFilesAreThese : Type 0
ExcusedFilesAreThese =
    (p : NormalForm) (l : Labels) (protocols : List Proto) → IsOfTwo p l protocols → (h : HostId) → h.0 < 2 → (first second : List (List ℕ))
    → AgreeFor p l protocols (alone h.0) first second → (deals stored : List Deal) → AreEnough (plan_of p protocols) first deals
    → (steps : List Step) → LeadTo steps (plan_of p protocols) → AreExcused h.0 steps first second deals stored
    → stored ≡ excuse_files h.0 (plan_of p protocols) first second deals
