-- The deal that explains other inputs to a host, or why there is none.
use Rattle.std.specs.Prelude.{◌≡◌, ◌≢◌, ℕ, List, Option, Some, None, length, Result, IfOk, IfErr}
use Rattle.vd_base.specs.declared.ids.HostId.{HostId}
use Rattle.vd_base.specs.declared.protocols.Proto.{Proto}
use Rattle.vd_core.specs.declared.normal.NormalForm.{NormalForm}
use Rattle.vd_constraints.specs.declared.labels.Labels.{Labels}
use Rattle.vd_tape.specs.declared.deal_items.deal.Deal.{Deal}
use Rattle.vd_tape.specs.declared.deal_items.deal.DealKind.{DealKind}
use Rattle.vd_tape.specs.Validity.{IsConsistent}
use Rattle.vd_tape.specs.Text.{AreDealsOf}
use Rattle.vd_execution.specs.Gadgets.{Gadget}
use Rattle.vd_execution.specs.Plans.{Plan}
use Rattle.vd_excuse_walk.specs.declared.equivocation_laws.step.Step.{Step}
use Rattle.vd_noninter_protocols.specs.Difference.{view_difference}
use Rattle.vd_base.specs.Words.{InputsAreWords}
use Rattle.vd_views.specs.Views.{alone}
use Rattle.vd_views.specs.Explained.{IsOfTwo, plan_of, AgreeFor}
use Rattle.vd_views.specs.Files.{IsExcuse}
use Rattle.vd_excuse.specs.Short.{short_kind}
use Rattle.vd_excuse.specs.Claims.{LeadTo}
use Rattle.vd_excuse.specs.Excuses.{excuse_files}
use Rattle.vd_excuse_walk.specs.declared.explaining.Walked.{Walked}
use Rattle.vd_excuse_walk.specs.Claims.{EndsWithin, HaveSameShape, end_of}
use Rattle.vd_excuse_walk.specs.Files.{file_tape, first_short}
use Rattle.vd_excuse.specs.declared.fault.ViewFault.{ViewFault}
use Rattle.vd_excuse.specs.declared.fault.ViewFault.TheVariants.{Short, Differ, Memory}

-- a kind that is short, or else a place at which what is known differs
abbrev pub fault_of : Option DealKind → Option ℕ → Option ViewFault
fault_of (Some kind) place = Some (Short kind)
fault_of None (Some place) = Some (Differ place)
fault_of None None = None

-- why the second inputs are not explained to h, if they are not
abbrev pub fault_at : NormalForm → Labels → List Proto → HostId → (first second : List (List ℕ)) → List Deal → Option ViewFault
fault_at p l protocols h first second deals = fault_of (short_kind (plan_of p protocols) first deals) (view_difference p l protocols h first second)

-- inputs of two hosts, others, and a consistent deal of both
pub record AreAsked (first second : List (List ℕ)) (deals : List Deal) : Type 0 where
  pub all_first : length first ≡ 2
  pub all_second : length second ≡ 2
  pub first_words : InputsAreWords first
  pub second_words : InputsAreWords second
  pub all_deals : length deals ≡ 2
  pub dealt : AreDealsOf 2 deals
  pub consistent : IsConsistent deals

-- no fault is there, and these are the files that explain the second inputs
pub record IsExcused (p : NormalForm) (l : Labels) (protocols : List Proto) (h : HostId) (first second : List (List ℕ)) (deals stored : List Deal) : Type 0 where
  pub no_fault : fault_at p l protocols h first second deals ≡ None
  pub agree : AgreeFor p l protocols (alone h.0) first second
  pub files : stored ≡ excuse_files h.0 (plan_of p protocols) first second deals
  pub excuse : IsExcuse h.0 (plan_of p protocols) first second deals stored

-- whatever the labels are under which the assignment is valid
abbrev pub Excuses : NormalForm → List Proto → HostId → (first second : List (List ℕ)) → List Deal → Result (List Deal) ViewFault → Type 0
Excuses p protocols h first second deals result =
    (l : Labels) → IsOfTwo p l protocols → IfOk result (IsExcused p l protocols h first second deals)

abbrev pub Refuses : NormalForm → List Proto → HostId → (first second : List (List ℕ)) → List Deal → Result (List Deal) ViewFault → Type 0
Refuses p protocols h first second deals result =
    (l : Labels) → IsOfTwo p l protocols → IfErr result (λ fault. fault ≢ Memory → fault_at p l protocols h first second deals ≡ Some fault)

-- both runs were gone along by steps that lead to the ends of this plan
pub record HasWalked (h : HostId) (plan : Plan Gadget) (first second : List (List ℕ)) (deals : List Deal) (walked : Walked) : Type 0 where
  pub steps : List Step
  pub lead : LeadTo steps plan
  pub short : walked.short ≡ first_short deals (end_of h steps first second deals).first
  pub same : HaveSameShape deals walked.deals
  pub deal : let end = end_of h steps first second deals in EndsWithin deals end → file_tape second walked.deals ≡ end.deal
