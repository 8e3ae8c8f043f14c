-- What the call comes to.
use Rattle.std.proofs.Common.{◌≡◌, ℕ, ◌<◌, List, Option, Some, None, Result, Ok, Err, IfOk, refl, sym, ap, ap₂, subst, ◌∙◌, arith}
use Rattle.vd_base.specs.declared.ids.HostId.{HostId}
use Rattle.vd_base.specs.declared.protocols.Proto.{Proto}
use Rattle.vd_core.specs.declared.normal.NormalForm.{NormalForm}
use Rattle.vd_constraints.specs.declared.labels.Labels.{Labels}
use Rattle.vd_tape.specs.declared.deal_items.deal.Deal.{Deal}
use Rattle.vd_tape.specs.declared.deal_items.deal.DealKind.{DealKind}
use Rattle.vd_tape.specs.Text.{AreDealsOf}
use Rattle.vd_base.specs.HostSets.{host}
use Rattle.vd_noninter_protocols.specs.Assigned.{heard_words}
use Rattle.vd_noninter_protocols.specs.Difference.{view_difference}
use Rattle.vd_noninter_protocols.proofs.Front.{differs_exactly}
use Rattle.vd_excuse_walk.specs.declared.equivocation_laws.step.Step.{Step}
use Rattle.vd_excuse_walk.specs.Walks.{Both}
use Rattle.vd_views.specs.Views.{alone}
use Rattle.vd_views.specs.Explained.{IsOfTwo, plan_of, input_words, AgreeFor}
use Rattle.vd_views.proofs.Front.{of_alone}
use Rattle.vd_views.specs.Files.{tape_of, AreEnough}
use Rattle.vd_excuse.specs.Short.{short_kind}
use Rattle.vd_excuse.specs.Claims.{LeadTo}
use Rattle.vd_excuse.specs.Excuses.{both_at_start, AreExcused}
use Rattle.vd_excuse.proofs.Short.{short_kinds_are_exact}
use Rattle.vd_excuse.proofs.Excused.{excused_files_are_these, excused_files_explain}
use Rattle.vd_excuse_walk.specs.declared.explaining.Walked.{Walked}
use Rattle.vd_excuse_walk.specs.Claims.{EndsWithin, HaveSameShape, end_of}
use Rattle.vd_excuse_walk.specs.Files.{file_tape, first_short}
use Rattle.vd_excuse.specs.declared.fault.ViewFault.TheVariants.{Short, Differ}
use Rattle.vd_excuse.specs.Excuse.{AreAsked, HasWalked, IsExcused, fault_at, fault_of}
use Rattle.vd_excuse.proofs.Stored.{are_excused}

module _ (p : NormalForm) (l : Labels) (protocols : List Proto) (of_two : IsOfTwo p l protocols) (h : HostId) (low : h.0 < 2) (first second : List (List ℕ)) (deals : List Deal) (asked : AreAsked first second deals)
    (walked : Walked) (has : HasWalked h (plan_of p protocols) first second deals walked) where
  -- what is short of the first run
  short_is : walked.short ≡ short_kind (plan_of p protocols) first deals
  short_is =
      has.short ∙ ap (λ (b : Both). first_short deals b.first) (has.lead (alone h.0) (tape_of first deals) (both_at_start (tape_of first deals) second))

  pub is_short : (kind : DealKind) → walked.short ≡ Some kind → fault_at p l protocols h first second deals ≡ Some (Short kind)
  is_short kind e = ap (λ (o : Option DealKind). fault_of o (view_difference p l protocols h first second)) (sym short_is ∙ e)

  module _ (none : walked.short ≡ None) where
    none_short : short_kind (plan_of p protocols) first deals ≡ None
    none_short = sym short_is ∙ none

    pub differs : (place : ℕ) → view_difference p l protocols h first second ≡ Some place → fault_at p l protocols h first second deals ≡ Some (Differ place)
    differs place e = ap₂ (λ (o : Option DealKind) (d : Option ℕ). fault_of o d) none_short e

    module _ (same : view_difference p l protocols h first second ≡ None) where
      enough : AreEnough (plan_of p protocols) first deals
      enough = record {
        files = record {
          words = asked.first_words;
          few = let one = asked.all_first in let two = asked.all_deals in omega (arith, one, two);
          dealt = subst (λ (n : ℕ). AreDealsOf n deals) (sym asked.all_deals) asked.dealt;
          consistent = asked.consistent;
        };
        two = asked.all_deals;
        takes = (short_kinds_are_exact p l protocols of_two first deals).0 none_short;
      }

      agree : AgreeFor p l protocols (alone h.0) first second
      agree = let k = (differs_exactly p l protocols h first second).0 same in record {
        words = asked.second_words;
        own = of_alone h.0 (λ g. (i : ℕ) → input_words first g i ≡ input_words second g i) k.0;
        heard = of_alone h.0 (λ g. heard_words p l protocols (host g) first ≡ heard_words p l protocols (host g) second) k.1;
      }

      are : AreExcused h.0 has.steps first second deals walked.deals
      are = are_excused h.0 has.steps first second deals walked.deals asked.all_deals asked.dealt has.same has.deal

      pub is_excused : IsExcused p l protocols h first second deals walked.deals
      is_excused = record {
        no_fault = ap₂ (λ (o : Option DealKind) (d : Option ℕ). fault_of o d) none_short same;
        agree = agree;
        files = excused_files_are_these p l protocols of_two h low first second agree deals walked.deals enough has.steps has.lead are;
        excuse = excused_files_explain p l protocols of_two h low first second (let two = asked.all_second in omega (arith, two)) agree deals walked.deals enough has.steps has.lead are;
      }

-- both runs were gone along
pub has_walked : {E : Type 0} (p : NormalForm) (protocols : List Proto) (h : HostId) (first second : List (List ℕ)) (deals : List Deal) (steps : List Step) (r : Result Walked E)
    → ((l : Labels) → IsOfTwo p l protocols → LeadTo steps (plan_of p protocols)) → IfOk r (λ out. out.short ≡ first_short deals (end_of h steps first second deals).first)
    → IfOk r (λ out. HaveSameShape deals out.deals) → IfOk r (λ out. EndsWithin deals (end_of h steps first second deals) → file_tape second out.deals ≡ (end_of h steps first second deals).deal)
    → IfOk r (λ out. (l : Labels) → IsOfTwo p l protocols → HasWalked h (plan_of p protocols) first second deals out)
has_walked p protocols h first second deals steps (Ok out) lead short same deal = λ l of_two. record { steps = steps; lead = lead l of_two; short = short; same = same; deal = deal }
has_walked p protocols h first second deals steps (Err e) lead short same deal = tt

pub none_left : {T : Type 0} (o : Option T) → ((x : T) → o ≡ Some x → ⊥) → o ≡ None
none_left None f = refl
none_left (Some x) f = absurd (f x refl)
