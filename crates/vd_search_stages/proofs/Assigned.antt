-- What was selected, by protocols.
use Rattle.std.proofs.Common.{◌≡◌, ℕ, Bool, true, false, not, ◌||◌, Option, Some, None, List, map, refl, sym, ap, ◌∙◌, subst, pos}
use Rattle.std.specs.Prelude.{IsTrue, is_some}
use Rattle.vd_search.specs.Answers.{nat_or_zero}
use Rattle.vd_search_tree.specs.declared.search_certificate.certificate.Certificate.{Certificate}
use Rattle.vd_space.specs.declared.problem.Problem.{Problem}
use Rattle.vd_space.specs.Costs.{cost}
use Rattle.vd_space.specs.Validity.{is_bare, protocol}
use Rattle.vd_search_stages.specs.Optimum.{IsOptimum, in_form, optimum_of}
use Rattle.vd_search_stages.specs.Selecting.{IsAccepted, Selects}
use Rattle.vd_search_stages.specs.SoFar.{has_own_form}
use Rattle.vd_search_stages.proofs.Accepted.{form_accepted}
use Rattle.vd_search_stages.specs.declared.optimum.Assignment.{Assignment}
use Rattle.vd_search_stages.specs.declared.optimum.Optimum.{Optimum}
use Rattle.vd_search_stages.specs.declared.selecting.Selection.{Selection}
use Rattle.vd_search_stages.specs.declared.selecting.Selection.TheVariants.{Found, NoAssignment}

bare_or_not : (b : Bool) → (not b || b) ≡ true
bare_or_not true = refl
bare_or_not false = refl

module _ (problem : Problem) (budget : ℕ) where
  abbrev at_cost : List ℕ → ℕ → Option Assignment
  at_cost places n = Some (record { protocols = map (protocol problem) places; cost = n })

  is_optimum : (selection : Selection) → Selects problem budget selection → IsOptimum problem budget (optimum_of problem selection)
  is_optimum (Found places least c) is =
      let number : least ≡ nat_or_zero (cost problem places) = sym (ap nat_or_zero is.1) in
      record { choice = Some places; chosen = is.0; assignment = ap (at_cost places) number; costs = is.1 ∙ ap pos number; accepted = is.2; form = ap (λ (o : Option ℕ). is_some o || not c.by_arcs || is_bare problem) is.3 }
  is_optimum (NoAssignment c) is = record { choice = None; chosen = is.0; assignment = refl; costs = tt; accepted = subst (IsAccepted problem budget) (sym (ap (in_form problem) is.2)) (form_accepted problem budget c.marks (subst (IsAccepted problem budget) is.2 is.1) (is_bare problem) refl); form = subst (λ (k : Certificate). IsTrue (has_own_form problem (in_form problem k))) (sym is.2) (bare_or_not (is_bare problem)) }

  pub selected : (selection : Selection) (optimum : Optimum) → Selects problem budget selection → optimum ≡ optimum_of problem selection → IsOptimum problem budget optimum
  selected selection optimum is same = subst (IsOptimum problem budget) (sym same) (is_optimum selection is)
