-- One use more, as the loop over the uses has it.
use Rattle.std.proofs.Common.{◌≡◌, ℕ, ◌+◌, ◌-◌, ◌<◌, ◌≤◌, ◌*◌, Bool, Option, Some, List, [], length, get_or, map, refl, sym, ap, ◌∙◌, subst, arith, slice_get}
use Rattle.std.specs.List.{AllByRecursion}
use Rattle.std.proofs.lemmas.Option.{slice_get_read}
use Rattle.std.proofs.lemmas.List.{drop_all, length-map, take_all, get_or_default}
use Rattle.vd_base.specs.declared.protocols.Proto.{Proto}
use Rattle.vd_space.specs.declared.problem.Problem.{Problem}
use Rattle.vd_space.specs.declared.problem.Use.{Use}
use Rattle.vd_space.specs.Validity.{protocols}
use Rattle.vd_space.specs.Labelled.{IsLabelled}
use Rattle.vd_space.specs.Spaces.{IsProblem, IsUse}
use Rattle.vd_space_api.specs.declared.space_shifts.ledger.Ledger.{Ledger}
use Rattle.vd_search_tree.specs.declared.shift.Shift.{Shift}
use Rattle.vd_space.specs.Costs.{total}
use Rattle.vd_space.specs.Bounds.{use_shift}
use Rattle.vd_space.specs.Sizes.{heft, IsWithinLimits}
use Rattle.vd_space.specs.Usual.{usual_from}
use Rattle.vd_space_api.specs.Terms.{candidates_of, IsTable, terms_after, AreCosts}
use Rattle.vd_space_api.specs.Ledger.{AreSmall, places_at, given_by, handed_on, IsHandedOn, IsOverPlaces, IsSmallShift}
use Rattle.vd_space_api.proofs.Costs.{each_at}
use Rattle.vd_space_api.proofs.Tables.{no_shifts}
use Rattle.vd_space_api.proofs.Steps.{places_size}
use Rattle.vd_space_api.proofs.Walk.{are_small, next, next_small}

module _ (problem : Problem) (holds : IsProblem problem) (labelled : IsLabelled problem) (list : List Proto) (listed : list ≡ protocols problem) (candidates : List (List Bool)) (can : candidates ≡ map (candidates_of problem) problem.slots)
    (ledger : Ledger) (n at : ℕ) (one : n ≡ at + 1) (u : Use) (low : at < length problem.uses) (read : u ≡ get_or problem.uses at u) (is : IsHandedOn problem n ledger) where
  found : slice_get problem.uses at ≡ Some u
  found = slice_get_read problem.uses (length problem.uses) at u refl low read

  named : IsUse (length problem.slots) u
  named = each_at (IsUse (length problem.slots)) problem.uses at u holds.uses low read

  round_given : AreSmall (given_by list candidates u ledger)
  round_given = subst (λ l. AreSmall (given_by l candidates u ledger)) (sym listed)
      (next_small problem labelled.few_hosts candidates can at u found named.source named.target ledger (subst (λ k. IsHandedOn problem k ledger) one is))

  round_next : (after : Ledger) → after ≡ handed_on list candidates at u ledger → IsHandedOn problem at after
  round_next after after_is =
      subst (IsHandedOn problem at) (sym (after_is ∙ ap (λ l. handed_on l candidates at u ledger) listed))
      (next problem labelled.few_hosts candidates can at u found named.source named.target ledger (subst (λ k. IsHandedOn problem k ledger) one is))

module _ (problem : Problem) (list : List Proto) (listed : list ≡ protocols problem) (candidates : List (List Bool)) (can : candidates ≡ map (candidates_of problem) problem.slots) (ledger : Ledger) (n : ℕ) (is : IsHandedOn problem n ledger) where
  round_places : (slot : ℕ) → slot < length ledger.terms → length (places_at candidates slot) ≡ length list
  round_places slot low = let slots = is.terms.slots in places_size problem candidates slot can (omega (arith, slots, low)) ∙ sym (ap length listed)

  pub over_places : length list ≤ 64 → IsOverPlaces list candidates ledger
  over_places few = record {
    few = omega (arith, few);
    slots = ap length can ∙ length-map problem.slots (candidates_of problem) ∙ sym is.terms.slots;
    places = round_places;
    rows = λ slot low. let slots = is.terms.slots in is.terms.places slot (omega (arith, slots, low)) ∙ sym (ap length listed);
    small = are_small problem n ledger is;
  }

abbrev no_use : Use
no_use = record { source = record { 0 = 0 }; target = record { 0 = 0 }; weight = 0 }

module _ (problem : Problem) (holds : IsProblem problem) (labelled : IsLabelled problem) (list : List Proto) (listed : list ≡ protocols problem) (candidates : List (List Bool)) (can : candidates ≡ map (candidates_of problem) problem.slots)
    (ledger : Ledger) (at : ℕ) (is : IsHandedOn problem at ledger) (slice : List Use) (same : slice ≡ problem.uses) (some : 0 < at) (within : at ≤ length slice) where
  abbrev here : Use
  here = get_or slice (at - 1) no_use

  low_at : at - 1 < length problem.uses
  low_at = let size = ap length same in omega (arith, size, some, within)

  read_at : here ≡ get_or problem.uses (at - 1) here
  read_at = ap (λ s. get_or s (at - 1) no_use) same ∙ get_or_default problem.uses (at - 1) no_use here low_at

  one_at : at ≡ at - 1 + 1
  one_at = omega (arith, some)

  pub loop_given : AreSmall (given_by list candidates here ledger)
  loop_given = round_given problem holds labelled list listed candidates can ledger at (at - 1) one_at here low_at read_at is

  pub loop_next : (after : Ledger) → after ≡ handed_on list candidates (at - 1) here ledger → IsHandedOn problem (at - 1) after
  loop_next after after_is = round_next problem holds labelled list listed candidates can ledger at (at - 1) one_at here low_at read_at is after after_is

-- before the last use
pub first_ledger : (problem : Problem) → IsWithinLimits problem → (terms : List (List (Option ℕ))) (shifts : List Shift) → AreCosts problem problem.outputs terms → shifts ≡ [] → IsHandedOn problem (length problem.uses) (record { terms = terms; shifts = shifts })
first_ledger problem limits terms shifts are none =
    let costs = limits.costs in
    let light = are.light in
    let all = ap (heft (λ (u : Use). 212 * u.weight)) (take_all (length problem.uses) problem.uses (omega arith)) in
    record {
      shifts = none ∙ sym (ap (usual_from problem (length problem.uses)) (drop_all (length problem.uses) problem.uses (omega arith)));
      small = subst (λ (s : List Shift). AllByRecursion IsSmallShift s) (sym none) tt;
      terms = subst (λ s. IsTable problem (terms_after problem s) terms) (sym none) (no_shifts problem terms are.table);
      unused = λ number p q low. ap (total (use_shift number p q)) none;
      light = omega (arith, costs, light, all);
    }
