-- No shift changes the cost of a whole valid list.
use Rattle.std.proofs.Common.{◌≡◌, ℕ, zero, suc, ◌+◌, ◌<◌, Bool, true, false, ◌&&◌, cond, Option, Some, None, List, [], ◌∷◌, map, length, refl, sym, ap, ◌∙◌, subst, arith, ℤ, pos, ◌+ℤ◌, ◌-ℤ◌, inl, inr, slice_get, option_map}
use Rattle.std.specs.Prelude.{IsTrue, is_some, ◌==◌, if◌then◌else◌, unwrap_or}
use Rattle.std.specs.List.{AllByRecursion}
use Rattle.std.specs.Option.{option_map_or}
use Rattle.std.proofs.lemmas.Int.{ints}
use Rattle.std.proofs.lemmas.Bool.{true≢false, cond-true, cond-false, cases_Bool, eqb-true, eq-eqb, ne_eqb}
use Rattle.vd_space.specs.declared.problem.Problem.{Problem}
use Rattle.vd_space.specs.declared.problem.Use.{Use}
use Rattle.vd_space.specs.declared.problem.Output.{Output}
use Rattle.vd_search_tree.specs.declared.shift.Shift.{Shift}
use Rattle.vd_space.specs.Validity.{is_valid}
use Rattle.vd_space.specs.Costs.{total, one_at, pair_at, operation_value, operation_term, output_value, output_term, use_value, use_term, index_term, slots_of, ones, cost}
use Rattle.vd_space.specs.Bounds.{signed, side_of, slot_shift, use_shift, add, outputs_value, shifted_one, shifted_use, shifted_uses, shifted_ones, shifted_pairs}
use Rattle.vd_space.specs.Spaces.{IsProblem, IsUse}
use Rattle.vd_space.proofs.Terms.{HasOne, HasPair, HasTerms, one_is, pair_is, sum_at, total_same}
use Rattle.vd_space.proofs.Totals.{total_append, total_map, total_ext, total_plus, total_zero, total_swap, total_once}
use Rattle.vd_space.proofs.Valued.{each_map, each_append, each_below, operation_has, outputs_have, uses_have, indexes_have, guards_have}

-- the item at a place of a list, where there is one
abbrev here : List ℕ → ℕ → ℕ
here list slot = unwrap_or (slice_get list slot) 0

here_is : (list : List ℕ) (slot p : ℕ) → slice_get list slot ≡ Some p → here list slot ≡ p
here_is list slot p is = ap (λ o. unwrap_or o 0) is

-- what a shift comes to on its slot, and on its use, at a list
abbrev effect_at : List ℕ → Shift → Use → ℤ
effect_at list shift u = if shift.proto == here list (side_of u shift.side) then signed shift else pos 0

abbrev effect : Problem → List ℕ → Shift → ℤ
effect problem list shift = option_map_or (effect_at list shift) (slice_get problem.uses shift.at) (pos 0)

-- ---- slots

both_tests : (a b : Bool) (v : ℤ) → cond (a && b) v (pos 0) ≡ cond a (cond b v (pos 0)) (pos 0)
both_tests true b v = refl
both_tests false b v = refl

pub each_at : {X : Type 0} (P : X → Type 0) (xs : List X) (i : ℕ) (x : X) → slice_get xs i ≡ Some x → AllByRecursion P xs → P x
each_at P [] i x is each = absurd (true≢false (sym (ap is_some is)))
each_at P (y ∷ xs) zero x is each = subst P (ap (λ o. unwrap_or o y) is) each.0
each_at P (y ∷ xs) (suc i) x is each = each_at P xs i x is each.1

module _ (problem : Problem) (is : IsProblem problem) (list : List ℕ) (shift : Shift) where
  side_low : (u : Use) → IsUse (length problem.slots) u → side_of u shift.side < length problem.slots
  side_low u known = elim (cases_Bool (shift.side == 0)) [
    | inl source ↦ subst (λ s. s < length problem.slots) (sym (cond-true (shift.side == 0) u.source.0 u.target.0 source)) known.source
    | inr target ↦ subst (λ s. s < length problem.slots) (sym (cond-false (shift.side == 0) u.source.0 u.target.0 target)) known.target
  ]

  slots_effect_of : (item : Option Use) → ((u : Use) → item ≡ Some u → IsUse (length problem.slots) u)
      → total (λ slot. option_map_or (λ u. if side_of u shift.side == slot && shift.proto == here list slot then signed shift else pos 0) item (pos 0)) (slots_of problem)
      ≡ option_map_or (effect_at list shift) item (pos 0)
  slots_effect_of None known = total_zero (λ slot. pos 0) (λ slot. refl) (slots_of problem)
  slots_effect_of (Some u) known =
      let side = side_of u shift.side in
      let value : ℕ → ℤ = λ slot. if shift.proto == here list slot then signed shift else pos 0 in
      total_ext (λ slot. if side == slot && shift.proto == here list slot then signed shift else pos 0) (λ slot. if side == slot then value slot else pos 0)
      (λ slot. both_tests (side == slot) (shift.proto == here list slot) (signed shift)) (slots_of problem)
      ∙ total_once side 0 (length problem.slots) value (omega arith) (let low = side_low u (known u refl) in omega (arith, low))

  slots_effect : total (λ slot. slot_shift problem slot (here list slot) shift) (slots_of problem) ≡ effect problem list shift
  slots_effect = slots_effect_of (slice_get problem.uses shift.at) (λ u at. each_at (IsUse (length problem.slots)) problem.uses shift.at u at is.uses)

-- ---- uses

abbrev uses_effect : List ℕ → Shift → ℕ → List Use → ℤ
uses_effect list shift at [] = pos 0
uses_effect list shift at (u ∷ us) = use_shift at (here list u.source.0) (here list u.target.0) shift +ℤ uses_effect list shift (at + 1) us

module _ (list : List ℕ) (shift : Shift) where
  proto_at : (u : Use) → cond (shift.side == 0) (here list u.source.0) (here list u.target.0) ≡ here list (side_of u shift.side)
  proto_at u = elim (cases_Bool (shift.side == 0)) [
    | inl source ↦ cond-true (shift.side == 0) (here list u.source.0) (here list u.target.0) source ∙ ap (here list) (sym (cond-true (shift.side == 0) u.source.0 u.target.0 source))
    | inr target ↦ cond-false (shift.side == 0) (here list u.source.0) (here list u.target.0) target ∙ ap (here list) (sym (cond-false (shift.side == 0) u.source.0 u.target.0 target))
  ]

  use_effect_same : (at : ℕ) (u : Use) → shift.at ≡ at → use_shift at (here list u.source.0) (here list u.target.0) shift ≡ effect_at list shift u
  use_effect_same at u same =
      let test = shift.proto == cond (shift.side == 0) (here list u.source.0) (here list u.target.0) in
      both_tests (shift.at == at) test (signed shift)
      ∙ cond-true (shift.at == at) (cond test (signed shift) (pos 0)) (pos 0) (eq-eqb shift.at at same)
      ∙ ap (λ p. cond (shift.proto == p) (signed shift) (pos 0)) (proto_at u)

  use_effect_none : (at : ℕ) (u : Use) → (shift.at ≡ at → ⊥) → use_shift at (here list u.source.0) (here list u.target.0) shift ≡ pos 0
  use_effect_none at u other =
      let test = shift.proto == cond (shift.side == 0) (here list u.source.0) (here list u.target.0) in
      both_tests (shift.at == at) test (signed shift)
      ∙ cond-false (shift.at == at) (cond test (signed shift) (pos 0)) (pos 0) (ne_eqb shift.at at other)

  uses_effect_none : (at : ℕ) (us : List Use) → shift.at < at → uses_effect list shift at us ≡ pos 0
  uses_effect_none at [] low = refl
  uses_effect_none at (u ∷ us) low =
      let first = use_effect_none at u (λ same. absurd (omega (arith, same))) in
      let rest = uses_effect_none (at + 1) us (omega arith) in
      omega (arith, ints, first, rest)

  uses_effect_at : (at k : ℕ) (us : List Use) → shift.at ≡ at + k → uses_effect list shift at us ≡ option_map_or (effect_at list shift) (slice_get us k) (pos 0)
  uses_effect_at at k [] same = refl
  uses_effect_at at zero (u ∷ us) same =
      let first = use_effect_same at u (omega (arith, same)) in
      let rest = uses_effect_none (at + 1) us (omega (arith, same)) in
      omega (arith, ints, first, rest)
  uses_effect_at at (suc k) (u ∷ us) same =
      let first = use_effect_none at u (λ here. absurd (omega (arith, same, here))) in
      let rest = uses_effect_at (at + 1) k us (omega (arith, same)) in
      omega (arith, ints, first, rest)

effects_agree : (problem : Problem) (list : List ℕ) (shift : Shift) → uses_effect list shift 0 problem.uses ≡ effect problem list shift
effects_agree problem list shift = uses_effect_at list shift 0 shift.at problem.uses (omega arith)

-- ---- terms

module _ (problem : Problem) (is : IsProblem problem) (list : List ℕ) (full : length list ≡ length problem.slots) (valid : IsTrue (is_valid problem list)) (shifts : List Shift) where
  -- an output's value, where it is one of the slot
  part : ℕ → Output → ℤ
  part slot o = if o.slot.0 == slot then one_at list (output_term problem o) else pos 0

  output_at : (slot p : ℕ) (o : Output) → slice_get list slot ≡ Some p → o.slot.0 ≡ slot → HasOne problem list (output_term problem o) → output_value problem o p ≡ Some (one_at list (output_term problem o))
  output_at slot p o at same has =
      let place : has.p ≡ p = sym (here_is list o.slot.0 has.p has.at.decided) ∙ ap (here list) same ∙ here_is list slot p at in
      subst (λ q. output_value problem o q ≡ Some (one_at list (output_term problem o))) place (has.value ∙ ap Some (sym (one_is problem list (output_term problem o) has)))

  outputs_are : (slot p : ℕ) (os : List Output) → slice_get list slot ≡ Some p → AllByRecursion (λ (o : Output). HasOne problem list (output_term problem o)) os → outputs_value problem slot p os ≡ Some (total (part slot) os)
  unfolding part
  outputs_are slot p [] at each = refl
  outputs_are slot p (o ∷ os) at each = elim (cases_Bool (o.slot.0 == slot)) [
    | inl mine ↦
        cond-true (o.slot.0 == slot) (add (output_value problem o p) (outputs_value problem slot p os)) (outputs_value problem slot p os) mine
        ∙ ap (λ v. add v (outputs_value problem slot p os)) (output_at slot p o at (eqb-true o.slot.0 slot mine) each.0)
        ∙ ap (add (Some (one_at list (output_term problem o)))) (outputs_are slot p os at each.1)
        ∙ ap (λ v. Some (v +ℤ total (part slot) os)) (sym (cond-true (o.slot.0 == slot) (one_at list (output_term problem o)) (pos 0) mine))
    | inr other ↦
        let rest = total (part slot) os in
        let nothing : part slot o ≡ pos 0 = cond-false (o.slot.0 == slot) (one_at list (output_term problem o)) (pos 0) other in
        cond-false (o.slot.0 == slot) (add (output_value problem o p) (outputs_value problem slot p os)) (outputs_value problem slot p os) other
        ∙ outputs_are slot p os at each.1
        ∙ ap Some (omega (arith, ints, nothing))
  ]

  shifted_value : (slot p : ℕ) (v : ℤ) → slice_get list slot ≡ Some p → operation_value problem slot p ≡ Some v
      → (shifted_one problem shifts slot).value p ≡ Some (v +ℤ total (part slot) problem.outputs +ℤ total (slot_shift problem slot p) shifts)
  shifted_value slot p v at value =
      ap (λ o. option_map (λ w. w +ℤ total (slot_shift problem slot p) shifts) (add o (outputs_value problem slot p problem.outputs))) value
      ∙ ap (λ o. option_map (λ w. w +ℤ total (slot_shift problem slot p) shifts) (add (Some v) o)) (outputs_are slot p problem.outputs at (outputs_have problem is list full valid))

  pub shifted_has : (slot : ℕ) → slot < length problem.slots → HasOne problem list (shifted_one problem shifts slot)
  shifted_has slot low =
      let has = operation_has problem is list full valid slot low in
      record {
        p = has.p;
        at = has.at;
        v = has.v +ℤ total (part slot) problem.outputs +ℤ total (slot_shift problem slot has.p) shifts;
        value = shifted_value slot has.p has.v has.at.decided has.value;
      }

  shifted_is : (slot : ℕ) → slot < length problem.slots
      → one_at list (shifted_one problem shifts slot) ≡ one_at list (operation_term problem slot) +ℤ total (part slot) problem.outputs +ℤ total (slot_shift problem slot (here list slot)) shifts
  unfolding shifted_has
  shifted_is slot low =
      let has = operation_has problem is list full valid slot low in
      let plain = one_is problem list (operation_term problem slot) has in
      let mine = one_is problem list (shifted_one problem shifts slot) (shifted_has slot low) in
      let at = ap (λ q. total (slot_shift problem slot q) shifts) (here_is list slot has.p has.at.decided) in
      omega (arith, ints, plain, mine, at)

  ones_total : total (one_at list) (shifted_ones problem shifts) ≡ total (one_at list) (ones problem) +ℤ total (effect problem list) shifts
  unfolding part
  ones_total =
      let slots = slots_of problem in
      let outputs = problem.outputs in
      let plain : ℕ → ℤ = λ slot. one_at list (operation_term problem slot) in
      let told : ℕ → ℤ = λ slot. total (part slot) outputs in
      let moved : ℕ → ℤ = λ slot. total (slot_shift problem slot (here list slot)) shifts in
      let low : AllByRecursion (λ slot. slot < length problem.slots) slots = each_below (λ slot. slot < length problem.slots) 0 (length problem.slots) (λ k low. omega arith) in
      let mapped = total_map (one_at list) (shifted_one problem shifts) slots in
      let each = total_same (λ slot. slot < length problem.slots) (λ slot. one_at list (shifted_one problem shifts slot)) (λ slot. plain slot +ℤ told slot +ℤ moved slot) shifted_is slots low in
      let split = total_plus (λ slot. plain slot +ℤ told slot) moved slots in
      let split_more = total_plus plain told slots in
      let tellings = total_swap part slots outputs in
      let once = total_same (λ (o : Output). o.slot.0 < length problem.slots) (λ o. total (λ slot. part slot o) slots) (λ o. one_at list (output_term problem o))
      (λ o within. total_once o.slot.0 0 (length problem.slots) (λ slot. one_at list (output_term problem o)) (omega arith) (omega arith)) outputs is.outputs in
      let shiftings = total_swap (λ slot shift. slot_shift problem slot (here list slot) shift) slots shifts in
      let effects = total_ext (λ shift. total (λ slot. slot_shift problem slot (here list slot) shift) slots) (effect problem list) (slots_effect problem is list) shifts in
      let joined = total_append (one_at list) (map (operation_term problem) slots) (map (output_term problem) outputs) in
      let first = total_map (one_at list) (operation_term problem) slots in
      let second = total_map (one_at list) (output_term problem) outputs in
      omega (arith, ints, mapped, each, split, split_more, tellings, once, shiftings, effects, joined, first, second)

  -- ---- of uses
  use_shifted_value : (at : ℕ) (u : Use) (p q : ℕ) (v : ℤ) → use_value problem u p q ≡ Some v → (shifted_use problem shifts at u).value p q ≡ Some (v -ℤ total (use_shift at p q) shifts)
  use_shifted_value at u p q v value = ap (option_map (λ w. w -ℤ total (use_shift at p q) shifts)) value

  use_shifted_has : (at : ℕ) (u : Use) → HasPair problem list (use_term problem u) → HasPair problem list (shifted_use problem shifts at u)
  use_shifted_has at u has = record {
    p = has.p;
    first = has.first;
    q = has.q;
    second = has.second;
    v = has.v -ℤ total (use_shift at has.p has.q) shifts;
    value = use_shifted_value at u has.p has.q has.v has.value;
  }

  use_shifted_is : (at : ℕ) (u : Use) → HasPair problem list (use_term problem u)
      → pair_at list (shifted_use problem shifts at u) ≡ pair_at list (use_term problem u) -ℤ total (use_shift at (here list u.source.0) (here list u.target.0)) shifts
  unfolding use_shifted_has
  use_shifted_is at u has =
      let plain = pair_is problem list (use_term problem u) has in
      let mine = pair_is problem list (shifted_use problem shifts at u) (use_shifted_has at u has) in
      let first = ap (λ p. total (use_shift at p has.q) shifts) (here_is list u.source.0 has.p has.first.decided) in
      let second = ap (λ q. total (use_shift at (here list u.source.0) q) shifts) (here_is list u.target.0 has.q has.second.decided) in
      omega (arith, ints, plain, mine, first, second)

  uses_shifted_have : (at : ℕ) (us : List Use) → AllByRecursion (λ (u : Use). HasPair problem list (use_term problem u)) us → AllByRecursion (HasPair problem list) (shifted_uses problem shifts at us)
  uses_shifted_have at [] each = tt
  uses_shifted_have at (u ∷ us) each = (use_shifted_has at u each.0, uses_shifted_have (at + 1) us each.1)

  uses_total : (at : ℕ) (us : List Use) → AllByRecursion (λ (u : Use). HasPair problem list (use_term problem u)) us
      → total (pair_at list) (shifted_uses problem shifts at us) ≡ total (pair_at list) (map (use_term problem) us) -ℤ total (λ shift. uses_effect list shift at us) shifts
  uses_total at [] each = let none = total_zero (λ (shift : Shift). pos 0) (λ shift. refl) shifts in omega (arith, ints, none)
  uses_total at (u ∷ us) each =
      let first = use_shifted_is at u each.0 in
      let rest = uses_total (at + 1) us each.1 in
      let split = total_plus (use_shift at (here list u.source.0) (here list u.target.0)) (λ shift. uses_effect list shift (at + 1) us) shifts in
      omega (arith, ints, first, rest, split)

  pub shifted_have : HasTerms problem (shifted_ones problem shifts) (shifted_pairs problem shifts) list
  shifted_have = record {
    one = each_map (HasOne problem list) (shifted_one problem shifts) (slots_of problem) (each_below (λ slot. HasOne problem list (shifted_one problem shifts slot)) 0 (length problem.slots) (λ slot low. shifted_has slot (omega arith)));
    pair = each_append (HasPair problem list) (shifted_uses problem shifts 0 problem.uses) (map (index_term problem) problem.indexes)
        (uses_shifted_have 0 problem.uses (uses_have problem is list full valid)) (indexes_have problem is list full valid);
    guard = guards_have problem is list full valid;
  }

  pub shifted_sum : sum_at problem (shifted_ones problem shifts) (shifted_pairs problem shifts) list ≡ cost problem list
  unfolding sum_at
  shifted_sum =
      let indexes = map (index_term problem) problem.indexes in
      let first = ones_total in
      let front = total_append (pair_at list) (shifted_uses problem shifts 0 problem.uses) indexes in
      let back = total_append (pair_at list) (map (use_term problem) problem.uses) indexes in
      let second = uses_total 0 problem.uses (uses_have problem is list full valid) in
      let agree = total_ext (λ shift. uses_effect list shift 0 problem.uses) (effect problem list) (effects_agree problem list) shifts in
      omega (arith, ints, first, front, back, second, agree)
