-- What slots cost before any shift: their operations, and then their outputs from the last to the first.
use Rattle.std.proofs.Common.{◌≡◌, ℕ, zero, suc, ◌+◌, ◌-◌, ◌*◌, ◌<◌, ◌≤◌, Bool, true, false, Option, Some, None, List, [], ◌∷◌, length, get_or, set, drop, map, refl, sym, ap, ap₂, ◌∙◌, subst, arith, ℤ, pos, slice_get}
use Rattle.std.specs.Prelude.{◌==◌, option_map}
use Rattle.std.specs.List.{AllByRecursion}
use Rattle.std.specs.Option.{option_map_or, option_and_then}
use Rattle.std.proofs.lemmas.Int.{ints}
use Rattle.std.proofs.lemmas.Bool.{cond-true, cond-false, eq-eqb, ne_eqb}
use Rattle.std.proofs.lemmas.List.{length-map, drop_more, drop_all, get_or_default}
use Rattle.vd_base.specs.declared.protocols.Proto.{Proto}
use Rattle.vd_base.specs.declared.protocols.Proto.TheVariants.{Local}
use Rattle.vd_base.specs.Costs.{cost_at}
use Rattle.vd_base.specs.Moves.{move_at}
use Rattle.vd_base.specs.Holders.{proto_in}
use Rattle.vd_space.specs.declared.problem.Problem.{Problem}
use Rattle.vd_space.specs.declared.problem.Making.{Making}
use Rattle.vd_space.specs.declared.problem.Output.{Output}
use Rattle.vd_space.specs.Validity.{protocols, protocol, can_stand, is_candidate}
use Rattle.vd_space.specs.Costs.{weigh, operation_value, output_value, plus}
use Rattle.vd_space.specs.Bounds.{only_if, add, outputs_value}
use Rattle.vd_space.specs.Sizes.{heft, IsWithinLimits}
use Rattle.vd_space.specs.Labelled.{IsLabelled}
use Rattle.vd_space.specs.Spaces.{IsProblem}
use Rattle.vd_space.proofs.Front.{row_price, small, told_price}
use Rattle.vd_space_api.specs.Rows.{weighed}
use Rattle.vd_space_api.specs.Terms.{row_at, operation_at, operations_of, with_output, IsTable, costs_with, greatest, AreCosts}
use Rattle.vd_space_api.proofs.Numbers.{if_pos, weigh_pos, sum_pos, passes_low, weighed_low, sum_low}
use Rattle.vd_space_api.specs.Ledger.{AreSmallTerms}
use Rattle.vd_space_api.proofs.Burden.{heft_set, greatest_at, small_terms, by_low, at_by, size_by}
use Rattle.vd_space_api.proofs.Tables.{set_table}

add_nothing : (o : Option ℤ) → add o (Some (pos 0)) ≡ o
add_nothing None = refl
add_nothing (Some v) = ap Some (omega (arith, ints))

add_first : (a b c : Option ℤ) → add a (add b c) ≡ add b (add a c)
add_first None None c = refl
add_first None (Some b) c = refl
add_first (Some a) None None = refl
add_first (Some a) None (Some c) = refl
add_first (Some a) (Some b) None = refl
add_first (Some a) (Some b) (Some c) = ap Some (omega (arith, ints))

add_only : (test : Bool) (a b : Option ℤ) → add a (only_if test b) ≡ only_if test (add a b)
add_only true a b = refl
add_only false None b = refl
add_only false (Some a) b = refl

module _ (problem : Problem) where
  abbrev many : ℕ
  many = length (protocols problem)

  -- ---- operations

  operations_from : (makings : List Making) (slot p : ℕ) → p < many → option_map pos (get_or (get_or (map (operations_of problem) makings) slot []) p None)
      ≡ only_if (option_map_or (λ making. can_stand problem making p) (slice_get makings slot) false) (add (option_and_then (λ making. weigh making.weight (cost_at making.row (protocol problem p))) (slice_get makings slot)) (Some (pos 0)))
  operations_from [] slot p low = refl
  operations_from (making ∷ makings) zero p low =
      ap (option_map pos) (at_by many (operation_at problem making) p None low)
      ∙ sym (if_pos (can_stand problem making p) (weighed making.weight (cost_at making.row (protocol problem p))))
      ∙ ap (only_if (can_stand problem making p)) (sym (weigh_pos making.weight (cost_at making.row (protocol problem p))) ∙ sym (add_nothing (weigh making.weight (cost_at making.row (protocol problem p)))))
  operations_from (making ∷ makings) (suc slot) p low = operations_from makings slot p low

  size_from : (makings : List Making) (slot : ℕ) → slot < length makings → length (get_or (map (operations_of problem) makings) slot []) ≡ many
  size_from [] slot low = absurd (omega arith)
  size_from (making ∷ makings) zero low = size_by many (operation_at problem making)
  size_from (making ∷ makings) (suc slot) low = size_from makings slot (omega arith)

  operations_table : IsTable problem (costs_with problem []) (map (operations_of problem) problem.slots)
  operations_table = record { slots = length-map problem.slots (operations_of problem); places = size_from problem.slots; terms = λ slot p low low_p. operations_from problem.slots slot p low_p }

  module _ (few : length problem.hosts ≤ 4) where
    operations_light : (makings : List Making) → heft greatest (map (operations_of problem) makings) ≤ heft (λ (m : Making). 220 * m.weight) makings
    operations_light [] = omega arith
    operations_light (making ∷ makings) =
        let rest = operations_light makings in
        let here : greatest (operations_of problem making) ≤ 220 * making.weight =
        by_low many (operation_at problem making) (220 * making.weight) (λ p low.
        passes_low (can_stand problem making p) (weighed making.weight (cost_at making.row (protocol problem p))) (220 * making.weight)
        (weighed_low making.weight 220 (cost_at making.row (protocol problem p)) (row_price making.row (protocol problem p) (small problem few p)))) in
        omega (arith, rest, here)

    operations_are : AreCosts problem [] (map (operations_of problem) problem.slots)
    operations_are = record { table = operations_table; light = let all = operations_light problem.slots in omega (arith, all) }

    pub costs_start : (n : ℕ) (terms : List (List (Option ℕ))) → length problem.outputs ≤ n → terms ≡ map (operations_of problem) problem.slots → AreCosts problem (drop n problem.outputs) terms
    costs_start n terms past is = subst (λ outputs. AreCosts problem outputs terms) (sym (drop_all n problem.outputs past)) (subst (AreCosts problem []) (sym is) operations_are)

    -- ---- an output more

    module _ (o : Output) (rest : List Output) (low : o.slot.0 < length problem.slots) (terms : List (List (Option ℕ))) (are : AreCosts problem rest terms) where
      abbrev row : List (Option ℕ)
      row = row_at terms o.slot.0

      abbrev told : ℕ → Option ℕ
      told p = move_at (proto_in (protocols problem) p) (Local o.host)

      output_table : IsTable problem (costs_with problem (o ∷ rest)) (set terms o.slot.0 (with_output (protocols problem) o row))
      output_table = set_table problem (costs_with problem rest) (costs_with problem (o ∷ rest)) terms o.slot.0 (with_output (protocols problem) o row) are.table low
          (size_by many (λ p. plus (weighed o.weight (told p)) (get_or row p None)))
          (λ s p other low_p. ap (add (operation_value problem s p))
          (cond-false (o.slot.0 == s) (add (output_value problem o p) (outputs_value problem s p rest)) (outputs_value problem s p rest) (ne_eqb o.slot.0 s (λ same. other (sym same)))))
          (λ p low_p.
          ap (option_map pos) (at_by many (λ k. plus (weighed o.weight (told k)) (get_or row k None)) p None low_p)
          ∙ sym (sum_pos (weighed o.weight (told p)) (get_or row p None))
          ∙ ap₂ add (sym (weigh_pos o.weight (told p))) (are.table.terms o.slot.0 p low low_p)
          ∙ add_only (is_candidate problem o.slot.0 p) (output_value problem o p) (costs_with problem rest o.slot.0 p)
          ∙ ap (only_if (is_candidate problem o.slot.0 p))
          (add_first (output_value problem o p) (operation_value problem o.slot.0 p) (outputs_value problem o.slot.0 p rest)
          ∙ ap (add (operation_value problem o.slot.0 p)) (sym (cond-true (o.slot.0 == o.slot.0) (add (output_value problem o p) (outputs_value problem o.slot.0 p rest)) (outputs_value problem o.slot.0 p rest) (eq-eqb o.slot.0 o.slot.0 refl)))))

      output_light : heft greatest (set terms o.slot.0 (with_output (protocols problem) o row)) ≤ heft (λ (m : Making). 220 * m.weight) problem.slots + heft (λ (v : Output). 212 * v.weight) (o ∷ rest)
      output_light =
          let slots = are.table.slots in
          let light = are.light in
          let change = heft_set greatest terms o.slot.0 (with_output (protocols problem) o row) [] (omega (arith, slots, low)) in
          let here : greatest (with_output (protocols problem) o row) ≤ 212 * o.weight + greatest row =
          by_low many (λ p. plus (weighed o.weight (told p)) (get_or row p None)) (212 * o.weight + greatest row) (λ p low_p.
          sum_low (weighed o.weight (told p)) (get_or row p None) (212 * o.weight) (greatest row) (weighed_low o.weight 212 (told p) (told_price problem few o.host p)) (greatest_at row p)) in
          omega (arith, light, change, here)

    costs_next : (n : ℕ) (o : Output) (terms : List (List (Option ℕ))) → n < length problem.outputs → o ≡ get_or problem.outputs n o → o.slot.0 < length problem.slots → AreCosts problem (drop (n + 1) problem.outputs) terms
        → AreCosts problem (drop n problem.outputs) (set terms o.slot.0 (with_output (protocols problem) o (row_at terms o.slot.0)))
    costs_next n o terms within is low are =
        subst (λ outputs. AreCosts problem outputs (set terms o.slot.0 (with_output (protocols problem) o (row_at terms o.slot.0))))
        (sym (drop_more problem.outputs n o within ∙ ap (λ v. v ∷ drop (n + 1) problem.outputs) (sym is)))
        (record { table = output_table o (drop (n + 1) problem.outputs) low terms are; light = output_light o (drop (n + 1) problem.outputs) low terms are })

heft_drop : {X : Type 0} (f : X → ℕ) (n : ℕ) (xs : List X) → heft f (drop n xs) ≤ heft f xs
heft_drop f zero xs = omega arith
heft_drop f (suc n) [] = omega arith
heft_drop f (suc n) (x ∷ xs) = let rest = heft_drop f n xs in omega (arith, rest)

pub costs_small : (problem : Problem) → IsWithinLimits problem → (n : ℕ) (terms : List (List (Option ℕ))) → AreCosts problem (drop n problem.outputs) terms → AreSmallTerms terms
costs_small problem limits n terms are slot p =
    let costs = limits.costs in
    let light = are.light in
    let part = heft_drop (λ (o : Output). 212 * o.weight) n problem.outputs in
    let low = small_terms terms 111673344 (omega (arith, costs, light, part)) slot p in
    omega (arith, low)

pub each_at : {X : Type 0} (P : X → Type 0) (xs : List X) (n : ℕ) (x : X) → AllByRecursion P xs → n < length xs → x ≡ get_or xs n x → P x
each_at P [] n x each low is = absurd (omega arith)
each_at P (y ∷ ys) zero x each low is = subst P (sym is) each.0
each_at P (y ∷ ys) (suc n) x each low is = each_at P ys n x each.1 (omega arith) is

abbrev pub no_output : Output
no_output = record { slot = record { 0 = 0 }; host = record { 0 = 0 }; weight = 0 }

-- an output more, as the loop over the outputs has it
pub costs_round : (problem : Problem) → IsProblem problem → IsLabelled problem → (list : List Proto) → list ≡ protocols problem → (slice : List Output) → slice ≡ problem.outputs → (at : ℕ) → 0 < at → at ≤ length slice
    → (terms after : List (List (Option ℕ))) → AreCosts problem (drop at problem.outputs) terms
    → after ≡ set terms (get_or slice (at - 1) no_output).slot.0 (with_output list (get_or slice (at - 1) no_output) (row_at terms (get_or slice (at - 1) no_output).slot.0)) → AreCosts problem (drop (at - 1) problem.outputs) after
costs_round problem holds labelled list listed slice same at some within terms after are after_is =
    let o = get_or slice (at - 1) no_output in
    let size = ap length same in
    let low : at - 1 < length problem.outputs = omega (arith, size, some, within) in
    let read : o ≡ get_or problem.outputs (at - 1) o = ap (λ s. get_or s (at - 1) no_output) same ∙ get_or_default problem.outputs (at - 1) no_output o low in
    let one : at ≡ at - 1 + 1 = omega (arith, some) in
    let slot : o.slot.0 < length problem.slots = each_at (λ (v : Output). v.slot.0 < length problem.slots) problem.outputs (at - 1) o holds.outputs low read in
    subst (AreCosts problem (drop (at - 1) problem.outputs)) (sym (after_is ∙ ap (λ l. set terms o.slot.0 (with_output l o (row_at terms o.slot.0))) listed))
    (costs_next problem labelled.few_hosts (at - 1) o terms low read slot (subst (λ k. AreCosts problem (drop k problem.outputs) terms) one are))
