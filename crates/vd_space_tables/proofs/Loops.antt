-- The steps of the loops over places and outputs.
use Rattle.std.proofs.Common.{◌≡◌, ℕ, ◌+◌, ◌<◌, ◌≤◌, Bool, true, cond, Option, Some, None, List, [], ◌∷◌, ◌++◌, length, drop, take, slice_get, get_or, ltb, add-one, refl, sym, ap, ap₂, ◌∙◌, subst, arith, ℤ, pos, ◌+ℤ◌, to_z, of_z, w64, inl, inr}
use Rattle.std.specs.Prelude.{option_map, IfSome}
use Rattle.std.proofs.Math.Seq.{drop-cons}
use Rattle.std.proofs.lemmas.Int.{ints}
use Rattle.std.proofs.lemmas.Bool.{cases_Bool, cond-true, cond-false, ltb-true}
use Rattle.std.specs.Option.{option_map_or}
use Rattle.std.proofs.lemmas.List.{nil_from_length, length-drop, take_more}
use Rattle.std.proofs.lemmas.Option.{slice_get_cases, slice_get_read}
use Rattle.vd_space.specs.declared.problem.Problem.{Problem}
use Rattle.vd_space.specs.declared.problem.Output.{Output}
use Rattle.vd_space.specs.Costs.{One, output_value, total}
use Rattle.vd_space_prefix.proofs.Front.{total_more}
use Rattle.vd_space.specs.Bounds.{add, outputs_value}
use Rattle.vd_space.specs.Growth.{output_names}
use Rattle.vd_space.specs.Validity.{protocols}
use Rattle.vd_base.specs.declared.protocols.Proto.{Proto}
use Rattle.vd_space_prefix.specs.declared.transfers.Arc.{Arc}
use Rattle.vd_space_prefix.specs.Steps.{IsArc, AreArcs}
use Rattle.vd_space_prefix.specs.Transfers.{IsWithin, by_place}
use Rattle.vd_space_tables.specs.Charges.{AreCandidates, charge_from, charge_of}
use Rattle.vd_space_tables.proofs.Small.{HasAtMost, kept}
use Rattle.vd_space_tables.proofs.Charged.{charge_is}

add_assoc : (a b c : Option ℤ) → add (add a b) c ≡ add a (add b c)
add_assoc None b c = refl
add_assoc (Some a) None c = refl
add_assoc (Some a) (Some b) None = refl
add_assoc (Some a) (Some b) (Some c) = ap Some (omega (arith, ints))

-- one output more
pub output_step : (problem : Problem) (slot place : ℕ) (items os : List Output) (i : ℕ) (d : Output) (sum next whole : Option ℤ) → items ≡ os → i < length items
    → next ≡ cond (output_names slot (get_or items i d)) (add sum (output_value problem (get_or items i d) place)) sum
    → add sum (outputs_value problem slot place (drop i os)) ≡ whole → add next (outputs_value problem slot place (drop (i + 1) os)) ≡ whole
output_step problem slot place items os i d sum next whole same low is left =
    let o = get_or items i d in
    let rest = outputs_value problem slot place (drop (i + 1) os) in
    let split : drop i os ≡ o ∷ drop (i + 1) os = subst (λ xs. drop i xs ≡ o ∷ drop (i + 1) xs) same (drop-cons items i d low ∙ ap (λ k. o ∷ drop k items) (sym (add-one i))) in
    elim (cases_Bool (output_names slot o)) [
      | inl own ↦
          ap (λ x. add x rest) (is ∙ cond-true (output_names slot o) (add sum (output_value problem o place)) sum own)
          ∙ add_assoc sum (output_value problem o place) rest
          ∙ ap (add sum) (sym (ap (outputs_value problem slot place) split ∙ cond-true (output_names slot o) (add (output_value problem o place) rest) rest own))
          ∙ left
      | inr other ↦
          ap (λ x. add x rest) (is ∙ cond-false (output_names slot o) (add sum (output_value problem o place)) sum other)
          ∙ ap (add sum) (sym (ap (outputs_value problem slot place) split ∙ cond-false (output_names slot o) (add (output_value problem o place) rest) rest other))
          ∙ left
    ]

-- at the end
pub outputs_end : (problem : Problem) (slot place : ℕ) (os : List Output) (i : ℕ) (v shifted : ℤ) (sum whole : Option ℤ) → length os ≤ i → sum ≡ Some v → HasAtMost 1152921504606846976 sum → IsWithin 562949953421312 shifted
    → add sum (outputs_value problem slot place (drop i os)) ≡ whole → Some (to_z w64 (of_z w64 (to_z w64 (of_z w64 v) +ℤ to_z w64 (of_z w64 shifted)))) ≡ option_map (λ x. x +ℤ shifted) whole
outputs_end problem slot place os i v shifted sum whole past is small shifted_small left =
    let size = length-drop i os in
    let none : drop i os ≡ [] = nil_from_length (drop i os) (omega (arith, size, past)) in
    let all : Some (v +ℤ pos 0) ≡ whole = ap₂ add (sym is) (sym (ap (outputs_value problem slot place) none)) ∙ left in
    let v_small : IsWithin 1152921504606846976 v = subst (HasAtMost 1152921504606846976) is small in
    let computed : to_z w64 (of_z w64 (to_z w64 (of_z w64 v) +ℤ to_z w64 (of_z w64 shifted))) ≡ v +ℤ pos 0 +ℤ shifted = omega (arith, ints, v_small.low, v_small.high, shifted_small.low, shifted_small.high) in
    ap Some computed ∙ ap (option_map (λ x. x +ℤ shifted)) all

-- values and candidates of a slot
pub charged : (problem : Problem) (one : One) (list : List Proto) (candidates : List (List Bool)) (values slice : List (Option ℤ)) (tests : List Bool) → list ≡ protocols problem → AreCandidates problem candidates → one.slot < length problem.slots
    → slice ≡ values → values ≡ by_place (length list) one.value → tests ≡ get_or candidates one.slot [] → charge_from one.slot slice tests ≡ charge_of problem one
charged problem one list candidates values slice tests list_is are low slice_is values_are tests_are =
    charge_is problem one slice tests
    (slice_is ∙ values_are ∙ ap (λ l. by_place (length l) one.value) list_is)
    (tests_are ∙ are.rows one.slot low)

-- one item more of a sum
pub total_next : {X : Type 0} (f : X → ℤ) (xs : List X) (i : ℕ) → i < length xs → total f (take (i + 1) xs) ≡ total f (take i xs) +ℤ option_map_or f (slice_get xs i) (pos 0)
total_next f xs i low = elim (slice_get_cases xs i).1 [
  | inl found ↦
      let next = take_more xs i found.0 low ∙ ap (λ x. take i xs ++ x ∷ []) found.3 in
      let more = total_more f xs i found.0 next in
      let here = ap (λ o. option_map_or f o (pos 0)) found.2 in
      omega (arith, ints, more, here)
  | inr past ↦ absurd (omega (arith, past.0, low))
]

pub total_item : {X : Type 0} (f : X → ℤ) (xs slice : List X) (i : ℕ) (x : X) → slice ≡ xs → i < length slice → x ≡ get_or slice i x → total f (take (i + 1) xs) ≡ total f (take i xs) +ℤ f x
total_item f xs slice i x same low read =
    subst (λ ys. total f (take (i + 1) ys) ≡ total f (take i ys) +ℤ f x) same
    (total_more f slice i x (take_more slice i x low ∙ ap (λ y. take i slice ++ y ∷ []) (sym read)))

-- an arc that is found
pub both_found : (arcs : List Arc) (number : ℕ) (arc : Arc) → AreArcs arcs → true ≡ ltb number (length arcs) → arc ≡ get_or arcs number arc
    → (to_z w64 (of_z w64 arc.both) ≡ option_map_or (λ (l : Arc). l.both) (slice_get arcs number) (pos 0)) × IsWithin 1125899906842624 (to_z w64 (of_z w64 arc.both))
both_found arcs number arc are low read =
    let at : slice_get arcs number ≡ Some arc = slice_get_read arcs (length arcs) number arc refl (ltb-true number (length arcs) (sym low)) read in
    let is : IsArc arc = subst (λ o. IfSome o IsArc) at (are number) in
    let same = kept arc.both is.both in
    (same ∙ sym (ap (λ o. option_map_or (λ (l : Arc). l.both) o (pos 0)) at), subst (IsWithin 1125899906842624) (sym same) is.both)
