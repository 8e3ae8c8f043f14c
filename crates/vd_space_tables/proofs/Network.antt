-- Arcs of terms, one term after the other.
use Rattle.std.proofs.Common.{◌≡◌, ℕ, zero, suc, ◌+◌, ◌<◌, Bool, Option, Some, None, List, [], ◌∷◌, ◌++◌, length, take, get_or, map, refl, sym, ap, ap₂, ◌∙◌, arith, ℤ, pos, ◌-ℤ◌, option_map, inl, inr, slice_get}
use Rattle.std.specs.Prelude.{IfSome, is_some}
use Rattle.std.specs.Option.{option_map_or}
use Rattle.std.proofs.lemmas.Int.{ints}
use Rattle.std.proofs.lemmas.Bool.{true≢false, cases_eq}
use Rattle.std.proofs.lemmas.Option.{slice_get_cases}
use Rattle.std.proofs.lemmas.List.{get_or-map}
use Rattle.vd_search_tree.specs.declared.shift.Shift.{Shift}
use Rattle.vd_space.specs.declared.problem.Problem.{Problem}
use Rattle.vd_space.specs.declared.problem.Making.{Making}
use Rattle.vd_space.specs.declared.problem.Use.{Use}
use Rattle.vd_space.specs.Validity.{protocols, can_stand}
use Rattle.vd_space.specs.Costs.{Pair, use_term, use_value}
use Rattle.vd_space.specs.Bounds.{least_pair, shifted_use, shifted_uses}
use Rattle.vd_space_prefix.specs.declared.transfers.Arc.{Arc}
use Rattle.vd_space_prefix.specs.Transfers.{by_place}
use Rattle.vd_space_prefix.specs.Steps.{IsArc, under}
use Rattle.vd_space_prefix.specs.Tables.{AreListed}
use Rattle.vd_space_prefix.proofs.Front.{candidates}
use Rattle.vd_space_tables.specs.Arcs.{AreArcsOf}
use Rattle.vd_space_tables.specs.Prices.{candidates_of}

pub candidates_at : (problem : Problem) (slot : ℕ) → slot < length problem.slots → get_or (candidates_of problem) slot [] ≡ candidates problem slot
candidates_at problem slot low = elim (slice_get_cases problem.slots slot).1 [
  | inl found ↦
      let stands : Making → List Bool = λ making. by_place (length (protocols problem)) (can_stand problem making) in
      get_or-map stands problem.slots slot found.0 [] found.1
      ∙ ap stands found.3
      ∙ ap (λ (o : Option Making). by_place (length (protocols problem)) (λ p. option_map_or (λ making. can_stand problem making p) o Bool.false)) (sym found.2)
  | inr none ↦ absurd (omega (arith, none.0, low))
]

-- ---- a list with one item more

slice_get_front : {X : Type 0} (xs : List X) (k : ℕ) (x : X) → k < length xs → slice_get (xs ++ x ∷ []) k ≡ slice_get xs k
slice_get_front [] k x low = absurd (omega arith)
slice_get_front (y ∷ xs) zero x low = refl
slice_get_front (y ∷ xs) (suc k) x low = slice_get_front xs k x (omega arith)

slice_get_last : {X : Type 0} (xs : List X) (x : X) → slice_get (xs ++ x ∷ []) (length xs) ≡ Some x
slice_get_last [] x = refl
slice_get_last (y ∷ xs) x = slice_get_last xs x

slice_get_low : {X : Type 0} (xs : List X) (k : ℕ) (x : X) → slice_get xs k ≡ Some x → k < length xs
slice_get_low [] k x at = absurd (true≢false (sym (ap is_some at)))
slice_get_low (y ∷ xs) zero x at = omega arith
slice_get_low (y ∷ xs) (suc k) x at = let rest = slice_get_low xs k x at in omega (arith, rest)

size_more : {X : Type 0} (xs : List X) (x : X) → length (xs ++ x ∷ []) ≡ length xs + 1
size_more [] x = omega arith
size_more (y ∷ xs) x = let rest = size_more xs x in omega (arith, rest)

if_some_more : {X : Type 0} (P : X → Type 0) (xs : List X) (x : X) → ((k : ℕ) → IfSome (slice_get xs k) P) → P x → (k : ℕ) → IfSome (slice_get (xs ++ x ∷ []) k) P
if_some_more P [] x each is zero = is
if_some_more P [] x each is (suc k) = tt
if_some_more P (y ∷ xs) x each is zero = each 0
if_some_more P (y ∷ xs) x each is (suc k) = if_some_more P xs x (λ j. each (suc j)) is k

module _ (problem : Problem) (prices : List (List (Option ℕ))) where
  pub network_more : (terms : List Pair) (arcs : List Arc) (term : Pair) (arc : Arc) → AreArcsOf problem prices terms arcs → IsArc arc → ((front : List ℕ) → AreListed problem front → under prices arc front ≡ least_pair problem front term)
      → AreArcsOf problem prices (terms ++ term ∷ []) (arcs ++ arc ∷ [])
  network_more terms arcs term arc are is placed =
      let same = are.size in
      let more_arcs = size_more arcs arc in
      let more_terms = size_more terms term in
      record {
        size = omega (arith, same, more_arcs, more_terms);
        small = if_some_more IsArc arcs arc are.small is;
        under = λ k other at. elim (cases_eq k (length terms)) [
          | inl last ↦
              let here : term ≡ other = some_same term other (sym (ap (slice_get (terms ++ term ∷ [])) last ∙ slice_get_last terms term) ∙ at) in
              (arc, ap (slice_get (arcs ++ arc ∷ [])) (last ∙ sym same) ∙ slice_get_last arcs arc, λ front listed. placed front listed ∙ ap (least_pair problem front) here)
          | inr earlier ↦
              let low = slice_get_low (terms ++ term ∷ []) k other at in
              let less : k < length terms = omega (arith, low, more_terms, earlier) in
              let old = are.under k other (sym (slice_get_front terms k term less) ∙ at) in
              (old.0, slice_get_front arcs k arc (omega (arith, less, same)) ∙ old.1, old.2)
        ];
      }
    where
      some_same : (a b : Pair) → Some a ≡ Some b → a ≡ b
      some_same a b same = ap (λ o. get_some o a) same
        where
          get_some : Option Pair → Pair → Pair
          get_some None d = d
          get_some (Some x) d = x

-- ---- the terms of uses

pub shifted_at : (problem : Problem) (shifts : List Shift) (first i : ℕ) (us : List Use) (u : Use) → slice_get us i ≡ Some u
    → take (suc i) (shifted_uses problem shifts first us) ≡ take i (shifted_uses problem shifts first us) ++ shifted_use problem shifts (first + i) u ∷ []
shifted_at problem shifts first i [] u at = absurd (true≢false (sym (ap is_some at)))
shifted_at problem shifts first zero (v ∷ us) u at =
    let here : shifted_use problem shifts first v ≡ shifted_use problem shifts (first + 0) u = ap₂ (shifted_use problem shifts) (omega arith) (item v u at) in
    ap (λ x. x ∷ []) here
  where
    item : (a b : Use) → Some a ≡ Some b → a ≡ b
    item a b same = ap (λ o. option_map_or (λ x. x) o a) same
shifted_at problem shifts first (suc i) (v ∷ us) u at =
    ap (λ rest. shifted_use problem shifts first v ∷ rest)
    (shifted_at problem shifts (first + 1) i us u at ∙ ap (λ k. take i (shifted_uses problem shifts (first + 1) us) ++ shifted_use problem shifts k u ∷ []) (omega arith))

pub shifted_size : (problem : Problem) (shifts : List Shift) (first : ℕ) (us : List Use) → length (shifted_uses problem shifts first us) ≡ length us
shifted_size problem shifts first [] = refl
shifted_size problem shifts first (u ∷ us) = ap suc (shifted_size problem shifts (first + 1) us)

-- without shifts
unshifted : (o : Option ℤ) → option_map (λ v. v -ℤ pos 0) o ≡ o
unshifted None = refl
unshifted (Some v) = ap Some (omega (arith, ints))

unshifted_use : (problem : Problem) (k : ℕ) (u : Use) → shifted_use problem [] k u ≡ use_term problem u
unshifted_use problem k u = λ j. record { first = u.source.0; second = u.target.0; value = λ p q. unshifted (use_value problem u p q) j }

pub unshifted_uses : (problem : Problem) (first : ℕ) (us : List Use) → shifted_uses problem [] first us ≡ map (use_term problem) us
unshifted_uses problem first [] = refl
unshifted_uses problem first (u ∷ us) = ap₂ (λ x xs. x ∷ xs) (unshifted_use problem first u) (unshifted_uses problem (first + 1) us)
