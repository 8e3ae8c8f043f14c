-- What an arc costs under a prefix is the least that its term is there.
use Rattle.std.proofs.Common.{◌≡◌, ℕ, zero, suc, ◌<◌, ◌≤◌, Bool, false, Option, Some, None, List, length, map, get_or, refl, sym, ap, ap₂, ◌∙◌, subst, arith, ℤ, pos, inl, inr, slice_get}
use Rattle.std.specs.Prelude.{unwrap_or, All}
use Rattle.std.specs.List.{range_with_len}
use Rattle.std.proofs.lemmas.Option.{slice_get_cases}
use Rattle.std.proofs.lemmas.List.{length-map}
use Rattle.std.proofs.lemmas.List.FromFn.{length-range_with_len, get_or-map-range_with_len}
use Rattle.vd_space.specs.declared.problem.Problem.{Problem}
use Rattle.vd_space.specs.Validity.{protocols, is_candidate}
use Rattle.vd_space.specs.Costs.{Pair}
use Rattle.vd_space.specs.Bounds.{lesser, least_below, only_if, least_pair, nothing_left}
use Rattle.vd_space.specs.Growth.{least_free, row_least, column_least, both_least, StandsAt}
use Rattle.vd_space.proofs.Front.{pair_by_place}
use Rattle.vd_space_prefix.specs.declared.transfers.Arc.{Arc}
use Rattle.vd_space_prefix.specs.declared.transfers.Transfer.{Transfer}
use Rattle.vd_space_prefix.specs.Transfers.{by_place, cell, least_where, row_of, column_of, square_of, arc_of}
use Rattle.vd_space_prefix.specs.Steps.{at_places, under}
use Rattle.vd_space_prefix.specs.Tables.{AreListed}

pub same_least : (n : ℕ) (f g : ℕ → Option ℤ) → ((k : ℕ) → k < n → f k ≡ g k) → least_below n f ≡ least_below n g
same_least zero f g same = refl
same_least (suc n) f g same = ap₂ lesser (same_least n f g (λ k low. same k (omega (arith, low)))) (same n (omega arith))

pub size_by_place : {X : Type 0} (n : ℕ) (f : ℕ → X) → length (by_place n f) ≡ n
size_by_place n f = length-map (range_with_len 0 n) f ∙ length-range_with_len 0 n

pub at_place : {X : Type 0} (n : ℕ) (f : ℕ → X) (k : ℕ) (default : X) → k < n → get_or (by_place n f) k default ≡ f k
at_place n f k default low = get_or-map-range_with_len f 0 n k k default low (omega arith)

module _ (problem : Problem) where
  abbrev many : ℕ
  many = length (protocols problem)

  -- by the candidates of a slot
  abbrev pub candidates : ℕ → List Bool
  candidates slot = by_place many (is_candidate problem slot)

  pub where_same : (slot : ℕ) (f g : ℕ → Option ℤ) → ((k : ℕ) → k < many → f k ≡ g k) → least_where (candidates slot) f ≡ least_free problem slot g
  where_same slot f g same =
      ap (λ n. least_below n (λ k. only_if (get_or (candidates slot) k false) (f k))) (size_by_place many (is_candidate problem slot))
      ∙ same_least many (λ k. only_if (get_or (candidates slot) k false) (f k)) (λ k. only_if (is_candidate problem slot k) (g k)) (λ k low. ap₂ only_if (at_place many (is_candidate problem slot) k false low) (same k low))

  -- a decided slot stands at a place of the list, and another is past the end
  pub data Decided (prefix : List ℕ) (slot : ℕ) : Type 0 where
    stands : (p : ℕ) → StandsAt problem prefix slot p → Decided prefix slot
    past : length prefix ≤ slot → slice_get prefix slot ≡ None → Decided prefix slot

  pub decided : (prefix : List ℕ) (slot : ℕ) → AreListed problem prefix → Decided prefix slot
  decided prefix slot listed = elim (slice_get_cases prefix slot).1 [
    | inl found ↦ stands found.0 (record { at = found.2; listed = subst (λ p. p < many) found.3 (listed slot found.0 found.1) })
    | inr none ↦ past none.0 none.1
  ]

  module _ (prices : List (List (Option ℕ))) (t : Transfer) (pair : Pair) (first_same : t.first ≡ pair.first) (second_same : t.second ≡ pair.second) (same : (p q : ℕ) → p < many → q < many → cell prices t p q ≡ pair.value p q) where
    abbrev arc : Arc
    arc = arc_of prices t (candidates pair.first) (candidates pair.second)

    row_same : (p : ℕ) → p < many → row_of prices t (candidates pair.second) p ≡ row_least problem pair p
    row_same p low = where_same pair.second (cell prices t p) (pair.value p) (λ q low_q. same p q low low_q)

    column_same : (q : ℕ) → q < many → column_of prices t (candidates pair.first) q ≡ column_least problem pair q
    column_same q low = where_same pair.first (λ p. cell prices t p q) (λ p. pair.value p q) (λ p low_p. same p q low_p low)

    square_same : square_of prices t (candidates pair.first) (candidates pair.second) ≡ both_least problem pair
    square_same = where_same pair.first (row_of prices t (candidates pair.second)) (λ p. row_least problem pair p) row_same

    rows_same : (p : ℕ) → p < many → get_or arc.rows p (pos 0) ≡ unwrap_or (row_least problem pair p) nothing_left
    rows_same p low =
        ap (λ n. get_or (by_place n (λ r. unwrap_or (row_of prices t (candidates pair.second) r) nothing_left)) p (pos 0)) (size_by_place many (is_candidate problem pair.first))
        ∙ at_place many (λ r. unwrap_or (row_of prices t (candidates pair.second) r) nothing_left) p (pos 0) low
        ∙ ap (λ o. unwrap_or o nothing_left) (row_same p low)

    columns_same : (q : ℕ) → q < many → get_or arc.columns q (pos 0) ≡ unwrap_or (column_least problem pair q) nothing_left
    columns_same q low =
        ap (λ n. get_or (by_place n (λ r. unwrap_or (column_of prices t (candidates pair.first) r) nothing_left)) q (pos 0)) (size_by_place many (is_candidate problem pair.second))
        ∙ at_place many (λ r. unwrap_or (column_of prices t (candidates pair.first) r) nothing_left) q (pos 0) low
        ∙ ap (λ o. unwrap_or o nothing_left) (column_same q low)

    by_cases : (prefix : List ℕ) → Decided prefix pair.first → Decided prefix pair.second → at_places prices arc (slice_get prefix pair.first) (slice_get prefix pair.second) ≡ least_pair problem prefix pair
    by_cases prefix (stands p first) (stands q second) =
        ap₂ (at_places prices arc) first.at second.at ∙ ap (λ o. unwrap_or o nothing_left) (same p q first.listed second.listed) ∙ sym ((pair_by_place problem prefix pair).both p q first second)
    by_cases prefix (stands p first) (past later none) =
        ap₂ (at_places prices arc) first.at none ∙ rows_same p first.listed ∙ sym ((pair_by_place problem prefix pair).first p first later)
    by_cases prefix (past later none) (stands q second) =
        ap₂ (at_places prices arc) none second.at ∙ columns_same q second.listed ∙ sym ((pair_by_place problem prefix pair).second q later second)
    by_cases prefix (past later none) (past later_q none_q) =
        ap₂ (at_places prices arc) none none_q ∙ ap (λ o. unwrap_or o nothing_left) square_same ∙ sym ((pair_by_place problem prefix pair).neither later later_q)

    pub under_is : (prefix : List ℕ) → AreListed problem prefix → under prices arc prefix ≡ least_pair problem prefix pair
    under_is prefix listed =
        ap₂ (λ a b. at_places prices arc (slice_get prefix a) (slice_get prefix b)) first_same second_same
        ∙ by_cases prefix (decided prefix pair.first listed) (decided prefix pair.second listed)
