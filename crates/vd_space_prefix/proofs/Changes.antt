-- Changes of arcs, one after the other.
use Rattle.std.proofs.Common.{◌≡◌, ℕ, zero, suc, ◌+◌, add-one, ◌≤◌, Option, Some, List, [], ◌∷◌, ◌++◌, length, take, sym, ap, arith, ℤ, pos, ◌+ℤ◌, ◌-ℤ◌, slice_get}
use Rattle.std.specs.List.{range_with_len}
use Rattle.std.specs.Option.{option_map_or}
use Rattle.std.proofs.lemmas.Int.{ints}
use Rattle.std.proofs.lemmas.Option.{slice_get_past}
use Rattle.vd_space.specs.Costs.{total}
use Rattle.vd_space.proofs.Front.{total_append}
use Rattle.vd_space_prefix.specs.declared.transfers.Arc.{Arc}
use Rattle.vd_space_prefix.specs.Steps.{under, change}

module _ (prices : List (List (Option ℕ))) (arcs : List Arc) (before after : List ℕ) where
  pub changed : (number : ℕ) (arc : Arc) → slice_get arcs number ≡ Some arc → change prices arcs before after number ≡ under prices arc after -ℤ under prices arc before
  changed number arc at = ap (λ o. option_map_or (λ l. under prices l after -ℤ under prices l before) o (pos 0)) at

  pub unchanged : (number : ℕ) → length arcs ≤ number → pos 0 ≡ change prices arcs before after number
  unchanged number past = ap (λ o. option_map_or (λ l. under prices l after -ℤ under prices l before) o (pos 0)) (sym (slice_get_past arcs number past))

pub total_more : {X : Type 0} (f : X → ℤ) (xs : List X) (i : ℕ) (x : X) → take (i + 1) xs ≡ take i xs ++ x ∷ [] → total f (take (i + 1) xs) ≡ total f (take i xs) +ℤ f x
total_more f xs i x next =
    let split = total_append f (take i xs) (x ∷ []) in
    let same = ap (total f) next in
    omega (arith, ints, split, same)

-- one number more
total_range_suc : (f : ℕ → ℤ) (first n : ℕ) → total f (range_with_len first (suc n)) ≡ total f (range_with_len first n) +ℤ f (first + n)
total_range_suc f first zero = let at : f first ≡ f (first + 0) = ap f (omega arith) in omega (arith, ints, at)
total_range_suc f first (suc n) =
    let rest = total_range_suc f (first + 1) n in
    let at : f (first + 1 + n) ≡ f (first + suc n) = ap f (omega arith) in
    omega (arith, ints, rest, at)

pub total_range_more : (f : ℕ → ℤ) (n : ℕ) → total f (range_with_len 0 (n + 1)) ≡ total f (range_with_len 0 n) +ℤ f n
total_range_more f n =
    let step = total_range_suc f 0 n in
    let next = ap (λ k. total f (range_with_len 0 k)) (add-one n) in
    let at : f (0 + n) ≡ f n = ap f (omega arith) in
    omega (arith, ints, step, next, at)
