-- Sums of counts of packets.
use Rattle.std.proofs.Common.{◌≡◌, ℕ, ◌+◌, List, [], ◌∷◌, length, map, refl, arith}
use Rattle.std.specs.List.{range_with_len, sum}
use Rattle.std.proofs.lemmas.List.FromFn.{sum_by-map-range_with_len_more}
use Rattle.vd_world.specs.Links.{cut}
use Rattle.vd_world.specs.Packets.{counted}

-- a packet ends at each place
pub length_cut : (start : ℕ) (ends words : List ℕ) → length (cut start ends words) ≡ length ends
length_cut start [] words = refl
length_cut start (end ∷ ends) words = let rest = length_cut end ends words in omega (arith, rest)

-- a count that was counted
pub counted_once : (this x : ℕ) → this ≡ counted x → counted this ≡ counted x
counted_once this x is = omega (arith, is)

pub next : (f : ℕ → ℕ) (n : ℕ) → sum (map f (range_with_len 0 (n + 1))) ≡ sum (map f (range_with_len 0 n)) + f n
next f n = sum_by-map-range_with_len_more (λ x. x) f 0 n n (omega arith)

-- one more count is added to a sum
pub one_more : (f : ℕ → ℕ) (n so_far this more : ℕ) → so_far ≡ counted (sum (map f (range_with_len 0 n))) → counted this ≡ counted (f n) → more ≡ counted (so_far + this)
    → more ≡ counted (sum (map f (range_with_len 0 (n + 1))))
one_more f n so_far this more e g h = at (sum (map f (range_with_len 0 n))) (sum (map f (range_with_len 0 (n + 1)))) (f n) (next f n) e g
  where
    at : (s t x : ℕ) → t ≡ s + x → so_far ≡ counted s → counted this ≡ counted x → more ≡ counted t
    at s t x is before now = omega (arith, is, before, now, h)
