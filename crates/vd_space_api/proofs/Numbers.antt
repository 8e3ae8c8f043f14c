-- Least values and sums of natural numbers, and the same as signed numbers.
use Rattle.std.proofs.Common.{◌≡◌, ℕ, zero, suc, ◌+◌, ◌*◌, ◌<◌, ◌≤◌, min, Bool, true, false, Option, Some, None, refl, ap, ap₂, ◌∙◌, arith, ℤ, pos, mul-le-mul_left}
use Rattle.std.specs.Prelude.{option_map, unwrap_or}
use Rattle.std.specs.Int.{int_min}
use Rattle.std.proofs.lemmas.Int.{ints, int_min_is}
use Rattle.vd_space.specs.Costs.{weigh, plus}
use Rattle.vd_space.specs.Bounds.{lesser, least_below, only_if, add}
use Rattle.vd_space_api.specs.Rows.{if_passes, weighed, lesser_number, least_number}

pub if_pos : (test : Bool) (o : Option ℕ) → only_if test (option_map pos o) ≡ option_map pos (if_passes test o)
if_pos true o = refl
if_pos false o = refl

pub weigh_pos : (weight : ℕ) (o : Option ℕ) → weigh weight o ≡ option_map pos (weighed weight o)
weigh_pos weight None = refl
weigh_pos weight (Some c) = refl

pub sum_pos : (a b : Option ℕ) → add (option_map pos a) (option_map pos b) ≡ option_map pos (plus a b)
sum_pos None None = refl
sum_pos None (Some b) = refl
sum_pos (Some a) None = refl
sum_pos (Some a) (Some b) = refl

min_pos : (a b : ℕ) → int_min (pos a) (pos b) ≡ pos (min a b)
min_pos a b = omega (arith, ints, int_min_is (pos a) (pos b))

lesser_pos : (a b : Option ℕ) → lesser (option_map pos a) (option_map pos b) ≡ option_map pos (lesser_number a b)
lesser_pos None b = refl
lesser_pos (Some a) None = refl
lesser_pos (Some a) (Some b) = ap Some (min_pos a b)

pub least_pos : (n : ℕ) (f : ℕ → Option ℤ) (g : ℕ → Option ℕ) → ((k : ℕ) → k < n → f k ≡ option_map pos (g k)) → least_below n f ≡ option_map pos (least_number n g)
least_pos zero f g same = refl
least_pos (suc n) f g same = ap₂ lesser (least_pos n f g (λ k low. same k (omega (arith, low)))) (same n (omega arith)) ∙ lesser_pos (least_number n g) (g n)

-- ---- bounds

min_low : (a b most : ℕ) → a ≤ most → min a b ≤ most
min_low a b most low = omega (arith, low)

lesser_low : (a b : Option ℕ) (most : ℕ) → unwrap_or a 0 ≤ most → unwrap_or b 0 ≤ most → unwrap_or (lesser_number a b) 0 ≤ most
lesser_low None b most first second = second
lesser_low (Some a) None most first second = first
lesser_low (Some a) (Some b) most first second = min_low a b most first

pub least_low : (n : ℕ) (f : ℕ → Option ℕ) (most : ℕ) → ((k : ℕ) → unwrap_or (f k) 0 ≤ most) → unwrap_or (least_number n f) 0 ≤ most
least_low zero f most each = omega arith
least_low (suc n) f most each = lesser_low (least_number n f) (f n) most (least_low n f most each) (each n)

pub passes_low : (test : Bool) (o : Option ℕ) (most : ℕ) → unwrap_or o 0 ≤ most → unwrap_or (if_passes test o) 0 ≤ most
passes_low true o most low = low
passes_low false o most low = omega arith

pub weighed_low : (weight most : ℕ) (price : Option ℕ) → unwrap_or price 0 ≤ most → unwrap_or (weighed weight price) 0 ≤ most * weight
weighed_low weight most None low = omega arith
weighed_low weight most (Some c) low = let product : weight * c ≤ weight * most = mul-le-mul_left weight low in omega (arith, product)

pub more_low : (o : Option ℕ) (n most : ℕ) → unwrap_or o 0 ≤ most → unwrap_or (option_map (λ v. v + n) o) 0 ≤ most + n
more_low None n most low = omega arith
more_low (Some v) n most low = omega (arith, low)

pub sum_low : (a b : Option ℕ) (m n : ℕ) → unwrap_or a 0 ≤ m → unwrap_or b 0 ≤ n → unwrap_or (plus a b) 0 ≤ m + n
sum_low None b m n first second = omega arith
sum_low (Some a) None m n first second = omega arith
sum_low (Some a) (Some b) m n first second = omega (arith, first, second)
