-- A shift by all bits of a word or more leaves nothing.
use Rattle.std.proofs.Common.{◌≡◌, ℕ, ◌+◌, ◌-◌, ◌*◌, ◌/◌, ◌%◌, ◌^◌, ◌<◌, ◌≤◌, sym, ap, ◌∙◌, arith}
use Rattle.std.proofs.Math.Nat.{mul-mod_left, mul_assoc, div-eq_of_lt, pow-le-pow_right}
use Rattle.std.proofs.lemmas.Nat.{pow-add}

past_left : (x j n : ℕ) → x * 2 ^ (j + n) % 2 ^ n ≡ 0
past_left x j n = ap (λ p. x * p % 2 ^ n) (pow-add 2 j n) ∙ ap (λ p. p % 2 ^ n) (sym (mul_assoc x (2 ^ j) (2 ^ n))) ∙ mul-mod_left (x * 2 ^ j) (2 ^ n)

pub none_left : (x k : ℕ) → 32 ≤ k → 0 ≡ x * 2 ^ k % 2 ^ 32
none_left x k le =
    let e : k - 32 + 32 ≡ k = omega arith in
    sym (ap (λ j. x * 2 ^ j % 2 ^ 32) (sym e) ∙ past_left x (k - 32) 32)

pub none_right : (x k : ℕ) → x < 2 ^ 32 → 32 ≤ k → 0 ≡ x / 2 ^ k
none_right x k lt le =
    let more : 2 ^ 32 ≤ 2 ^ k = pow-le-pow_right (omega arith) le in
    sym (div-eq_of_lt (omega arith))
