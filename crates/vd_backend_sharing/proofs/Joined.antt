-- Parts that are joined to a word.
use Rattle.std.proofs.Common.{◌≡◌, ℕ, ◌%◌, ◌^◌, ◌<◌, bit_xor, ap, ◌∙◌, arith}
use Rattle.std.specs.Int.Bits.{xor_assoc, xor_self, xor_zero_r}
use Rattle.std.proofs.lemmas.Nat.{xor_comm}
use Rattle.std.proofs.Math.Nat.{add_comm}
use Rattle.vd_execution.specs.Gadgets.{Sharing, BySums, ByXors}
use Rattle.vd_backend_sharing.specs.Sharings.{joined, hidden}

pub joined_zero : (s : Sharing) (x : ℕ) → x < 2 ^ 32 → joined s x 0 ≡ x
joined_zero BySums x small = omega (arith, small)
joined_zero ByXors x small = xor_zero_r x

pub hidden_joined : (s : Sharing) (x r : ℕ) → x < 2 ^ 32 → r < 2 ^ 32 → joined s (hidden s x r) r ≡ x
hidden_joined BySums x r x_small r_small = omega (arith, x_small, r_small)
hidden_joined ByXors x r x_small r_small = xor_assoc x r r ∙ ap (bit_xor x) (xor_self r) ∙ xor_zero_r x

pub joined_turned : (s : Sharing) (x y : ℕ) → joined s x y ≡ joined s y x
joined_turned BySums x y = ap (λ z. z % 2 ^ 32) (add_comm x y)
joined_turned ByXors x y = xor_comm x y
