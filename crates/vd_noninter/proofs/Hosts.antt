-- Sets of the first eight hosts, one host after another.
use Rattle.std.proofs.Common.{◌≡◌, ℕ, ◌+◌, ◌*◌, ◌^◌, ◌%◌, ◌<◌, ◌==◌, Bool, true, false, ◌&&◌, ◌||◌, if◌then◌else◌, bit_or, refl, sym, ap, ◌∙◌, subst, arith, nat_eq, nat_lt, inl, inr}
use Rattle.std.specs.Int.{bit_at, w8}
use Rattle.std.proofs.lemmas.Bool.{cases_eq, cases_lt, eq-eqb, ne_eqb, lt-ltb, le-ltb}
use Rattle.std.proofs.lemmas.Nat.Bits.{bit_at-zero, bit_at_set_same, bit_at_set_other}

pub host_more : (bits n k : ℕ) → n < 8 → (bit_at (bit_or bits (1 * 2 ^ n % 256)) k == 1) ≡ (nat_eq k n || (bit_at bits k == 1))
host_more bits n k low = elim (cases_eq k n) [
  | inl same ↦
      subst (λ j. (bit_at (bit_or bits (1 * 2 ^ n % 256)) j == 1) ≡ (nat_eq j n || (bit_at bits j == 1))) (sym same)
      (ap (λ b. b == 1) (bit_at_set_same w8 bits n low) ∙ sym (ap (λ b. b || (bit_at bits n == 1)) (eq-eqb n n refl)))
  | inr differs ↦ ap (λ b. b == 1) (bit_at_set_other w8 bits n low k differs) ∙ sym (ap (λ b. b || (bit_at bits k == 1)) (ne_eqb k n differs))
]

pub none_first : (marks : ℕ → Bool) (k : ℕ) → (bit_at 0 k == 1) ≡ (nat_lt k 0 && marks k)
none_first marks k = ap (λ b. b == 1) (bit_at-zero k) ∙ sym (ap (λ b. b && marks k) (le-ltb k 0 (omega arith)))

chosen_at : (b c d : Bool) → c ≡ true → d ≡ false → (if b then c || d else d) ≡ b
chosen_at true c d e z = ap (λ x. x || d) e
chosen_at false c d e z = z

chosen_not : (b c d : Bool) → c ≡ false → (if b then c || d else d) ≡ d
chosen_not true c d e = ap (λ x. x || d) e
chosen_not false c d e = refl

same_less : (k n : ℕ) → (k ≡ n → ⊥) → nat_lt k n ≡ nat_lt k (n + 1)
same_less k n differs = elim (cases_lt k n) [
  | inl less ↦ lt-ltb k n less ∙ sym (lt-ltb k (n + 1) (omega arith))
  | inr more ↦ le-ltb k n more ∙ sym (le-ltb k (n + 1) (omega arith))
]

-- one number more, where it is marked
pub host_step : (marks old more : ℕ → Bool) (n : ℕ) (has : Bool) → has ≡ marks n → ((k : ℕ) → old k ≡ (nat_lt k n && marks k)) → ((k : ℕ) → more k ≡ (if has then nat_eq k n || old k else old k)) → (k : ℕ) → more k ≡ (nat_lt k (n + 1) && marks k)
host_step marks old more n has is before after k = elim (cases_eq k n) [
  | inl same ↦
      subst (λ j. more j ≡ (nat_lt j (n + 1) && marks j)) (sym same)
      (after n ∙ chosen_at has (nat_eq n n) (old n) (eq-eqb n n refl) (before n ∙ ap (λ b. b && marks n) (le-ltb n n (omega arith))) ∙ is ∙ sym (ap (λ b. b && marks n) (lt-ltb n (n + 1) (omega arith))))
  | inr differs ↦ after k ∙ chosen_not has (nat_eq k n) (old k) (ne_eqb k n differs) ∙ before k ∙ ap (λ b. b && marks k) (same_less k n differs)
]
