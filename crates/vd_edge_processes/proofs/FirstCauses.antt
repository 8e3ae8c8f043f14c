-- Causes are named before what became of them.
use Rattle.std.proofs.Common.{◌≡◌, ◌≢◌, ◌<◌, ℕ, nat_eq, nat_lt, Bool, true, false, if◌then◌else◌, Some, sym, ap, subst, ◌∙◌, arith, rules}
use Rattle.vd_edge_processes.specs.Turns.{CausesComeFirst, IsNamedBefore, likelier, remoteness}

not_equal : (a b : ℕ) → a ≢ b → nat_eq a b ≡ false
not_equal a b other = grind (arith, rules)

-- no status but these two is remote
plain : (s : ℕ) → s ≢ 25 → s ≢ 18 → remoteness s ≡ 0
plain s one two =
    ap (λ (t : Bool). if t then 2 else if nat_eq s 18 then 1 else 0) (not_equal s 25 one)
    ∙ ap (λ (t : Bool). if t then 1 else 0) (not_equal s 18 two)

below : (t : Bool) → (if t then 1 else 0) < 2
below true = omega arith
below false = omega arith

near : (s : ℕ) → s ≢ 25 → remoteness s < 2
near s other = subst (λ (t : Bool). (if t then 2 else if nat_eq s 18 then 1 else 0) < 2) (sym (not_equal s 25 other)) (below (nat_eq s 18))

is_less : (m n : ℕ) → m < n → nat_lt m n ≡ true
is_less m n less = grind (arith, rules)

not_less : (m n : ℕ) → n < m → nat_lt m n ≡ false
not_less m n less = grind (arith, rules)

before : (cause effect : ℕ) → remoteness cause < remoteness effect → IsNamedBefore cause effect
before cause effect less a b = (
  ap (λ (t : Bool). if t then Some (b, effect) else Some (a, cause)) (not_less (remoteness effect) (remoteness cause) less),
  ap (λ (t : Bool). if t then Some (a, cause) else Some (b, effect)) (is_less (remoteness cause) (remoteness effect) less),
)

pub causes_first : CausesComeFirst
causes_first = record {
  ended_link = λ cause other. before cause 25 (near cause other);
  blamed_peer = λ cause one two. before cause 18 (subst (λ (n : ℕ). n < 1) (sym (plain cause one two)) (omega arith));
}
