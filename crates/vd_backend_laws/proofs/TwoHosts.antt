-- A set of two hosts.
use Rattle.std.proofs.Common.{◌≡◌, ◌≢◌, ℕ, zero, suc, ◌+◌, ◌<◌, ◌≤◌, ◌%◌, ◌/◌, ◌==◌, ◌&&◌, nat_eq, count_ones, Bool, true, false, cond, List, [], ◌∷◌, ◌⊎◌, inl, inr, length, map, refl, sym, ap, ap₂, subst, ◌∙◌, arith}
use Rattle.std.specs.Prelude.{filter}
use Rattle.std.specs.List.{range_with_len}
use Rattle.std.specs.Int.{bit_at}
use Rattle.std.proofs.lemmas.Nat.Bits.{bit_at_lowest, bit_at-suc}
use lib.Count.{ones_step}
use native.Mathlib.Decide.{ℕ_discrete}
use Rattle.vd_base.specs.declared.ids.HostId.{HostId}
use Rattle.vd_base.specs.declared.protocols.HostSet.{HostSet}
use Rattle.vd_base.specs.HostSets.{host, has_host, size, is_pair, members}
use Rattle.vd_duet.specs.Laws.{IsHost}
use Rattle.vd_split.proofs.Front.{and_left, and_right}
use Rattle.vd_backend_laws.proofs.Over.{equal_of, later_than, was_there}

-- ---- a set has so many members

ones_more : (x n : ℕ) → nat_eq (x % 2) 1 ≡ true → n ≤ count_ones (x / 2) → suc n ≤ count_ones x
ones_more x n e le = let s = ones_step x in let f = equal_of (x % 2) 1 e in omega (arith, s, f, le)

ones_same : (x n : ℕ) → n ≤ count_ones (x / 2) → n ≤ count_ones x
ones_same x n le = let s = ones_step x in omega (arith, s, le)

few_counted : (test : HostId → Bool) (n k x : ℕ) → ((i : ℕ) → i < n → test (host (k + i)) ≡ nat_eq (bit_at x i) 1)
    → length (filter test (map host (range_with_len k n))) ≤ count_ones x
few_counted test zero k x f = omega arith
few_counted test (suc n) k x f = at (test (host k)) here (few_counted test n (k + 1) (x / 2) rest)
  where
    same : (m : ℕ) → m + 0 ≡ m
    same m = omega arith

    further : (m i : ℕ) → m + 1 + i ≡ m + suc i
    further m i = omega arith

    here : test (host k) ≡ nat_eq (x % 2) 1
    here = ap (λ (z : ℕ). test (host z)) (sym (same k)) ∙ f 0 (omega arith) ∙ ap (λ (z : ℕ). nat_eq z 1) (bit_at_lowest x)

    rest : (i : ℕ) → i < n → test (host (k + 1 + i)) ≡ nat_eq (bit_at (x / 2) i) 1
    rest i lt = ap (λ (z : ℕ). test (host z)) (further k i) ∙ f (suc i) (omega (arith, lt)) ∙ ap (λ (z : ℕ). nat_eq z 1) (bit_at-suc x i)

    at : (b : Bool) → b ≡ nat_eq (x % 2) 1 → length (filter test (map host (range_with_len (k + 1) n))) ≤ count_ones (x / 2)
        → length (cond b (host k ∷ filter test (map host (range_with_len (k + 1) n))) (filter test (map host (range_with_len (k + 1) n)))) ≤ count_ones x
    at true e le = ones_more x (length (filter test (map host (range_with_len (k + 1) n)))) (sym e) le
    at false e le = ones_same x (length (filter test (map host (range_with_len (k + 1) n)))) le

from_none : (i : ℕ) → 0 + i ≡ i
from_none i = omega arith

few_of_set : (set : HostSet) → length (members 8 set) ≤ size set
few_of_set set = few_counted (has_host set) 8 0 set.bits (λ i lt. ap (λ (z : ℕ). has_host set (host z)) (from_none i))

-- ---- which are in order

member_from : (test : HostId → Bool) (n k h : ℕ) → k ≤ h → h < k + n → test (host h) ≡ true → IsHost (filter test (map host (range_with_len k n))) h
member_from test zero k h le lt t = absurd (omega (arith, le, lt))
member_from test (suc n) k h le lt t = at (test (host k)) refl (ℕ_discrete h k) (λ above. member_from test n (k + 1) h above (omega (arith, lt)) t)
  where
    opposite : (b : Bool) → b ≡ true → b ≡ false → ⊥
    opposite true e f = cc
    opposite false e f = cc

    higher : h ≢ k → k + 1 ≤ h
    higher d = grind (arith)

    at : (b : Bool) → test (host k) ≡ b → Dec (h ≡ k) → (k + 1 ≤ h → IsHost (filter test (map host (range_with_len (k + 1) n))) h)
        → IsHost (cond b (host k ∷ filter test (map host (range_with_len (k + 1) n))) (filter test (map host (range_with_len (k + 1) n)))) h
    at true e (yes i) later = inl i
    at true e (no d) later = inr (later (higher d))
    at false e (yes i) later = absurd (opposite (test (host k)) (ap (λ (z : ℕ). test (host z)) (sym i) ∙ t) e)
    at false e (no d) later = later (higher d)

-- a host below 8 that a set has is a member
pub has_member : (set : HostSet) (h : HostId) → h.0 < 8 → has_host set h ≡ true → IsHost (members 8 set) h.0
has_member set h lt e = member_from (has_host set) 8 0 h.0 (omega arith) (omega (arith, lt)) e

abbrev AreRising : List HostId → Type 0
AreRising [] = Unit {0}
AreRising (x ∷ xs) = ((h : ℕ) → IsHost xs h → x.0 < h) × AreRising xs

filter_rising : (test : HostId → Bool) (n k : ℕ) → AreRising (filter test (map host (range_with_len k n)))
filter_rising test zero k = tt
filter_rising test (suc n) k = at (filter_rising test n (k + 1)) (test (host k))
  where
    above : (h : ℕ) → IsHost (filter test (map host (range_with_len (k + 1) n))) h → k < h
    above h i = let q = later_than (k + 1) n h (was_there test (map host (range_with_len (k + 1) n)) h i) in omega (arith, q)

    at : AreRising (filter test (map host (range_with_len (k + 1) n))) → (b : Bool)
        → AreRising (cond b (host k ∷ filter test (map host (range_with_len (k + 1) n))) (filter test (map host (range_with_len (k + 1) n))))
    at again true = (above, again)
    at again false = again

-- two rising hosts that are among two at most are these
two_rising : (xs : List HostId) (a b : HostId) → AreRising xs → length xs ≤ 2 → a.0 < b.0 → IsHost xs a.0 → IsHost xs b.0 → xs ≡ a ∷ b ∷ []
two_rising [] a b r few lt i j = absurd i
two_rising (x ∷ []) a b r few lt i j = absurd (alone i j)
  where
    alone : (a.0 ≡ x.0) ⊎ ⊥ → (b.0 ≡ x.0) ⊎ ⊥ → ⊥
    alone (inl e) (inl f) = omega (arith, lt, e, f)
    alone (inl e) (inr f) = f
    alone (inr e) f = e
two_rising (x ∷ y ∷ []) a b r few lt i j = both i j
  where
    turned : x.0 < y.0 → a.0 ≡ y.0 → b.0 ≡ x.0 → ⊥
    turned low e f = omega (arith, lt, low, e, f)

    once : (z : ℕ) → a.0 ≡ z → b.0 ≡ z → ⊥
    once z e f = omega (arith, lt, e, f)

    both : (a.0 ≡ x.0) ⊎ ((a.0 ≡ y.0) ⊎ ⊥) → (b.0 ≡ x.0) ⊎ ((b.0 ≡ y.0) ⊎ ⊥) → x ∷ y ∷ [] ≡ a ∷ b ∷ []
    both (inl e) (inr (inl f)) = ap₂ (λ (m n : ℕ). host m ∷ host n ∷ []) (sym e) (sym f)
    both (inl e) (inl f) = absurd (once x.0 e f)
    both (inr (inl e)) (inl f) = absurd (turned (r.0 y.0 (inl refl)) e f)
    both (inr (inl e)) (inr (inl f)) = absurd (once y.0 e f)
    both (inr (inr e)) f = absurd e
    both (inl e) (inr (inr f)) = absurd f
    both (inr (inl e)) (inr (inr f)) = absurd f
two_rising (x ∷ y ∷ z ∷ xs) a b r few lt i j = absurd (many (length xs) few)
  where
    many : (n : ℕ) → suc (suc (suc n)) ≤ 2 → ⊥
    many n le = omega (arith, le)

-- the members of a set of two hosts
pub members_of_pair : (set : HostSet) (a b : HostId) → (a.0 < b.0) × (b.0 < 8) → is_pair set a b ≡ true → members 8 set ≡ a ∷ b ∷ []
members_of_pair set a b o e =
    let has_both = and_left (has_host set a && has_host set b) (size set == 2) e in
    let two : size set ≡ 2 = equal_of (size set) 2 (and_right (has_host set a && has_host set b) (size set == 2) e) in
    two_rising (members 8 set) a b (filter_rising (has_host set) 8 0) (subst (λ n. length (members 8 set) ≤ n) two (few_of_set set)) o.0
    (has_member set a (below o.0 o.1) (and_left (has_host set a) (has_host set b) has_both))
    (has_member set b o.1 (and_right (has_host set a) (has_host set b) has_both))
  where
    below : a.0 < b.0 → b.0 < 8 → a.0 < 8
    below p q = omega (arith, p, q)
