-- A drawn arrow brings a host a word in clear exactly where the host is told it.
use Rattle.std.proofs.Common.{◌≡◌, ℕ, zero, suc, ◌-◌, ◌^◌, ◌<◌, Bool, true, false, ◌&&◌, ◌==◌, not, Option, Some, None, refl, sym, ap, ◌∙◌, arith}
use Rattle.std.specs.Prelude.{if◌then◌else◌, bit_and, min}
use Rattle.std.specs.Int.{bit_at, bit_not, w8}
use Rattle.std.proofs.lemmas.Bool.{eqb-true}
use Rattle.std.proofs.lemmas.Nat.{zero_from_ones}
use Rattle.std.proofs.lemmas.Nat.Bits.{bit_at_and, bit_at_not, bit_at-lt, bit_at-zero}
use Rattle.vd_base.specs.declared.ids.HostId.{HostId}
use Rattle.vd_base.specs.declared.protocols.HostSet.{HostSet}
use Rattle.vd_base.specs.declared.protocols.Proto.{Proto}
use Rattle.vd_base.specs.declared.protocols.Proto.TheVariants.{Local, Rep, Commit, Add, Xor}
use Rattle.vd_base.specs.HostSets.{has_host, outside, same_host, size}
use Rattle.vd_base.specs.Moves.{move_at, same_hosts}
use Rattle.vd_draw_rows.specs.declared.row.Arrow.TheVariants.{Clear, Checked, Revealed}
use Rattle.vd_draw_rows.specs.Moves.{arrow_unless_stays, is_told}
use Rattle.vd_cmd_draw.specs.Showing.{ArrowsShow, brings, shows}

-- ---- tests

guarded : (t x y : Bool) → (t ≡ true → x ≡ y) → (t && x) ≡ (t && y)
guarded true x y same = same refl
guarded false x y same = refl

and_true : (t : Bool) → (t && true) ≡ t
and_true true = refl
and_true false = refl

and_not : (t : Bool) → (t && not t) ≡ false
and_not true = refl
and_not false = refl

first_is : (a b : Bool) → (a && b) ≡ true → a ≡ true
first_is true b is = refl
first_is false b is = is

second_is : (a b : Bool) → (a && b) ≡ true → b ≡ true
second_is true b is = is
second_is false b is = absurd (cc is)

not_true : (b : Bool) → not b ≡ true → b ≡ false
not_true true is = absurd (cc is)
not_true false is = refl

taken : (b : Bool) (n cost : ℕ) → ◌≡◌ {A = Option ℕ} (if b then Some n else None) (Some cost) → b ≡ true
taken true n cost is = refl
taken false n cost is = absurd (cc is)

-- nothing is drawn where a word stays
clear_if : (b : Bool) → (not b && brings (arrow_unless_stays b Clear)) ≡ not b
clear_if true = refl
clear_if false = refl

checked_if : (b : Bool) → (not b && brings (arrow_unless_stays b Checked)) ≡ not b
checked_if true = refl
checked_if false = refl

revealed_if : (b : Bool) → (true && brings (arrow_unless_stays b Revealed)) ≡ not b
revealed_if true = refl
revealed_if false = refl

-- ---- sets of hosts

-- a host that is in the one set and not in the other is outside of the other
some_outside : (set other : HostSet) (h : HostId) → set.bits < 2 ^ 8 → h.0 < 8 → (has_host other h && not (has_host set h)) ≡ true → (size (outside other set) == 0) ≡ false
some_outside set other h small low is = by_test (size (outside other set) == 0) refl
  where
    there : bit_at other.bits h.0 ≡ 1
    there = eqb-true (bit_at other.bits h.0) 1 (first_is (has_host other h) (not (has_host set h)) is)

    lacking : (bit_at set.bits h.0 == 1) ≡ false
    lacking = not_true (has_host set h) (second_is (has_host other h) (not (has_host set h)) is)

    none : bit_at set.bits h.0 ≡ 0
    none = by_bit (bit_at set.bits h.0) (bit_at-lt set.bits h.0) lacking
      where
        by_bit : (b : ℕ) → b < 2 → (b == 1) ≡ false → b ≡ 0
        by_bit zero low test = refl
        by_bit (suc zero) low test = absurd (cc test)
        by_bit (suc (suc b)) low test = absurd (omega (arith, low))

    by_test : (b : Bool) → (size (outside other set) == 0) ≡ b → b ≡ false
    by_test false test = refl
    by_test true test =
        let empty : bit_and other.bits (bit_not w8 set.bits) ≡ 0 = zero_from_ones (bit_and other.bits (bit_not w8 set.bits)) (eqb-true (size (outside other set)) 0 test) in
        let zero_ : bit_at (bit_and other.bits (bit_not w8 set.bits)) h.0 ≡ 0 = ap (λ n. bit_at n h.0) empty ∙ bit_at-zero h.0 in
        let both = bit_at_and other.bits (bit_not w8 set.bits) h.0 in
        let but : bit_at (bit_not w8 set.bits) h.0 ≡ 1 - bit_at set.bits h.0 = bit_at_not w8 set.bits h.0 small low in
        absurd (contradict (bit_at other.bits h.0) (bit_at set.bits h.0) (bit_at (bit_not w8 set.bits) h.0) (bit_at (bit_and other.bits (bit_not w8 set.bits)) h.0) there none but zero_ both)
      where
        contradict : (x y z both : ℕ) → x ≡ 1 → y ≡ 0 → z ≡ 1 - y → both ≡ 0 → both ≡ min x z → ⊥
        contradict x y z both is_one is_none is_but is_zero is_min = let least : min x z ≡ 1 = (λ i. min (is_one i) (is_but i)) ∙ ap (λ k. min 1 (1 - k)) is_none in omega (arith, least, is_zero, is_min)

-- ---- moves, protocol by protocol

-- the hosts of two numbers that are the same
numbers : (k h : HostId) → same_host k h ≡ true → k.0 ≡ h.0
numbers k h is = eqb-true k.0 h.0 is

from_local : (a : HostId) (to : Proto) (cost : ℕ) → move_at (Local a) to ≡ Some cost → (h : HostId) → shows h (Local a) to ≡ is_told h (Local a) to
from_local a (Local k) cost is h = guarded (same_host k h) _ (not (same_host a h)) (λ same. clear_if (same_host a k) ∙ ap (λ n. not (a.0 == n)) (numbers k h same))
from_local a (Rep set) cost is h = and_true (is_told h (Local a) (Rep set))
from_local a (Commit p v) cost is h = sym (ap (λ n. (p.0 == h.0) && not (n == h.0)) (numbers a p (taken (same_host a p) 10 cost is)) ∙ and_not (same_host p h))
from_local a (Add b c) cost is h = refl
from_local a (Xor b c) cost is h = refl

from_copies : (set : HostSet) (to : Proto) (cost : ℕ) → move_at (Rep set) to ≡ Some cost → set.bits < 2 ^ 8 → (h : HostId) → h.0 < 8 → shows h (Rep set) to ≡ is_told h (Rep set) to
from_copies set (Local k) cost is small h low = guarded (same_host k h) _ (not (has_host set h)) (λ same. checked_if (has_host set k) ∙ ap (λ n. not (bit_at set.bits n == 1)) (numbers k h same))
from_copies set (Rep other) cost is small h low =
    guarded (is_told h (Rep set) (Rep other)) _ true (λ told. checked_if (size (outside other set) == 0) ∙ ap not (some_outside set other h small low told)) ∙ and_true (is_told h (Rep set) (Rep other))
from_copies set (Commit p v) cost is small h low = absurd (cc is)
from_copies set (Add a b) cost is small h low = refl
from_copies set (Xor a b) cost is small h low = refl

from_committed : (p v : HostId) (to : Proto) (cost : ℕ) → move_at (Commit p v) to ≡ Some cost → (h : HostId) → shows h (Commit p v) to ≡ is_told h (Commit p v) to
from_committed p v (Local k) cost is h = guarded (same_host k h) _ (not (same_host p h)) (λ same. revealed_if (same_host p k) ∙ ap (λ n. not (p.0 == n)) (numbers k h same))
from_committed p v (Rep set) cost is h = and_true (is_told h (Commit p v) (Rep set))
from_committed p v (Commit q w) cost is h =
    sym (ap (λ n. (q.0 == h.0) && not (n == h.0)) (numbers p q (first_is (same_host p q) (same_host v w) (taken (same_hosts p v q w) 0 cost is))) ∙ and_not (same_host q h))
from_committed p v (Add a b) cost is h = refl
from_committed p v (Xor a b) cost is h = refl

from_sums : (a b : HostId) (to : Proto) (cost : ℕ) → move_at (Add a b) to ≡ Some cost → (h : HostId) → shows h (Add a b) to ≡ is_told h (Add a b) to
from_sums a b (Local k) cost is h = refl
from_sums a b (Rep set) cost is h = and_true (is_told h (Add a b) (Rep set))
from_sums a b (Commit p v) cost is h = absurd (cc is)
from_sums a b (Add c d) cost is h = refl
from_sums a b (Xor c d) cost is h = refl

from_bits : (a b : HostId) (to : Proto) (cost : ℕ) → move_at (Xor a b) to ≡ Some cost → (h : HostId) → shows h (Xor a b) to ≡ is_told h (Xor a b) to
from_bits a b (Local k) cost is h = refl
from_bits a b (Rep set) cost is h = and_true (is_told h (Xor a b) (Rep set))
from_bits a b (Commit p v) cost is h = absurd (cc is)
from_bits a b (Add c d) cost is h = refl
from_bits a b (Xor c d) cost is h = refl

pub arrows_show : ArrowsShow
arrows_show (Local a) to cost is small h low = from_local a to cost is h
arrows_show (Rep set) to cost is small h low = from_copies set to cost is small h low
arrows_show (Commit p v) to cost is small h low = from_committed p v to cost is h
arrows_show (Add a b) to cost is small h low = from_sums a b to cost is h
arrows_show (Xor a b) to cost is small h low = from_bits a b to cost is h
