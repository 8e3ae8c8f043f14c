-- The hosts of a protocol.
use Rattle.std.proofs.Common.{◌≡◌, ◌≢◌, ℕ, zero, suc, ◌+◌, ◌<◌, ◌≤◌, Bool, true, false, not, ◌&&◌, ◌||◌, cond, if◌then◌else◌, nat_eq, nat_lt, List, [], ◌∷◌, ◌⊎◌, inl, inr, map, refl, sym, ap, subst, ◌∙◌, arith, rules}
use Rattle.std.specs.Prelude.{filter}
use Rattle.std.specs.List.{range_with_len}
use Rattle.std.proofs.lemmas.Bool.{eq-eqb}
use Rattle.std.proofs.lemmas.Bool.Decides.{nat_tests}
use native.Mathlib.Decide.{ℕ_discrete}
use Rattle.vd_base.specs.declared.ids.HostId.{HostId}
use Rattle.vd_base.specs.declared.protocols.HostSet.{HostSet}
use Rattle.vd_base.specs.declared.protocols.Proto.{Proto}
use Rattle.vd_base.specs.declared.protocols.Proto.TheVariants.{Local, Rep, Commit, Add, Xor}
use Rattle.vd_base.specs.HostSets.{host, hosts, has_host, members}
use Rattle.vd_base.specs.Holders.{holders, is_holder, is_among}
use Rattle.vd_duet.specs.Laws.{Each, IsHost}
use Rattle.vd_split.specs.Suite.{picked}
use Rattle.vd_backend_laws.specs.Suite.{is_in_order}
use Rattle.vd_split.proofs.Front.{AreApart, and_left, and_right, or_left, or_right}

pub host_known : (n : ℕ) (hs : List HostId) (h : ℕ) → Each (λ k. k.0 < n) hs → IsHost hs h → h < n
host_known n [] h e i = absurd i
host_known n (k ∷ hs) h e (inl i) = subst (λ z. z < n) (sym i) e.0
host_known n (k ∷ hs) h e (inr i) = host_known n hs h e.1 i

passes : (test : HostId → Bool) (xs : List HostId) (h : ℕ) → IsHost (filter test xs) h → test (host h) ≡ true
passes test [] h i = absurd i
passes test (x ∷ xs) h i = at (passes test xs h) (test x) refl i
  where
    at : (IsHost (filter test xs) h → test (host h) ≡ true) → (b : Bool) → test x ≡ b → IsHost (cond b (x ∷ filter test xs) (filter test xs)) h → test (host h) ≡ true
    at again true e (inl j) = ap (λ (z : ℕ). test (host z)) j ∙ e
    at again true e (inr j) = again j
    at again false e j = again j

one_of_two : (a b h : ℕ) → (h ≡ a) ⊎ ((h ≡ b) ⊎ ⊥) → (nat_eq a h || nat_eq b h) ≡ true
one_of_two a b h (inl e) = or_left (nat_eq a h) (nat_eq b h) (eq-eqb a h (sym e))
one_of_two a b h (inr (inl e)) = or_right (nat_eq a h) (nat_eq b h) (eq-eqb b h (sym e))
one_of_two a b h (inr (inr e)) = absurd e

-- a host that has a part is at the protocol
pub holder_at : (p : Proto) (h : ℕ) → IsHost (holders p) h → is_holder p (host h) ≡ true
holder_at (Local k) h (inl e) = eq-eqb k.0 h (sym e)
holder_at (Local k) h (inr e) = absurd e
holder_at (Rep set) h i = passes (has_host set) (hosts 8) h i
holder_at (Commit a b) h i = one_of_two a.0 b.0 h i
holder_at (Add a b) h i = one_of_two a.0 b.0 h i
holder_at (Xor a b) h i = one_of_two a.0 b.0 h i

pub equal_of : (a b : ℕ) → nat_eq a b ≡ true → a ≡ b
equal_of a b e = grind (arith, rules)

pub among_host : (hs : List HostId) (h : ℕ) → is_among hs h ≡ true → IsHost hs h
among_host [] h e = cc
among_host (k ∷ hs) h e = at (among_host hs h) (nat_eq h k.0) refl e
  where
    at : (is_among hs h ≡ true → IsHost hs h) → (b : Bool) → nat_eq h k.0 ≡ b → (b || is_among hs h) ≡ true → IsHost (k ∷ hs) h
    at again true f g = inl (equal_of h k.0 f)
    at again false f g = inr (again g)

-- ---- no host twice

pub later_than : (k n h : ℕ) → IsHost (map host (range_with_len k n)) h → k ≤ h
later_than k zero h i = absurd i
later_than k (suc n) h (inl e) = omega (arith, e)
later_than k (suc n) h (inr i) = let q = later_than (k + 1) n h i in omega (arith, q)

in_a_row : (k n : ℕ) → AreApart (map host (range_with_len k n))
in_a_row k zero = tt
in_a_row k (suc n) = ((λ i. let q = later_than (k + 1) n k i in omega (arith, q)), in_a_row (k + 1) n)

pub was_there : (test : HostId → Bool) (xs : List HostId) (h : ℕ) → IsHost (filter test xs) h → IsHost xs h
was_there test [] h i = i
was_there test (x ∷ xs) h i = at (was_there test xs h) (test x) i
  where
    at : (IsHost (filter test xs) h → IsHost xs h) → (b : Bool) → IsHost (cond b (x ∷ filter test xs) (filter test xs)) h → IsHost (x ∷ xs) h
    at again true (inl j) = inl j
    at again true (inr j) = inr (again j)
    at again false j = inr (again j)

filter_apart : (test : HostId → Bool) (xs : List HostId) → AreApart xs → AreApart (filter test xs)
filter_apart test [] a = tt
filter_apart test (x ∷ xs) a = at (filter_apart test xs a.1) (test x)
  where
    at : AreApart (filter test xs) → (b : Bool) → AreApart (cond b (x ∷ filter test xs) (filter test xs))
    at again true = ((λ i. a.0 (was_there test xs x.0 i)), again)
    at again false = again

-- the members of a set are listed once
members_apart : (n : ℕ) (set : HostSet) → AreApart (members n set)
members_apart n set = filter_apart (has_host set) (hosts n) (in_a_row 0 n)

differ : (a b : ℕ) → a < b → a ≢ b
differ a b lt e = omega (arith, lt, e)

lt_of : (a b : ℕ) → nat_lt a b ≡ true → a < b
lt_of a b h = grind (arith, nat_tests)

-- two hosts that differ, by the test
unlike : (a b : ℕ) → not (nat_eq a b) ≡ true → a ≢ b
unlike a b e f = opposite (nat_eq a b) (eq-eqb a b f) e
  where
    opposite : (z : Bool) → z ≡ true → not z ≡ true → ⊥
    opposite true g h = cc
    opposite false g h = cc

two_apart : (a b : HostId) → a.0 ≢ b.0 → AreApart (a ∷ b ∷ [])
two_apart a b d = (apart, ((λ i. i), tt))
  where
    apart : (a.0 ≡ b.0) ⊎ ⊥ → ⊥
    apart (inl e) = d e
    apart (inr i) = i

-- the two hosts of shares are in order, and differ
pub in_order : (a b : HostId) → (nat_lt a.0 b.0 && nat_lt b.0 8) ≡ true → (a.0 < b.0) × (b.0 < 8)
in_order a b o = (lt_of a.0 b.0 (and_left (nat_lt a.0 b.0) (nat_lt b.0 8) o), lt_of b.0 8 (and_right (nat_lt a.0 b.0) (nat_lt b.0 8) o))

pub ordered_differ : (a b : HostId) → (nat_lt a.0 b.0 && nat_lt b.0 8) ≡ true → a.0 ≢ b.0
ordered_differ a b o = differ a.0 b.0 (in_order a b o).0

-- the two hosts of a commitment differ, and can be members of a set
pub bound_differ : (a b : HostId) → (not (nat_eq a.0 b.0) && (nat_lt a.0 8 && nat_lt b.0 8)) ≡ true → a.0 ≢ b.0
bound_differ a b o = unlike a.0 b.0 (and_left (not (nat_eq a.0 b.0)) (nat_lt a.0 8 && nat_lt b.0 8) o)

pub bound_small : (a b : HostId) → (not (nat_eq a.0 b.0) && (nat_lt a.0 8 && nat_lt b.0 8)) ≡ true → (a.0 < 8) × (b.0 < 8)
bound_small a b o =
    let both = and_right (not (nat_eq a.0 b.0)) (nat_lt a.0 8 && nat_lt b.0 8) o in
    (lt_of a.0 8 (and_left (nat_lt a.0 8) (nat_lt b.0 8) both), lt_of b.0 8 (and_right (nat_lt a.0 8) (nat_lt b.0 8) both))

pub holders_apart : (p : Proto) → is_in_order p ≡ true → AreApart (holders p)
holders_apart (Local h) o = ((λ i. i), tt)
holders_apart (Rep set) o = members_apart 8 set
holders_apart (Commit a b) o = two_apart a b (bound_differ a b o)
holders_apart (Add a b) o = two_apart a b (ordered_differ a b o)
holders_apart (Xor a b) o = two_apart a b (ordered_differ a b o)

-- ---- hosts that pass a test

-- a number is in a list
abbrev pub In : ℕ → List ℕ → Type 0
In h [] = ⊥
In h (x ∷ xs) = (h ≡ x) ⊎ In h xs

pub picked_in : (test : ℕ → Bool) (from n h : ℕ) → from ≤ h → h < from + n → test h ≡ true → In h (map (λ (k : HostId). k.0) (picked from n test))
picked_in test from zero h le lt t = absurd (omega (arith, le, lt))
picked_in test from (suc n) h le lt t = at (picked_in test (from + 1) n h) (test from) refl (ℕ_discrete h from)
  where
    opposite : (b : Bool) → b ≡ true → b ≡ false → ⊥
    opposite true e f = cc
    opposite false e f = cc

    higher : h ≢ from → from + 1 ≤ h
    higher d = grind (arith)

    at : (from + 1 ≤ h → h < from + 1 + n → test h ≡ true → In h (map (λ (k : HostId). k.0) (picked (from + 1) n test))) → (b : Bool) → test from ≡ b → Dec (h ≡ from)
        → In h (map (λ (k : HostId). k.0) (if b then host from ∷ picked (from + 1) n test else picked (from + 1) n test))
    at ih true tf (yes e) = inl e
    at ih true tf (no d) = inr (ih (higher d) (omega (arith, lt)) t)
    at ih false tf (yes e) = absurd (opposite (test from) (ap test (sym e) ∙ t) tf)
    at ih false tf (no d) = ih (higher d) (omega (arith, lt)) t
