-- The hosts of a protocol as a list and as a test, and which of them are among the first.
use Rattle.std.proofs.Common.{◌≡◌, ◌≢◌, ℕ, zero, suc, ◌+◌, ◌^◌, ◌<◌, ◌≤◌, Bool, true, false, true≢false, ◌||◌, cond, eqb, nat_eq, nat_lt, List, [], ◌∷◌, ◌⊎◌, inl, inr, length, map, refl, sym, ap, ap₂, ◌∙◌, arith}
use Rattle.std.specs.Prelude.{filter}
use Rattle.std.specs.List.{AllByRecursion, range_with_len}
use Rattle.std.proofs.Math.Bool.{or-false}
use Rattle.std.proofs.lemmas.Bool.{cases_Bool, eq-eqb, ltb-true, ltb-false, ne_eqb}
use Rattle.std.proofs.lemmas.Bool.Decides.{eqb_tells}
use Rattle.std.proofs.lemmas.Nat.Bits.{bit_at_above}
use Rattle.vd_base.specs.declared.ids.HostId.{HostId}
use Rattle.vd_base.specs.declared.protocols.HostSet.{HostSet}
use Rattle.vd_base.specs.declared.protocols.Proto.{Proto}
use Rattle.vd_base.specs.declared.protocols.Proto.TheVariants.{Local, Rep, Commit, Add, Xor}
use Rattle.vd_base.specs.HostSets.{host, hosts, has_host}
use Rattle.vd_base.specs.Holders.{holders, is_holder, is_among, HasHosts}
use Rattle.vd_base.proofs.Members.{few_members}

turned : (a b : ℕ) → nat_eq a b ≡ nat_eq b a
turned a b = at (eqb_tells a b)
  where
    at : ((eqb a b ≡ true) × (a ≡ b)) ⊎ ((eqb a b ≡ false) × (a ≢ b)) → nat_eq a b ≡ nat_eq b a
    at (inl e) = e.0 ∙ sym (eq-eqb b a (sym e.1))
    at (inr e) = e.0 ∙ sym (ne_eqb b a (λ i. e.1 (sym i)))

below_differs : (a b : ℕ) → a < b → a ≡ b → ⊥
below_differs a b low e = omega (arith, low, e)

-- a host before all that are tested is none of them
before : (test : HostId → Bool) (n k h : ℕ) → h < k → is_among (filter test (map host (range_with_len k n))) h ≡ false
before test zero k h low = refl
before test (suc n) k h low = at (test (host k)) (before test n (k + 1) h (omega (arith, low)))
  where
    at : (b : Bool) → is_among (filter test (map host (range_with_len (k + 1) n))) h ≡ false
        → is_among (cond b (host k ∷ filter test (map host (range_with_len (k + 1) n))) (filter test (map host (range_with_len (k + 1) n)))) h ≡ false
    at true later = ap₂ (λ (a b : Bool). a || b) (ne_eqb h k (below_differs h k low)) later
    at false later = later

higher : (k h : ℕ) → k ≤ h → h ≢ k → k + 1 ≤ h
higher k h le differs = grind (arith)

-- of hosts in a row, those that pass the test are listed
passes : (test : HostId → Bool) (n k h : ℕ) → k ≤ h → h < k + n → test (host h) ≡ is_among (filter test (map host (range_with_len k n))) h
passes test zero k h le low = absurd (omega (arith, le, low))
passes test (suc n) k h le low =
    at (test (host k)) refl (eqb_tells h k) (λ differs. passes test n (k + 1) h (higher k h le differs) (omega (arith, low)))
  where
    at : (b : Bool) → test (host k) ≡ b → ((eqb h k ≡ true) × (h ≡ k)) ⊎ ((eqb h k ≡ false) × (h ≢ k))
        → (h ≢ k → test (host h) ≡ is_among (filter test (map host (range_with_len (k + 1) n))) h)
        → test (host h) ≡ is_among (cond b (host k ∷ filter test (map host (range_with_len (k + 1) n))) (filter test (map host (range_with_len (k + 1) n)))) h
    at true is (inl e) later =
        ap (λ (z : ℕ). test (host z)) e.1 ∙ is ∙ ap (λ (b : Bool). b || is_among (filter test (map host (range_with_len (k + 1) n))) h) (sym e.0)
    at true is (inr e) later = later e.1 ∙ ap (λ (b : Bool). b || is_among (filter test (map host (range_with_len (k + 1) n))) h) (sym e.0)
    at false is (inl e) later =
        let past = e.1 in ap (λ (z : ℕ). test (host z)) e.1 ∙ is ∙ sym (before test n (k + 1) h (omega (arith, past)))
    at false is (inr e) later = later e.1

two_listed : (a b : HostId) (h : ℕ) → (nat_eq a.0 h || nat_eq b.0 h) ≡ is_among (a ∷ b ∷ []) h
two_listed a b h = ap₂ (λ (x y : Bool). x || y) (turned a.0 h) (turned b.0 h ∙ sym (or-false (nat_eq h b.0)))

-- a host below 8 is at a protocol exactly where it is among the protocol's hosts
pub holder_is_listed : (p : Proto) (h : ℕ) → h < 8 → is_holder p (host h) ≡ is_among (holders p) h
holder_is_listed (Local k) h low = turned k.0 h ∙ sym (or-false (nat_eq h k.0))
holder_is_listed (Rep set) h low = passes (has_host set) 8 0 h (omega arith) (omega (arith, low))
holder_is_listed (Commit a b) h low = two_listed a b h
holder_is_listed (Add a b) h low = two_listed a b h
holder_is_listed (Xor a b) h low = two_listed a b h

pub few_holders : (p : Proto) → length (holders p) ≤ 8
few_holders (Local h) = omega arith
few_holders (Rep set) = few_members set
few_holders (Commit a b) = omega arith
few_holders (Add a b) = omega arith
few_holders (Xor a b) = omega arith

-- a number below 2 ^ n has no host from n on
within : (set : HostSet) (n : ℕ) → set.bits < 2 ^ n → (h : HostId) → has_host set h ≡ true → h.0 < n
within set n small h has = at (cases_Bool (nat_lt h.0 n))
  where
    at : (nat_lt h.0 n ≡ true) ⊎ (nat_lt h.0 n ≡ false) → h.0 < n
    at (inl low) = ltb-true h.0 n low
    at (inr high) = absurd (true≢false (sym has ∙ ap (λ (x : ℕ). nat_eq x 1) (bit_at_above set.bits n h.0 small (ltb-false h.0 n high))))

pub copies_have : (n : ℕ) (set : HostSet) → set.bits < 2 ^ n → HasHosts n (Rep set)
copies_have n set small = each (hosts 8)
  where
    each : (xs : List HostId) → AllByRecursion (λ (h : HostId). h.0 < n) (filter (has_host set) xs)
    each [] = tt
    each (x ∷ xs) = at (has_host set x) refl (each xs)
      where
        at : (b : Bool) → has_host set x ≡ b → AllByRecursion (λ (h : HostId). h.0 < n) (filter (has_host set) xs)
            → AllByRecursion (λ (h : HostId). h.0 < n) (cond b (x ∷ filter (has_host set) xs) (filter (has_host set) xs))
        at true is rest = (within set n small x is, rest)
        at false is rest = rest
