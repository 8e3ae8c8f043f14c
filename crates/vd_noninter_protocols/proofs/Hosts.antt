-- Which moves come to a host, by what stands where.
use Rattle.std.proofs.Common.{◌≡◌, ◌≢◌, ℕ, zero, suc, ◌+◌, ◌<◌, ◌≤◌, nat_eq, ◌&&◌, not, Bool, true, false, true≢false, if◌then◌else◌, List, [], ◌∷◌, ◌++◌, length, slice_get, refl, sym, ap, ◌∙◌, arith, append-nil}
use Rattle.std.specs.Option.{option_map_or}
use Rattle.std.proofs.lemmas.Bool.{and_parts, eq-eqb, eqb-true}
use native.Mathlib.Decide.{ℕ_discrete}
use Rattle.vd_base.specs.declared.ids.HostId.{HostId}
use Rattle.vd_base.specs.declared.ids.SlotId.{SlotId}
use Rattle.vd_base.specs.declared.protocols.Proto.{Proto}
use Rattle.vd_base.specs.declared.protocols.Proto.TheVariants.{Local, Rep, Commit, Add, Xor}
use Rattle.vd_base.specs.HostSets.{host, same_host}
use Rattle.vd_base.specs.Holders.{has_clear, is_holder, proto_in, same_protocol}
use Rattle.vd_split.specs.Suite.{picked}
use Rattle.vd_noninter_protocols.specs.Hearing.{word_if, stands, comes}

-- ---- items of lists

pub found_at : (f : Proto → Bool) (xs : List Proto) (k : ℕ) → option_map_or f (slice_get xs k) false ≡ true → f (proto_in xs k) ≡ true
found_at f [] k e = absurd (true≢false (sym e))
found_at f (x ∷ xs) zero e = e
found_at f (x ∷ xs) (suc k) e = found_at f xs k e

pub item_at : (f : Proto → Bool) (xs : List Proto) (k : ℕ) → k < length xs → option_map_or f (slice_get xs k) false ≡ f (proto_in xs k)
item_at f [] k low = absurd (omega (arith, low))
item_at f (x ∷ xs) zero low = refl
item_at f (x ∷ xs) (suc k) low = item_at f xs k (omega (arith, low))

-- ---- hosts of a protocol

pub same_turned : (a b : ℕ) → nat_eq a b ≡ nat_eq b a
same_turned a b = both (nat_eq a b) (nat_eq b a) refl refl
  where
    both : (x y : Bool) → nat_eq a b ≡ x → nat_eq b a ≡ y → x ≡ y
    both true true e f = refl
    both true false e f = absurd (true≢false (sym (eq-eqb b a (sym (eqb-true a b e))) ∙ f))
    both false true e f = absurd (true≢false (sym (eq-eqb a b (sym (eqb-true b a f))) ∙ e))
    both false false e f = refl

holder_is : (q : Proto) (h : HostId) → is_holder q h ≡ is_holder q (host h.0)
holder_is (Local k) h = refl
holder_is (Rep set) h = refl
holder_is (Commit p v) h = refl
holder_is (Add a b) h = refl
holder_is (Xor a b) h = refl

module _ (protocols : List Proto) (h : HostId) where
  -- what comes is in clear where it comes to
  pub comes_clear : (y x : SlotId) → comes protocols h y x ≡ true → has_clear h (proto_in protocols x.0) ≡ true
  comes_clear y x e =
      found_at (has_clear h) protocols x.0 (and_parts (stands protocols h (has_clear h) x) (not (same_protocol (proto_in protocols y.0) (proto_in protocols x.0))) e).0

  -- a slot of the program is kept at the hosts of its protocol
  pub kept_at : (x : SlotId) → x.0 < length protocols → stands protocols h (λ p. is_holder p h) x ≡ is_holder (proto_in protocols x.0) (host h.0)
  kept_at x low = item_at (λ p. is_holder p h) protocols x.0 low ∙ holder_is (proto_in protocols x.0) h

-- ---- a word for each host

-- as often as the host is among these
abbrev pub as_often : HostId → Bool → ℕ → List HostId → List ℕ
as_often h test v [] = []
as_often h test v (k ∷ ks) = word_if (same_host h k && test) v ++ as_often h test v ks

module _ (h : HostId) (test : Bool) (v : ℕ) (pick : ℕ → Bool) where
  others : (from : ℕ) (ks : List HostId) → nat_eq h.0 from ≡ false → (b : Bool) → as_often h test v (if b then host from ∷ ks else ks) ≡ as_often h test v ks
  others from ks e true = ap (λ (z : Bool). word_if (z && test) v ++ as_often h test v ks) e
  others from ks e false = refl

  here : (from : ℕ) (ks : List HostId) → nat_eq h.0 from ≡ true → as_often h test v ks ≡ [] → (b : Bool) → as_often h test v (if b then host from ∷ ks else ks) ≡ word_if (b && test) v
  here from ks e none true =
      ap (λ (z : Bool). word_if (z && test) v ++ as_often h test v ks) e ∙ ap (λ (l : List ℕ). word_if test v ++ l) none ∙ append-nil (word_if test v)
  here from ks e none false = none

  differs : (a b : ℕ) → a ≢ b → nat_eq a b ≡ false
  differs a b d = at (nat_eq a b) refl
    where
      at : (z : Bool) → nat_eq a b ≡ z → nat_eq a b ≡ false
      at true e = absurd (d (eqb-true a b e))
      at false e = e

  above : (a b : ℕ) → a < b → a ≢ b
  above a b lt e = omega (arith, lt, e)

  none_later : (from n : ℕ) → h.0 < from → as_often h test v (picked from n pick) ≡ []
  none_later from zero lt = refl
  none_later from (suc n) lt =
      others from (picked (from + 1) n pick) (differs h.0 from (above h.0 from lt)) (pick from) ∙ none_later (from + 1) n (omega (arith, lt))

  picked_from : (from n : ℕ) → from ≤ h.0 → h.0 < from + n → as_often h test v (picked from n pick) ≡ word_if (pick h.0 && test) v
  picked_from from zero le lt = absurd (omega (arith, le, lt))
  picked_from from (suc n) le lt = at (ℕ_discrete h.0 from) (λ more. picked_from (from + 1) n more (omega (arith, lt)))
    where
      next : h.0 ≡ from → h.0 < from + 1
      next e = omega (arith, e)

      further : h.0 ≢ from → from + 1 ≤ h.0
      further d = grind (arith)

      at : Dec (h.0 ≡ from) → (from + 1 ≤ h.0 → as_often h test v (picked (from + 1) n pick) ≡ word_if (pick h.0 && test) v)
          → as_often h test v (picked from (suc n) pick) ≡ word_if (pick h.0 && test) v
      at (yes e) later =
          here from (picked (from + 1) n pick) (eq-eqb h.0 from e) (none_later (from + 1) n (next e)) (pick from) ∙ ap (λ z. word_if (pick z && test) v) (sym e)
      at (no d) later = others from (picked (from + 1) n pick) (differs h.0 from d) (pick from) ∙ later (further d)

-- each host that passes a test is listed once
pub picked_once : (h : HostId) (test : Bool) (v : ℕ) (pick : ℕ → Bool) (n : ℕ) → h.0 < n → as_often h test v (picked 0 n pick) ≡ word_if (pick h.0 && test) v
picked_once h test v pick n lt = picked_from h test v pick 0 n (omega arith) (omega (arith, lt))
