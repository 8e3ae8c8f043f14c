-- Whether a member of a set passes a test, by numbers.
use Rattle.std.proofs.Common.{◌≡◌, ℕ, zero, suc, ◌+◌, ◌-◌, ◌<◌, Bool, true, false, ◌||◌, cond, List, [], ◌∷◌, ◌++◌, refl, ap, subst, ◌∙◌, arith}
use Rattle.std.specs.Prelude.{filter}
use Rattle.std.specs.List.{list_any}
use Rattle.std.proofs.lemmas.List.FromFn.{filter_of_map_range_with_len_more}
use Rattle.vd_base.specs.declared.ids.HostId.{HostId}
use Rattle.vd_base.specs.HostSets.{host, hosts}
use Rattle.vd_split.proofs.Front.{or_left, or_right}

module _ (p test : HostId → Bool) where
  abbrev any_of : ℕ → Bool
  any_of n = list_any test (filter p (hosts n))

  any_append : (xs ys : List HostId) → list_any test (xs ++ ys) ≡ (list_any test xs || list_any test ys)
  any_append [] ys = refl
  any_append (x ∷ xs) ys = at (test x) (any_append xs ys)
    where
      at : (b : Bool) → list_any test (xs ++ ys) ≡ (list_any test xs || list_any test ys) → (b || list_any test (xs ++ ys)) ≡ ((b || list_any test xs) || list_any test ys)
      at true e = refl
      at false e = e

  any_more : (n : ℕ) → any_of (n + 1) ≡ (any_of n || list_any test (cond (p (host n)) (host n ∷ []) []))
  any_more n =
      ap (list_any test) (filter_of_map_range_with_len_more p host 0 n n (omega arith))
      ∙ any_append (filter p (hosts n)) (cond (p (host n)) (host n ∷ []) [])

  -- it is no member, or it does not pass
  none_more : (n : ℕ) → any_of n ≡ false → list_any test (cond (p (host n)) (host n ∷ []) []) ≡ false → any_of (n + 1) ≡ false
  none_more n e f = any_more n ∙ ap (λ (b : Bool). b || list_any test (cond (p (host n)) (host n ∷ []) [])) e ∙ f

  pub passed_over : (n : ℕ) → any_of n ≡ false → p (host n) ≡ false → any_of (n + 1) ≡ false
  passed_over n e f = none_more n e (ap (λ (b : Bool). list_any test (cond b (host n ∷ []) [])) f)

  pub failed : (n : ℕ) → any_of n ≡ false → test (host n) ≡ false → any_of (n + 1) ≡ false
  failed n e f = none_more n e (at (p (host n)))
    where
      at : (b : Bool) → list_any test (cond b (host n ∷ []) []) ≡ false
      at true = ap (λ (z : Bool). z || false) f
      at false = refl

  found_here : (n : ℕ) → p (host n) ≡ true → test (host n) ≡ true → any_of (n + 1) ≡ true
  found_here n e f =
      any_more n
      ∙ or_right (any_of n) (list_any test (cond (p (host n)) (host n ∷ []) []))
      (ap (λ (b : Bool). list_any test (cond b (host n ∷ []) [])) e ∙ ap (λ (z : Bool). z || false) f)

  later : (n k : ℕ) → any_of n ≡ true → any_of (n + k) ≡ true
  later n zero e = subst (λ (m : ℕ). any_of m ≡ true) (same n) e
    where
      same : (n : ℕ) → n ≡ n + 0
      same n = omega arith
  later n (suc k) e =
      subst (λ (m : ℕ). any_of m ≡ true) (next n k)
      (any_more (n + k) ∙ or_left (any_of (n + k)) (list_any test (cond (p (host (n + k))) (host (n + k) ∷ []) [])) (later n k e))
    where
      next : (n k : ℕ) → n + k + 1 ≡ n + suc k
      next n k = omega arith

  pub found : (n : ℕ) → n < 8 → p (host n) ≡ true → test (host n) ≡ true → any_of 8 ≡ true
  found n low e f = subst (λ (m : ℕ). any_of m ≡ true) (there n low) (later (n + 1) (7 - n) (found_here n e f))
    where
      there : (n : ℕ) → n < 8 → n + 1 + (7 - n) ≡ 8
      there n low = omega arith
