-- Those of the first hosts that pass a test, one at a time.
use Rattle.std.proofs.Common.{◌≡◌, ℕ, zero, suc, ◌+◌, ◌-◌, ◌<◌, ◌≤◌, Bool, true, false, ◌||◌, if◌then◌else◌, List, [], ◌∷◌, ◌++◌, length, sym, ap, ◌∙◌, subst, arith, append_assoc}
use Rattle.std.specs.List.{list_any}
use Rattle.vd_base.specs.declared.ids.HostId.{HostId}
use Rattle.vd_base.specs.HostSets.{host}
use Rattle.vd_duet.specs.Laws.{Each}
use Rattle.vd_split.specs.Suite.{picked}

pub picked_none : (from : ℕ) (test : ℕ → Bool) (n : ℕ) → n ≤ from → picked from (n - from) test ≡ []
picked_none from test n le = ap (λ k. picked from k test) (gone n from le)
  where
    gone : (n from : ℕ) → n ≤ from → n - from ≡ 0
    gone n from le = omega arith

picked_more : (from : ℕ) (test : ℕ → Bool) (n : ℕ) → from < n
    → picked from (n - from) test ≡ (if test from then host from ∷ picked (from + 1) (n - (from + 1)) test else picked (from + 1) (n - (from + 1)) test)
picked_more from test n lt = ap (λ k. picked from k test) (one n from lt)
  where
    one : (n from : ℕ) → from < n → n - from ≡ suc (n - (from + 1))
    one n from lt = omega arith

pub picked_yes : (test : ℕ → Bool) (from n : ℕ) (hosts goal : List HostId) → from < n → test from ≡ true → hosts ++ picked from (n - from) test ≡ goal → (hosts ++ host from ∷ []) ++ picked (from + 1) (n - (from + 1)) test ≡ goal
picked_yes test from n hosts goal lt t e =
    append_assoc hosts (host from ∷ []) (picked (from + 1) (n - (from + 1)) test)
    ∙ ap (λ (l : List HostId). hosts ++ l) (sym (picked_more from test n lt ∙ ap (λ (b : Bool). if b then host from ∷ picked (from + 1) (n - (from + 1)) test else picked (from + 1) (n - (from + 1)) test) t)) ∙ e

pub picked_no : (test : ℕ → Bool) (from n : ℕ) (hosts goal : List HostId) → from < n → test from ≡ false → hosts ++ picked from (n - from) test ≡ goal → hosts ++ picked (from + 1) (n - (from + 1)) test ≡ goal
picked_no test from n hosts goal lt t e =
    ap (λ (l : List HostId). hosts ++ l) (sym (picked_more from test n lt ∙ ap (λ (b : Bool). if b then host from ∷ picked (from + 1) (n - (from + 1)) test else picked (from + 1) (n - (from + 1)) test) t)) ∙ e

-- some host of those that are picked passes
at_picked : (f : HostId → Bool) (test : ℕ → Bool) (from n : ℕ) (b : Bool) → from < n → test from ≡ b
    → list_any f (picked from (n - from) test) ≡ list_any f (if b then host from ∷ picked (from + 1) (n - (from + 1)) test else picked (from + 1) (n - (from + 1)) test)
at_picked f test from n b lt t = ap (list_any f) (picked_more from test n lt ∙ ap (λ (b : Bool). if b then host from ∷ picked (from + 1) (n - (from + 1)) test else picked (from + 1) (n - (from + 1)) test) t)

pub any_none : (f : HostId → Bool) (test : ℕ → Bool) (from n : ℕ) (goal : Bool) → n ≤ from → list_any f (picked from (n - from) test) ≡ goal → false ≡ goal
any_none f test from n goal le e = sym (ap (list_any f) (picked_none from test n le)) ∙ e

pub any_here : (f : HostId → Bool) (test : ℕ → Bool) (from n : ℕ) (goal : Bool) → from < n → test from ≡ true → f (host from) ≡ true → list_any f (picked from (n - from) test) ≡ goal → true ≡ goal
any_here f test from n goal lt t is e = sym (at_picked f test from n true lt t ∙ ap (λ (b : Bool). b || list_any f (picked (from + 1) (n - (from + 1)) test)) is) ∙ e

pub any_absent : (f : HostId → Bool) (test : ℕ → Bool) (from n : ℕ) (goal : Bool) → from < n → test from ≡ false → list_any f (picked from (n - from) test) ≡ goal → list_any f (picked (from + 1) (n - (from + 1)) test) ≡ goal
any_absent f test from n goal lt t e = sym (at_picked f test from n false lt t) ∙ e

pub any_fails : (f : HostId → Bool) (test : ℕ → Bool) (from n : ℕ) (goal : Bool) → from < n → test from ≡ true → f (host from) ≡ false → list_any f (picked from (n - from) test) ≡ goal → list_any f (picked (from + 1) (n - (from + 1)) test) ≡ goal
any_fails f test from n goal lt t is e = sym (at_picked f test from n true lt t ∙ ap (λ (b : Bool). b || list_any f (picked (from + 1) (n - (from + 1)) test)) is) ∙ e

-- they are hosts that are there, and at most as many
pub picked_below : (test : ℕ → Bool) (from n : ℕ) → Each (λ h. h.0 < from + n) (picked from n test)
picked_below test from zero = tt
picked_below test from (suc n) = at (test from) (subst (λ m. Each (λ h. h.0 < m) (picked (from + 1) n test)) (later from n) (picked_below test (from + 1) n))
  where
    later : (from n : ℕ) → from + 1 + n ≡ from + suc n
    later from n = omega arith

    here : (from n : ℕ) → from < from + suc n
    here from n = omega arith

    at : (b : Bool) → Each (λ h. h.0 < from + suc n) (picked (from + 1) n test)
        → Each (λ h. h.0 < from + suc n) (if b then host from ∷ picked (from + 1) n test else picked (from + 1) n test)
    at true rest = (here from n, rest)
    at false rest = rest

pub picked_few : (test : ℕ → Bool) (from n : ℕ) → length (picked from n test) ≤ n
picked_few test from zero = omega arith
picked_few test from (suc n) = at (test from) (picked_few test (from + 1) n)
  where
    at : (b : Bool) → length (picked (from + 1) n test) ≤ n
        → length (if b then host from ∷ picked (from + 1) n test else picked (from + 1) n test) ≤ suc n
    at true e = omega (arith, e)
    at false e = omega (arith, e)

pub hosts_below : (test : ℕ → Bool) (n : ℕ) (hs : List HostId) → hs ≡ picked 0 n test → Each (λ h. h.0 < n) hs
hosts_below test n hs e = subst (λ (m : ℕ). Each (λ h. h.0 < m) hs) (none n) (subst (λ (l : List HostId). Each (λ h. h.0 < 0 + n) l) (sym e) (picked_below test 0 n))
  where
    none : (n : ℕ) → 0 + n ≡ n
    none n = omega arith

pub hosts_few : (test : ℕ → Bool) (n most : ℕ) (hs : List HostId) → hs ≡ picked 0 n test → n ≤ most → length hs ≤ most
hosts_few test n most hs e le = let few = subst (λ (l : List HostId). length l ≤ n) (sym e) (picked_few test 0 n) in omega (arith, few)
