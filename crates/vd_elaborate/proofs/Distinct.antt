-- Names that are declared one after another are distinct.
use Rattle.std.proofs.Common.{◌≡◌, ℕ, suc, ◌<◌, true, false, ◌||◌, true≢false, List, [], ◌∷◌, ◌++◌, length, map, append_assoc, append-nil, Some, None, is_some, Ok, refl, sym, ap, ◌∙◌, subst, if◌then◌else◌, bytes_eq, arith}
use Rattle.std.specs.List.{AllByRecursion, IsDistinct}
use Rattle.vd_base.specs.Names.{at_name, is_among, place_of}
use Rattle.vd_core.specs.declared.source.Ident.{Ident}
use Rattle.vd_resolve.specs.Rules.{Names, declared, distinct}
use Rattle.vd_elaborate.proofs.AnfWellformedSteps.{passed, declared_is, ok_is}

abbrev pub tagged : List (List ℕ) → Names
tagged ns = map (λ n. (n, tt)) ns

abbrev pub idents : List Ident → List (List ℕ)
idents xs = map (λ x. x.name) xs

pub among_is : (ns : List (List ℕ)) (x : List ℕ) → is_some (at_name (tagged ns) x) ≡ is_among ns x
among_is [] x = refl
among_is (n ∷ ns) x =
    elim (bytes_eq n x) as (λ b. is_some (if b then Some tt else at_name (tagged ns) x) ≡ (b || is_among ns x)) [
      | true ↦ refl
      | false ↦ among_is ns x
    ]

pub place_below : (ns : List (List ℕ)) (x : List ℕ) → is_some (at_name (tagged ns) x) ≡ true → place_of ns x < length ns
place_below [] x h = absurd (true≢false (sym h))
place_below (n ∷ ns) x h =
    (elim (bytes_eq n x) as (λ b. is_some (if b then Some tt else at_name (tagged ns) x) ≡ true → (if b then 0 else suc (place_of ns x)) < suc (length ns)) [
      | true ↦ λ h. omega arith
      | false ↦ λ h. let below = place_below ns x h in omega arith
    ]) h

distinct_after : (before after : Names) (xs : List Ident) → distinct before xs ≡ Ok after → after ≡ before ++ tagged (idents xs)
distinct_after before after [] p = sym (ok_is before after p) ∙ sym (append-nil before)
distinct_after before after (x ∷ xs) p =
    let s = passed (declared x tt before) (λ next. distinct next xs) after p in
    let d = declared_is x tt before s.0 s.1 in
    distinct_after s.0 after xs s.2 ∙ ap (λ z. z ++ tagged (idents xs)) d.1 ∙ append_assoc before ((x.name, tt) ∷ []) (tagged (idents xs))

-- a name that is not in sight is none of those in sight
abbrev Apart : List ℕ → Names → Type 0
Apart k before = (y : List ℕ) → is_some (at_name before y) ≡ false → bytes_eq k y ≡ false

push_none : (before : Names) (k y : List ℕ) → is_some (at_name (before ++ (k, tt) ∷ []) y) ≡ false → (is_some (at_name before y) ≡ false) × (bytes_eq k y ≡ false)
push_none [] k y h =
    (elim (bytes_eq k y) as (λ b. is_some {T = Unit {0}} (if b then Some tt else None) ≡ false → (false ≡ false) × (b ≡ false)) [
      | true ↦ λ h. absurd (true≢false h)
      | false ↦ λ h. (refl, refl)
    ]) h
push_none (e ∷ es) k y h =
    (elim (bytes_eq e.0 y) as (λ b. is_some (if b then Some e.1 else at_name (es ++ (k, tt) ∷ []) y) ≡ false → (is_some (if b then Some e.1 else at_name es y) ≡ false) × (bytes_eq k y ≡ false)) [
      | true ↦ λ h. absurd (true≢false h)
      | false ↦ λ h. push_none es k y h
    ]) h

apart_from : (k : List ℕ) (before after : Names) (xs : List Ident) → Apart k before → distinct before xs ≡ Ok after → AllByRecursion (λ y. bytes_eq k y ≡ false) (idents xs)
apart_from k before after [] h p = tt
apart_from k before after (x ∷ xs) h p =
    let s = passed (declared x tt before) (λ next. distinct next xs) after p in
    let d = declared_is x tt before s.0 s.1 in
    (h x.name d.0, apart_from k s.0 after xs (subst (Apart k) (sym d.1) (λ y none. h y (push_none before x.name y none).0)) s.2)

pub all_distinct : (before after : Names) (xs : List Ident) → distinct before xs ≡ Ok after → IsDistinct bytes_eq (idents xs)
unfolding IsDistinct
all_distinct before after [] p = tt
all_distinct before after (x ∷ xs) p =
    let s = passed (declared x tt before) (λ next. distinct next xs) after p in
    let d = declared_is x tt before s.0 s.1 in
    (apart_from x.name s.0 after xs (subst (Apart x.name) (sym d.1) (λ y none. (push_none before x.name y none).1)) s.2, all_distinct s.0 after xs s.2)

pub declared_names : (xs : List Ident) (after : Names) → distinct [] xs ≡ Ok after → after ≡ tagged (idents xs)
declared_names xs after p = distinct_after [] after xs p
