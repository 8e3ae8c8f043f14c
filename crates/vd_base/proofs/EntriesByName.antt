-- Entries found by name.
use Rattle.std.proofs.Common.{◌≡◌, ℕ, zero, suc, ◌+◌, ◌<◌, ◌≤◌, true, false, List, [], ◌∷◌, ◌++◌, length, get_or, take, set, Some, None, refl, sym, ap, ◌∙◌, suc-add, take_all, arith, if◌then◌else◌, bytes_eq}
use Rattle.vd_base.specs.Names.{Named, at_name, changed}

some_none : {A : Type 0} (a : A) → Some a ≡ None → ⊥
some_none a e = cc

get_same : {X : Type 0} (xs : List X) (k : ℕ) (d d' : X) → k < length xs → get_or xs k d ≡ get_or xs k d'
get_same [] k d d' lt = absurd (omega arith)
get_same (x ∷ xs) zero d d' lt = refl
get_same (x ∷ xs) (suc k) d d' lt = get_same xs k d d' (omega arith)

-- behind entries without the name
pub at_append : {A : Type 0} (xs ys : Named A) (x : List ℕ) → at_name xs x ≡ None → at_name (xs ++ ys) x ≡ at_name ys x
at_append [] ys x none = refl
at_append (e ∷ xs) ys x none =
    (elim (bytes_eq e.0 x) as (λ b. (if b then Some e.1 else at_name xs x) ≡ None → (if b then Some e.1 else at_name (xs ++ ys) x) ≡ at_name ys x) [
      | true ↦ λ none. absurd (some_none e.1 none)
      | false ↦ λ none. at_append xs ys x none
    ]) none

module _ {A : Type 0} where
  found_at : (es : Named A) (k : ℕ) (d : List ℕ × A) (x : List ℕ) → k < length es → at_name (take k es) x ≡ None → bytes_eq (get_or es k d).0 x ≡ true
      → Some (get_or es k d).1 ≡ at_name es x
  found_at [] k d x lt none is = absurd (omega arith)
  found_at (g ∷ es) zero d x lt none is = rw is refl
  found_at (g ∷ es) (suc k) d x lt none is =
      (elim (bytes_eq g.0 x) as (λ b. (if b then Some g.1 else at_name (take k es) x) ≡ None → Some (get_or es k d).1 ≡ (if b then Some g.1 else at_name es x)) [
        | true ↦ λ none. absurd (some_none g.1 none)
        | false ↦ λ none. found_at es k d x (omega arith) none is
      ]) none

  changed_at : (es : Named A) (k : ℕ) (d : List ℕ × A) (name : List ℕ) (a : A) (f : A → A) (x : List ℕ) → k < length es → at_name (take k es) x ≡ None → bytes_eq (get_or es k d).0 x ≡ true
      → name ≡ (get_or es k d).0 → a ≡ f (get_or es k d).1 → set es k (name, a) ≡ changed f x es
  changed_at [] k d name a f x lt none is n h = absurd (omega arith)
  changed_at (g ∷ es) zero d name a f x lt none is n h = rw (is, n, h) refl
  changed_at (g ∷ es) (suc k) d name a f x lt none is n h =
      (elim (bytes_eq g.0 x) as (λ b. (if b then Some g.1 else at_name (take k es) x) ≡ None → g ∷ set es k (name, a) ≡ (if b then (g.0, f g.1) ∷ es else g ∷ changed f x es)) [
        | true ↦ λ none. absurd (some_none g.1 none)
        | false ↦ λ none. rw (changed_at es k d name a f x (omega arith) none is n h) refl
      ]) none

  -- no entry has the name
  pub changed_none : (es : Named A) (f : A → A) (x : List ℕ) → at_name es x ≡ None → changed f x es ≡ es
  changed_none [] f x none = refl
  changed_none (g ∷ es) f x none =
      (elim (bytes_eq g.0 x) as (λ b. (if b then Some g.1 else at_name es x) ≡ None → (if b then (g.0, f g.1) ∷ es else g ∷ changed f x es) ≡ g ∷ es) [
        | true ↦ λ none. absurd (some_none g.1 none)
        | false ↦ λ none. rw (changed_none es f x none) refl
      ]) none

  -- the first entry with the name is at k: g is the entry that was looked at, and h the one that is changed
  pub found_here : (es : Named A) (k : ℕ) (g h : List ℕ × A) (x : List ℕ) → k < length es → at_name (take k es) x ≡ None → g ≡ get_or es k g → h ≡ get_or es k h → bytes_eq g.0 x ≡ true
      → Some h.1 ≡ at_name es x
  found_here es k g h x lt none is is' eq =
      ap (λ (z : List ℕ × A). Some z.1) (is' ∙ get_same es k h g lt) ∙ found_at es k g x lt none (ap (λ (z : List ℕ × A). bytes_eq z.0 x) (sym is) ∙ eq)

  pub changed_here : (es : Named A) (k : ℕ) (g h : List ℕ × A) (a : A) (f : A → A) (x : List ℕ) → k < length es → at_name (take k es) x ≡ None → g ≡ get_or es k g → h ≡ get_or es k h → bytes_eq g.0 x ≡ true
      → a ≡ f h.1 → set es k (h.0, a) ≡ changed f x es
  changed_here es k g h a f x lt none is is' eq m =
      let same : h ≡ get_or es k g = is' ∙ get_same es k h g lt in
      changed_at es k g h.0 a f x lt none (ap (λ (z : List ℕ × A). bytes_eq z.0 x) (sym is) ∙ eq) (ap (λ (z : List ℕ × A). z.0) same) (m ∙ ap (λ (z : List ℕ × A). f z.1) same)

  take_entry : (es : Named A) (k : ℕ) (d : List ℕ × A) → k < length es → take (k + 1) es ≡ take k es ++ get_or es k d ∷ []
  take_entry [] k d lt = absurd (omega arith)
  take_entry (e ∷ es) zero d lt = refl
  take_entry (e ∷ es) (suc k) d lt = rw suc-add (ap (λ z. e ∷ z) (take_entry es k d (omega arith)))

  -- one entry more without the name
  pub not_here : (es : Named A) (k : ℕ) (g : List ℕ × A) (x : List ℕ) → k < length es → at_name (take k es) x ≡ None → g ≡ get_or es k g → bytes_eq g.0 x ≡ false → at_name (take (k + 1) es) x ≡ None
  not_here es k g x lt none is eq =
      ap (λ (z : Named A). at_name z x) (take_entry es k g lt) ∙ at_append (take k es) (get_or es k g ∷ []) x none ∙ rw (ap (λ (z : List ℕ × A). bytes_eq z.0 x) (sym is) ∙ eq) refl

  -- no entry is left
  pub nowhere : (es : Named A) (k : ℕ) (x : List ℕ) → length es ≤ k → at_name (take k es) x ≡ None → at_name es x ≡ None
  nowhere es k x le none = rw (← take_all k es le) none

  pub unchanged : (es : Named A) (k : ℕ) (f : A → A) (x : List ℕ) → length es ≤ k → at_name (take k es) x ≡ None → es ≡ changed f x es
  unchanged es k f x le none = sym (changed_none es f x (nowhere es k x le none))
