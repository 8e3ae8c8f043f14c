-- Two lists of names, in which equal names stand beside each other.
use Rattle.std.proofs.Common.{◌≡◌, true, false, if◌then◌else◌, ℕ, List, [], ◌∷◌, ◌++◌, Option, Some, None, refl, ap, subst, bytes_eq}
use Rattle.vd_base.specs.Names.{Named, at_name}

abbrev from_some : {A : Type 0} → A → Option A → A
from_some d None = d
from_some d (Some a) = a

some_is : {A : Type 0} (a b : A) → Some a ≡ Some b → a ≡ b
some_is a b e = ap (from_some b) e

none_is : {A : Type 0} (a : A) → None ≡ Some a → ⊥
none_is a e = cc

module _ {A B : Type 0} (Fits : A → B → Type 0) where
  -- what stands beside each other fits
  abbrev pub Beside : Named A → Named B → Type 0
  Beside [] [] = Unit {0}
  Beside [] (q ∷ qs) = ⊥
  Beside (p ∷ ps) [] = ⊥
  Beside (p ∷ ps) (q ∷ qs) = (p.0 ≡ q.0) × Fits p.1 q.1 × Beside ps qs

  -- what a name stands for in both
  abbrev pub Found : Named B → List ℕ → A → Type 0
  Found qs x a = (b : B) × (at_name qs x ≡ Some b) × Fits a b

  pub look_up : (ps : Named A) (qs : Named B) (x : List ℕ) (a : A) → Beside ps qs → at_name ps x ≡ Some a → Found qs x a
  look_up [] [] x a h e = absurd (none_is a e)
  look_up [] (q ∷ qs) x a h e = absurd h
  look_up (p ∷ ps) [] x a h e = absurd h
  look_up (p ∷ ps) (q ∷ qs) x a h e =
      subst (λ (n : List ℕ). (b : B) × ((if bytes_eq n x then Some q.1 else at_name qs x) ≡ Some b) × Fits a b) h.0
      ((elim (bytes_eq p.0 x) as (λ c. (if c then Some p.1 else at_name ps x) ≡ Some a → (b : B) × ((if c then Some q.1 else at_name qs x) ≡ Some b) × Fits a b) [
        | true ↦ λ e. (q.1, refl, subst (λ (z : A). Fits z q.1) (some_is p.1 a e) h.1)
        | false ↦ λ e. look_up ps qs x a h.2 e
      ]) e)

  pub push_beside : (ps : Named A) (qs : Named B) (x : List ℕ) (a : A) (b : B) → Beside ps qs → Fits a b → Beside (ps ++ (x, a) ∷ []) (qs ++ (x, b) ∷ [])
  push_beside [] [] x a b h f = (refl, f, tt)
  push_beside [] (q ∷ qs) x a b h f = absurd h
  push_beside (p ∷ ps) [] x a b h f = absurd h
  push_beside (p ∷ ps) (q ∷ qs) x a b h f = (h.0, h.1, push_beside ps qs x a b h.2 f)

pub stay_beside : {A B : Type 0} (Fits Fits' : A → B → Type 0) → ((a : A) (b : B) → Fits a b → Fits' a b) → (ps : Named A) (qs : Named B) → Beside Fits ps qs → Beside Fits' ps qs
stay_beside Fits Fits' keeps [] [] h = tt
stay_beside Fits Fits' keeps [] (q ∷ qs) h = h
stay_beside Fits Fits' keeps (p ∷ ps) [] h = h
stay_beside Fits Fits' keeps (p ∷ ps) (q ∷ qs) h = (h.0, keeps p.1 q.1 h.1, stay_beside Fits Fits' keeps ps qs h.2)
