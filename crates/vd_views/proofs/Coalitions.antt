-- Hosts inside and outside a coalition.
use Rattle.std.proofs.Common.{◌≡◌, ◌≢◌, ℕ, nat_eq, Bool, true, false, List, [], ◌∷◌, ◌⊎◌, inl, inr, refl, sym, subst, ◌∙◌}
use Rattle.std.proofs.lemmas.Bool.{eq-eqb}
use Rattle.std.proofs.lemmas.Bool.Decides.{eqb_tells}
use Rattle.vd_execution.specs.Joint.{Part, TakesPart}
use Rattle.vd_execution.specs.Gadgets.{Sharing, BySums, ByXors, source_of}
use Rattle.vd_views.specs.Views.{Coalition, IsIn, IsOut, alone, Concerns}
use Rattle.vd_views.specs.Hiding.{IsWithout}

pub in_or_out : (K : Coalition) (h : ℕ) → IsIn K h ⊎ IsOut K h
in_or_out K h = at (K h) refl
  where
    at : (b : Bool) → K h ≡ b → IsIn K h ⊎ IsOut K h
    at true e = inl e
    at false e = inr e

pub never_both : {X : Type 0} (K : Coalition) (h : ℕ) → IsIn K h → IsOut K h → X
never_both K h i o = let no : true ≡ false = sym i ∙ o in cc

pub differ : (K : Coalition) (h k : ℕ) → IsIn K h → IsOut K k → h ≢ k
differ K h k i o e = let P : ℕ → Type 0 = λ x. IsIn K x in never_both K k (subst P e i) o

pub in_at : (K : Coalition) (b h : ℕ) → b ≡ h → IsIn K h → IsIn K b
in_at K b h e i = let P : ℕ → Type 0 = λ x. IsIn K x in subst P (sym e) i

pub concerns_or_not : (ps : List Part) (K : Coalition) → Concerns ps K ⊎ (Concerns ps K → ⊥)
concerns_or_not [] K = inr (λ c. c.1.1)
concerns_or_not (p ∷ ps) K = at (in_or_out K p.0) (concerns_or_not ps K)
  where
    split : IsOut K p.0 → (Concerns ps K → ⊥) → (h : ℕ) → IsIn K h → (h ≡ p.0) ⊎ TakesPart ps h → ⊥
    split o n h i (inl e) = differ K h p.0 i o e
    split o n h i (inr q) = n (h, (i, q))

    at : IsIn K p.0 ⊎ IsOut K p.0 → Concerns ps K ⊎ (Concerns ps K → ⊥) → Concerns (p ∷ ps) K ⊎ (Concerns (p ∷ ps) K → ⊥)
    at (inl i) x = inl (p.0, (i, inl refl))
    at (inr o) (inl c) = inl (c.0, (c.1.0, inr c.1.1))
    at (inr o) (inr n) = inr (λ c. split o n c.0 c.1.0 c.1.1)

-- where no host of the coalition takes part, all that do are outside
pub all_outside : (ps : List Part) (K : Coalition) → (Concerns ps K → ⊥) → (k : ℕ) → TakesPart ps k → IsOut K k
all_outside ps K none k q = at (in_or_out K k)
  where
    at : IsIn K k ⊎ IsOut K k → IsOut K k
    at (inl i) = absurd (none (k, (i, q)))
    at (inr o) = o

pub without_source : (K : Coalition) (sharing : Sharing) (h : ℕ) → IsOut K h → IsWithout K (source_of sharing h)
without_source K BySums h o = o
without_source K ByXors h o = o

pub without_peer : (K : Coalition) (sharing : Sharing) (h : ℕ) → IsIn K h → IsWithout K (source_of sharing h) → ⊥
without_peer K BySums h i o = never_both K h i o
without_peer K ByXors h i o = never_both K h i o

-- ---- one host alone

pub is_alone : (h : ℕ) → IsIn (alone h) h
is_alone h = eq-eqb h h refl

pub alone_is : (h g : ℕ) → IsIn (alone h) g → g ≡ h
alone_is h g i = at (eqb_tells g h)
  where
    at : ((nat_eq g h ≡ true) × (g ≡ h)) ⊎ ((nat_eq g h ≡ false) × (g ≢ h)) → g ≡ h
    at (inl e) = e.1
    at (inr n) = never_both (alone h) g i n.0

-- what holds of the host holds of each in the coalition
pub of_alone : (h : ℕ) (P : ℕ → Type 0) → P h → (g : ℕ) → IsIn (alone h) g → P g
of_alone h P p g i = subst P (sym (alone_is h g i)) p
