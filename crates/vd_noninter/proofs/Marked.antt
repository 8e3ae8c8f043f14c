-- Sets of numbers, by marks.
use Rattle.std.proofs.Common.{◌≡◌, ℕ, zero, suc, ◌<◌, Bool, true, false, ◌||◌, List, [], ◌∷◌, ◌++◌, length, refl, sym, ap, ◌∙◌, subst, nat_eq, inl, inr}
use Rattle.std.specs.Prelude.{slice_set, slice_index_or}
use Rattle.std.proofs.lemmas.List.{get_or-set_same, get_or-set_other}
use Rattle.std.proofs.lemmas.Bool.{cases_eq, eq-eqb, ne_eqb}

-- one mark more that is none
pub false_more : (marks : List Bool) (k : ℕ) → slice_index_or (marks ++ false ∷ []) k false ≡ slice_index_or marks k false
false_more [] zero = refl
false_more [] (suc k) = refl
false_more (m ∷ marks) zero = refl
false_more (m ∷ marks) (suc k) = false_more marks k

pub marked : (marks : List Bool) (at k : ℕ) → at < length marks → slice_index_or (slice_set marks at true) k false ≡ (nat_eq k at || slice_index_or marks k false)
marked marks at k low = elim (cases_eq k at) [
  | inl same ↦
      subst (λ j. slice_index_or (slice_set marks at true) j false ≡ (nat_eq j at || slice_index_or marks j false)) (sym same)
      (get_or-set_same marks at true false low ∙ sym (ap (λ b. b || slice_index_or marks at false) (eq-eqb at at refl)))
  | inr differs ↦ get_or-set_other marks at k true false differs ∙ sym (ap (λ b. b || slice_index_or marks k false) (ne_eqb k at differs))
]
