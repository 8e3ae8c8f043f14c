-- Lists by place that a loop makes or changes.
use Rattle.std.proofs.Common.{◌≡◌, ◌≢◌, ℕ, zero, suc, ◌<◌, List, [], ◌∷◌, length, get_or, set, replicate, refl, sym, ap, ◌∙◌, subst, arith, inl, inr}
use Rattle.std.proofs.lemmas.Bool.{cases_eq}
use Rattle.std.proofs.lemmas.List.{length-set, get_or-set_same, get_or-set_other, length-replicate, get_or-replicate}
use Rattle.std.proofs.lemmas.List.FromFn.{fill_by_all}
use Rattle.vd_space_prefix.specs.Transfers.{by_place}
use Rattle.vd_space_prefix.proofs.Front.{size_by_place, at_place}

pub get_or_any : {X : Type 0} (xs : List X) (i : ℕ) (d e : X) → i < length xs → get_or xs i d ≡ get_or xs i e
get_or_any [] i d e low = absurd (omega arith)
get_or_any (x ∷ xs) zero d e low = refl
get_or_any (x ∷ xs) (suc i) d e low = get_or_any xs i d e (omega arith)

pub same_by_place : {X : Type 0} (n : ℕ) (f g : ℕ → X) → ((k : ℕ) → k < n → f k ≡ g k) → by_place n f ≡ by_place n g
same_by_place n f g same = fill_by_all g (by_place n f) n (f 0) (size_by_place n f) (λ k low. at_place n f k (f 0) low ∙ same k low)

pub same_everywhere : {X : Type 0} (n : ℕ) (x : X) → replicate n x ≡ by_place n (λ k. x)
same_everywhere n x = fill_by_all (λ k. x) (replicate n x) n x (length-replicate n x) (λ k low. get_or-replicate n k x x low)

pub set_by_place : {X : Type 0} (n : ℕ) (f g : ℕ → X) (at : ℕ) (item : X) → at < n → item ≡ g at → ((k : ℕ) → k < n → k ≢ at → f k ≡ g k) → set (by_place n f) at item ≡ by_place n g
set_by_place n f g at item low here others =
    fill_by_all g (set (by_place n f) at item) n (f 0) (length-set (by_place n f) at item ∙ size_by_place n f)
    (λ k low_k. elim (cases_eq k at) [
      | inl same ↦
          ap (λ j. get_or (set (by_place n f) at item) j (f 0)) same
          ∙ get_or-set_same (by_place n f) at item (f 0) (subst (λ m. at < m) (sym (size_by_place n f)) low)
          ∙ here
          ∙ ap g (sym same)
      | inr other ↦ get_or-set_other (by_place n f) at k item (f 0) other ∙ at_place n f k (f 0) low_k ∙ others k low_k other
    ])
