-- Lists that a loop fills from a function of the place.
use Rattle.std.proofs.Common.{◌≡◌, ℕ, ◌+◌, List, [], ◌∷◌, ◌++◌, sym, ap, ap₂, ◌∙◌, arith, ℤ, to_z, of_z, w64}
use Rattle.std.proofs.lemmas.Int.{to_z-of_z}
use mir.Val.{SFits}
use Rattle.std.proofs.lemmas.List.FromFn.{map-range_with_len_more}
use Rattle.vd_space_prefix.specs.Transfers.{by_place}

pub grows : {X : Type 0} (f : ℕ → X) (n : ℕ) (items more : List X) (item : X) → items ≡ by_place n f → item ≡ f n → more ≡ items ++ item ∷ [] → more ≡ by_place (n + 1) f
grows f n items more item so_far is pushed = pushed ∙ ap₂ (λ front last. front ++ last ∷ []) so_far is ∙ sym (map-range_with_len_more f 0 n n (omega arith))

-- of signed numbers of 64 bits
pub grows_z : (f : ℕ → ℤ) (n : ℕ) (items more : List ℤ) (item : ℤ) → items ≡ by_place n f → item ≡ f n → SFits w64 item → more ≡ items ++ to_z w64 (of_z w64 item) ∷ [] → more ≡ by_place (n + 1) f
grows_z f n items more item so_far is fits pushed = grows f n items more item so_far is (pushed ∙ ap (λ z. items ++ z ∷ []) (to_z-of_z w64 item fits))
