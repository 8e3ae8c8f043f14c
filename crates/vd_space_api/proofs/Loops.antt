-- Loops that fill a list by place, or from each item of another.
use Rattle.std.proofs.Common.{◌≡◌, ℕ, ◌+◌, List, [], ◌∷◌, ◌++◌, sym, ap₂, ◌∙◌, arith}
use Rattle.std.proofs.lemmas.List.FromFn.{map-range_with_len_more}
use Rattle.vd_space_api.specs.Rows.{by_place}

pub grows : {X : Type 0} (f : ℕ → X) (n : ℕ) (items more : List X) (item : X) → items ≡ by_place n f → item ≡ f n → more ≡ items ++ item ∷ [] → more ≡ by_place (n + 1) f
grows f n items more item so_far is pushed = pushed ∙ ap₂ (λ front last. front ++ last ∷ []) so_far is ∙ sym (map-range_with_len_more f 0 n n (omega arith))
