-- Lists that grow in loops.
use Rattle.std.proofs.Common.{arith, ◌≡◌, ◌+◌, ℕ, List, [], ◌∷◌, ◌++◌, map, add-one, append_assoc, sym, ap, ap₂, ◌∙◌}
use Rattle.std.specs.List.{range_with_len}
use Rattle.std.proofs.lemmas.List.FromFn.{map-range_with_len_more}
use Rattle.vd_cmd_run.specs.CommandLines.{meeting, meetings}

-- one more of a function's values
pub grows : {X : Type 0} (f : ℕ → X) (n : ℕ) (items more : List X) (item : X) → items ≡ map f (range_with_len 0 n) → item ≡ f n → more ≡ items ++ item ∷ [] → more ≡ map f (range_with_len 0 (n + 1))
grows f n items more item so_far is pushed = pushed ∙ ap₂ (λ front last. front ++ last ∷ []) so_far is ∙ sym (map-range_with_len_more f 0 n n (omega arith))

-- the addresses with one host more
pub meetings_more : (port me peer : ℕ) (first words more : List (List ℕ)) → words ≡ first ++ meetings port me peer → more ≡ words ++ meeting port me peer → more ≡ first ++ meetings port me (peer + 1)
meetings_more port me peer first words more so_far added =
    added ∙ ap (λ (l : List (List ℕ)). l ++ meeting port me peer) so_far ∙ append_assoc first (meetings port me peer) (meeting port me peer)
    ∙ ap (λ (n : ℕ). first ++ meetings port me n) (sym (add-one peer))
