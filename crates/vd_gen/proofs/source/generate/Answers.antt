use Rattle.std.proofs.Common.{◌≡◌, ℕ, zero, suc, ◌+◌, ◌++◌, [], ◌∷◌, List, refl, ap, sym, ◌∙◌, subst, append_assoc, append-nil, add-one, arith}
use Rattle.std.specs.Prelude.{flat_map}
use Rattle.std.specs.List.{range_with_len}
use Rattle.std.proofs.lemmas.Grind.{flat_map-append}
use Rattle.vd_gen.specs.Source.{coordinate, head}
use Rattle.vd_gen.proofs.source.generate.Goals as goal

range_more : (a n : ℕ) → range_with_len a (suc n) ≡ range_with_len a n ++ (a + n) ∷ []
range_more a zero = let same : a ≡ a + 0 = omega arith in ap (λ k. k ∷ []) same
range_more a (suc n) =
    let same : a + 1 + n ≡ a + suc n = omega arith in
    ap (λ xs. a ∷ xs) (range_more (a + 1) n ∙ ap (λ k. range_with_len (a + 1) n ++ k ∷ []) same)

coordinates_more : (n : ℕ) → flat_map coordinate (range_with_len 0 (n + 1)) ≡ flat_map coordinate (range_with_len 0 n) ++ coordinate n
coordinates_more n =
    let same : 0 + n ≡ n = omega arith in
    ap (λ k. flat_map coordinate (range_with_len 0 k)) (add-one n) ∙ ap (flat_map coordinate) (range_more 0 n ∙ ap (λ k. range_with_len 0 n ++ k ∷ []) same)
    ∙ flat_map-append coordinate (range_with_len 0 n) (n ∷ []) ∙ ap (λ text. flat_map coordinate (range_with_len 0 n) ++ text) (append-nil (coordinate n))

pub loop-number-preserved : goal.loop-number-preserved
loop-number-preserved c =
    let n = c.loop-number.number in
    c.in_ok-push_coordinate.ensures ∙ ap (λ text. text ++ coordinate n) c.loop-number.invariant
    ∙ append_assoc head (flat_map coordinate (range_with_len 0 n)) (coordinate n) ∙ ap (λ text. head ++ text) (sym (coordinates_more n))
