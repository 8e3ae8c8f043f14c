-- Loops that fill a list from each item of another.
use Rattle.std.proofs.Common.{◌≡◌, ℕ, ◌+◌, ◌<◌, List, [], ◌∷◌, ◌++◌, map, length, take, get_or, refl, sym, ap, ap₂, ◌∙◌}
use Rattle.std.proofs.lemmas.List.{take_more}

map_append : {X Y : Type 0} (f : X → Y) (xs ys : List X) → map f (xs ++ ys) ≡ map f xs ++ map f ys
map_append f [] ys = refl
map_append f (x ∷ xs) ys = ap (λ rest. f x ∷ rest) (map_append f xs ys)

pub mapped : {X Y : Type 0} (f : X → Y) (xs : List X) (i : ℕ) (d : X) (items more : List Y) (item : Y) → i < length xs → items ≡ map f (take i xs) → item ≡ f (get_or xs i d) → more ≡ items ++ item ∷ [] → more ≡ map f (take (i + 1) xs)
mapped f xs i d items more item low so_far is pushed =
    pushed ∙ ap₂ (λ front last. front ++ last ∷ []) so_far is ∙ sym (map_append f (take i xs) (get_or xs i d ∷ [])) ∙ sym (ap (map f) (take_more xs i d low))
