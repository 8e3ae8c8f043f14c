-- The names that were in sight before one more came, where those behind it were cut off.
use Rattle.std.proofs.Common.{◌≡◌, List, [], ◌∷◌, ◌++◌, length, take, refl, ap, ◌∙◌}

no_item : {A : Type 0} (b : A) (bs : List A) → ◌≡◌ {A = List A} [] (b ∷ bs) → ⊥
no_item b bs e = cc

first_is : {A : Type 0} (a b : A) (xs ys : List A) → a ∷ xs ≡ b ∷ ys → a ≡ b
first_is a b xs ys e = cc

rest_is : {A : Type 0} (a b : A) (xs ys : List A) → a ∷ xs ≡ b ∷ ys → xs ≡ ys
rest_is a b xs ys e = cc

pub cut_before : {A : Type 0} (before : List A) (e : A) (after : List A) → take (length (before ++ e ∷ [])) after ≡ before ++ e ∷ [] → take (length before) after ≡ before
cut_before [] e after h = refl
cut_before (b ∷ bs) e [] h = absurd (no_item b (bs ++ e ∷ []) h)
cut_before (b ∷ bs) e (a ∷ more) h =
    ap (λ z. z ∷ take (length bs) more) (first_is a b (take (length (bs ++ e ∷ [])) more) (bs ++ e ∷ []) h)
    ∙ ap (λ z. b ∷ z) (cut_before bs e more (rest_is a b (take (length (bs ++ e ∷ [])) more) (bs ++ e ∷ []) h))
