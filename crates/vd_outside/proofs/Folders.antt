-- The folder of a file, by the last byte of its name.
use Rattle.std.proofs.Common.{◌≡◌, ◌∙◌, ◌<◌, ◌+◌, ℕ, true, false, List, [], ◌∷◌, ◌++◌, length, take, slice_index, ap, sym, refl, rules}
use Rattle.std.specs.Prelude.{nat_eq}
use Rattle.std.proofs.lemmas.Bool.{ne_eqb}
use Rattle.std.proofs.lemmas.List.{take_more}
use Rattle.vd_outside.specs.Places.{folder_of, has_slash}

slash_behind : (name : List ℕ) → has_slash (name ++ 47 ∷ []) ≡ true
slash_behind [] = refl
slash_behind (c ∷ name) = rw (slash_behind name) (grind rules)

-- a name that ends in a slash is a folder's
ends_in_slash : (name : List ℕ) → folder_of (name ++ 47 ∷ []) ≡ name ++ 47 ∷ []
ends_in_slash [] = refl
ends_in_slash (c ∷ name) = rw (slash_behind (c ∷ name)) (ap (λ (l : List ℕ). c ∷ l) (ends_in_slash name))

same_slash : (name : List ℕ) (c : ℕ) → nat_eq c 47 ≡ false → has_slash (name ++ c ∷ []) ≡ has_slash name
same_slash [] c other = rw other refl
same_slash (d ∷ name) c other = rw (same_slash name c other) refl

-- another byte at the end is no part of it
no_slash : (name : List ℕ) (c : ℕ) → nat_eq c 47 ≡ false → folder_of (name ++ c ∷ []) ≡ folder_of name
no_slash [] c other = rw other refl
no_slash (d ∷ name) c other = rw (same_slash (d ∷ name) c other, no_slash name c other) refl

-- a front that ends in a slash is its own folder
pub folder_ends : (name : List ℕ) (last : ℕ) → last < length name → slice_index name last ≡ 47 → folder_of (take (last + 1) name) ≡ take (last + 1) name
folder_ends name last within is =
    let front : take (last + 1) name ≡ take last name ++ 47 ∷ [] = take_more name last 0 within ∙ ap (λ (c : ℕ). take last name ++ c ∷ []) is in
    ap folder_of front ∙ ends_in_slash (take last name) ∙ sym front

-- a front that ends otherwise has the folder of that without its end
pub folder_goes_on : (name : List ℕ) (last : ℕ) → last < length name → (slice_index name last ≡ 47 → ⊥) → folder_of (take (last + 1) name) ≡ folder_of (take last name)
folder_goes_on name last within other =
    ap folder_of (take_more name last 0 within) ∙ no_slash (take last name) (slice_index name last) (ne_eqb (slice_index name last) 47 other)
