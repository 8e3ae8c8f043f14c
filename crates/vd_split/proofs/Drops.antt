-- What is left of a list.
use Rattle.std.proofs.Common.{◌≡◌, ℕ, ◌+◌, ◌<◌, ◌≤◌, List, [], ◌∷◌, length, drop, slice_index_or, add-one, drop-cons}
use Rattle.std.proofs.Math.ListN.{drop_of_length-le}

pub drop_next : {A : Type 0} (xs : List A) (i : ℕ) (d : A) → i < length xs → drop i xs ≡ slice_index_or xs i d ∷ drop (i + 1) xs
drop_next xs i d lt = rw add-one (drop-cons xs i d lt)

pub drop_past : {A : Type 0} (xs : List A) (i : ℕ) → length xs ≤ i → drop i xs ≡ []
drop_past xs i le = drop_of_length-le xs le
