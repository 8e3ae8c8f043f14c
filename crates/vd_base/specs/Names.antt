-- Names in sight, with what each stands for.
use Rattle.std.specs.Prelude.{ℕ, zero, suc, Bool, false, ◌||◌, if◌then◌else◌, List, [], ◌∷◌, Option, Some, None}
use Rattle.std.specs.Str.{bytes_eq}

-- the newest last
abbrev pub Named : Type 0 → Type 0
Named A = List (List ℕ × A)

-- what a name stands for: the first entry with that name
abbrev pub at_name : {A : Type 0} → Named A → List ℕ → Option A
at_name [] name = None
at_name (e ∷ es) name = if bytes_eq e.0 name then Some e.1 else at_name es name

-- what the first entry with a name stands for is changed
abbrev pub changed : {A : Type 0} → (A → A) → List ℕ → Named A → Named A
changed f name [] = []
changed f name (e ∷ es) = if bytes_eq e.0 name then (e.0, f e.1) ∷ es else e ∷ changed f name es

-- parameters, each with what it stands for
abbrev pub bound : {A : Type 0} → (ℕ → A) → List (List ℕ) → List ℕ → Named A
bound f [] ks = []
bound f (x ∷ xs) [] = []
bound f (x ∷ xs) (k ∷ ks) = (x, f k) ∷ bound f xs ks

-- the place of a name in a list of names, or their number where it is none of them
abbrev pub place_of : List (List ℕ) → List ℕ → ℕ
place_of [] name = zero
place_of (x ∷ xs) name = if bytes_eq x name then zero else suc (place_of xs name)

-- a name is one of these
abbrev pub is_among : List (List ℕ) → List ℕ → Bool
is_among [] name = false
is_among (x ∷ xs) name = bytes_eq x name || is_among xs name
