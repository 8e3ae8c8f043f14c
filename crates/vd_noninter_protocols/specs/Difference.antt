-- The first place at which what a host knows of two inputs differs.
use Rattle.std.specs.Prelude.{◌≡◌, ◌≢◌, ◌<◌, ◌↔◌, ◌-◌, ℕ, suc, nat_eq, if◌then◌else◌, List, [], ◌∷◌, ◌++◌, Option, Some, None, length, replicate, slice_get, slice_index, slice_index_or}
use Rattle.std.specs.Option.{option_map}
use Rattle.vd_base.specs.declared.ids.HostId.{HostId}
use Rattle.vd_base.specs.declared.protocols.Proto.{Proto}
use Rattle.vd_core.specs.declared.normal.NormalForm.{NormalForm}
use Rattle.vd_constraints.specs.declared.labels.Labels.{Labels}
use Rattle.vd_noninter_protocols.specs.Assigned.{heard_words}
use Rattle.vd_noninter_protocols.specs.Runs.{Hearer}

-- the first place at which two lists hold different words, or one of them has ended
abbrev pub first_difference : List ℕ → List ℕ → Option ℕ
first_difference [] [] = None
first_difference [] (y ∷ ys) = Some 0
first_difference (x ∷ xs) [] = Some 0
first_difference (x ∷ xs) (y ∷ ys) = if nat_eq x y then option_map (λ n. suc n) (first_difference xs ys) else Some 0

-- a list that is followed by zeros, up to a length
abbrev pub filled : ℕ → List ℕ → List ℕ
filled n xs = xs ++ replicate (n - length xs) 0

abbrev pub words_of : List (List ℕ) → HostId → List ℕ
words_of inputs h = slice_index_or inputs h.0 []

-- what a host knows of inputs, as it is compared with others: its own, the shorter list followed by zeros up to the longer one,
-- and the clear words that come to it
abbrev pub known_beside : NormalForm → Labels → List Proto → HostId → List (List ℕ) → List (List ℕ) → List ℕ
known_beside p l protocols h other inputs = filled (length (words_of other h)) (words_of inputs h) ++ heard_words p l protocols h inputs

abbrev pub view_difference : NormalForm → Labels → List Proto → HostId → List (List ℕ) → List (List ℕ) → Option ℕ
view_difference p l protocols h first second = first_difference (known_beside p l protocols h second first) (known_beside p l protocols h first second)

-- it is the place of that host, at those protocols, whatever the labels are
abbrev pub IsDifference : NormalForm → Hearer → List (List ℕ) → List (List ℕ) → Option ℕ → Type 0
IsDifference p x first second place = (l : Labels) → place ≡ view_difference p l x.protocols x.host first second

-- ---- what the place tells

-- up to there the lists are the same, and there they differ
pub record DifferAt (xs ys : List ℕ) (place : ℕ) : Type 0 where
  pub before : (i : ℕ) → i < place → slice_get xs i ≡ slice_get ys i
  pub there : slice_get xs place ≢ slice_get ys place

abbrev pub IsFirstDifference : List ℕ → List ℕ → Option ℕ → Type 0
IsFirstDifference xs ys None = xs ≡ ys
IsFirstDifference xs ys (Some place) = DifferAt xs ys place

-- the host has the same inputs, each list followed by zeros, and the same clear words come to it
abbrev pub KnowsTheSame : NormalForm → Labels → List Proto → HostId → List (List ℕ) → List (List ℕ) → Type 0
KnowsTheSame p l protocols h first second =
    ((i : ℕ) → slice_index (words_of first h) i ≡ slice_index (words_of second h) i) × (heard_words p l protocols h first ≡ heard_words p l protocols h second)

-- there is no difference exactly where the host knows the same
abbrev pub DiffersExactly : Type 0
DiffersExactly =
    (p : NormalForm) (l : Labels) (protocols : List Proto) (h : HostId) (first second : List (List ℕ))
    → (view_difference p l protocols h first second ≡ None) ↔ KnowsTheSame p l protocols h first second
