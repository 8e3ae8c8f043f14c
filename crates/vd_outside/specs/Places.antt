-- Where marks stand: in the folder of a file.
use Rattle.std.specs.Prelude.{ℕ, Bool, List, [], ◌∷◌, ◌++◌, nat_eq, if◌then◌else◌}
use Rattle.std.specs.List.{list_any}

abbrev pub has_slash : List ℕ → Bool
has_slash name = list_any (λ c. nat_eq c 47) name

-- the name of a file up to its last slash
abbrev pub folder_of : List ℕ → List ℕ
folder_of [] = []
folder_of (c ∷ name) = if has_slash (c ∷ name) then c ∷ folder_of name else []

-- a mark beside a file
abbrev pub mark_at : (beside name : List ℕ) → List ℕ
mark_at beside name = folder_of beside ++ name
