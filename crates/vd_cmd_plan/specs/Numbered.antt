-- Files of the hosts, by their numbers.
use Rattle.std.specs.Prelude.{ℕ, ◌+◌, List, [], ◌∷◌, ◌++◌, codes}
use Rattle.std.specs.Fmt.{decimal}
use Rattle.vd_outside.specs.declared.stored.Stored.{Stored}

-- PREFIX.i and an ending
abbrev pub file_name : List ℕ → ℕ → List ℕ → List ℕ
file_name prefix number ending = prefix ++ (codes "." ++ (decimal number ++ ending))

-- the contents in files that are numbered from here on
abbrev pub numbered : List ℕ → List ℕ → ℕ → List (List ℕ) → List Stored
numbered prefix ending number [] = []
numbered prefix ending number (content ∷ contents) = record { name = file_name prefix number ending; content = content } ∷ numbered prefix ending (number + 1) contents
