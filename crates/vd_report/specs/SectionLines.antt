-- A section of an inputs file as it is printed: the host, and a line for each row of words.
use Rattle.std.specs.Prelude.{◌≡◌, ℕ, IsTrue, ◌≤◌, List, [], ◌∷◌, ◌++◌, Some, flat_map, length, replicate, slice_set, codes}
use Rattle.vd_base.specs.Lexical.{is_name}
use Rattle.vd_base.specs.Limits.{most_input_words}
use Rattle.vd_base.specs.Words.{AreWords}
use Rattle.vd_report.specs.Hosts.{host_of}
use Rattle.vd_report.specs.InputsText.{GivesInputs}
use Rattle.vd_report.specs.Lines.{number_field}

abbrev pub row_line : List ℕ → List ℕ
row_line words = flat_map number_field words ++ 10 ∷ []

abbrev pub section_text : (host : List ℕ) → (rows : List (List ℕ)) → List ℕ
section_text host rows = host ++ codes ":\n" ++ flat_map row_line rows

-- all words of the rows, in order
abbrev pub words_in : (rows : List (List ℕ)) → List ℕ
words_in rows = flat_map (λ (row : List ℕ). row) rows

-- Whatever hosts there are, if one of them has this name, the printed section is an inputs file that gives it these words, and
-- the others none.
abbrev pub SectionsAreRead : Type 0
SectionsAreRead = (host : List ℕ) (rows : List (List ℕ)) → IsTrue (is_name host) → AreWords (words_in rows) → length (words_in rows) ≤ most_input_words
    → (hosts : List (List ℕ)) (number : ℕ) → host_of hosts host ≡ Some number
    → GivesInputs hosts (section_text host rows) (slice_set (replicate (length hosts) []) number (words_in rows))
