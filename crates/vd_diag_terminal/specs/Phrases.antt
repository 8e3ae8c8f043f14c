-- Parts of sentences on formulas, which are given as text.
use Rattle.std.specs.Prelude.{ℕ, nat_eq, if◌then◌else◌, List, codes}
use Rattle.std.specs.List.{list_any}
use Rattle.std.specs.Str.{bytes_eq}
use Rattle.vd_diag.specs.Parts.{three}

-- `A` guards, and `A & B` guard: a text of more than one name has blanks
abbrev pub guard_word : List ℕ → List ℕ
guard_word text = if list_any (λ b. nat_eq b 32) text then codes " guard" else codes " guards"

-- what has this confidentiality
abbrev pub guarded : List ℕ → List ℕ
guarded text = if bytes_eq text (codes "none") then codes "what no one may read" else three (codes "what ") text (guard_word text)

-- what is asked to have this integrity
abbrev pub vouched : List ℕ → List ℕ
vouched text = if bytes_eq text (codes "none") then codes "what no one can answer for" else three (codes "what ") text (codes " must answer for")
