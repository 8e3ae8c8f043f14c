-- What is told of a place in a text: the line, the column and a sentence, then that line with a caret below it.
use Rattle.std.specs.Prelude.{ℕ, ◌+◌, Bool, if◌then◌else◌, List, [], ◌∷◌, ◌++◌, codes, decimal, replicate}
use Rattle.vd_diag.specs.Lines.{line_number, line_before, line_behind}
use Rattle.vd_diag.specs.Shown.{shown, width}

-- columns are counted from 1
abbrev pub column : List ℕ → ℕ → ℕ
column bytes offset = width (line_before bytes offset) + 1

-- `LINE:COLUMN`
abbrev pub spot : List ℕ → ℕ → List ℕ
spot bytes offset = decimal (line_number bytes offset) ++ codes ":" ++ decimal (column bytes offset)

-- in bold, if colours are wanted
abbrev pub bold : Bool → List ℕ → List ℕ
bold coloured text = if coloured then codes "\u{1b}[1m" ++ text ++ codes "\u{1b}[0m" else text

-- in bold red, if colours are wanted
abbrev pub red : Bool → List ℕ → List ℕ
red coloured text = if coloured then codes "\u{1b}[1;31m" ++ text ++ codes "\u{1b}[0m" else text

-- `FILE:LINE:COLUMN:`
abbrev pub place : List ℕ → ℕ → ℕ → List ℕ
place file line column = file ++ codes ":" ++ decimal line ++ codes ":" ++ decimal column ++ codes ":"

-- `FILE:LINE:COLUMN: SENTENCE`
abbrev pub head : Bool → List ℕ → List ℕ → List ℕ
head coloured place sentence = bold coloured place ++ codes " " ++ sentence ++ codes "\n"

-- of a file whose text is shown to nobody
abbrev pub headline : Bool → List ℕ → List ℕ → ℕ → List ℕ → List ℕ
headline coloured file bytes offset sentence = head coloured (place file (line_number bytes offset) (column bytes offset)) sentence

-- a line in two parts, and a caret below the second
abbrev pub marked : Bool → List ℕ → List ℕ → ℕ → List ℕ
marked coloured before behind width = before ++ behind ++ codes "\n" ++ replicate width 32 ++ red coloured (codes "^") ++ codes "\n"

abbrev pub excerpt : Bool → List ℕ → List ℕ → ℕ → List ℕ → List ℕ
excerpt coloured file bytes offset sentence =
    headline coloured file bytes offset sentence
    ++ marked coloured (shown (line_before bytes offset)) (shown (line_behind bytes offset)) (width (line_before bytes offset))
