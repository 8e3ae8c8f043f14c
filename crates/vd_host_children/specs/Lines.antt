-- What a host prints as a child behind `listening`: its words in decimal, and then `ended`, each on a line.
use Rattle.std.specs.Prelude.{◌≡◌, ◌<◌, ◌≤◌, ◌⊎◌, ◌++◌, ◌∷◌, [], ℕ, Bool, true, false, List, length, map, codes, Some, None, Result, Ok, Err}
use Rattle.std.specs.Str.{bytes_eq}
use Rattle.vd_base.specs.Lexical.{number_of}
use Rattle.vd_base.specs.Limits.{most_weights}
use Rattle.vd_base.specs.declared.ids.HostId.{HostId}
use Rattle.vd_host_children.specs.declared.fault.ChildrenFault.{ChildrenFault}
use Rattle.vd_host_children.specs.declared.fault.ChildrenFault.TheVariants as fault
use Rattle.vd_host_children.specs.declared.output.Output.{Output}

abbrev pub listening : List ℕ
listening = codes "listening"

abbrev pub ended : List ℕ
ended = codes "ended"

-- no host prints more words
abbrev pub most_words : ℕ
most_words = most_weights

-- the line behind the words, where it came
abbrev pub last_line : Bool → List (List ℕ)
last_line true = ended ∷ []
last_line false = []

-- these lines are these words in decimal, and behind them `ended`, if it is over
pub record ArePrinted (lines : List (List ℕ)) (words : List ℕ) (over : Bool) : Type 0 where
  pub numbers : List (List ℕ)
  pub lines_are : lines ≡ numbers ++ last_line over
  pub words_are : map number_of numbers ≡ map Some words
  pub few : length words ≤ most_words

-- This line cannot stand behind these words: it is over, or the line is neither `ended` nor a word that may still come.
abbrev pub Breaks : List ℕ → Bool → List ℕ → Type 0
Breaks words true line = Unit {0}
Breaks words false line = (bytes_eq line ended ≡ false) × ((number_of line ≡ None) ⊎ (most_words ≤ length words))

-- it is a further word
pub record IsWord (line : List ℕ) (before now : Output) : Type 0 where
  pub word : ℕ
  pub number : number_of line ≡ Some word
  pub few : length before.words < most_words
  pub words : now.words ≡ before.words ++ word ∷ []
  pub over : now.over ≡ false

-- it is `ended`
pub record IsEnd (line : List ℕ) (before now : Output) : Type 0 where
  pub line_is : bytes_eq line ended ≡ true
  pub words : now.words ≡ before.words
  pub over : now.over ≡ true

-- a line is taken, or it breaks the form
abbrev pub TakesLine : HostId → List ℕ → Output → Output → Result (Unit {0}) ChildrenFault → Type 0
TakesLine host line before now (Ok done) = (before.over ≡ false) × (IsWord line before now ⊎ IsEnd line before now)
TakesLine host line before now (Err cause) = (cause ≡ fault.Memory) ⊎ ((cause ≡ fault.Line host) × Breaks before.words before.over line)
