-- How many packets were sent and how many came, as a person reads it.
use Rattle.std.specs.Prelude.{◌≡◌, ℕ, ◌<◌, ◌^◌, List, [], ◌∷◌, ◌++◌, decimal, codes}
use Rattle.vd_report.specs.LineWords.{line_words}
use Rattle.vd_shell.specs.Reasons.{packets_text}

-- The number of those that were sent stands before a noun and `sent`, and that of those that came before `received`.
pub record TellsPassed (line : List ℕ) (sent came : ℕ) : Type 0 where
  pub noun : List ℕ
  pub read : line_words line ≡ decimal sent ∷ noun ∷ codes "sent," ∷ decimal came ∷ codes "received" ∷ []

abbrev pub PacketsAreRead : Type 0
PacketsAreRead = (sent came : ℕ) → sent < 2 ^ 64 → came < 2 ^ 64 → TellsPassed (packets_text sent came ++ codes "\n") sent came
