-- How a child program ended.
use Rattle.std.specs.Prelude.{◌≡◌, ◌+◌, ℕ, Option, None, Some, pos}
use Rattle.std.specs.Process.{exit_code, exit_signal}
use Rattle.std.specs.declared.process.status.ExitStatus.{ExitStatus}

-- its code, or 128 and the number of the signal that ended it, as in a shell
pub record IsNumberOf (status : ExitStatus) (number : ℕ) : Type 0 where
  pub code : (code : ℕ) → exit_code status ≡ Some (pos code) → number ≡ code
  pub signal : (signal : ℕ) → exit_code status ≡ None → exit_signal status ≡ Some (pos signal) → number ≡ 128 + signal

-- its end is known, and this is its number
abbrev pub HasEnded : Option ExitStatus → ℕ → Type 0
HasEnded None number = ⊥
HasEnded (Some status) number = IsNumberOf status number
