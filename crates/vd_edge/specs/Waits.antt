-- How long a process waits for its peers.
use Rattle.std.specs.Prelude.{ℕ, ◌-◌, ◌^◌, Option, None, Some}

-- how often a call is made that comes back each second: without a limit as often as can be counted
abbrev pub turns : Option ℕ → ℕ
turns (Some seconds) = seconds
turns None = 2 ^ 64 - 1
