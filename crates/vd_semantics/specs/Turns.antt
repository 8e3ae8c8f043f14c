-- A loop by its literal count.
use Rattle.std.specs.Prelude.{ℕ, zero, suc}

-- turns 0, 1, .. and so on, as many as the count says
abbrev pub turns : {S : Type 0} → ℕ → (ℕ → S → S) → S → S
turns zero body s = s
turns (suc n) body s = body n (turns n body s)
