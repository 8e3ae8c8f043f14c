use Rattle.std.proofs.Common.{◌≡◌, ◌++◌, map, drop}
use Rattle.vd_execution.specs.Text.{register}
use Rattle.vd_hostcode.proofs.host_text.reading.registers.Given as goal

-- what is left completes what is there
abbrev pub invariant-loop-place : goal.invariant-loop-place
invariant-loop-place l = l.registers ++ map register (drop l.place l.numbers) ≡ map register (drop 1 l.numbers)
