use Rattle.std.proofs.Common.{ℕ, ◌<◌}
use Rattle.vd_tape.specs.Validity.{Meets}
use Rattle.vd_tape.proofs.consistency.check_kind.Given as goal

abbrev pub invariant-loop-place : goal.invariant-loop-place
invariant-loop-place l = (i : ℕ) → i < l.place → Meets l.first l.second l.kind i
