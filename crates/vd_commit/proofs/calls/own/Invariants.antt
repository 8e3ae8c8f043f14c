use Rattle.std.proofs.Common.{◌≡◌, drop}
use Rattle.vd_duet.specs.Calls.{appended}
use Rattle.vd_commit.specs.Commit.{own_each}
use Rattle.vd_commit.proofs.calls.own.Given as goal

abbrev pub invariant-loop-register : goal.invariant-loop-register
invariant-loop-register l = appended (own_each l.host (drop l.register-index l.registers)) l.code ≡ appended (own_each l.host l.registers) l.initial.code
