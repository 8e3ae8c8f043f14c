use Rattle.std.proofs.Common.{◌≡◌, drop}
use Rattle.vd_diag_terminal.specs.Barriers.{first_in}
use Rattle.vd_diag_terminal.proofs.diag_branches.barriers.+barrier.Given as goal

abbrev pub invariant-first_barrier-loop-stmt : goal.invariant-first_barrier-loop-stmt
invariant-first_barrier-loop-stmt l = first_in (drop l.stmt-index l.body) ≡ first_in l.body
