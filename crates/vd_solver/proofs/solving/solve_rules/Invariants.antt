use Rattle.std.proofs.Common.{◌+◌, ◌*◌, length}
use Rattle.vd_solver.proofs.Parts.{all_truths}
use Rattle.vd_solver.proofs.Progress.{IsUnderWay}
use Rattle.vd_solver.proofs.solving.solve_rules.Given as goal

abbrev pub invariant-loop-place : goal.invariant-loop-place
invariant-loop-place l = IsUnderWay l.system l.labels l.waiting

abbrev pub decreases-loop-place : goal.decreases-loop-place
decreases-loop-place l = all_truths l.labels * (length l.system.lower + 1) + length l.waiting.queue.items
