use Rattle.std.proofs.Common.{◌≡◌, drop}
use Rattle.vd_diag_terminal.specs.Stuck.{first_guard}
use Rattle.vd_diag_terminal.proofs.diag_choice.stuck.first_guard.Given as goal

abbrev pub invariant-loop-number : goal.invariant-loop-number
invariant-loop-number l = first_guard l.problem l.left (drop l.number l.guards) l.number ≡ first_guard l.problem l.left l.guards 0
