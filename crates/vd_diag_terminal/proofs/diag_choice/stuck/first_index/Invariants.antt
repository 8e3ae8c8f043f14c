use Rattle.std.proofs.Common.{◌≡◌, drop}
use Rattle.vd_diag_terminal.specs.Stuck.{first_index}
use Rattle.vd_diag_terminal.proofs.diag_choice.stuck.first_index.Given as goal

abbrev pub invariant-loop-number : goal.invariant-loop-number
invariant-loop-number l = first_index l.problem l.left (drop l.number l.indexes) l.number ≡ first_index l.problem l.left l.indexes 0
