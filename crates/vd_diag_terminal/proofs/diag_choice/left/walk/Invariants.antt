use Rattle.std.proofs.Common.{◌≡◌, drop}
use Rattle.vd_diag_terminal.specs.Stuck.{all_candidates, walked}
use Rattle.vd_diag_terminal.proofs.diag_choice.left.walk.Given as goal

abbrev pub invariant-loop-number : goal.invariant-loop-number
invariant-loop-number l = walked l.problem l.left (drop l.number l.uses) l.number ≡ walked l.problem (all_candidates l.problem) l.uses 0
