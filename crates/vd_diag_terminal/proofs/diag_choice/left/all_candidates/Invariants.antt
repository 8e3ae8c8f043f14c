use Rattle.std.proofs.Common.{◌≡◌, map, take}
use Rattle.vd_diag_terminal.specs.Stuck.{candidates}
use Rattle.vd_diag_terminal.proofs.diag_choice.left.all_candidates.Given as goal

abbrev pub invariant-loop-making : goal.invariant-loop-making
invariant-loop-making l = l.left ≡ map (candidates l.problem) (take l.making-index l.problem.slots)
