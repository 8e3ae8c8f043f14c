use Rattle.std.proofs.Common.{◌≡◌, not, map, take}
use Rattle.vd_space.specs.Validity.{has_candidate}
use Rattle.vd_long.proofs.marks.marks_of.Given as goal

abbrev pub invariant-loop-making : goal.invariant-loop-making
invariant-loop-making l = l.marks ≡ map (λ making. not (has_candidate l.problem making)) (take l.making-index l.problem.slots)
