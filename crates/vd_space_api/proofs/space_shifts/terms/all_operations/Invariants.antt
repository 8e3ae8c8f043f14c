use Rattle.std.proofs.Common.{◌≡◌, map, take}
use Rattle.vd_space_api.specs.Terms.{operations_of}
use Rattle.vd_space_api.proofs.space_shifts.terms.all_operations.Given as goal

abbrev pub invariant-loop-making : goal.invariant-loop-making
invariant-loop-making l = l.terms ≡ map (operations_of l.problem) (take l.making-index l.problem.slots)
