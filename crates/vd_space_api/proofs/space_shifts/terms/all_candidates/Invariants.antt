use Rattle.std.proofs.Common.{◌≡◌, map, take}
use Rattle.vd_space_api.specs.Terms.{candidates_of}
use Rattle.vd_space_api.proofs.space_shifts.terms.all_candidates.Given as goal

abbrev pub invariant-loop-making : goal.invariant-loop-making
invariant-loop-making l = l.candidates ≡ map (candidates_of l.problem) (take l.making-index l.problem.slots)
