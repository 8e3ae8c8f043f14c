use Rattle.std.proofs.Common.{◌≡◌, map, take, length}
use Rattle.vd_space.specs.declared.problem.Making.{Making}
use Rattle.vd_space.specs.Validity.{can_stand, protocols}
use Rattle.vd_space_prefix.specs.Transfers.{by_place}
use Rattle.vd_space_tables.proofs.space_terms.places.candidates.Given as goal

abbrev pub invariant-loop-making : goal.invariant-loop-making
invariant-loop-making l = l.candidates ≡ map (λ (making : Making). by_place (length (protocols l.problem)) (can_stand l.problem making)) (take l.making-index l.problem.slots)
