use Rattle.std.proofs.Common.{◌≡◌, map, take}
use Rattle.vd_space.specs.Validity.{protocol}
use Rattle.vd_search_stages.proofs.optimum.protocols_at.Given as goal

abbrev pub invariant-loop-place : goal.invariant-loop-place
invariant-loop-place l = l.protocols ≡ map (protocol l.problem) (take l.place-index l.places)
