-- What moves and tellings of indexes cost, and which places are candidates: as lists by place.
use Rattle.std.specs.Prelude.{ℕ, Bool, Option, List, map, length}
use Rattle.vd_base.specs.declared.protocols.Proto.{Proto}
use Rattle.vd_base.specs.Moves.{move_at}
use Rattle.vd_space.specs.declared.problem.Problem.{Problem}
use Rattle.vd_space.specs.Validity.{protocols, can_stand}
use Rattle.vd_space.specs.Costs.{moves_to, hosts_at}
use Rattle.vd_space_prefix.specs.Transfers.{by_place}

-- from each protocol of a list to each
abbrev pub moves_of : List Proto → List (List (Option ℕ))
moves_of list = map (λ from. map (move_at from) list) list

-- to each host of an array that stands at a place, by the place of the index
abbrev pub tells_from : Problem → ℕ → List (Option ℕ)
tells_from problem p = by_place (length (protocols problem)) (λ q. moves_to problem q (hosts_at problem p))

-- by the place of the array and that of the index
abbrev pub tells_of : Problem → List (List (Option ℕ))
tells_of problem = by_place (length (protocols problem)) (tells_from problem)

-- by slot and place
abbrev pub candidates_of : Problem → List (List Bool)
candidates_of problem = map (λ making. by_place (length (protocols problem)) (can_stand problem making)) problem.slots
