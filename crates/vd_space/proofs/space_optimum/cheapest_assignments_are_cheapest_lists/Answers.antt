use Rattle.vd_space.proofs.Assignments.{cheapest_at, places_cheapest}
use Rattle.vd_space.proofs.space_optimum.cheapest_assignments_are_cheapest_lists.Goals as goal

pub returns : goal.returns
returns c = record { assigned = cheapest_at; back = places_cheapest }
