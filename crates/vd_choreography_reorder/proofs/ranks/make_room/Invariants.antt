use Rattle.std.proofs.Common.{◌≡◌, ◌+◌, ◌-◌, length}
use Rattle.std.specs.Prelude.{slice_index}
use Rattle.vd_choreography_reorder.proofs.ranks.make_room.Given as goal

abbrev pub invariant-places : goal.invariant-places
invariant-places l = slice_index l.ranks ≡ slice_index l.initial.ranks

abbrev pub decreases-places : goal.decreases-places
decreases-places l = l.place + 1 - length l.ranks
