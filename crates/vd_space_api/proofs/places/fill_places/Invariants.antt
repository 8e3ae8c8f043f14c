use Rattle.std.proofs.Common.{◌≡◌, take, map}
use Rattle.vd_space_api.specs.Places.{place_of}
use Rattle.vd_space_api.proofs.places.fill_places.Given as goal

abbrev pub invariant-loop-slot : goal.invariant-loop-slot
invariant-loop-slot l = take l.slot l.room ≡ map (place_of l.list) (take l.slot l.prefix)
