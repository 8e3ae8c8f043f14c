use Rattle.std.proofs.Common.{◌≡◌, length}
use Rattle.std.specs.List.{fold}
use Rattle.vd_cmd_data.specs.Readings.{after_place, nothing_seen}
use Rattle.vd_cmd_data.proofs.readings.seen_at.Given as goal

abbrev pub invariant-places : goal.invariant-places
invariant-places l = fold (after_place l.spot) l.seen l.rest ≡ fold (after_place l.spot) nothing_seen l.places

abbrev pub decreases-places : goal.decreases-places
decreases-places l = length l.rest
