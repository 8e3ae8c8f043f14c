use Rattle.std.proofs.Common.{◌≡◌, ◌≤◌, length}
use Rattle.vd_reorder.specs.Passing.{risen}
use Rattle.vd_reorder.proofs.passing.rise.Given as goal

abbrev pub invariant-neighbours : goal.invariant-neighbours
invariant-neighbours l = (l.first ≤ l.place) × ((l.place ≤ l.last) × ((length l.code ≡ length l.initial.code) × (l.code ≡ risen l.place l.last l.initial.code)))

abbrev pub decreases-neighbours : goal.decreases-neighbours
decreases-neighbours l = l.place
