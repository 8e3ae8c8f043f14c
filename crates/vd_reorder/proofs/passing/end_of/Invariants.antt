use Rattle.std.proofs.Common.{◌≡◌, ◌≤◌, ◌+◌, ◌-◌, length, drop}
use Rattle.vd_reorder.specs.Passing.{span}
use Rattle.vd_reorder.proofs.passing.end_of.Given as goal

abbrev pub invariant-instructions : goal.invariant-instructions
invariant-instructions l = (l.place ≤ length l.code) × ((l.depth ≤ l.place) × (l.place + span l.depth (drop l.place l.code) ≡ l.start + span 0 (drop l.start l.code)))

abbrev pub decreases-instructions : goal.decreases-instructions
decreases-instructions l = length l.code - l.place
