use Rattle.std.proofs.Common.{◌≡◌, ◌≤◌, ◌++◌, length, take, drop}
use Rattle.vd_reorder.specs.Careful.{careful}
use Rattle.vd_reorder.specs.Packets.{stays_by}
use Rattle.vd_reorder.specs.Passing.{hastened_text, window}
use Rattle.vd_reorder.proofs.passing.sink_all.Given as goal

abbrev pub invariant-instructions : goal.invariant-instructions
invariant-instructions l = (l.left ≤ length l.initial.code) × (l.code ≡ take l.left l.initial.code ++ hastened_text (careful (stays_by l.opened)) window (drop l.left l.initial.code))

abbrev pub decreases-instructions : goal.decreases-instructions
decreases-instructions l = l.left
