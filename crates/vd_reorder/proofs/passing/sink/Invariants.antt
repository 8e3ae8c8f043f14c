use Rattle.std.proofs.Common.{◌++◌, ◌-◌, length, take, drop}
use Rattle.vd_reorder.specs.Careful.{careful}
use Rattle.vd_reorder.specs.Packets.{stays_by}
use Rattle.vd_reorder.specs.Passing.{sunk_first, window}
use Rattle.vd_reorder.proofs.Sinking.{Sinking}
use Rattle.vd_reorder.proofs.passing.sink.Given as goal

abbrev pub invariant-instructions : goal.invariant-instructions
invariant-instructions l =
    Sinking (careful (stays_by l.opened)) (take l.start l.initial.code ++ sunk_first (careful (stays_by l.opened)) window (drop l.start l.initial.code)) (length l.initial.code) l.code l.first l.behind l.room

abbrev pub decreases-instructions : goal.decreases-instructions
decreases-instructions l = length l.initial.code - l.behind
