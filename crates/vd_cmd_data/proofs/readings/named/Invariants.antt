use Rattle.std.proofs.Common.{length}
use Rattle.vd_cmd_data.specs.Readings.{reading_at}
use Rattle.vd_cmd_data.proofs.Turns.{Done}
use Rattle.vd_cmd_data.proofs.readings.named.Given as goal

abbrev pub invariant-loop-index : goal.invariant-loop-index
invariant-loop-index l = Done (reading_at l.fn.file l.fn.places (length l.fn.words)) 1 l.fn.words l.index l.list
