use Rattle.std.proofs.Common.{length}
use Rattle.vd_mux.proofs.walk.Walk.+select.Given as goal

abbrev pub decreases-select : goal.decreases-select
decreases-select l = length l.guards.now
