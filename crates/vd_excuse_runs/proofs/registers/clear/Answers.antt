use Rattle.std.proofs.Common.{◌∙◌}
use Rattle.vd_excuse_runs.proofs.Puts.{cleared_on}
use Rattle.vd_excuse_runs.proofs.registers.clear.Goals as goal

pub loop-i-preserved : goal.loop-i-preserved
loop-i-preserved c = cleared_on c.loop-i.registers c.wipe.new.registers c.args.first c.loop-i.i c.args.count c.loop-i-test.true c.wipe.ensures ∙ c.loop-i.invariant
