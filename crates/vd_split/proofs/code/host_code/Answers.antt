use Rattle.vd_split.proofs.Picks.{pick_turn}
use Rattle.vd_split.proofs.code.host_code.Goals as goal

pub loop-line-preserved : goal.loop-line-preserved
loop-line-preserved c =
    pick_turn c.args.host.0 c.args.lines.now c.loop-line.line-index c.line-item.result c.loop-line.code c.add_line.new.code _ c.loop-line-test.true c.line-item.is (c.in_ok-add_line.ensures {u = tt}) c.loop-line.invariant
