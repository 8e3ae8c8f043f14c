use Rattle.std.proofs.Common.{◌++◌, flat_map}
use Rattle.vd_diag_terminal.specs.FlowSteps.{two}
use Rattle.vd_diag_terminal.proofs.Offsets.{one_more}
use Rattle.vd_diag_terminal.proofs.diag_flow.offsets.add_operands.Goals as goal

pub loop-operand-preserved : goal.loop-operand-preserved
loop-operand-preserved c =
    let operands = c.args.operands.now in
    one_more (two c.args.offset) c.loop-operand.offsets c.add_two.new.offsets (c.args.offsets.now ++ flat_map (λ y. two c.args.offset) operands) operands c.loop-operand.operand-index c.loop-operand-test.true (c.in_ok-add_two.ensures {u = tt}) c.loop-operand.invariant
