use Rattle.std.proofs.Common.{arith}
use Rattle.vd_constraints.proofs.Front.{stmt_fits}
use Rattle.vd_noninter.proofs.influence_walk.+walk.Goals as goal

pub add_body-add_stmt-requires : goal.add_body-add_stmt-requires
add_body-add_stmt-requires t c = (omega (arith, stmt_fits c.args.body.now c.loop-stmt.stmt-index c.stmt-item.result c.loop-stmt-test.true c.stmt-item.is), tt)
