use Rattle.std.proofs.Common.{length, ap, arith}
use Rattle.vd_cost_network_tables.proofs.Raising.{tables_more, tables_all}
use Rattle.vd_cost_network_tables.proofs.switches.switch_tables.Goals as goal

pub loop-number-preserved : goal.loop-number-preserved
loop-number-preserved c =
    tables_more c.args.problem.now c.loop-number.number c.as_slice-guards.result.now c.args.problem.now.guards c.index-guards-number.result c.loop-number.switches c.push_switches.new.switches _ c.as_slice-guards.ensures c.loop-number-test.true
    c.index-guards-number.is c.loop-number.invariant (c.in_ok-push_switches.ensures {u = tt})

pub returns : goal.returns
returns c =
    let same = ap length c.as_slice-guards.ensures in
    let past = c.loop-number-test.false in
    tables_all c.args.problem.now c.loop-number.number c.args.problem.now.guards c.loop-number.switches _ (omega (arith, same, past)) c.loop-number.invariant
