use Rattle.std.proofs.Common.{arith}
use Rattle.std.proofs.lemmas.Result.{err_from_is_err_and}
use Rattle.std.proofs.lemmas.Grind.{common_steps}
use Rattle.vd_host_children.proofs.Children.{all_known, no_number, none_started, not_begun, started_more}
use Rattle.vd_host_children.proofs.running.start_all.Goals as goal

pub loop-number-init : goal.loop-number-init
loop-number-init g c = record {
  started = none_started c.args.program.now c.args.hosts.now _ _ c.new-children.ensures;
  count = grind (arith, common_steps);
  known = grind (arith, common_steps);
  given = omega arith;
}

pub loop-number-preserved : goal.loop-number-preserved
loop-number-preserved g c =
    let i = c.loop-number.invariant in
    let s = c.in_ok-start.ensures {u = tt} in
    let pushed = c.in_ok-push.ensures.ok in
    record {
      started = rw pushed (started_more c.args.program.now c.args.hosts.now c.loop-number.children c.index-hosts-number.result c.loop-number.number _ _ _ _ c.loop-number-test.true c.index-hosts-number.is i.count i.started s.begins);
      count = grind (arith, common_steps);
      known = rw pushed (all_known c.loop-number.children _ _ _ i.known (omega (arith, s.number, s.one_more)) (omega (arith, s.one_more)));
      given = omega (arith, i.given, s.one_more);
    }

pub returns-in_err-start-clause-starts : goal.returns-in_err-start-clause-starts
returns-in_err-start-clause-starts g c =
    let i = c.loop-number.invariant in
    let p = err_from_is_err_and c.from_residual.result c.from_residual.ensures.1 in
    rw (p.1, p.2) (not_begun c.args.program.now c.args.hosts.now c.loop-number.children c.index-hosts-number.result c.loop-number.number _ _ _ _ c.loop-number-test.true c.index-hosts-number.is i.count i.started (c.in_err-start.ensures {u = tt}).begins)

pub returns-in_err-push-clause-starts : goal.returns-in_err-push-clause-starts
returns-in_err-push-clause-starts g c =
    let i = c.loop-number.invariant in
    let p = err_from_is_err_and c.from_residual-in_err-push.result c.from_residual-in_err-push.ensures.1 in
    rw (p.1, p.2) (no_number c.args.program.now c.args.hosts.now c.loop-number.children c.index-hosts-number.result c.loop-number.number _ _ _ _ c.loop-number-test.true c.index-hosts-number.is i.count i.started (c.in_ok-start.ensures {u = tt}).begins)
