use Rattle.std.proofs.Common.{arith}
use Rattle.std.proofs.lemmas.Result.{err_from_is_err_and}
use Rattle.vd_tape.proofs.TwoByTwo.{deal_at, next_besides, next_before, all_consistent, first_bad}
use Rattle.vd_tape.proofs.consistency.consistent.Goals as goal

pub check_two-requires-clause-first : goal.check_two-requires-clause-first
check_two-requires-clause-first c =
    (deal_at c.args.deals.now c.as_slice-deals.result.now c.loop-first.first c.index-deals-first.result c.requires c.as_slice-deals.ensures c.loop-first-test.true c.index-deals-first.is).0

pub check_two-requires-clause-second : goal.check_two-requires-clause-second
check_two-requires-clause-second c =
    (deal_at c.args.deals.now c.as_slice-deals.result.now c.loop-second.second c.index-deals-second.result c.requires c.as_slice-deals.ensures c.loop-second-test.true c.index-deals-second.is).0

pub returns-in_err-check_two : goal.returns-in_err-check_two
returns-in_err-check_two c =
    let p = err_from_is_err_and c.from_residual.result c.from_residual.ensures.1 in
    rw (p.1, p.2)
    (first_bad c.args.deals.now c.as_slice-deals.result.now c.loop-first.first c.loop-second.second c.index-deals-first.result c.index-deals-second.result c.in_err-check_two.field-0.0 c.requires c.as_slice-deals.ensures
    (omega (arith, c.loop-second.auto.second)) c.loop-first-test.true c.loop-second-test.true c.index-deals-first.is c.index-deals-second.is c.loop-first.invariant c.loop-second.invariant c.in_err-check_two.ensures)

pub loop-second-preserved : goal.loop-second-preserved
loop-second-preserved c =
    next_besides c.as_slice-deals.result.now c.loop-first.first c.loop-second.second c.index-deals-first.result c.index-deals-second.result c.loop-first-test.true c.loop-second-test.true
    c.index-deals-first.is c.index-deals-second.is c.in_ok-check_two.ensures c.loop-second.invariant

pub loop-first-preserved : goal.loop-first-preserved
loop-first-preserved c = next_before c.as_slice-deals.result.now c.loop-first.first c.loop-second.second c.loop-second-test.false c.loop-second.invariant c.loop-first.invariant

pub returns : goal.returns
returns c = all_consistent c.args.deals.now c.as_slice-deals.result.now c.loop-first.first c.as_slice-deals.ensures c.loop-first-test.false c.loop-first.invariant
