use Rattle.std.proofs.lemmas.Result.{err_from_is_err_and}
use Rattle.vd_host_children.specs.Starting.{NoFirstLine, NotStarted}
use Rattle.vd_host_children.proofs.Children.{begins_otherwise, begins_silent, begins_well, begins_with_fault}
use Rattle.vd_host_children.proofs.starting.start.Goals as goal

pub returns-in-Err-clause-begins : goal.returns-in-Err-clause-begins
returns-in-Err-clause-begins g c = rw c.fault_of.ensures (NotStarted c.in-Err.fault (c.in-Err.ensures {u = tt}))

pub returns-in-Err-line-clause-begins : goal.returns-in-Err-line-clause-begins
returns-in-Err-line-clause-begins g c = rw c.fault_of-in-Err-line.ensures (NoFirstLine c.in-Ok.child _ c.in-Err-line.fault (c.in-Ok.ensures {u = tt}) (c.in-Err-line.ensures {u = tt}))

pub returns-then-is-clause-begins : goal.returns-then-is-clause-begins
returns-then-is-clause-begins g c =
    begins_well c.args.program.now c.args.words.now c.args.host c.in-Ok.child _ _ (c.in-Ok.ensures {u = tt}) _ _ c.in-Some.line c.as_slice.result.now c.is.result
    (c.in-Ok-line.ensures {u = tt}) c.in-Some.is c.as_slice.ensures.same c.is.ensures c.if-is.true

pub returns-in-Some-clause-begins : goal.returns-in-Some-clause-begins
returns-in-Some-clause-begins g c =
    begins_otherwise c.args.program.now c.args.words.now c.args.host c.in-Ok.child _ _ (c.in-Ok.ensures {u = tt}) _ _ c.in-Some.line c.as_slice.result.now c.is.result
    (c.in-Ok-line.ensures {u = tt}) c.in-Some.is c.as_slice.ensures.same c.is.ensures c.if-is.false

pub returns-clause-begins : goal.returns-clause-begins
returns-clause-begins g c =
    begins_silent c.args.program.now c.args.words.now c.args.host c.in-Ok.child _ _ (c.in-Ok.ensures {u = tt}) _ _ _ (c.in-Ok-line.ensures {u = tt}) c.in-None.is (c.in_ok-finish-in-None.ensures {u = tt})

pub returns-in_err-finish-in-None-clause-begins : goal.returns-in_err-finish-in-None-clause-begins
returns-in_err-finish-in-None-clause-begins g c =
    let p = err_from_is_err_and c.from_residual.result c.from_residual.ensures.1 in
    rw (p.1, p.2) (begins_with_fault c.args.program.now c.args.words.now c.args.host c.in-Ok.child _ _ (c.in-Ok.ensures {u = tt}) _ _ _ _ (c.in-Ok-line.ensures {u = tt}) c.in-None.is (c.in_err-finish-in-None.ensures {u = tt}))
