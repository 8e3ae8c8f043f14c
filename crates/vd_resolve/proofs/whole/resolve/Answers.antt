use Rattle.std.proofs.Common.{Ok, Err, rules}
use Rattle.std.proofs.lemmas.Result.{err_from_is_err_and}
use Rattle.vd_resolve.proofs.Limiting.{resolution_is, limit_told, memory_or}
use Rattle.vd_resolve.proofs.whole.resolve.Goals as goal

pub returns-in_err-check_limits-clause-fault : goal.returns-in_err-check_limits-clause-fault
returns-in_err-check_limits-clause-fault c =
    let p = err_from_is_err_and c.from_residual-in_err-check_limits.result c.from_residual-in_err-check_limits.ensures.1 in
    rw (p.1, p.2)
    (memory_or _ (λ other. resolution_is c.args.source c.in_ok-size.size _ _ _ c.in_ok-size.ensures.ok c.in_ok-size.ensures.size (search rules) (search rules) (c.in_err-check_limits.ensures.fault other)))

pub returns-in_err-check_limits-clause-cause : goal.returns-in_err-check_limits-clause-cause
returns-in_err-check_limits-clause-cause c =
    let p = err_from_is_err_and c.from_residual-in_err-check_limits.result c.from_residual-in_err-check_limits.ensures.1 in
    rw (p.1, p.2)
    (λ other. limit_told c.args.source c.in_ok-size.size _ _ _ c.in_ok-size.ensures.told c.in_ok-size.ensures.size (search rules) (search rules) (c.in_err-check_limits.ensures.fault other)
    c.in_err-check_limits.ensures.plain)

pub new-requires-clause-resolved : goal.new-requires-clause-resolved
new-requires-clause-resolved c = resolution_is c.args.source c.in_ok-size.size c.len.result c.len-2.result (Ok tt) c.in_ok-size.ensures.ok c.in_ok-size.ensures.size (search rules) (search rules) c.in_ok-check_limits.ensures.ok

pub returns-clause-resolved : goal.returns-clause-resolved
returns-clause-resolved c = resolution_is c.args.source c.in_ok-size.size c.len.result c.len-2.result (Ok tt) c.in_ok-size.ensures.ok c.in_ok-size.ensures.size (search rules) (search rules) c.in_ok-check_limits.ensures.ok
