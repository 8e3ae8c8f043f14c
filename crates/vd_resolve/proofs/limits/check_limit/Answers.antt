use Rattle.std.proofs.Common.{◌≡◌, true, false, nat_lt, arith, refl}
use Rattle.vd_resolve.specs.Sizes.{capped}
use Rattle.vd_resolve.specs.Limits.{within}
use Rattle.vd_resolve.proofs.Limiting.{is_above, is_not_above}
use Rattle.vd_resolve.proofs.limits.check_limit.Goals as goal

pub returns-then-count-limit-clause-fault : goal.returns-then-count-limit-clause-fault
unfolding within
returns-then-count-limit-clause-fault c other =
    let above : nat_lt c.args.limit c.args.count ≡ true = is_above c.args.limit c.args.count c.if-count-limit.true in
    let same : capped c.args.count ≡ c.args.count = omega arith in
    rw (above, same) refl

pub returns-else-count-limit-clause-ok : goal.returns-else-count-limit-clause-ok
unfolding within
returns-else-count-limit-clause-ok c =
    let below : nat_lt c.args.limit c.args.count ≡ false = is_not_above c.args.limit c.args.count c.if-count-limit.false in
    rw below refl
