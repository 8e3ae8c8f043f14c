use Rattle.std.proofs.Common.{◌≡◌, ◌≤◌, ◌*◌, ℕ, Bool, true, false, cond, Option, Some, length, ap, arith}
use Rattle.std.specs.Prelude.{unwrap_or}
use Rattle.vd_base.specs.HostSets.{host}
use Rattle.vd_space.specs.Validity.{holds_at, move_to_host}
use Rattle.vd_space.specs.Costs.{moves_to, hosts_at}
use Rattle.vd_space.proofs.Front.{told_price}
use Rattle.vd_space_tables.proofs.Telling.{telling_step, plus_few}
use Rattle.vd_space_tables.proofs.space_terms.prices.index_price.Goals as goal

either : (test : Bool) (price result : Option ℕ) → result ≡ cond test price (Some 0) → unwrap_or price 0 ≤ 212 → unwrap_or result 0 ≤ 212
either true price result is low = let same = ap (λ o. unwrap_or o 0) is in omega (arith, same, low)
either false price result is low = let same = ap (λ o. unwrap_or o 0) is in omega (arith, same)

pub both-sum-requires-clause-second : goal.both-sum-requires-clause-second
both-sum-requires-clause-second c =
    let problem = c.args.problem.now in
    let told = told_price problem c.requires.labelled.few_hosts (host c.loop-host.host) c.args.index in
    let low = either (holds_at problem (host c.loop-host.host) c.args.array) (move_to_host problem (host c.loop-host.host) c.args.index) c.price_if_holder.result c.price_if_holder.ensures told in
    omega (arith, low)

pub loop-host-preserved : goal.loop-host-preserved
loop-host-preserved c =
    let problem = c.args.problem.now in
    let told = told_price problem c.requires.labelled.few_hosts (host c.loop-host.host) c.args.index in
    let low = either (holds_at problem (host c.loop-host.host) c.args.array) (move_to_host problem (host c.loop-host.host) c.args.index) c.price_if_holder.result c.price_if_holder.ensures told in
    let same = ap length c.as_slice.ensures in
    let sum_low = c.loop-host.invariant.few in
    let more = plus_few c.loop-host.sum c.price_if_holder.result (212 * c.loop-host.host) 212 sum_low low in
    let is = ap (λ o. unwrap_or o 0) c.both-sum.ensures in
    record {
      sum = telling_step problem c.args.index c.args.array c.loop-host.host (length problem.hosts) c.loop-host.sum c.both-sum.result c.price_if_holder.result (moves_to problem c.args.index (hosts_at problem c.args.array))
          (omega (arith, same)) c.loop-host.invariant.sum c.price_if_holder.ensures c.both-sum.ensures;
      few = omega (arith, more, is);
    }
