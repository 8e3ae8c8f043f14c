use Rattle.std.proofs.Common.{length, ap, arith}
use Rattle.vd_space.specs.Costs.{moves_to, hosts_at}
use Rattle.vd_space_prefix.proofs.Front.{grows}
use Rattle.vd_space_tables.proofs.Few.{few_protocols}
use Rattle.vd_space_tables.proofs.space_terms.prices.prices_of_array.Goals as goal

pub overflow_cast-index : goal.overflow_cast-index
overflow_cast-index c =
    let few = few_protocols (length c.args.problem.now.hosts) c.requires.labelled.few_hosts in
    let same = ap length c.requires.all in
    omega (arith, few, same)

pub loop-index-preserved : goal.loop-index-preserved
loop-index-preserved c = grows (λ q. moves_to c.args.problem.now q (hosts_at c.args.problem.now c.args.array)) c.loop-index.index c.loop-index.prices c.push.new.self c.index_price.result c.loop-index.invariant c.index_price.ensures c.in_ok-push.ensures.ok
