use Rattle.vd_duet.specs.Calls.{in_clear}
use Rattle.vd_convert.proofs.Emitted.{to_add_found}
use Rattle.vd_convert.proofs.convert.to_add.Goals as goal

pub returns-clause-exact : goal.returns-clause-exact
returns-clause-exact c =
    to_add_found c.args.hosts.now.0 c.args.hosts.now.1 (in_clear c.args.x.now) (in_clear c.in_ok-word.word) (in_clear c.in_ok-rest.rest)
    (in_clear c.in_ok-sum.sum) c.in_ok-pair.pair.one c.in_ok-pair.pair.other c.in_ok-made.made c.of.result c.of-2.result
    c.pair_of.result c.pair_of-2.result c.args.to.now c.draw.new.to c.sub.new.to c.finish.new.to
    c.pair_of.ensures c.pair_of-2.ensures c.of.ensures c.of-2.ensures (c.in_ok-pair.ensures {u = tt}).exact (c.in_ok-word.ensures {u = tt})
    (c.in_ok-rest.ensures {u = tt}).exact (c.in_ok-made.ensures {u = tt}).exact (c.in_ok-sum.ensures {u = tt})
