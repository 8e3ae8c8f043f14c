use Rattle.vd_commit.proofs.Emitted.{reveal_code}
use Rattle.vd_commit.proofs.calls.reveal.Goals as goal

pub returns-clause-exact : goal.returns-clause-exact
returns-clause-exact c =
    reveal_code c.args.from c.args.to c.args.held c.args.seen c.reserve-value.result c.nine.result c.nine-2.result
    c.args.code.now c.reserve-value.new.self c.tell.new.code c.add.new.self c.check.new.code
    c.reserve-value.ensures c.nine.ensures c.nine-2.ensures (c.in_ok-tell.ensures {u = tt}) (c.in_ok-add.ensures {u = tt}) (c.in_ok-check.ensures {u = tt})
