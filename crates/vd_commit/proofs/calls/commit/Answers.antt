use Rattle.vd_commit.proofs.Emitted.{commit_code}
use Rattle.vd_commit.proofs.calls.commit.Goals as goal

pub returns-clause-exact : goal.returns-clause-exact
returns-clause-exact c =
    commit_code c.args.from c.args.to c.args.x c.reserve-nonce.result c.reserve-digest.result c.eight.result c.eight-2.result c.eight-3.result
    c.args.code.now c.reserve-nonce.new.self c.reserve-digest.new.self c.own.new.code c.add.new.self c.tell.new.code
    c.reserve-nonce.ensures c.reserve-digest.ensures c.eight.ensures (c.in_ok-own.ensures {u = tt}) (c.in_ok-add.ensures {u = tt})
    c.eight-2.ensures c.eight-3.ensures (c.in_ok-tell.ensures {u = tt})
