use Rattle.std.proofs.lemmas.Result.{IfOk-weaker}
use Rattle.vd_duet.specs.Calls.{in_clear}
use Rattle.vd_convert.proofs.Emitted.{to_xor_found}
use Rattle.vd_convert.proofs.convert.to_xor.Goals as goal

pub returns-clause-exact : goal.returns-clause-exact
returns-clause-exact c =
    IfOk-weaker c.add.result _ _
    (λ y made. to_xor_found c.args.hosts.now.0 c.args.hosts.now.1 (in_clear c.args.x.now) (in_clear c.in_ok-one.one) (in_clear c.in_ok-other.other)
    (in_clear y) c.in_ok-words.words.one c.in_ok-words.words.other c.of.result c.pair_of.result c.args.to.now c.mask.new.to c.add.new.to
    c.pair_of.ensures c.of.ensures (c.in_ok-words.ensures {u = tt}).exact (c.in_ok-one.ensures {u = tt}) (c.in_ok-other.ensures {u = tt}) made)
    c.add.ensures.exact
