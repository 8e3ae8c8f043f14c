use Rattle.vd_noninter.proofs.Front.{as_test}
use Rattle.vd_mux.proofs.hidden.acts_for.Goals as goal

pub returns : goal.returns
returns c = as_test c.acts_for.result c.args.formula.now c.args.other.now c.acts_for.ensures.acts_for
