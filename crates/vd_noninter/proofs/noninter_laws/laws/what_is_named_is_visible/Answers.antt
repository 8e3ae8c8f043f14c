use Rattle.vd_noninter.proofs.Named.{named_are_visible}
use Rattle.vd_noninter.proofs.noninter_laws.laws.what_is_named_is_visible.Goals as goal

pub returns : goal.returns
returns c = λ p test well. named_are_visible p test well.made_before
