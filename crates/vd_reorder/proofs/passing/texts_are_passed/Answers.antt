use Rattle.vd_reorder.proofs.Texts.{text_passed}
use Rattle.vd_reorder.proofs.passing.texts_are_passed.Goals as goal

pub returns : goal.returns
returns c = text_passed
