use Rattle.vd_reorder.proofs.Texts.{each_text}
use Rattle.vd_reorder.proofs.passing.hasten_code.Goals as goal

pub returns-clause-code : goal.returns-clause-code
returns-clause-code c = each_text c.args.opened.now c.args.code c.pass.result c.pass.ensures
