use Rattle.vd_choreography_reorder.specs.Testing.{opened_at}
use Rattle.vd_choreography_reorder.proofs.Sorted.{each_joint}
use Rattle.vd_choreography_reorder.proofs.passing.bring_forward.Goals as goal

pub returns-clause-code : goal.returns-clause-code
returns-clause-code c = each_joint (opened_at c.args.opened.now) c.args.lines c.arrange.result c.arrange.ensures
