use Rattle.std.proofs.Common.{ap, ◌∙◌}
use Rattle.vd_reorder.specs.Passing.{hastened_by}
use Rattle.vd_choreography_reorder.proofs.passing.early_code.Goals as goal

pub returns : goal.returns
returns c = c.hasten_code.ensures.text ∙ ap (λ opened. hastened_by opened c.args.code) c.opened_by.ensures
