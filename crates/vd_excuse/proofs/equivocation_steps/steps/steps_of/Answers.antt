use Rattle.std.proofs.Common.{ap, ◌∙◌}
use Rattle.vd_excuse.specs.Reading.{nothing_read, read}
use Rattle.vd_excuse.proofs.Plans.{lead_to, if_ok}
use Rattle.vd_excuse.proofs.equivocation_steps.steps.steps_of.Goals as goal

pub returns : goal.returns
returns c = λ plan are can.
    if_ok c.read_all.result
    (λ steps is. lead_to c.walks_excuse.ensures plan c.args.lines.now steps are can (is ∙ ap (λ l. (read l nothing_read).steps) c.as_slice.ensures))
    c.read_all.ensures
