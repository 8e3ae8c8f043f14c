use Rattle.vd_search_stages.proofs.Assigned.{selected}
use Rattle.vd_search_stages.proofs.optimum.select.Goals as goal

pub returns-clause-selects : goal.returns-clause-selects
returns-clause-selects g c =
    selected c.args.problem.now c.args.budget c.in_ok-selection.selection c.in_ok-optimum_of.field-0 c.in_ok-selection.ensures.selects c.in_ok-optimum_of.ensures
