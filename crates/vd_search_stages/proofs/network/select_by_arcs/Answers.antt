use Rattle.vd_search_stages.proofs.Untied.{selected}
use Rattle.vd_search_stages.proofs.network.select_by_arcs.Goals as goal

pub returns-in-Ok-clause-selects : goal.returns-in-Ok-clause-selects
returns-in-Ok-clause-selects c =
    selected c.args.tables.now.problem.now c.in_ok-path.path.problem.now c.args.tables.now.by_arcs.now c.in_ok-path.path.by_arcs.now c.args.budget c.in-Ok.answer c.in_ok-selection-in-Ok.selection c.in_ok-path.ensures.problem c.in_ok-path.ensures.by_arcs
    c.args.tables.now.can.tabled.well_formed.holds c.args.tables.now.can.can_arc c.in-Ok.ensures.answer c.in_ok-selection-in-Ok.ensures
