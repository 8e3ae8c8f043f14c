use Rattle.std.proofs.Common.{Err, ap}
use Rattle.vd_search_stages.proofs.Spent.{why_on_path}
use Rattle.vd_search_stages.proofs.Untied.{all_beyond, selected}
use Rattle.vd_search_stages.proofs.walking.select_untied.Goals as goal

pub search_untied-requires-clause-passed : goal.search_untied-requires-clause-passed
search_untied-requires-clause-passed c =
    all_beyond c.args.tables.now.problem.now c.in_ok-root.root.problem.now c.in_ok-root.root.by_arcs.now c.args.most c.args.passed c.in_ok-root.ensures.problem c.requires.passed

pub returns-in_ok-selection-in-Ok-clause-selects : goal.returns-in_ok-selection-in-Ok-clause-selects
returns-in_ok-selection-in-Ok-clause-selects c =
    selected c.args.tables.now.problem.now c.in_ok-root.root.problem.now c.args.tables.now.by_arcs.now c.in_ok-root.root.by_arcs.now c.args.budget c.in-Ok.answer c.in_ok-selection-in-Ok.selection c.in_ok-root.ensures.problem c.in_ok-root.ensures.by_arcs
    c.args.tables.now.can.tabled.well_formed.holds c.args.tables.now.can.can_arc c.in-Ok.ensures.answers c.in_ok-selection-in-Ok.ensures

pub returns-in-Err-Spent-clause-over : goal.returns-in-Err-Spent-clause-over
returns-in-Err-Spent-clause-over c =
    why_on_path c.args.tables.now.problem.now c.in_ok-root.root.problem.now c.args.tables.now.by_arcs.now c.in_ok-root.root.by_arcs.now c.args.most c.args.passed c.args.budget c.in_ok-root.ensures.problem c.in_ok-root.ensures.by_arcs
    (c.in-Err-Spent.ensures.spent (ap Err c.in-Err-Spent.field-0-is))
