use Rattle.vd_search_stages.proofs.Answered.{tables_named}
use Rattle.vd_search_stages.proofs.selecting.usual_tables.Goals as goal

pub returns-clause-named : goal.returns-clause-named
returns-clause-named c = tables_named c.args.problem.now c.in_ok-shifts.shifts c.tables.result c.in_ok-shifts.ensures.usual c.in_ok-shifts.ensures.small c.requires.limits c.tables.ensures.tables c.tables.ensures.shifts
