use Rattle.vd_search_stages.proofs.ByArcs.{better_result}
use Rattle.vd_search_stages.proofs.network.tables_of.Goals as goal

pub returns-clause-tables : goal.returns-clause-tables
returns-clause-tables c =
    better_result c.args.problem.now c.args.shifts c.network_tables.result c.requires.well_formed.labelled c.requires.shifts.are c.requires.shifts.some c.network_tables.ensures.tables c.network_tables.ensures.shifts
