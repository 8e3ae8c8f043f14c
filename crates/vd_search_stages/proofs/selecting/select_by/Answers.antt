use Rattle.vd_search_stages.proofs.Answered.{empty, found}
use Rattle.vd_search_stages.proofs.Floors.{floor_on_path}
use Rattle.vd_search_stages.proofs.selecting.select_by.Goals as goal

pub returns-in-Ok-Found-clause-selects : goal.returns-in-Ok-Found-clause-selects
returns-in-Ok-Found-clause-selects c =
    found c.args.problem.now c.in_ok-path.path.problem.now c.args.tables.now c.in_ok-path.path.tables.now c.args.budget c.in-Ok-Found.cost c.in-Ok-Found.list c.in-Ok-Found.marks c.in_ok-certificate-in-Ok-Found.certificate c.in_ok-path.ensures.problem
    c.in_ok-path.ensures.tables c.requires.tables.tabled.well_formed.holds c.requires.tables.named c.requires.tables.few (rw c.in-Ok-Found.field-0-is at c.in-Ok-Found.ensures.answer) c.in_ok-certificate-in-Ok-Found.ensures

pub returns-in-Ok-Empty-clause-selects : goal.returns-in-Ok-Empty-clause-selects
returns-in-Ok-Empty-clause-selects c =
    empty c.args.problem.now c.in_ok-path.path.problem.now c.in_ok-path.path.tables.now c.args.budget c.in-Ok-Empty.marks c.refuted.result c.in_ok-path.ensures.problem c.refuted.ensures c.requires.tables.tabled.well_formed.holds
    (rw c.in-Ok-Empty.field-0-is at c.in-Ok-Empty.ensures.answer)

pub search_above-requires-clause-floor : goal.search_above-requires-clause-floor
search_above-requires-clause-floor c =
    floor_on_path c.args.problem.now c.in_ok-path.path.problem.now c.in_ok-path.path.tables.now c.args.floor c.in_ok-path.ensures.problem c.requires.tables.tabled.well_formed.holds c.requires.floor
