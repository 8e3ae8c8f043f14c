use Rattle.vd_search_stages.proofs.Answered.{confirms}
use Rattle.vd_search_stages.proofs.confirming.confirm_by.Goals as goal

pub returns : goal.returns
returns c =
    confirms c.args.problem.now c.in_ok-path.path.problem.now c.args.certificate.now c.as_slice.result.now c.args.tables.now c.in_ok-path.path.tables.now c.check.result c.as_slice.ensures c.in_ok-path.ensures.problem c.in_ok-path.ensures.tables c.requires.tables.shifts
    c.requires.tables.by_uses c.requires.full c.requires.tables.tabled.well_formed.holds c.check.ensures.exact c.check.ensures.proved
