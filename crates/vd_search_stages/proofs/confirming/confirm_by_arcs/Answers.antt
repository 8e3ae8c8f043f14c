use Rattle.std.proofs.Common.{length, ap, ◌∙◌}
use Rattle.vd_search_stages.proofs.Answered.{confirms_by_arcs}
use Rattle.vd_search_stages.proofs.confirming.confirm_by_arcs.Goals as goal

pub returns : goal.returns
returns c =
    confirms_by_arcs c.args.problem.now c.in_ok-path.path.problem.now c.args.certificate.now (length c.as_slice.result.now) c.args.by_arcs.now c.in_ok-path.path.by_arcs.now c.check.result
    (ap length c.as_slice.ensures ∙ c.requires.tables.arc_tabled.arcs.size) c.in_ok-path.ensures.problem c.in_ok-path.ensures.by_arcs c.requires.tables.shifts
    c.requires.tables.with_arcs c.requires.tables.tabled.well_formed.holds c.check.ensures.exact c.check.ensures.proved
