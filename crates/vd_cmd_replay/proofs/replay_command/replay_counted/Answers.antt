use Rattle.std.proofs.Common.{List, Some, ap, ◌∙◌}
use Rattle.vd_base.specs.declared.protocols.Proto.{Proto}
use Rattle.vd_projection.specs.Programs.{host_codes}
use Rattle.vd_cmd_compile.proofs.Front.{can_run}
use Rattle.vd_cmd_replay.proofs.Playable.{are_for_all, count_is, few_names, is_report, prints, report_is}
use Rattle.vd_cmd_replay.proofs.replay_command.replay_counted.Goals as goal

pub split-requires : goal.split-requires
split-requires c = can_run c.args.program.now c.args.assignment.now c.form.ensures.well_made c.form.ensures.fit c.requires.selected c.as_slice-protocols.result.now c.as_slice-protocols.ensures

pub play-requires : goal.play-requires
play-requires c =
    are_for_all c.args.program.now c.args.assignment.now c.form.ensures.well_made c.form.ensures.fit c.requires.selected c.in_ok-codes.codes c.args.asked (c.in_ok-codes.ensures {u = tt} ∙ ap (λ (l : List Proto). host_codes c.args.program.now l) c.as_slice-protocols.ensures) c.requires.asked

pub report-requires : goal.report-requires
report-requires c = few_names c.args.program.now c.form.result.now c.form.ensures.well_made c.form.ensures.same

pub returns-clause-computes : goal.returns-clause-computes
returns-clause-computes c =
    let w = c.in_ok-world.ensures {u = tt} in
    prints c.printing.result c.in_ok-printed.printed _ c.printing.ensures
    (report_is c.args.program.now c.args.assignment.now c.form.ensures.well_made c.form.ensures.fit c.requires.selected c.in_ok-codes.codes c.args.asked c.form.result.now _ _ c.in_ok-printed.printed
    (c.in_ok-codes.ensures {u = tt} ∙ ap (λ (l : List Proto). host_codes c.args.program.now l) c.as_slice-protocols.ensures) c.form.ensures.same w.supply w.world (c.in_ok-printed.ensures {u = tt}))

pub returns-clause-tells : goal.returns-clause-tells
returns-clause-tells c =
    let w = c.in_ok-world.ensures {u = tt} in
    is_report c.args.program.now c.args.assignment.now c.form.ensures.well_made c.form.ensures.fit c.requires.selected c.args.asked c.printing.result c.in_ok-printed.printed c.requires.asked
    c.requires.consistent c.printing.ensures
    (report_is c.args.program.now c.args.assignment.now c.form.ensures.well_made c.form.ensures.fit c.requires.selected c.in_ok-codes.codes c.args.asked c.form.result.now _ _ c.in_ok-printed.printed
    (c.in_ok-codes.ensures {u = tt} ∙ ap (λ (l : List Proto). host_codes c.args.program.now l) c.as_slice-protocols.ensures) c.form.ensures.same w.supply w.world (c.in_ok-printed.ensures {u = tt}))

pub returns-clause-counts : goal.returns-clause-counts
returns-clause-counts c =
    let w = c.in_ok-world.ensures {u = tt} in
    ap Some
    (count_is c.args.program.now c.args.assignment.now c.form.ensures.well_made c.form.ensures.fit c.requires.selected c.in_ok-codes.codes c.args.asked _ _ c.packets_sent.result (c.in_ok-codes.ensures {u = tt} ∙ ap (λ (l : List Proto). host_codes c.args.program.now l) c.as_slice-protocols.ensures)
    w.world w.hosts c.packets_sent.ensures)
