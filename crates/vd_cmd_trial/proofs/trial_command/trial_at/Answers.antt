use Rattle.std.proofs.lemmas.Result.{err_from_is_err_and}
use Rattle.vd_cmd_replay.specs.Replaying.{report_for}
use Rattle.vd_cmd_trial.proofs.Chosen.{refused_alike, runs_headed}
use Rattle.vd_cmd_trial.proofs.Told.{run_told}
use Rattle.vd_cmd_trial.proofs.trial_command.trial_at.Goals as goal

pub returns-in_err-report-clause-computes : goal.returns-in_err-report-clause-computes
returns-in_err-report-clause-computes c =
    let p = err_from_is_err_and c.from_residual-in_err-report.result c.from_residual-in_err-report.ensures.1 in
    rw (p.1, p.2) (refused_alike (report_for c.args.program.now c.args.assignment.now.protocols c.in_ok-asked.asked) _ c.in_err-report.field-0.0 (c.in_err-report.ensures {u = tt}).computes)

pub returns-clause-computes : goal.returns-clause-computes
returns-clause-computes c =
    runs_headed c.args.coordinates c.args.program.now c.args.assignment.now c.in_ok-asked.asked c.in_ok-report.report c.in_ok-headed_by.field-0 (c.in_ok-asked.ensures {u = tt}).made
    (c.in_ok-report.ensures {u = tt}).computes (c.in_ok-headed_by.ensures {u = tt})

pub returns-clause-tells : goal.returns-clause-tells
returns-clause-tells c =
    run_told c.args.coordinates c.args.program.now c.args.assignment.now c.in_ok-asked.asked c.in_ok-report.report c.in_ok-headed_by.field-0 c.form.ensures.well_made c.requires.selected
    (c.in_ok-asked.ensures {u = tt}).made (c.in_ok-asked.ensures {u = tt}).suffice (c.in_ok-report.ensures {u = tt}).tells (c.in_ok-headed_by.ensures {u = tt})
