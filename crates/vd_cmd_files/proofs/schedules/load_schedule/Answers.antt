use Rattle.std.proofs.Common.{ℕ, List, refl}
use Rattle.std.proofs.lemmas.Result.{err_from_is_err_and}
use Rattle.vd_base.specs.Limits.{most_schedule_bytes}
use Rattle.vd_report.specs.ScheduleText.{GivesSchedule}
use Rattle.vd_report.specs.declared.schedule.Schedule.{Schedule}
use Rattle.vd_cmd_files.proofs.Reading.{found, schedule_err, schedule_ok}
use Rattle.vd_cmd_files.proofs.schedules.load_schedule.Goals as goal

pub returns-in_err-bytes-clause-loads : goal.returns-in_err-bytes-clause-loads
returns-in_err-bytes-clause-loads g c = λ outcomes.
    let p = err_from_is_err_and c.from_residual.result c.from_residual.ensures.1 in
    rw (p.1, p.2) (schedule_err outcomes c.args.name.now c.args.hosts.now _ _ _ (c.in_err-bytes.ensures {u = tt}).loads)

pub returns-clause-loads : goal.returns-clause-loads
returns-clause-loads g c = λ outcomes.
    schedule_ok outcomes c.args.name.now c.args.hosts.now c.in_ok-bytes.bytes c.as_slice.result.now _ _ _ (c.in_ok-bytes.ensures {u = tt}).loads c.as_slice.ensures (c.schedule_in.ensures.reads outcomes)

pub returns-clause-given : goal.returns-clause-given
returns-clause-given g c =
    found c.args.name.now c.args.name.now most_schedule_bytes _ _ c.in_ok-bytes.bytes c.as_slice.result.now c.schedule_in.result (λ (bytes : List ℕ) (schedule : Schedule). GivesSchedule c.args.hosts.now bytes schedule) refl
    (c.in_ok-bytes.ensures {u = tt}).loads c.as_slice.ensures c.schedule_in.ensures.given
