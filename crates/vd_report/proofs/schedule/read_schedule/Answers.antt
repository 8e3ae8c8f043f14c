use Rattle.vd_report.specs.Schedule.{schedule_read}
use Rattle.vd_report.specs.ScheduleText.{GivesSchedule, IsScheduleText}
use Rattle.vd_report.specs.Outcome.{FirstWrong}
use Rattle.vd_report.proofs.Outcomes.{accepts, refuses}
use Rattle.vd_report.proofs.ScheduleFaults.{schedules_follow}
use Rattle.vd_report.proofs.schedule.read_schedule.Goals as goal

pub returns : goal.returns
returns c =
    let hosts = c.args.hosts.now in
    let bytes = c.args.bytes.now in
    let law = schedules_follow hosts bytes in
    let read = c.read_entries.ensures in
    record {
      given = accepts (schedule_read hosts bytes) (GivesSchedule hosts bytes) law.given c.read_entries.result read.ok read.err;
      refused = refuses (schedule_read hosts bytes) (FirstWrong IsScheduleText hosts bytes) law.refused c.read_entries.result read.ok read.err;
      ok = read.ok;
      err = read.err;
    }
