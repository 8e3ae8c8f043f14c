use Rattle.vd_report.proofs.ScheduleFaults.{schedules_follow}
use Rattle.vd_report.proofs.schedule.schedules_follow_the_grammar.Goals as goal

pub returns : goal.returns
returns c = schedules_follow
