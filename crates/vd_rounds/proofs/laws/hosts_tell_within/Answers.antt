use Rattle.vd_rounds.proofs.TallyRuns.{hosts_tell_within, schedules_tell_within}
use Rattle.vd_rounds.proofs.laws.hosts_tell_within.Goals as goal

pub returns-clause-alone : goal.returns-clause-alone
returns-clause-alone c = hosts_tell_within

pub returns-clause-schedules : goal.returns-clause-schedules
returns-clause-schedules c = schedules_tell_within
