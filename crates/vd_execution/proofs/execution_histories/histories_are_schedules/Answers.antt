use Rattle.vd_execution.proofs.Following.{reached_by, stand_on_the_way}
use Rattle.vd_execution.proofs.Ended.{ended_whole}
use Rattle.vd_execution.proofs.execution_histories.histories_are_schedules.Goals as goal

pub returns-clause-reached : goal.returns-clause-reached
returns-clause-reached c = reached_by

pub returns-clause-on_the_way : goal.returns-clause-on_the_way
returns-clause-on_the_way c = stand_on_the_way

pub returns-clause-whole : goal.returns-clause-whole
returns-clause-whole c = ended_whole
