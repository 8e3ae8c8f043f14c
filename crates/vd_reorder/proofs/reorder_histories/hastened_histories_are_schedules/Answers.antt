use Rattle.vd_reorder.proofs.Standing.{on_the_way, ended_whole}
use Rattle.vd_reorder.proofs.reorder_histories.hastened_histories_are_schedules.Goals as goal

pub returns-clause-on_the_way : goal.returns-clause-on_the_way
returns-clause-on_the_way c = on_the_way

pub returns-clause-ended : goal.returns-clause-ended
returns-clause-ended c = ended_whole
