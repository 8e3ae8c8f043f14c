use Rattle.vd_reorder.proofs.Careful.{start_on_the_way, start_ends}
use Rattle.vd_reorder.proofs.reorder_laws.hastened_starts_come_to_their_end.Goals as goal

pub returns-clause-on_the_way : goal.returns-clause-on_the_way
returns-clause-on_the_way c = start_on_the_way

pub returns-clause-ended : goal.returns-clause-ended
returns-clause-ended c = start_ends
