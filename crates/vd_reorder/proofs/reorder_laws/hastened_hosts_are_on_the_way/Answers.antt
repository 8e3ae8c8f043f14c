use Rattle.vd_reorder.proofs.Hosts.{hastened_on_the_way, hastened_never_short, hastened_end}
use Rattle.vd_reorder.proofs.reorder_laws.hastened_hosts_are_on_the_way.Goals as goal

pub returns-clause-on_the_way : goal.returns-clause-on_the_way
returns-clause-on_the_way c = hastened_on_the_way

pub returns-clause-never_short : goal.returns-clause-never_short
returns-clause-never_short c = hastened_never_short

pub returns-clause-ended : goal.returns-clause-ended
returns-clause-ended c = hastened_end
