use Rattle.vd_cmd_host.proofs.HavingEnough.{have_enough}
use Rattle.vd_cmd_host.proofs.NeverShort.{never_short}
use Rattle.vd_cmd_host.proofs.check_laws.checked_hosts_are_not_short.Goals as goal

pub returns-clause-enough : goal.returns-clause-enough
returns-clause-enough c = have_enough

pub returns-clause-never_short : goal.returns-clause-never_short
returns-clause-never_short c = never_short
