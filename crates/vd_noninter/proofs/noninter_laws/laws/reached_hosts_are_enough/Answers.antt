use Rattle.vd_noninter.proofs.Theorem.{reached_are_readable, reached_are_enough}
use Rattle.vd_noninter.proofs.noninter_laws.laws.reached_hosts_are_enough.Goals as goal

pub returns : goal.returns
returns c = record { readable = reached_are_readable; enough = reached_are_enough }
