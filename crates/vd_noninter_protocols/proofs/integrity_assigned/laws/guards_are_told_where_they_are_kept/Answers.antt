use Rattle.vd_noninter_protocols.proofs.Assigned.{guards_told_in_trust}
use Rattle.vd_noninter_protocols.proofs.integrity_assigned.laws.guards_are_told_where_they_are_kept.Goals as goal

pub returns : goal.returns
returns c = guards_told_in_trust
