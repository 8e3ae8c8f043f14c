use Rattle.vd_noninter_protocols.proofs.Keeping.{authorities_exact}
use Rattle.vd_noninter_protocols.proofs.integrity_assigned.laws.authorities_are_exact.Goals as goal

pub returns : goal.returns
returns c = authorities_exact
