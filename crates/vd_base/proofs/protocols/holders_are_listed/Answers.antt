use Rattle.vd_base.proofs.Holding.{holder_is_listed}
use Rattle.vd_base.proofs.protocols.holders_are_listed.Goals as goal

pub returns : goal.returns
returns c = holder_is_listed
