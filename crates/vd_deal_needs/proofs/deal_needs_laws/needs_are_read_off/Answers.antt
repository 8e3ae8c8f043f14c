use Rattle.vd_deal_needs.proofs.ReadOff.{read_off}
use Rattle.vd_deal_needs.proofs.deal_needs_laws.needs_are_read_off.Goals as goal

pub returns : goal.returns
returns c = read_off
