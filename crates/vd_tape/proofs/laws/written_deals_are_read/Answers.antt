use Rattle.std.proofs.Common.{refl, arith}
use Rattle.vd_tape.specs.Text.{deal_text}
use Rattle.vd_tape.proofs.DealExact.{follow_grammar}
use Rattle.vd_tape.proofs.laws.written_deals_are_read.Goals as goal

pub returns : goal.returns
returns c = λ hosts me deal h.
    ((follow_grammar hosts me (deal_text deal) (omega (arith, h.is.few, h.hosts_are)) (omega (arith, h.is.own_number, h.hosts_are, h.me_is))).given deal).1 (h, refl)
