use Rattle.std.proofs.Common.{◌<◌, length, subst, sym, ap, ◌∙◌}
use Rattle.std.specs.Prelude.{All}
use Rattle.vd_execution.specs.Step.{Said, words_in}
use Rattle.vd_machine.specs.Machines.{held}
use Rattle.vd_machine.specs.Kept.{Kept}
use Rattle.vd_machine.proofs.machine.Machine.deed.Goals as goal

pub packet_of-requires-clause-within : goal.packet_of-requires-clause-within
packet_of-requires-clause-within c =
    subst (λ (k : Kept). All (λ r. r.0 < length k.registers) c.in-Say.from.now) (sym c.self.view_is) c.in-Say.ensures.fits.1

pub returns-in-Say-clause-deed : goal.returns-in-Say-clause-deed
returns-in-Say-clause-deed c =
    ap (Said c.in-Say.peer.0) (c.packet_of.ensures.words ∙ ap (λ (k : Kept). words_in (held k.registers) c.in-Say.from.now) c.self.view_is) ∙ c.in-Say.ensures.deed
