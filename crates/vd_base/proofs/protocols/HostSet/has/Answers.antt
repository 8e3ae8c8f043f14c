use Rattle.std.proofs.Common.{◌≡◌, ◌<◌, ◌^◌, ℕ, ◌∙◌, eqb, ltb, refl, sym, ap, arith}
use Rattle.std.specs.Int.{bit_at}
use Rattle.std.proofs.lemmas.Bool.{le-ltb}
use Rattle.std.proofs.lemmas.Nat.Bits.{bit_at_above}
use Rattle.vd_base.proofs.protocols.HostSet.has.Goals as goal

pub returns-else-host-lt8 : goal.returns-else-host-lt8
returns-else-host-lt8 c =
    let high = c.if-host-lt8.false in
    let small : c.args.self.bits < 2 ^ 8 = omega arith in
    le-ltb c.args.host.0 8 high ∙ sym (ap (λ x. eqb x 1) (bit_at_above c.args.self.bits 8 c.args.host.0 small high))
