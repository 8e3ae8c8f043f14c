use Rattle.std.proofs.Common.{◌<◌, ◌^◌, ◌∙◌, eqb, sym, ap, arith}
use Rattle.std.proofs.lemmas.Bool.{le-ltb}
use Rattle.std.proofs.lemmas.Nat.Bits.{bit_at_above}
use Rattle.vd_report.proofs.name_sets.is_member.Goals as goal

pub returns-else-place-lt8 : goal.returns-else-place-lt8
returns-else-place-lt8 c =
    let high = c.if-place-lt8.false in
    let small : c.args.set < 2 ^ 8 = omega arith in
    le-ltb c.args.place 8 high ∙ sym (ap (λ x. eqb x 1) (bit_at_above c.args.set 8 c.args.place small high))
