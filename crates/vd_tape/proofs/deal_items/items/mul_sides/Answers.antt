use Rattle.std.proofs.Common.{sym, ap, ◌+◌, ◌%◌}
use Rattle.std.proofs.lemmas.Nat.{mul-mod}
use Rattle.vd_tape.proofs.deal_items.items.mul_sides.Goals as goal

pub returns : goal.returns
returns c =
    ap (λ left. (left, (c.args.first.c + c.args.second.c) % 4294967296))
    (sym (mul-mod (c.args.first.a + c.args.second.a) (c.args.first.b + c.args.second.b) 4294967296))
