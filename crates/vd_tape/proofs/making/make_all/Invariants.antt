use Rattle.std.proofs.Common.{◌≡◌}
use Rattle.vd_tape.specs.Made.{first_of, keyed_deal}
use Rattle.vd_tape.proofs.making.make_all.Given as goal

abbrev pub invariant-loop-me : goal.invariant-loop-me
invariant-loop-me l = l.deals ≡ first_of l.me (keyed_deal l.counts l.key)
