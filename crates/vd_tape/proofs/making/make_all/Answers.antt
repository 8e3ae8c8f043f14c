use Rattle.vd_tape.specs.Made.{keyed_deal}
use Rattle.vd_tape.proofs.Drawn.{next_of}
use Rattle.vd_tape.proofs.making.make_all.Goals as goal

pub loop-me-preserved : goal.loop-me-preserved
loop-me-preserved c =
    next_of (keyed_deal c.args.counts c.args.key.now) c.loop-me.me c.loop-me.deals c.push.new.self c.in_ok-deal.deal c.loop-me.invariant c.in_ok-push.ensures.ok c.in_ok-deal.ensures
