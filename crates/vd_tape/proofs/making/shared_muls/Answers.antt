use Rattle.std.proofs.Common.{ap, ◌∙◌}
use Rattle.vd_tape.specs.Validity.{peer_at}
use Rattle.vd_tape.specs.Made.{first_of, mul_item}
use Rattle.vd_tape.proofs.Drawn.{next_of}
use Rattle.vd_tape.proofs.making.shared_muls.Goals as goal

pub loop-place-preserved : goal.loop-place-preserved
loop-place-preserved c =
    next_of (λ place. first_of c.args.count (mul_item c.args.key.now c.args.me (peer_at c.args.me place))) c.loop-place.place c.loop-place.lists c.push.new.self c.in_ok-items.items c.loop-place.invariant c.in_ok-push.ensures.ok
    (c.in_ok-items.ensures ∙ ap (λ peer. first_of c.args.count (mul_item c.args.key.now c.args.me peer)) c.peer.ensures)
