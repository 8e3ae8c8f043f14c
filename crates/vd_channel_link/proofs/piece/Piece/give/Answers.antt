use Rattle.std.proofs.Common.{◌≤◌, ◌+◌, ◌-◌, arith, length, take, drop, length-take}
use Rattle.vd_channel_link.proofs.Given.{given}
use Rattle.vd_channel_link.proofs.piece.Piece.give.Goals as goal

pub returns-clause-given : goal.returns-clause-given
returns-clause-given c =
    let piece = c.self.inside in
    let count = c.min-count.result in
    let left = take (piece.filled - piece.given) (drop piece.given piece.bytes) in
    let within : piece.given + count ≤ piece.filled = omega (arith, c.min-count.ensures, c.self.invariant.0, length-take (piece.filled - piece.given) (drop piece.given piece.bytes)) in
    let room : count ≤ length c.args.into.now = omega (arith, c.min-count.ensures) in
    rw (← c.self.view_is)
    (given piece.bytes c.args.into.now c.copy_from_slice.new.self piece.given piece.filled count within room c.copy_from_slice.ensures.len c.copy_from_slice.ensures.after)
