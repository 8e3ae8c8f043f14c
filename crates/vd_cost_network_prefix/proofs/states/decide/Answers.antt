use Rattle.std.proofs.Common.{length, ap, arith}
use Rattle.vd_cost_network_prefix.proofs.Decided.{all_written}
use Rattle.vd_cost_network_prefix.proofs.states.decide.Goals as goal

pub returns : goal.returns
returns c =
    let same = ap length c.as_slice-count.ensures in
    let room = c.requires.room in
    let past = c.loop-point-test.false in
    all_written c.args.problem.now c.args.prefix.now c.loop-point.states c.loop-point.invariant.size (λ k low. c.loop-point.invariant.written k (omega (arith, same, room, past, low)))
