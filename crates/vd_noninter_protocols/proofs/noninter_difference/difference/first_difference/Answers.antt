use Rattle.std.proofs.Common.{◌≡◌, length, refl, subst, arith}
use Rattle.vd_noninter_protocols.proofs.Differences.{GoesOn, ended_here, differ_here, ended_first}
use Rattle.vd_noninter_protocols.proofs.noninter_difference.difference.first_difference.Goals.{then-at-second-via-then-at-second, then-at-second-via-else-at-second+then-first-at}
use Rattle.vd_noninter_protocols.proofs.noninter_difference.difference.first_difference.Goals as goal

pub returns-then-at-second : goal.returns-then-at-second
returns-then-at-second c = elim c.then-at-second.branch [
  | then-at-second-via-then-at-second w ↦
      ended_here c.args.first.now c.args.second.now c.loop-at.at c.loop-at.invariant.1 (omega (arith, c.loop-at-test.true)) (omega (arith, w.if-at-second.true))
  | then-at-second-via-else-at-second+then-first-at w ↦
      differ_here c.args.first.now c.args.second.now c.loop-at.at _ _ c.loop-at.invariant.1 (omega (arith, c.loop-at-test.true)) (omega (arith, w.if-at-second.false)) refl refl w.if-first-at.true
]

pub returns-then-first-second : goal.returns-then-first-second
returns-then-first-second c =
    let last : c.loop-at.at ≡ length c.args.first.now = omega (arith, c.loop-at-test.false, c.loop-at.auto.at-end) in
    ended_first c.args.first.now c.args.second.now (subst (GoesOn c.args.first.now c.args.second.now) last c.loop-at.invariant.1) (omega (arith, c.if-first-second.true))
