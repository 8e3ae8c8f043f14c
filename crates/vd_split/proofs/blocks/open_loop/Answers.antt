use Rattle.std.proofs.Common.{◌≤◌, ◌<◌, subst, sym, ◌∙◌, arith}
use Rattle.vd_split.specs.Places.{acting}
use Rattle.vd_split.proofs.Opening.{as_before, opened, loop_takes, opening_taken, opening_passed}
use Rattle.vd_split.proofs.blocks.open_loop.Goals as goal
use Rattle.vd_split.proofs.blocks.open_loop.Goals.{then-any_acts+in_ok-mark+in_ok-push, else-any_acts}

pub reserve-register-requires-clause-room : goal.reserve-register-requires-clause-room
reserve-register-requires-clause-room g c =
    let has = acting (g.P.Protocols.offer c.args.protocols.now).calls c.args.protos.now c.args.body.now in
    let same = as_before has c.args.count c.args.to.now c.loop-number.loops c.loop-number.to c.loop-number.number c.loop-number.invariant.0 in
    let room = c.requires.room c.loop-number.number in
    omega (arith, same, room)

pub loop-number-preserved : goal.loop-number-preserved
loop-number-preserved g c =
    let has = acting (g.P.Protocols.offer c.args.protocols.now).calls c.args.protos.now c.args.body.now in
    let lt = subst (λ n. c.loop-number.number < n) c.loop-number.invariant.1 c.loop-number-test.true in (
      elim c.if-any_acts.branch [
        | then-any_acts+in_ok-mark+in_ok-push w ↦
            opening_taken has c.args.count c.args.to.now c.loop-number.loops c.loop-number.to c.loop-number.number c.loop-number.invariant.0 w.reserve-register.result w.reserve-register.new.self c.if-any_acts.loops c.if-any_acts.to
            lt (sym c.any_acts.ensures ∙ w.if-any_acts.true) w.reserve-register.ensures (w.loops-is ∙ w.in_ok-push.ensures.ok) (w.to-is ∙ w.in_ok-mark.ensures)
        | else-any_acts w ↦
            opening_passed has c.args.count c.args.to.now c.loop-number.loops c.loop-number.to c.loop-number.number c.loop-number.invariant.0 c.if-any_acts.loops c.if-any_acts.to
            lt (sym c.any_acts.ensures ∙ w.if-any_acts.false) w.loops-is w.to-is
      ],
      c.loop-number.invariant.1,
    )

pub returns-clause-few : goal.returns-clause-few
returns-clause-few g c =
    let has = acting (g.P.Protocols.offer c.args.protocols.now).calls c.args.protos.now c.args.body.now in
    loop_takes has c.args.count c.loop-number.loops c.args.to.now c.loop-number.to
    (opened has c.args.count c.args.to.now c.loop-number.loops c.loop-number.to c.loop-number.number c.loop-number.invariant.0 (subst (λ n. n ≤ c.loop-number.number) c.loop-number.invariant.1 c.loop-number-test.false))
