use Rattle.std.proofs.Common.{arith, ◌<◌, ◌≤◌, Ok, subst}
use Rattle.std.proofs.lemmas.Result.{err_from_is_err_and}
use Rattle.vd_execution.specs.Code.{weight}
use Rattle.vd_machine.specs.Kept.{state_of}
use Rattle.vd_engine.specs.Turning.{IsTurnOf}
use Rattle.vd_engine.specs.declared.engine.Turn.{Turn}
use Rattle.vd_machine.proofs.Front.{quietly_falls}
use Rattle.vd_engine.proofs.Running.{falls_on, goes_unseen}
use Rattle.vd_engine.proofs.Going.{goes_none, goes_quietly, goes_printing, goes_over, goes_wrong, turn_falls}
use Rattle.vd_engine.proofs.engine.drive.Goals as goal

pub loop-machine-init : goal.loop-machine-init
loop-machine-init g c = goes_none _ _ _ _ c.requires.packets c.requires.sound

pub take_turn-requires-clause-packets : goal.take_turn-requires-clause-packets
take_turn-requires-clause-packets g c =
    (goes_unseen g.L.Link.view c.args.machine c.loop-machine.machine c.run.new.self _ _ _ _ c.loop-machine.printed c.loop-machine.invariant c.run.ensures.lists c.run.ensures.steps).packets

pub returns-in_err-take_turn : goal.returns-in_err-take_turn
returns-in_err-take_turn g c =
    let p = err_from_is_err_and c.from_residual.result c.from_residual.ensures.1 in
    rw (p.1, p.2) (goes_wrong g.L.Link.view c.args.machine c.run.new.self c.take_turn.new.machine _ _ _ _ _ _ c.loop-machine.printed _ (goes_unseen g.L.Link.view c.args.machine c.loop-machine.machine c.run.new.self _ _ _ _ c.loop-machine.printed c.loop-machine.invariant c.run.ensures.lists c.run.ensures.steps) (c.in_err-take_turn.ensures {u = tt}).turn)

pub returns-in-Over : goal.returns-in-Over
returns-in-Over g c =
    goes_over g.L.Link.view c.args.machine c.run.new.self c.take_turn.new.machine _ _ _ _ _ _ c.loop-machine.printed (goes_unseen g.L.Link.view c.args.machine c.loop-machine.machine c.run.new.self _ _ _ _ c.loop-machine.printed c.loop-machine.invariant c.run.ensures.lists c.run.ensures.steps)
    (subst (λ (kind : Turn). IsTurnOf g.L.Link.view c.run.new.self c.take_turn.new.machine c.loop-machine.links c.take_turn.new.links (g.O.Sink.view c.loop-machine.out) (g.O.Sink.view c.take_turn.new.out) (Ok kind)) c.in-Over.is (c.in_ok-take_turn.ensures {u = tt}).turn)

pub loop-machine-preserved-in-Quiet : goal.loop-machine-preserved-in-Quiet
loop-machine-preserved-in-Quiet g c =
    goes_quietly g.L.Link.view c.args.machine c.run.new.self c.take_turn.new.machine _ _ _ _ _ _ c.loop-machine.printed (goes_unseen g.L.Link.view c.args.machine c.loop-machine.machine c.run.new.self _ _ _ _ c.loop-machine.printed c.loop-machine.invariant c.run.ensures.lists c.run.ensures.steps) (c.in_ok-take_turn.ensures {u = tt}).lists
    (subst (λ (kind : Turn). IsTurnOf g.L.Link.view c.run.new.self c.take_turn.new.machine c.loop-machine.links c.take_turn.new.links (g.O.Sink.view c.loop-machine.out) (g.O.Sink.view c.take_turn.new.out) (Ok kind)) c.in-Quiet.is (c.in_ok-take_turn.ensures {u = tt}).turn)

pub loop-machine-preserved : goal.loop-machine-preserved
loop-machine-preserved g c =
    goes_printing g.L.Link.view c.args.machine c.run.new.self c.take_turn.new.machine _ _ _ _ _ _ c.loop-machine.printed (goes_unseen g.L.Link.view c.args.machine c.loop-machine.machine c.run.new.self _ _ _ _ c.loop-machine.printed c.loop-machine.invariant c.run.ensures.lists c.run.ensures.steps) (c.in_ok-take_turn.ensures {u = tt}).lists
    (subst (λ (kind : Turn). IsTurnOf g.L.Link.view c.run.new.self c.take_turn.new.machine c.loop-machine.links c.take_turn.new.links (g.O.Sink.view c.loop-machine.out) (g.O.Sink.view c.take_turn.new.out) (Ok kind)) c.in-Printed.is (c.in_ok-take_turn.ensures {u = tt}).turn)

pub loop-machine-smaller-in-Quiet : goal.loop-machine-smaller-in-Quiet
loop-machine-smaller-in-Quiet g c =
    let less : weight (state_of c.take_turn.new.machine).pending < weight (state_of c.run.new.self).pending =
    turn_falls g.L.Link.view c.run.new.self c.take_turn.new.machine c.loop-machine.links c.take_turn.new.links (g.O.Sink.view c.loop-machine.out) (g.O.Sink.view c.take_turn.new.out) 0
    (subst (λ (kind : Turn). IsTurnOf g.L.Link.view c.run.new.self c.take_turn.new.machine c.loop-machine.links c.take_turn.new.links (g.O.Sink.view c.loop-machine.out) (g.O.Sink.view c.take_turn.new.out) (Ok kind)) c.in-Quiet.is (c.in_ok-take_turn.ensures {u = tt}).turn) in
    let most : weight (state_of c.run.new.self).pending ≤ weight (state_of c.loop-machine.machine).pending = quietly_falls c.loop-machine.machine.lists (state_of c.loop-machine.machine) (state_of c.run.new.self) c.run.ensures.steps in
    falls_on _ _ _ less most

pub loop-machine-smaller : goal.loop-machine-smaller
loop-machine-smaller g c =
    let less : weight (state_of c.take_turn.new.machine).pending < weight (state_of c.run.new.self).pending =
    turn_falls g.L.Link.view c.run.new.self c.take_turn.new.machine c.loop-machine.links c.take_turn.new.links (g.O.Sink.view c.loop-machine.out) (g.O.Sink.view c.take_turn.new.out) 1
    (subst (λ (kind : Turn). IsTurnOf g.L.Link.view c.run.new.self c.take_turn.new.machine c.loop-machine.links c.take_turn.new.links (g.O.Sink.view c.loop-machine.out) (g.O.Sink.view c.take_turn.new.out) (Ok kind)) c.in-Printed.is (c.in_ok-take_turn.ensures {u = tt}).turn) in
    let most : weight (state_of c.run.new.self).pending ≤ weight (state_of c.loop-machine.machine).pending = quietly_falls c.loop-machine.machine.lists (state_of c.loop-machine.machine) (state_of c.run.new.self) c.run.ensures.steps in
    falls_on _ _ _ less most

pub overflow_add-printed : goal.overflow_add-printed
overflow_add-printed g c =
    let less : weight (state_of c.take_turn.new.machine).pending < weight (state_of c.run.new.self).pending =
    turn_falls g.L.Link.view c.run.new.self c.take_turn.new.machine c.loop-machine.links c.take_turn.new.links (g.O.Sink.view c.loop-machine.out) (g.O.Sink.view c.take_turn.new.out) 1
    (subst (λ (kind : Turn). IsTurnOf g.L.Link.view c.run.new.self c.take_turn.new.machine c.loop-machine.links c.take_turn.new.links (g.O.Sink.view c.loop-machine.out) (g.O.Sink.view c.take_turn.new.out) (Ok kind)) c.in-Printed.is (c.in_ok-take_turn.ensures {u = tt}).turn) in
    let fuel = (goes_unseen g.L.Link.view c.args.machine c.loop-machine.machine c.run.new.self _ _ _ _ c.loop-machine.printed c.loop-machine.invariant c.run.ensures.lists c.run.ensures.steps).fuel in
    omega (arith, less, fuel, c.requires.short)
