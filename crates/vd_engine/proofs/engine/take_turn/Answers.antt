use Rattle.std.proofs.Common.{ℕ, List, ap, subst, sym, ◌∙◌}
use Rattle.vd_execution.specs.Step.{Deed, need}
use Rattle.vd_machine.specs.Kept.{state_of}
use Rattle.vd_base.specs.Words.{AreWords}
use Rattle.vd_engine.specs.Drives.{sessions_of}
use Rattle.vd_engine.specs.Hosts.{next_with, seen_at, stands_in, wants_with}
use Rattle.vd_engine.specs.Turning.{IsDone}
use Rattle.vd_engine.proofs.Codes.{awaits, can_show, met_alone}
use Rattle.vd_engine.proofs.Turns.{goes_alone, goes_heard, stops_unheard}
use Rattle.vd_engine.proofs.engine.take_turn.Goals as goal

pub step-requires : goal.step-requires
step-requires g c =
    let m = c.args.machine.now in
    met_alone m.lists (state_of m).cursors (need (state_of m)) (sym c.want.ensures.need ∙ c.in-Nothing.is)

pub show-requires-clause-shown : goal.show-requires-clause-shown
show-requires-clause-shown g c = can_show _ _ _ _ c.requires.packets c.step.ensures.did

pub returns-in-Nothing-clause-turn : goal.returns-in-Nothing-clause-turn
returns-in-Nothing-clause-turn g c =
    let m = c.args.machine.now in
    goes_alone (wants_with m.lists) (next_with m.lists) seen_at (state_of m) (state_of c.step.new.self) (sessions_of g.L.Link.view c.args.links.now) (sessions_of g.L.Link.view c.show.new.links) (g.O.Sink.view c.args.out.now) (g.O.Sink.view c.show.new.out) c.show.result
    (sym c.want.ensures.need ∙ c.in-Nothing.is) c.step.ensures.state
    (subst (λ (d : Deed). IsDone d (sessions_of g.L.Link.view c.args.links.now) (sessions_of g.L.Link.view c.show.new.links) (g.O.Sink.view c.args.out.now) (g.O.Sink.view c.show.new.out) c.show.result) c.step.ensures.did c.show.ensures)

pub returns-in-Ok-clause-turn : goal.returns-in-Ok-clause-turn
returns-in-Ok-clause-turn g c =
    let m = c.args.machine.now in
    let is = sym c.want.ensures.need ∙ c.in-Words.is in
    goes_heard (wants_with m.lists) (next_with m.lists) seen_at (state_of m) (state_of c.step-in-Ok.new.self) c.in-Words.host c.in-Words.count c.in-Ok.packet (sessions_of g.L.Link.view c.args.links.now) (sessions_of g.L.Link.view c.hear.new.links) (g.O.Sink.view c.args.out.now)
    is
    (awaits (stands_in c.args.links.now) m.lists (state_of m).cursors (state_of m).registers (state_of m).pending c.in-Words.host c.in-Words.count c.requires.packets is).quiet
    c.requires.sound (c.in-Ok.ensures {u = tt})
    (c.step-in-Ok.ensures.state ∙ ap (λ (words : List ℕ). next_with m.lists (state_of m) words) c.words_of-words.ensures.same)
    (subst AreWords c.words_of-words.ensures.same c.words_fit.ensures.each)

pub returns-in-Err-clause-turn : goal.returns-in-Err-clause-turn
returns-in-Err-clause-turn g c =
    let m = c.args.machine.now in
    rw c.fault_of.ensures
    (stops_unheard (wants_with m.lists) seen_at (state_of m) c.in-Words.host c.in-Words.count (sessions_of g.L.Link.view c.args.links.now) (sessions_of g.L.Link.view c.hear.new.links) (g.O.Sink.view c.args.out.now) c.in-Err.fault
    (sym c.want.ensures.need ∙ c.in-Words.is) c.requires.sound (c.in-Err.ensures {u = tt}))
