use Rattle.std.proofs.Common.{◌<◌, length, refl, sym, ap, ◌∙◌, subst, arith, List}
use Rattle.std.proofs.lemmas.Option.{slice_get_read}
use Rattle.vd_execution.specs.Step.{need}
use Rattle.vd_execution.specs.States.{host_state}
use Rattle.vd_execution.specs.World.{given, Local}
use Rattle.vd_execution.specs.States.{state_for}
use Rattle.vd_machine.specs.Kept.{state_of}
use Rattle.vd_machine.specs.Machines.{cursors_of}
use Rattle.vd_world.specs.declared.heard.Turn.TheVariants as turn
use Rattle.vd_world.specs.Hears.{Hears}
use Rattle.vd_world.specs.Hosts.{HostKept, local_of, lists_of, local_or_nobody, world_of, supply_of}
use Rattle.vd_world.proofs.Hearing.{stands}
use Rattle.vd_world.proofs.world.World.state.Goals as goal

pub returns-in-Stuck : goal.returns-in-Stuck
returns-in-Stuck c =
    let v = c.self.inside.hosts in
    let h = c.args.h.0 in
    let k = c.index-host.result.now in
    let less : h < length v.items = omega (arith, c.if-len-at.false, c.len.ensures, v.ok.0) in
    let there = slice_get_read v.items (length v.items) h k refl less c.index-host.ensures in
    let hears : Hears v.items h k turn.Stuck = subst (λ (l : List HostKept). Hears l h k turn.Stuck) c.deref.ensures.value c.in-Stuck.ensures.hears in
    c.state_of_want.ensures
    ∙ stands (given (supply_of v.items) (world_of v.items) h (local_of k)) k.machine.lists (cursors_of k.machine.taken) (need (state_of k.machine)) c.want.result (ap lists_of there) c.want.ensures.need hears
    ∙ ap (λ (l : Local). state_for (given (supply_of v.items) (world_of v.items) h l) l.state.cursors (need l.state)) (sym (ap local_or_nobody there))
    ∙ ap (λ l. host_state (supply_of l) (world_of l) h) c.self.view_is
