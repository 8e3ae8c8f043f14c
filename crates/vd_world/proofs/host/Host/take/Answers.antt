use Rattle.std.proofs.Common.{◌≡◌, ◌<◌, ◌∙◌, length, refl, ap, sym, subst, arith}
use Rattle.vd_execution.specs.Step.{need, deed}
use Rattle.vd_execution.specs.World.{done}
use Rattle.vd_machine.specs.declared.want.Want.TheVariants as want
use Rattle.vd_machine.specs.Kept.{state_of}
use Rattle.vd_machine.specs.Machines.{IsMet, cursors_of}
use Rattle.vd_machine.specs.Wants.{wanted}
use Rattle.vd_world.specs.Hears.{IsTaken}
use Rattle.vd_world.specs.Hosts.{HostKept, local_of, gone_on}
use Rattle.vd_world.proofs.Noting.{noted_heard, hears}
use Rattle.vd_world.proofs.host.Host.take.Goals as goal
use Rattle.vd_machine.proofs.Front.{wants_words}

pub index_mut-requires : goal.index_mut-requires
index_mut-requires c =
    let taken = subst (λ (k : HostKept). IsTaken k c.args.peer.0 c.args.words.now) (sym c.self.view_is) c.requires.taken in
    let less : c.args.peer.0 < length c.self.inside.taken.items = subst (λ n. c.args.peer.0 < n) (sym c.self.invariant.1) taken.peer_is in
    omega (arith, less, c.self.inside.taken.ok.0)

pub advance-requires : goal.advance-requires
advance-requires c =
    let m = c.self.inside.machine in
    let xs = c.args.words.now in
    let waits = subst (λ (k : HostKept). want.Words c.args.peer (length xs) ≡ wanted k.machine) (sym c.self.view_is) c.requires.waits in
    subst (IsMet m.lists (cursors_of m.taken) xs) (sym (wants_words m.lists (cursors_of m.taken) (need (state_of m)) c.args.peer (length xs) waits)) refl

pub returns-clause-state : goal.returns-clause-state
returns-clause-state c =
    let h = c.self.inside in
    let k : HostKept = record { machine = h.machine; printed = h.printed.items; links = h.links.items; taken = h.taken.items } in
    let s = state_of h.machine in
    let xs = c.args.words.now in
    let p = c.args.peer in
    let waits = subst (λ (k : HostKept). want.Words p (length xs) ≡ wanted k.machine) (sym c.self.view_is) c.requires.waits in
    let taken = subst (λ (k : HostKept). IsTaken k p.0 xs) (sym c.self.view_is) c.requires.taken in
    let needs = wants_words h.machine.lists (cursors_of h.machine.taken) (need s) p (length xs) waits in
    noted_heard (state_of c.advance.new.self) s h.printed.items h.taken.items h.links.items p.0 c.index_mut.result.now (deed s)
    (subst (λ n. p.0 < n) (sym c.self.invariant.1) taken.peer_is) c.index_mut.ensures.value (hears s p.0 (length xs) needs)
    ∙ ap (λ m. done (local_of k) m (deed s)) c.advance.ensures.state
    ∙ ap (λ (k : HostKept). gone_on k xs) c.self.view_is
