use Rattle.std.proofs.Common.{◌≡◌, ◌∙◌, [], ap, sym, subst}
use Rattle.vd_execution.specs.Step.{need, deed}
use Rattle.vd_execution.specs.World.{done}
use Rattle.vd_machine.specs.declared.want.Want.TheVariants as want
use Rattle.vd_machine.specs.Kept.{state_of}
use Rattle.vd_machine.specs.Machines.{cursors_of}
use Rattle.vd_machine.specs.Wants.{wanted}
use Rattle.vd_machine.proofs.Front.{met_alone}
use Rattle.vd_world.specs.Hosts.{HostKept, local_of, gone_on}
use Rattle.vd_world.proofs.host.Host.go.Goals as goal

pub note-requires-clause-waits : goal.note-requires-clause-waits
note-requires-clause-waits c = subst (λ (k : HostKept). want.Nothing ≡ wanted k.machine) (sym c.self.view_is) c.requires

pub advance-requires : goal.advance-requires
advance-requires c =
    let m = c.self.inside.machine in
    met_alone m.lists (cursors_of m.taken) (need (state_of m)) (sym (subst (λ (k : HostKept). want.Nothing ≡ wanted k.machine) (sym c.self.view_is) c.requires))

pub returns-clause-ok : goal.returns-clause-ok
returns-clause-ok c =
    let h = c.self.inside in
    let k : HostKept = record { machine = h.machine; printed = h.printed.items; links = h.links.items; taken = h.taken.items } in
    c.in_ok-note.ensures.ok (state_of c.advance.new.self) h.taken.items
    ∙ ap (λ m. done (local_of k) m (deed (state_of k.machine))) c.advance.ensures.state
    ∙ ap (λ (k : HostKept). gone_on k []) c.self.view_is
