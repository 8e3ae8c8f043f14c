use Rattle.std.proofs.Common.{◌<◌, ◌∙◌, List, ℕ, length, ap, sym, subst}
use Rattle.std.specs.Prelude.{All}
use Rattle.vd_execution.specs.Step.{Said, deed, words_in}
use Rattle.vd_execution.specs.World.{done}
use Rattle.vd_machine.specs.Kept.{state_of}
use Rattle.vd_machine.specs.Machines.{held}
use Rattle.vd_world.specs.Hosts.{local}
use Rattle.vd_world.proofs.Noting.{noted_said, unheard}
use Rattle.vd_world.proofs.host.note.Goals as goal

pub returns-in-Quiet-clause-ok : goal.returns-in-Quiet-clause-ok
returns-in-Quiet-clause-ok c = λ m taken.
    let s = state_of c.args.machine.now in
    ap (done (local s c.args.printed.now.items c.args.links.now.items taken) m) (sym (unheard c.args.machine.now.lists s c.requires.waits c.in-Quiet.ensures.deed))

pub send_registers-requires : goal.send_registers-requires
send_registers-requires c = subst (λ (l : List ℕ). All (λ r. r.0 < length l) c.in-Say.from.now) (sym c.registers.ensures) c.in-Say.ensures.fits.1

pub returns-in_ok-send_registers-in-Say-clause-ok : goal.returns-in_ok-send_registers-in-Say-clause-ok
returns-in_ok-send_registers-in-Say-clause-ok c = λ m taken.
    let s = state_of c.args.machine.now in
    let less : c.in-Say.peer.0 < length c.args.links.now.items = subst (λ n. c.in-Say.peer.0 < n) (sym c.requires.links) c.in-Say.ensures.fits.0.0 in
    noted_said m s c.args.printed.now.items taken c.args.links.now.items c.in-Say.peer.0 c.index_mut.result.now c.send_registers.new.self _ (deed s)
    less c.index_mut.ensures.value c.in_ok-send_registers-in-Say.ensures.ok
    (ap (λ (l : List ℕ). Said c.in-Say.peer.0 (words_in (held l) c.in-Say.from.now)) c.registers.ensures ∙ c.in-Say.ensures.deed)
