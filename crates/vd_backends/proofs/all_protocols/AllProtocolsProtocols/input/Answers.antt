use Rattle.std.proofs.Common.{arith, refl}
use Rattle.vd_duet.specs.Calls.{in_clear}
use Rattle.vd_execution.specs.declared.instructions.Action.TheVariants as action
use Rattle.vd_clear.specs.Copies.{written_by}
use Rattle.vd_backend_laws.specs.Parts.{put_in}
use Rattle.vd_backends.proofs.Making.{word_made, host_made, written_made}
use Rattle.vd_backends.proofs.all_protocols.AllProtocolsProtocols.input.Goals as goal

pub reserve-at-requires-clause-known : goal.reserve-at-requires-clause-known
reserve-at-requires-clause-known c = rw c.requires.ready.known c.requires.host

pub reserve-at-requires-clause-room : goal.reserve-at-requires-clause-room
reserve-at-requires-clause-room c = let r = c.requires.ready.room c.args.host.0 in omega (arith, r)

pub returns-clause-exact : goal.returns-clause-exact
returns-clause-exact c =
    word_made (put_in c.args.host c.args.to.now.next) c.args.to.now c.add.new.self (in_clear c.in_ok-copies.copies) c.word.result c.word.ensures
    (host_made c.args.host (written_by c.args.host (λ r. action.Input r) c.args.to.now.next) c.args.to.now c.add.new.self c.reserve-at.result (in_clear c.in_ok-copies.copies)
    (rw (c.in_ok-copies.ensures {u = tt}) refl)
    (written_made c.args.host (λ r. action.Input r) c.args.to.now c.reserve-at.new.self c.add.new.self c.reserve-at.result c.reserve-at.ensures (c.in_ok-add.ensures {u = tt})))
