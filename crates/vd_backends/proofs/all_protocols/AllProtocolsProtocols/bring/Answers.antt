use Rattle.vd_duet.specs.Calls.{in_clear}
use Rattle.vd_backend_laws.specs.Moves.{moved}
use Rattle.vd_backend_laws.specs.Parts.{back_end, route}
use Rattle.vd_backends.proofs.Making.{word_made}
use Rattle.vd_backends.proofs.Offers.{offered_known}
use Rattle.vd_backends.proofs.all_protocols.AllProtocolsProtocols.bring.Goals as goal

pub bring-requires-clause-known : goal.bring-requires-clause-known
bring-requires-clause-known c = offered_known c.args.self.now c.args.from c.args.to.now.next c.requires.from c.requires.ready.known

pub bring-requires-clause-onto_known : goal.bring-requires-clause-onto_known
bring-requires-clause-onto_known c = offered_known c.args.self.now c.args.onto c.args.to.now.next c.requires.onto c.requires.ready.known

pub bring-requires-clause-placed : goal.bring-requires-clause-placed
bring-requires-clause-placed c = rw c.parts.ensures c.requires.placed

pub returns-clause-exact : goal.returns-clause-exact
returns-clause-exact c = word_made (moved (route c.args.from c.args.onto) (back_end c.args.from) (back_end c.args.onto) c.args.x.now.at c.args.to.now.next) c.args.to.now c.bring.new.to (in_clear c.in_ok-copies.copies) c.word.result c.word.ensures (rw c.parts.ensures at (c.in_ok-copies.ensures {u = tt}).exact)
