use Rattle.vd_duet.specs.Calls.{in_clear}
use Rattle.vd_backend_laws.specs.Parts.{turned}
use Rattle.vd_backends.proofs.Making.{word_made}
use Rattle.vd_backends.proofs.Offers.{offered_known}
use Rattle.vd_backends.proofs.all_protocols.AllProtocolsProtocols.turn.Goals as goal

pub turn-requires-clause-known : goal.turn-requires-clause-known
turn-requires-clause-known c = offered_known c.args.self.now c.args.at c.args.to.now.next c.requires.at c.requires.ready.known

pub returns-clause-exact : goal.returns-clause-exact
returns-clause-exact c = word_made (turned c.args.at c.args.turns.now c.args.to.now.next) c.args.to.now c.turn.new.to (in_clear c.in_ok-copies.copies) c.word.result c.word.ensures ((c.in_ok-copies.ensures {u = tt}).exact)
