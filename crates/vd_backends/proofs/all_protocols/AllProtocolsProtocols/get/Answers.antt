use Rattle.vd_duet.specs.Calls.{in_clear}
use Rattle.vd_backend_laws.specs.Parts.{cell_read}
use Rattle.vd_backends.proofs.Making.{word_made}
use Rattle.vd_backends.proofs.Offers.{offered_known}
use Rattle.vd_backends.proofs.all_protocols.AllProtocolsProtocols.get.Goals as goal

pub get-requires-clause-known : goal.get-requires-clause-known
get-requires-clause-known c = offered_known c.args.self.now c.args.at c.args.to.now.next c.requires.at c.requires.ready.known

pub returns-clause-exact : goal.returns-clause-exact
returns-clause-exact c = word_made (cell_read c.args.at c.args.x.now c.args.index.now c.args.to.now.next) c.args.to.now c.get.new.to (in_clear c.in_ok-copies.copies) c.word.result c.word.ensures ((c.in_ok-copies.ensures {u = tt}).exact)
