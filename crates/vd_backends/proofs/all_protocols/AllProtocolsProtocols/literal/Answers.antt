use Rattle.vd_duet.specs.Calls.{in_clear}
use Rattle.vd_backend_laws.specs.Parts.{back_end}
use Rattle.vd_backends.proofs.Making.{word_made}
use Rattle.vd_backends.proofs.Offers.{offered_known}
use Rattle.vd_backends.proofs.all_protocols.AllProtocolsProtocols.literal.Goals as goal

pub literal-requires-clause-known : goal.literal-requires-clause-known
literal-requires-clause-known c = offered_known c.args.self.now c.args.at c.args.to.now.next c.requires.at c.requires.ready.known

pub returns-clause-exact : goal.returns-clause-exact
returns-clause-exact c = word_made ((back_end c.args.at).literal c.args.word c.args.to.now.next) c.args.to.now c.literal.new.to (in_clear c.in_ok-copies.copies) c.word.result c.word.ensures ((c.in_ok-copies.ensures {u = tt}).exact)
