use Rattle.vd_duet.specs.Calls.{in_clear}
use Rattle.vd_backend_laws.specs.Parts.{back_end}
use Rattle.vd_backends.proofs.Making.{word_made}
use Rattle.vd_backends.proofs.Offers.{offered_known}
use Rattle.vd_backends.proofs.all_protocols.AllProtocolsProtocols.keep.Goals as goal

pub keep-requires-clause-known : goal.keep-requires-clause-known
keep-requires-clause-known c = offered_known c.args.self.now c.args.at c.args.to.now.next c.requires.at c.requires.ready.known

pub keep-requires-clause-placed : goal.keep-requires-clause-placed
keep-requires-clause-placed c = rw c.parts.ensures c.requires.placed

pub returns-clause-exact : goal.returns-clause-exact
returns-clause-exact c = word_made ((back_end c.args.at).keep c.args.x.now.at c.args.to.now.next) c.args.to.now c.keep.new.to (in_clear c.in_ok-copies.copies) c.word.result c.word.ensures (rw c.parts.ensures at (c.in_ok-copies.ensures {u = tt}).exact)
