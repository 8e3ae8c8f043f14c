use Rattle.vd_duet.specs.Calls.{in_clear}
use Rattle.vd_backend_laws.specs.Parts.{new_cells}
use Rattle.vd_backends.proofs.Making.{array_made}
use Rattle.vd_backends.proofs.Offers.{offered_known, offered_apart}
use Rattle.vd_backends.proofs.all_protocols.AllProtocolsProtocols.cells.Goals as goal

pub cells-requires-clause-apart : goal.cells-requires-clause-apart
cells-requires-clause-apart c = offered_apart c.args.self.now c.args.at c.requires.at

pub cells-requires-clause-known : goal.cells-requires-clause-known
cells-requires-clause-known c = offered_known c.args.self.now c.args.at c.args.to.now.next c.requires.at c.requires.hosts

pub returns-clause-exact : goal.returns-clause-exact
returns-clause-exact c = array_made c.args.size (new_cells c.args.at c.args.size c.args.to.now.next) c.args.to.now c.cells.new.to (in_clear c.in_ok-copies.copies) c.array.result c.array.ensures (c.in_ok-copies.ensures {u = tt}).exact
