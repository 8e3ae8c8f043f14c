use Rattle.vd_machine.proofs.Loading.{load_cursors}
use Rattle.vd_machine.proofs.machine.nothing_taken.Goals as goal

pub returns-clause-cursors : goal.returns-clause-cursors
returns-clause-cursors c = load_cursors _ _ _ c.args.hosts c.args.hosts c.args.hosts c.in_ok-triples.ensures c.in_ok-bits.ensures c.in_ok-pairs.ensures
