use Rattle.vd_space.proofs.Front.{tree_bounded}
use Rattle.vd_space_prefix.proofs.path.PathPrefixes.is_valid.Goals as goal

pub returns-clause-bounded : goal.returns-clause-bounded
returns-clause-bounded c = tree_bounded c.args.self.now.problem.now c.args.self.now.holds c.args.self.now.tables.now.shifts
