use Rattle.std.proofs.Common.{subst}
use Rattle.vd_space.specs.WellFormed.{IsWellFormed}
use Rattle.vd_space_api.proofs.Kept.{well_formed}
use Rattle.vd_space_api.proofs.space.Space.problem.Goals as goal

pub returns-clause-well_formed : goal.returns-clause-well_formed
returns-clause-well_formed c = subst IsWellFormed c.self.view_is (well_formed c.self.inside.problem c.self.inside.list c.self.invariant)
