use Rattle.std.proofs.Common.{List, subst}
use Rattle.std.specs.Prelude.{IfOk}
use Rattle.vd_space.specs.Costs.{Pair}
use Rattle.vd_space_tables.specs.Arcs.{AreArcsOf}
use Rattle.vd_space_tables.proofs.Network.{unshifted_uses}
use Rattle.vd_space_tables.proofs.space_terms.arcs.use_arcs.Goals as goal

pub returns : goal.returns
returns c = subst (λ (terms : List Pair). IfOk c.shifted_use_arcs.result (AreArcsOf c.args.problem.now c.args.moves.now terms)) (unshifted_uses c.args.problem.now 0 c.args.problem.now.uses) c.shifted_use_arcs.ensures
