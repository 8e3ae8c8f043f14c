use Rattle.std.proofs.Common.{map, take}
use Rattle.vd_space.specs.Costs.{index_term}
use Rattle.vd_space_tables.specs.Arcs.{AreArcsOf}
use Rattle.vd_space_tables.proofs.space_terms.arcs.index_arcs.Given as goal

abbrev pub invariant-loop-index : goal.invariant-loop-index
invariant-loop-index l = AreArcsOf l.problem l.tells (take l.index-index (map (index_term l.problem) l.problem.indexes)) l.arcs
