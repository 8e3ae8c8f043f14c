use Rattle.std.proofs.Common.{take}
use Rattle.vd_space.specs.Bounds.{shifted_uses}
use Rattle.vd_space_tables.specs.Arcs.{AreArcsOf}
use Rattle.vd_space_tables.proofs.space_terms.arcs.shifted_use_arcs.Given as goal

abbrev pub invariant-loop-number : goal.invariant-loop-number
invariant-loop-number l = AreArcsOf l.problem l.moves (take l.number (shifted_uses l.problem l.shifts 0 l.problem.uses)) l.arcs
