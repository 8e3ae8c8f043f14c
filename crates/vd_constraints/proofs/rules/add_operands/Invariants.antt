use Rattle.std.proofs.Common.{drop}
use Rattle.vd_constraints.specs.Rules.{with_operands}
use Rattle.vd_constraints.proofs.Walks.{WalkSoFar}
use Rattle.vd_constraints.proofs.rules.add_operands.Given as goal

abbrev pub invariant-loop-operand : goal.invariant-loop-operand
invariant-loop-operand l =
    WalkSoFar l.initial.system l.system
    (with_operands (drop l.operand-index l.operands) l.slot l.system)
    (with_operands l.operands l.slot l.initial.system)
