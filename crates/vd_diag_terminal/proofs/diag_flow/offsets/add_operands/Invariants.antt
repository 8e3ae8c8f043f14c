use Rattle.std.proofs.Common.{◌≡◌, ◌++◌, drop}
use Rattle.std.specs.List.{flat_map}
use Rattle.vd_diag_terminal.specs.FlowSteps.{two}
use Rattle.vd_diag_terminal.proofs.diag_flow.offsets.add_operands.Given as goal

abbrev pub invariant-loop-operand : goal.invariant-loop-operand
invariant-loop-operand l = l.offsets ++ flat_map (λ y. two l.offset) (drop l.operand-index l.operands) ≡ l.initial.offsets ++ flat_map (λ y. two l.offset) l.operands
