use Rattle.std.proofs.Common.{◌≡◌, ◌++◌, drop}
use Rattle.vd_diag_terminal.specs.FlowSteps.{offsets_in}
use Rattle.vd_diag_terminal.proofs.diag_flow.offsets.+offsets.Given as goal

abbrev pub invariant-add_all_offsets-loop-stmt : goal.invariant-add_all_offsets-loop-stmt
invariant-add_all_offsets-loop-stmt l = l.offsets ++ offsets_in l.form (drop l.stmt-index l.body) ≡ l.initial.offsets ++ offsets_in l.form l.body
