use Rattle.std.proofs.Common.{◌≡◌, map, take}
use Rattle.vd_diag_terminal.specs.FlowSteps.{step_remark}
use Rattle.vd_diag_terminal.proofs.diag_flow.steps.way_remarks.Given as goal

abbrev pub invariant-loop-step : goal.invariant-loop-step
invariant-loop-step l = l.remarks ≡ map (step_remark l.form l.offsets) (take l.step-index l.way)
