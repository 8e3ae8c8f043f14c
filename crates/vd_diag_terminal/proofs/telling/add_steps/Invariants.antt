use Rattle.std.proofs.Common.{◌≡◌, ◌++◌, drop}
use Rattle.vd_diag_terminal.specs.Said.{steps_told}
use Rattle.vd_diag_terminal.proofs.telling.add_steps.Given as goal

abbrev pub invariant-loop-step : goal.invariant-loop-step
invariant-loop-step l =
    l.text ++ steps_told l.coloured l.name l.bytes (drop l.step-index l.steps) ≡ l.initial.text ++ steps_told l.coloured l.name l.bytes l.steps
