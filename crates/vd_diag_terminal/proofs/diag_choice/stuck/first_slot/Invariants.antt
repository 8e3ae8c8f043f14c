use Rattle.std.proofs.Common.{◌≡◌, not, drop}
use Rattle.std.specs.List.{find}
use Rattle.vd_diag_terminal.specs.Stuck.{can_be_told, first_slot}
use Rattle.vd_diag_terminal.proofs.diag_choice.stuck.first_slot.Given as goal

abbrev pub invariant-loop-kept : goal.invariant-loop-kept
invariant-loop-kept l = find (λ kept. not (can_be_told l.problem l.left l.guard.slot kept)) (drop l.kept-index l.guard.slots) ≡ first_slot l.problem l.left l.guard
