use Rattle.std.proofs.Common.{◌≡◌, [], drop}
use Rattle.std.specs.List.{list_all, list_any}
use Rattle.vd_space.specs.Validity.{all_hosts, holder_told}
use Rattle.vd_diag_terminal.specs.Stuck.{can_be_told}
use Rattle.vd_diag_terminal.proofs.diag_choice.stuck.can_be_told.Given as goal

abbrev pub invariant-loop-place : goal.invariant-loop-place
invariant-loop-place l =
    list_any (λ p. list_all (holder_told l.problem [] l.told p) (all_hosts l.problem)) (drop l.place-index l.place-items) ≡ can_be_told l.problem l.left l.told l.fn.kept
