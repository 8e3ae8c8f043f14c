use Rattle.std.proofs.Common.{◌≡◌, map}
use Rattle.std.specs.List.{range_with_len}
use Rattle.vd_execution.specs.Text.{pick}
use Rattle.vd_reorder.specs.Passing.{hastened_by}
use Rattle.vd_choreography_reorder.specs.Testing.{opened_at}
use Rattle.vd_projection.proofs.projection_reordered.codes.hastened_codes.Given as goal

abbrev pub invariant-loop-number : goal.invariant-loop-number
invariant-loop-number l = l.codes ≡ map (λ h. hastened_by (opened_at l.opened h) (pick h l.lines)) (range_with_len 0 l.number)
