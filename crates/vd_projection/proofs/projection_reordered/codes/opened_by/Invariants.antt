use Rattle.std.proofs.Common.{◌≡◌, [], map}
use Rattle.std.specs.List.{range_with_len}
use Rattle.vd_execution.specs.Text.{pick}
use Rattle.vd_reorder.specs.Packets.{opened_in}
use Rattle.vd_projection.proofs.projection_reordered.codes.opened_by.Given as goal

abbrev pub invariant-loop-number : goal.invariant-loop-number
invariant-loop-number l = l.opened ≡ map (λ h. opened_in [] (pick h l.lines)) (range_with_len 0 l.number)
