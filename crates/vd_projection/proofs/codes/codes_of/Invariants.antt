use Rattle.std.proofs.Common.{◌≡◌, map}
use Rattle.std.specs.List.{range_with_len}
use Rattle.vd_execution.specs.Text.{pick}
use Rattle.vd_projection.proofs.codes.codes_of.Given as goal

abbrev pub invariant-loop-number : goal.invariant-loop-number
invariant-loop-number l = l.codes ≡ map (λ h. pick h l.lines) (range_with_len 0 l.number)
