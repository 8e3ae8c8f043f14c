use Rattle.std.proofs.Common.{◌≡◌, ◌++◌, drop}
use Rattle.vd_space.specs.Growth.{output_names}
use Rattle.vd_space_prefix.specs.Naming.{numbers_from}
use Rattle.vd_space_prefix.proofs.numbers.numbers_of_outputs.Given as goal

abbrev pub invariant-loop-number : goal.invariant-loop-number
invariant-loop-number l = l.numbers ++ numbers_from (output_names l.slot) l.number (drop l.number l.outputs) ≡ numbers_from (output_names l.slot) 0 l.outputs
