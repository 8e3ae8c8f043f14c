use Rattle.std.proofs.Common.{◌≡◌, drop}
use Rattle.vd_space.specs.Validity.{output_joins}
use Rattle.vd_space_prefix.specs.Naming.{all_at}
use Rattle.vd_space_prefix.proofs.naming.do_outputs_join.Given as goal

abbrev pub invariant-loop-number : goal.invariant-loop-number
invariant-loop-number l = all_at (output_joins l.problem l.prefix) l.problem.outputs (drop l.number-index l.numbers) ≡ all_at (output_joins l.problem l.prefix) l.problem.outputs l.numbers
