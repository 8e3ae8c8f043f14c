use Rattle.std.proofs.Common.{◌≡◌, drop}
use Rattle.vd_space.specs.Validity.{use_joins}
use Rattle.vd_space_prefix.specs.Naming.{all_at}
use Rattle.vd_space_prefix.proofs.naming.do_uses_join.Given as goal

abbrev pub invariant-loop-number : goal.invariant-loop-number
invariant-loop-number l = all_at (use_joins l.problem l.prefix) l.problem.uses (drop l.number-index l.numbers) ≡ all_at (use_joins l.problem l.prefix) l.problem.uses l.numbers
