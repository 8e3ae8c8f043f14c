use Rattle.std.proofs.Common.{◌≡◌, drop}
use Rattle.vd_space.specs.Validity.{guard_told}
use Rattle.vd_space_prefix.specs.Naming.{all_at}
use Rattle.vd_space_prefix.proofs.naming.are_guards_told.Given as goal

abbrev pub invariant-loop-number : goal.invariant-loop-number
invariant-loop-number l = all_at (guard_told l.problem l.after) l.problem.guards (drop l.number-index l.numbers) ≡ all_at (guard_told l.problem l.after) l.problem.guards l.numbers
