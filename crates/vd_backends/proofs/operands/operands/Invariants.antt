use Rattle.std.proofs.Common.{◌≡◌, ◌++◌, drop, length, map}
use Rattle.vd_duet.specs.Calls.{in_clear}
use Rattle.vd_backends.proofs.operands.operands.Given as goal

abbrev pub invariant-loop-x : goal.invariant-loop-x
invariant-loop-x l = record {
  exact : map in_clear l.args ++ map (λ x. x.at) (drop l.x-index l.xs) ≡ map (λ x. x.at) l.xs;
  as_many : length l.args ≡ l.x-index;
}
