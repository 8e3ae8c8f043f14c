use Rattle.std.proofs.Common.{◌≡◌, drop}
use Rattle.vd_resolve.specs.Causes.{argument_met}
use Rattle.vd_resolve.proofs.arguments.other_argument.Given as goal

-- the arguments that are left decide
abbrev pub invariant-loop-place : goal.invariant-loop-place
invariant-loop-place l = argument_met l.place (drop l.place l.kinds) l.left ≡ argument_met 0 l.kinds l.parameters
