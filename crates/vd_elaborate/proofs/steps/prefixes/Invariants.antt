use Rattle.std.proofs.Common.{◌≡◌, drop}
use Rattle.vd_elaborate.specs.Normal.{prefixes_made}
use Rattle.vd_elaborate.proofs.steps.prefixes.Given as goal

abbrev pub invariant-loop-sign : goal.invariant-loop-sign
invariant-loop-sign l = prefixes_made (drop l.sign-index l.signs) l.here l.x l.made ≡ prefixes_made l.signs l.here l.operand l.initial.made
