use Rattle.std.proofs.Common.{◌≡◌, [], replicate}
use Rattle.vd_semantics.proofs.world.no_outputs.Given as goal

abbrev pub invariant-loop : goal.invariant-loop
invariant-loop l = l.outputs.items ≡ replicate l.counter []
