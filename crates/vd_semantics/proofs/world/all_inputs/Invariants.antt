use Rattle.std.proofs.Common.{◌≡◌, take}
use Rattle.vd_semantics.proofs.world.all_inputs.Given as goal

abbrev pub invariant-loop-words : goal.invariant-loop-words
invariant-loop-words l = l.all.items ≡ take l.words-index l.inputs
