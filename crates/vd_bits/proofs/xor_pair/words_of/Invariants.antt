use Rattle.std.proofs.Common.{◌≡◌, map, take}
use Rattle.vd_duet.specs.Calls.{all_placed}
use Rattle.vd_backend_sharing.specs.PairCalls.{shares_of}
use Rattle.vd_bits.proofs.xor_pair.words_of.Given as goal

abbrev pub invariant-loop-x : goal.invariant-loop-x
invariant-loop-x l = l.words ≡ map shares_of (all_placed (λ c. c.0) (take l.x-index l.x-items))
