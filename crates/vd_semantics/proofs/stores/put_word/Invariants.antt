use Rattle.std.proofs.Common.{◌≡◌, ◌+◌, ◌-◌, length}
use Rattle.vd_semantics.specs.Stores.{put}
use Rattle.vd_semantics.proofs.stores.put_word.Given as goal

abbrev pub invariant-loop-store : goal.invariant-loop-store
invariant-loop-store l = put 0 l.store.items l.at l.word ≡ put 0 l.initial.store.items l.at l.word

abbrev pub decreases-loop-store : goal.decreases-loop-store
decreases-loop-store l = l.at + 1 - length l.store.items
