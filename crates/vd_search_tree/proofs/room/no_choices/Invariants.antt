use Rattle.std.proofs.Common.{◌≡◌, length}
use Rattle.vd_search_tree.proofs.room.no_choices.Given as goal

abbrev pub invariant-loop : goal.invariant-loop
invariant-loop l = length l.room ≡ l.counter
