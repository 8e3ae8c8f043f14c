use Rattle.std.proofs.Common.{◌≡◌, map, take}
use Rattle.vd_base.specs.Moves.{move_at}
use Rattle.vd_space_tables.proofs.space_terms.prices.prices_from.Given as goal

abbrev pub invariant-loop-to : goal.invariant-loop-to
invariant-loop-to l = l.prices ≡ map (move_at l.from) (take l.to-index l.list)
