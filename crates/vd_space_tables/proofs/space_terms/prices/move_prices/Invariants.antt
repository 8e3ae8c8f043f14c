use Rattle.std.proofs.Common.{◌≡◌, map, take}
use Rattle.vd_base.specs.declared.protocols.Proto.{Proto}
use Rattle.vd_base.specs.Moves.{move_at}
use Rattle.vd_space_tables.proofs.space_terms.prices.move_prices.Given as goal

abbrev pub invariant-loop-from : goal.invariant-loop-from
invariant-loop-from l = l.prices ≡ map (λ (from : Proto). map (move_at from) l.list) (take l.from-index l.list)
