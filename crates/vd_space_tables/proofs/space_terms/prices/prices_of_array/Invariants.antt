use Rattle.std.proofs.Common.{◌≡◌}
use Rattle.vd_space.specs.Costs.{moves_to, hosts_at}
use Rattle.vd_space_prefix.specs.Transfers.{by_place}
use Rattle.vd_space_tables.proofs.space_terms.prices.prices_of_array.Given as goal

abbrev pub invariant-loop-index : goal.invariant-loop-index
invariant-loop-index l = l.prices ≡ by_place l.index (λ q. moves_to l.problem q (hosts_at l.problem l.array))
