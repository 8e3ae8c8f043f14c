use Rattle.std.proofs.Common.{◌≡◌, length}
use Rattle.vd_space.specs.Validity.{protocols}
use Rattle.vd_space.specs.Costs.{moves_to, hosts_at}
use Rattle.vd_space_prefix.specs.Transfers.{by_place}
use Rattle.vd_space_tables.proofs.space_terms.prices.index_prices.Given as goal

abbrev pub invariant-loop-array : goal.invariant-loop-array
invariant-loop-array l = l.prices ≡ by_place l.array (λ p. by_place (length (protocols l.problem)) (λ q. moves_to l.problem q (hosts_at l.problem p)))
