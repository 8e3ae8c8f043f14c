use Rattle.std.proofs.Common.{◌≡◌}
use Rattle.vd_space.specs.Costs.{weigh}
use Rattle.vd_space.specs.Validity.{move_to_host}
use Rattle.vd_space_prefix.specs.Transfers.{by_place}
use Rattle.vd_space_tables.proofs.values.told_values.Given as goal

abbrev pub invariant-loop-place : goal.invariant-loop-place
invariant-loop-place l = l.values ≡ by_place l.place (λ p. weigh l.weight (move_to_host l.problem l.host p))
