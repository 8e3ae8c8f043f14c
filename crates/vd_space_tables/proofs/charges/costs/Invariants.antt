use Rattle.std.proofs.Common.{◌≡◌, map, take}
use Rattle.std.specs.Prelude.{unwrap_or}
use Rattle.vd_space.specs.Bounds.{nothing_left}
use Rattle.vd_space_tables.proofs.charges.costs.Given as goal

abbrev pub invariant-loop-value : goal.invariant-loop-value
invariant-loop-value l = l.costs ≡ map (λ value. unwrap_or value nothing_left) (take l.value-index l.values)
