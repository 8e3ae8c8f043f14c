-- Systems that grow.
use Rattle.std.specs.Prelude.{◌≡◌, ◌≤◌}
use Rattle.vd_constraints.specs.Systems.{Constraints}

-- over the same principals and slots, with no block less
pub record Extends (before now : Constraints) : Type 0 where
  pub principals : now.principals ≡ before.principals
  pub slots : now.slots ≡ before.slots
  pub blocks : before.blocks ≤ now.blocks
