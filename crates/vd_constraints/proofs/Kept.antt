-- A system to which rules, checks or a block are added stays one.
use Rattle.std.proofs.Common.{ℕ, ◌≤◌, arith}
use Rattle.vd_constraints.specs.declared.system.Place.{Place}
use Rattle.vd_constraints.specs.declared.system.Place.TheVariants.{Slot, Block}
use Rattle.vd_constraints.specs.declared.system.Bound.{Bound}
use Rattle.vd_constraints.specs.declared.system.Bound.TheVariants.{Constant, Same, Given, Or}
use Rattle.vd_constraints.specs.declared.system.Lower.{Lower}
use Rattle.vd_constraints.specs.declared.system.Check.{Check}
use Rattle.vd_constraints.specs.Systems.{IsPlaceIn, IsBoundIn, IsRuleIn, IsCheckIn}

-- ---- more blocks
module _ (names slots blocks more : ℕ) (le : blocks ≤ more) where
  pub more_places : (at : Place) → IsPlaceIn slots blocks at → IsPlaceIn slots more at
  more_places (Slot x) is = is
  more_places (Block b) is = omega arith

  more_bounds : (bound : Bound) → IsBoundIn names slots blocks bound → IsBoundIn names slots more bound
  more_bounds (Constant f) is = is
  more_bounds (Same part) is = more_places part.at is
  more_bounds (Given f part) is = (is.0, more_places part.at is.1)
  more_bounds (Or f part) is = (is.0, more_places part.at is.1)

  pub more_rules : (rule : Lower) → IsRuleIn names slots blocks rule → IsRuleIn names slots more rule
  more_rules rule is = record { part = more_places rule.part.at is.part; bound = more_bounds rule.bound is.bound }

  pub more_checks : (check : Check) → IsCheckIn names slots blocks check → IsCheckIn names slots more check
  more_checks check is = record { constant = is.constant; part = more_places check.part.at is.part }
