-- When a fault of the spawner is answered.
use Rattle.std.specs.Prelude.{◌≤◌, ℕ, Result, IfErr}
use Rattle.vd_outside.specs.Causes.{Rose}
use Rattle.vd_outside.specs.Spawner.{SpawnerView}
use Rattle.vd_host_children.specs.declared.fault.ChildrenFault.{ChildrenFault}
use Rattle.vd_host_children.specs.declared.fault.ChildrenFault.TheVariants as fault

-- a call that failed was counted
abbrev pub IsCaused : ℕ → ℕ → ChildrenFault → Type 0
IsCaused before now (fault.Failed host) = Rose before now
IsCaused before now other = Unit {0}

-- The count never falls, and a failed call lets it rise.
pub record Causes {T : Type 0} (before now : SpawnerView) (result : Result T ChildrenFault) : Type 0 where
  pub later : before.faults ≤ now.faults
  pub failed : IfErr result (IsCaused before.faults now.faults)
