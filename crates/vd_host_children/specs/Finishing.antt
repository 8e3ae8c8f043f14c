-- How a child is finished.
use Rattle.std.specs.Prelude.{◌≢◌, ℕ, Result, Ok, Err}
use Rattle.vd_base.specs.declared.faults.CallFault.{CallFault}
use Rattle.vd_base.specs.declared.ids.HostId.{HostId}
use Rattle.vd_outside.specs.Spawner.{SpawnerView, Finishes}
use Rattle.vd_host_children.specs.Faults.{fault_at}
use Rattle.vd_host_children.specs.declared.fault.ChildrenFault.{ChildrenFault}
use Rattle.vd_host_children.specs.declared.fault.ChildrenFault.TheVariants as fault

-- A child is finished. Its status is 0, or it is carried.
pub data Ends (child : ℕ) (host : HostId) (before now : SpawnerView) : Result (Unit {0}) ChildrenFault → Type 0 where
  Well : Finishes child before now (Ok 0) → Ends child host before now (Ok tt)
  WithStatus : (status : ℕ) → status ≢ 0 → Finishes child before now (Ok status) → Ends child host before now (Err (fault.Status host status))
  Unfinished : (cause : CallFault) → Finishes child before now (Err cause) → Ends child host before now (Err (fault_at host cause))
