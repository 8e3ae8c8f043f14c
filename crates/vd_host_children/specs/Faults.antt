-- The faults of children.
use Rattle.vd_base.specs.declared.faults.CallFault.{CallFault}
use Rattle.vd_base.specs.declared.faults.CallFault.TheVariants as call_fault
use Rattle.vd_base.specs.declared.ids.HostId.{HostId}
use Rattle.vd_host_children.specs.declared.fault.ChildrenFault.{ChildrenFault}
use Rattle.vd_host_children.specs.declared.fault.ChildrenFault.TheVariants as fault

-- a call of the spawner that gave nothing, for this host
abbrev pub fault_at : HostId → CallFault → ChildrenFault
fault_at host call_fault.Failed = fault.Failed host
fault_at host call_fault.Memory = fault.Memory
