-- The status with which a run ends.
use Rattle.std.specs.Prelude.{◌≡◌, ◌≢◌, ℕ, List, Result, Ok, Err}
use Rattle.vd_host_children.specs.declared.fault.ChildrenFault.{ChildrenFault}
use Rattle.vd_host_children.specs.declared.fault.ChildrenFault.TheVariants as children
use Rattle.vd_cmd_plan.specs.declared.status.Status.{Status}
use Rattle.vd_cmd_plan.specs.declared.status.Status.TheVariants.{ChildFault, Ended, Memory, WriteFault}
use Rattle.vd_cmd_run.specs.declared.fault.RunFault.{RunFault}
use Rattle.vd_cmd_run.specs.declared.fault.RunFault.TheVariants as run

abbrev pub child_status : List (List ℕ) → ChildrenFault → Status
child_status names children.Memory = Memory
child_status names (children.Failed host) = ChildFault names (children.Failed host)
child_status names (children.Line host) = ChildFault names (children.Line host)
child_status names (children.Status host status) = ChildFault names (children.Status host status)

abbrev pub run_status : List (List ℕ) → Result (Unit {0}) RunFault → Status
run_status names (Ok done) = Ended
run_status names (Err run.Memory) = Memory
run_status names (Err (run.Store status)) = status
run_status names (Err (run.Children fault)) = child_status names fault
run_status names (Err run.Write) = WriteFault

-- A run ends as out of memory for no fault of a child: the status has the names of the hosts, and which child did what.
abbrev pub FaultsOfChildrenAreNamed : Type 0
FaultsOfChildrenAreNamed = (names : List (List ℕ)) (fault : ChildrenFault) → fault ≢ children.Memory
    → run_status names (Err (run.Children fault)) ≡ ChildFault names fault
