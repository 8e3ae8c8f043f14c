-- The statuses of refusals.
use Rattle.std.proofs.Common.{◌≡◌, Result, Ok, Err, refl, sym, ap}
use Rattle.std.specs.Prelude.{◌≢◌}
use Rattle.vd_core.specs.declared.normal.NormalForm.{NormalForm}
use Rattle.vd_constraints.specs.declared.labels.Labels.{Labels}
use Rattle.vd_bound.specs.declared.checking.CheckFault.{CheckFault}
use Rattle.vd_bound.specs.declared.checking.CheckFault.TheVariants as check_fault
use Rattle.vd_bound.specs.declared.checking.Proved.{Proved}
use Rattle.vd_cmd_plan.specs.Plans.{IsRefusal}
use Rattle.vd_cmd_plan.specs.declared.status.Status.{Status}
use Rattle.vd_cmd_plan.specs.declared.status.Status.TheVariants.{Ended, Memory, Usage, ReadFault, WriteFault, NoAssignment, Host, ChildFault}
use Rattle.vd_cmd_plan.specs.Refusals.{check_status}
use Rattle.vd_cmd_choose.specs.Certifying.{as_proved}
use Rattle.vd_cmd_choose.specs.Problems.{as_problem}

pub check_refusal : (wanted : Result Proved CheckFault) (fault : CheckFault) → (◌≢◌ {A = Result Proved CheckFault} (Err fault) (Err check_fault.Memory) → Err fault ≡ wanted) → IsRefusal (as_proved wanted) (check_status fault)
check_refusal wanted (check_fault.BadShift shift) is = sym (ap as_proved (is (λ e. cc e)))
check_refusal wanted (check_fault.Shape mark) is = sym (ap as_proved (is (λ e. cc e)))
check_refusal wanted check_fault.BestInvalid is = sym (ap as_proved (is (λ e. cc e)))
check_refusal wanted (check_fault.CostWrong stated own) is = sym (ap as_proved (is (λ e. cc e)))
check_refusal wanted (check_fault.NotViolated mark) is = sym (ap as_proved (is (λ e. cc e)))
check_refusal wanted (check_fault.NotBounded mark bound cost) is = sym (ap as_proved (is (λ e. cc e)))
check_refusal wanted check_fault.Memory is = tt

pub problem_refusal : (program : NormalForm) (wanted : Result Labels Status) (status : Status) → IsRefusal wanted status → IsRefusal (as_problem program wanted) status
problem_refusal program wanted Ended is = is
problem_refusal program wanted (NoAssignment other) is = is
problem_refusal program wanted Memory is = is
problem_refusal program wanted Usage is = is
problem_refusal program wanted (ReadFault name) is = is
problem_refusal program wanted WriteFault is = is
problem_refusal program wanted (Host cause) is = (is.0, ap (as_problem program) is.1)
problem_refusal program wanted (ChildFault hosts fault) is = is
problem_refusal program wanted status is = ap (as_problem program) is
