-- A fault other than out of memory is carried as it is.
use Rattle.std.proofs.Common.{◌≡◌, ◌≢◌, refl}
use Rattle.vd_bound.specs.declared.checking.CheckFault.{CheckFault}
use Rattle.vd_bound.specs.declared.checking.CheckFault.TheVariants as check_fault
use Rattle.vd_report.specs.declared.fault.ReadFault.{ReadFault}
use Rattle.vd_report.specs.declared.fault.ReadFault.TheVariants as read_fault
use Rattle.vd_resolve.specs.declared.fault.NameFault.{NameFault}
use Rattle.vd_resolve.specs.declared.fault.NameFault.TheVariants as name_fault
use Rattle.vd_cmd_plan.specs.declared.status.Status.TheVariants.{Names, InputText, ScheduleText, CertificateRefused}
use Rattle.vd_cmd_plan.specs.Refusals.{rule_status, input_status, schedule_status, check_status}

pub rule_carried : (fault : NameFault) → fault ≢ name_fault.Memory → Names fault ≡ rule_status fault
rule_carried name_fault.Memory other = absurd (other refl)
rule_carried (name_fault.Unknown at) other = refl
rule_carried (name_fault.Twice at first) other = refl
rule_carried (name_fault.Recursive at) other = refl
rule_carried (name_fault.Arity at) other = refl
rule_carried (name_fault.Kind at met) other = refl
rule_carried (name_fault.Limit which count) other = refl

pub input_carried : (fault : ReadFault) → fault ≢ read_fault.Memory → InputText fault ≡ input_status fault
input_carried read_fault.Memory other = absurd (other refl)
input_carried (read_fault.Text offset) other = refl
input_carried (read_fault.UnknownHost offset) other = refl

pub schedule_carried : (fault : ReadFault) → fault ≢ read_fault.Memory → ScheduleText fault ≡ schedule_status fault
schedule_carried read_fault.Memory other = absurd (other refl)
schedule_carried (read_fault.Text offset) other = refl
schedule_carried (read_fault.UnknownHost offset) other = refl

pub check_carried : (fault : CheckFault) → fault ≢ check_fault.Memory → CertificateRefused fault ≡ check_status fault
check_carried check_fault.Memory other = absurd (other refl)
check_carried (check_fault.BadShift shift) other = refl
check_carried (check_fault.Shape mark) other = refl
check_carried check_fault.BestInvalid other = refl
check_carried (check_fault.CostWrong stated own) other = refl
check_carried (check_fault.NotViolated mark) other = refl
check_carried (check_fault.NotBounded mark bound cost) other = refl
