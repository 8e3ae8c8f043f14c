-- The statuses of refusals: a fault is carried as it is, and running out of memory is that of the command.
use Rattle.vd_bound.specs.declared.checking.CheckFault.{CheckFault}
use Rattle.vd_bound.specs.declared.checking.CheckFault.TheVariants as check_fault
use Rattle.vd_report.specs.declared.fault.ReadFault.{ReadFault}
use Rattle.vd_report.specs.declared.fault.ReadFault.TheVariants as read_fault
use Rattle.vd_resolve.specs.declared.fault.NameFault.{NameFault}
use Rattle.vd_resolve.specs.declared.fault.NameFault.TheVariants as name_fault
use Rattle.vd_cmd_plan.specs.declared.status.Status.{Status}
use Rattle.vd_cmd_plan.specs.declared.status.Status.TheVariants.{Memory, Names, InputText, ScheduleText, CertificateRefused}

-- of a source that breaks a rule
abbrev pub rule_status : NameFault → Status
rule_status name_fault.Memory = Memory
rule_status fault = Names fault

-- of inputs, and of a schedule
abbrev pub input_status : ReadFault → Status
input_status read_fault.Memory = Memory
input_status fault = InputText fault

abbrev pub schedule_status : ReadFault → Status
schedule_status read_fault.Memory = Memory
schedule_status fault = ScheduleText fault

-- of a certificate that is not accepted
abbrev pub check_status : CheckFault → Status
check_status check_fault.Memory = Memory
check_status fault = CertificateRefused fault
