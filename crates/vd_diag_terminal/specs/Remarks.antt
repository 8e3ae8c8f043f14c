-- What is said of a status that speaks of the file with these bytes.
use Rattle.std.specs.Prelude.{◌≡◌, ℕ, List, Option, Some, None}
use Rattle.vd_diag_terminal.specs.Flow.{flow_remark}
use Rattle.vd_report.specs.declared.fault.ReadFault.{ReadFault}
use Rattle.vd_report.specs.declared.fault.ReadFault.TheVariants as read_fault
use Rattle.vd_cmd_plan.specs.declared.status.FlowFault.{FlowFault}
use Rattle.vd_cmd_plan.specs.declared.status.Status.{Status}
use Rattle.vd_cmd_plan.specs.declared.status.Status.TheVariants as status
use Rattle.vd_diag.specs.Files.{host_sentence, schedule_sentence}
use Rattle.vd_diag.specs.Inputs.{inputs_sentence, token_at}
use Rattle.vd_diag.specs.Remarks.{at}
use Rattle.vd_diag.specs.declared.remark.Remark.{Remark}
use Rattle.vd_diag_source.specs.Rules.{IsRuleRemark}
use Rattle.vd_diag_source.specs.SyntaxRemarks.{SaysOfSyntax}
use Rattle.vd_diag_terminal.specs.Programs.{IsAssignmentRemark, IsSearchRemark, SaysOne}

-- ---- of inputs and of schedules, which have names of hosts; running out of memory is no fault of theirs

abbrev pub IsInputsRemark : List ℕ → ReadFault → Remark → Type 0
IsInputsRemark bytes (read_fault.Text offset) remark = remark ≡ at offset (inputs_sentence (token_at bytes offset))
IsInputsRemark bytes (read_fault.UnknownHost offset) remark = remark ≡ at offset (host_sentence (token_at bytes offset))
IsInputsRemark bytes read_fault.Memory remark = ⊥

abbrev pub IsScheduleRemark : List ℕ → ReadFault → Remark → Type 0
IsScheduleRemark bytes (read_fault.Text offset) remark = remark ≡ at offset schedule_sentence
IsScheduleRemark bytes (read_fault.UnknownHost offset) remark = remark ≡ at offset (host_sentence (token_at bytes offset))
IsScheduleRemark bytes read_fault.Memory remark = ⊥

-- ---- of a flow that is not allowed

abbrev pub remark_of_flow : FlowFault → Remark
remark_of_flow fault = flow_remark fault.principals fault.hosts fault.check fault.origin fault.asked

-- ---- of any status

abbrev pub IsRemarkOn : List ℕ → Status → Option Remark → Type 0
IsRemarkOn bytes (status.Syntax fault) remark = SaysOfSyntax bytes fault remark
IsRemarkOn bytes (status.Names fault) remark = SaysOne (IsRuleRemark bytes) fault remark
IsRemarkOn bytes (status.Flow fault) remark = remark ≡ Some (remark_of_flow fault)
IsRemarkOn bytes (status.NoAssignment form) remark = IsAssignmentRemark form remark
IsRemarkOn bytes (status.Spent budget form) remark = IsSearchRemark budget form remark
IsRemarkOn bytes (status.InputText fault) remark = SaysOne (IsInputsRemark bytes) fault remark
IsRemarkOn bytes (status.ScheduleText fault) remark = SaysOne (IsScheduleRemark bytes) fault remark
IsRemarkOn bytes status remark = remark ≡ None
