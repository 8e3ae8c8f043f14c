use Rattle.vd_diag_terminal.proofs.Others.{unremarked}
use Rattle.vd_diag_terminal.proofs.remarks.remark_on.Goals as goal

pub returns-in-Syntax : goal.returns-in-Syntax
returns-in-Syntax c = rw c.in-Syntax.is c.syntax_remark.ensures

pub returns-in-Names : goal.returns-in-Names
returns-in-Names c = rw c.in-Names.is c.remark_on_rule.ensures

pub returns-in-Flow : goal.returns-in-Flow
returns-in-Flow c = rw c.in-Flow.is c.remark_on_flow.ensures

pub returns-in-NoAssignment : goal.returns-in-NoAssignment
returns-in-NoAssignment c = rw c.in-NoAssignment.is c.remark_on_assignment.ensures

pub returns-in-Spent : goal.returns-in-Spent
returns-in-Spent c = rw c.in-Spent.is c.remark_on_search.ensures

pub returns-in-InputText : goal.returns-in-InputText
returns-in-InputText c = rw c.in-InputText.is c.remark_on_inputs.ensures

pub returns-in-ScheduleText : goal.returns-in-ScheduleText
returns-in-ScheduleText c = rw c.in-ScheduleText.is c.remark_on_schedule.ensures

pub returns-in_default : goal.returns-in_default
returns-in_default c =
    unremarked c.args.bytes.now c.args.status.now c.in_default.not-Syntax c.in_default.not-Names c.in_default.not-Flow c.in_default.not-NoAssignment c.in_default.not-Spent c.in_default.not-InputText c.in_default.not-ScheduleText
