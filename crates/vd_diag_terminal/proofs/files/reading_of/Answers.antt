use Rattle.vd_diag_terminal.proofs.Others.{unread}
use Rattle.vd_diag_terminal.proofs.files.reading_of.Goals as goal

pub returns-in_default : goal.returns-in_default
returns-in_default c =
    unread c.args.words.now c.args.status.now c.in_default.not-Syntax c.in_default.not-Names c.in_default.not-Flow c.in_default.not-NoAssignment c.in_default.not-Spent c.in_default.not-InputText c.in_default.not-ScheduleText
