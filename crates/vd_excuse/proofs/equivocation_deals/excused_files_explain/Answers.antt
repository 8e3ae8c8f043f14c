use Rattle.vd_excuse.proofs.Excused.{excused_files_are_these, excused_files_explain}
use Rattle.vd_excuse.proofs.equivocation_deals.excused_files_explain.Goals as goal

pub returns-clause-explain : goal.returns-clause-explain
returns-clause-explain c = excused_files_explain

pub returns-clause-these : goal.returns-clause-these
returns-clause-these c = excused_files_are_these
