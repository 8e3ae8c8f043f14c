use Rattle.vd_cmd_host.proofs.Apart.{marks_tell, names_apart, stand_by_deals}
use Rattle.vd_cmd_host.proofs.laws.marks_are_apart.Goals as goal

pub returns-clause-place : goal.returns-clause-place
returns-clause-place c = stand_by_deals

pub returns-clause-names : goal.returns-clause-names
returns-clause-names c = names_apart

pub returns-clause-texts : goal.returns-clause-texts
returns-clause-texts c = marks_tell
