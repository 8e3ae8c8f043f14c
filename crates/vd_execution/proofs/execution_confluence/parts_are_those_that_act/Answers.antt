use Rattle.vd_execution.proofs.Parts.{absent}
use Rattle.vd_execution.proofs.Taking.{within}
use Rattle.vd_execution.proofs.Untouched.{untouched}
use Rattle.vd_execution.proofs.execution_confluence.parts_are_those_that_act.Goals as goal

pub returns-clause-no_code : goal.returns-clause-no_code
returns-clause-no_code c = λ ps h j inside out. absent ps h j out inside

pub returns-clause-stays : goal.returns-clause-stays
returns-clause-stays c = untouched

pub returns-clause-all_act : goal.returns-clause-all_act
returns-clause-all_act c = within
