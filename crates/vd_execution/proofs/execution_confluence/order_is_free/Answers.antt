use Rattle.vd_execution.specs.World.{step}
use Rattle.vd_execution.proofs.Confluence.{one_end}
use Rattle.vd_execution.proofs.Diamond.{diamond}
use Rattle.vd_execution.proofs.execution_confluence.order_is_free.Goals as goal

pub returns-clause-commute : goal.returns-clause-commute
returns-clause-commute c = diamond

pub returns-clause-one_end : goal.returns-clause-one_end
returns-clause-one_end c = λ s w a b. one_end (step s) (diamond s) w a b
