use Rattle.vd_execution.proofs.Confluence.{one_end}
use Rattle.vd_execution.specs.Room.{narrow}
use Rattle.vd_execution.proofs.Commuting.{commute}
use Rattle.vd_execution.proofs.execution_buffers.narrow_links_commute.Goals as goal

pub returns-clause-commute : goal.returns-clause-commute
returns-clause-commute c = commute

pub returns-clause-one_end : goal.returns-clause-one_end
returns-clause-one_end c = λ room s w a b. one_end (narrow room s) (commute room s) w a b
