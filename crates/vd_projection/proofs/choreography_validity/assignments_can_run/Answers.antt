use Rattle.vd_projection.proofs.Chosen.{assignments_can_run, assignments_tell_the_same}
use Rattle.vd_projection.proofs.choreography_validity.assignments_can_run.Goals as goal

pub returns-clause-can_run : goal.returns-clause-can_run
returns-clause-can_run c = assignments_can_run

pub returns-clause-tells : goal.returns-clause-tells
returns-clause-tells c = assignments_tell_the_same
