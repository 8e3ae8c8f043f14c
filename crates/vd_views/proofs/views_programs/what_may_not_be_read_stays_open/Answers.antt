use Rattle.vd_views.proofs.Promise.{readable_inputs_explain, reached_inputs_explain}
use Rattle.vd_views.proofs.views_programs.what_may_not_be_read_stays_open.Goals as goal

pub returns-clause-readable : goal.returns-clause-readable
returns-clause-readable c = readable_inputs_explain

pub returns-clause-reached : goal.returns-clause-reached
returns-clause-reached c = reached_inputs_explain
