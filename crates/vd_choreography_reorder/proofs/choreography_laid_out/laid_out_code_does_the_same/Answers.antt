use Rattle.vd_choreography_reorder.proofs.Tidy.{is_tidy}
use Rattle.vd_choreography_reorder.proofs.LaidOut.{does_the_same, is_smooth}
use Rattle.vd_choreography_reorder.proofs.choreography_laid_out.laid_out_code_does_the_same.Goals as goal

pub returns-clause-same : goal.returns-clause-same
returns-clause-same c = does_the_same

pub returns-clause-smooth : goal.returns-clause-smooth
returns-clause-smooth c = is_smooth

pub returns-clause-tidy : goal.returns-clause-tidy
returns-clause-tidy c = is_tidy
