use Rattle.vd_views.proofs.Examples.{worked, worked_conversion}
use Rattle.vd_views.proofs.views_programs.worked_excuse.Goals as goal

pub returns-clause-product : goal.returns-clause-product
returns-clause-product c = worked

pub returns-clause-conversion : goal.returns-clause-conversion
returns-clause-conversion c = worked_conversion
