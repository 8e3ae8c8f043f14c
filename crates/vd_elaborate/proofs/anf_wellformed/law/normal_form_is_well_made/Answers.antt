use Rattle.vd_elaborate.proofs.WellMade.{well_made}
use Rattle.vd_elaborate.proofs.anf_wellformed.law.normal_form_is_well_made.Goals as goal

pub returns : goal.returns
returns c = well_made
