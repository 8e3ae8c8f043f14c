use Rattle.vd_mux.proofs.SelectionsWellMade.{turned_well_made}
use Rattle.vd_mux.proofs.law.selections_are_well_made.Goals as goal

pub returns : goal.returns
returns c = turned_well_made
