use Rattle.vd_long.proofs.DivisionWellMade.{lengthened_well_made}
use Rattle.vd_long.proofs.law.long_divisions_are_well_made.Goals as goal

pub returns : goal.returns
returns c = lengthened_well_made
