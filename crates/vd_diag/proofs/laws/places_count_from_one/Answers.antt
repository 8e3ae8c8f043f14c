use Rattle.vd_diag.proofs.Begins.{places_from_one}
use Rattle.vd_diag.proofs.laws.places_count_from_one.Goals as goal

pub returns : goal.returns
returns c = places_from_one
