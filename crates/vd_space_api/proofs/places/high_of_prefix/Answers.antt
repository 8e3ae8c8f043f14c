use Rattle.vd_space_api.proofs.Positions.{valid_short}
use Rattle.vd_space_api.proofs.places.high_of_prefix.Goals as goal

pub fill_places-requires-clause-room : goal.fill_places-requires-clause-room
fill_places-requires-clause-room c = valid_short c.args.problem.now c.args.list.now c.args.prefix.now c.requires.tables.well_formed.limits c.requires.valid
