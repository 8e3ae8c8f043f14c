use Rattle.vd_search_stages.proofs.Floors.{floor_on_path}
use Rattle.vd_search_stages.proofs.selecting.is_over.Goals as goal

pub is_exceeded-requires-clause-floor : goal.is_exceeded-requires-clause-floor
is_exceeded-requires-clause-floor c =
    floor_on_path c.args.problem.now c.in_ok-path.path.problem.now c.in_ok-path.path.tables.now c.args.floor c.in_ok-path.ensures.problem c.requires.tables.well_formed.holds c.requires.floor
