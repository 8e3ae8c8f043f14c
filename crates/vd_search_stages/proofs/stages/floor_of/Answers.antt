use Rattle.vd_search_stages.proofs.Floors.{floor_of_uses}
use Rattle.vd_search_stages.proofs.stages.floor_of.Goals as goal

pub returns-in-Some : goal.returns-in-Some
returns-in-Some c =
    let path = c.in_ok-path.path in
    floor_of_uses c.args.problem.now path.problem.now path.tables.now c.in-Some.floor c.in_ok-path.ensures.problem c.requires.well_formed.holds c.in-Some.ensures
