use Rattle.vd_search_stages.proofs.Floors.{floor_of_all}
use Rattle.vd_search_stages.proofs.network.floor_by_arcs.Goals as goal

pub returns-in-Some : goal.returns-in-Some
returns-in-Some c =
    let path = c.in_ok-path.path in
    floor_of_all c.args.tables.now.problem.now path.problem.now path.by_arcs.now c.in-Some.floor c.in_ok-path.ensures.problem c.args.tables.now.can.tabled.well_formed.holds c.in-Some.ensures.bound
