use Rattle.vd_excuse_runs.specs.Sides.{changed}
use Rattle.vd_excuse_runs.proofs.Changes.{changed_there}
use Rattle.vd_excuse_runs.proofs.run.change_in.Goals as goal

pub returns : goal.returns
returns c =
    changed_there c.args.sides.now.items c.reach.new.sides.items _ c.args.host.0 (changed c.args.peer c.args.change) c.in_ok-reach.ensures.there c.in_ok-reach.ensures.same c.in_ok-reach.ensures.side
    c.change_there.ensures
