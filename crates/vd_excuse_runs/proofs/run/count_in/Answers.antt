use Rattle.vd_excuse_runs.specs.Sides.{counted}
use Rattle.vd_excuse_runs.proofs.Changes.{changed_there, on_ok}
use Rattle.vd_excuse_runs.proofs.run.count_in.Goals as goal

pub returns : goal.returns
returns c =
    on_ok c.count_there.result
    (λ is. changed_there c.args.sides.now.items c.reach.new.sides.items _ c.args.host.0 (counted c.args.counter c.args.turn) c.in_ok-reach.ensures.there c.in_ok-reach.ensures.same c.in_ok-reach.ensures.side is)
    c.count_there.ensures
