use Rattle.vd_excuse_runs.specs.Sides.{performed}
use Rattle.vd_excuse_runs.proofs.Changes.{changed_there, on_ok}
use Rattle.vd_excuse_runs.proofs.run.perform_in.Goals as goal

pub returns : goal.returns
returns c =
    on_ok c.perform_there.result
    (λ is. changed_there c.args.sides.now.items c.reach.new.sides.items _ c.args.host.0 (performed c.args.action.now) c.in_ok-reach.ensures.there c.in_ok-reach.ensures.same c.in_ok-reach.ensures.side is)
    c.perform_there.ensures
