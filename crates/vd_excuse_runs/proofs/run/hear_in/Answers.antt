use Rattle.vd_excuse_runs.specs.Sides.{has_heard}
use Rattle.vd_excuse_runs.proofs.Changes.{changed_there, on_ok}
use Rattle.vd_excuse_runs.proofs.run.hear_in.Goals as goal

pub returns : goal.returns
returns c =
    on_ok c.hear_there.result
    (λ is. changed_there c.args.sides.now.items c.reach.new.sides.items _ c.args.host.0 (has_heard c.args.into.now c.args.words.now) c.in_ok-reach.ensures.there c.in_ok-reach.ensures.same c.in_ok-reach.ensures.side is)
    c.hear_there.ensures
