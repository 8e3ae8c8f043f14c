use Rattle.std.proofs.Common.{ap, ◌∙◌}
use Rattle.vd_excuse_walk.specs.Claims.{stored_deals}
use Rattle.vd_excuse_walk.proofs.Ends.{ended_as, short_so, if_ok}
use Rattle.vd_excuse_walk.proofs.explaining.walk.Goals as goal

pub returns-clause-short : goal.returns-clause-short
returns-clause-short c =
    if_ok c.read_off.result
    (λ out is. is ∙ short_so c.walks_are_followed.ensures c.args.host c.requires.host c.args.steps.now c.args.first.now c.args.second.now c.requires.few c.args.deals.now c.requires.two
    c.as_slice.result.now c.as_slice.ensures _ c.in_ok-walker.ensures)
    c.read_off.ensures.short

pub returns-clause-same : goal.returns-clause-same
returns-clause-same c =
    if_ok c.read_off.result
    (λ out is. (ended_as c.walks_are_followed.ensures c.args.host c.requires.host c.args.steps.now c.args.first.now c.args.second.now c.requires.few c.args.deals.now c.requires.two
    c.as_slice.result.now c.as_slice.ensures out.deals (is ∙ ap (λ w. stored_deals 0 w.second c.args.deals.now) c.in_ok-walker.ensures)).same)
    c.read_off.ensures.deals

pub returns-clause-kept : goal.returns-clause-kept
returns-clause-kept c =
    if_ok c.read_off.result
    (λ out is. (ended_as c.walks_are_followed.ensures c.args.host c.requires.host c.args.steps.now c.args.first.now c.args.second.now c.requires.few c.args.deals.now c.requires.two
    c.as_slice.result.now c.as_slice.ensures out.deals (is ∙ ap (λ w. stored_deals 0 w.second c.args.deals.now) c.in_ok-walker.ensures)).kept)
    c.read_off.ensures.deals

pub returns-clause-deal : goal.returns-clause-deal
returns-clause-deal c =
    if_ok c.read_off.result
    (λ out is. (ended_as c.walks_are_followed.ensures c.args.host c.requires.host c.args.steps.now c.args.first.now c.args.second.now c.requires.few c.args.deals.now c.requires.two
    c.as_slice.result.now c.as_slice.ensures out.deals (is ∙ ap (λ w. stored_deals 0 w.second c.args.deals.now) c.in_ok-walker.ensures)).deal)
    c.read_off.ensures.deals
