use Rattle.std.proofs.Common.{[], ◌∷◌, ◌++◌, cond, sym, ap, ap₂, ◌∙◌}
use Rattle.vd_cost_network_prefix.specs.Reach.{may_change}
use Rattle.vd_cost_network_prefix.proofs.Reaching.{filter_more}
use Rattle.vd_cost_network_prefix.proofs.reach.changed_by.Goals as goal

pub loop-point-preserved : goal.loop-point-preserved
loop-point-preserved c =
    let point = c.loop-point.point in
    let test = c.may_change.ensures ∙ ap (λ switches. may_change c.args.problem.now switches c.args.slot point) c.as_slice-switches.ensures in
    c.in_ok-push_if.ensures
    ∙ ap₂ (λ front passes. front ++ cond passes (point ∷ []) []) c.loop-point.invariant test
    ∙ sym (filter_more (may_change c.args.problem.now c.args.tables.now.switches c.args.slot) point)
