use Rattle.std.proofs.Common.{◌++◌, ◌∷◌, [], ℕ, List, cond, false, get_or, sym, ap, ◌∙◌, add-one}
use Rattle.vd_cost_network_bound.proofs.Passing.{passing_below, passing_more}
use Rattle.vd_cost_network_bound.proofs.making.passing.Goals as goal

pub loop-setting-preserved : goal.loop-setting-preserved
loop-setting-preserved c =
    let tests = c.args.tests.now in
    let n = c.loop-setting.setting in
    c.in_ok-push_if.ensures {u = tt}
    ∙ ap (λ (front : List ℕ). front ++ cond (get_or tests n false) (n ∷ []) []) c.loop-setting.invariant
    ∙ sym (passing_more tests n)
    ∙ ap (passing_below tests) (sym (add-one n))
