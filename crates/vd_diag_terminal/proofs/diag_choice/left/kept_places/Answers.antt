use Rattle.std.proofs.Common.{ℕ, Bool, [], ◌∷◌, ◌++◌, List, cond, get_or, sym, ap₂, ◌∙◌}
use Rattle.std.proofs.lemmas.List.Elements.{filter_more}
use Rattle.vd_diag_terminal.specs.Stuck.{comes_to}
use Rattle.vd_diag_terminal.proofs.diag_choice.left.kept_places.Goals as goal

pub loop-place-preserved : goal.loop-place-preserved
loop-place-preserved c =
    let targets = c.args.targets.now in
    let i = c.loop-place.place-index in
    let place = get_or targets i 0 in
    c.in_ok-push_if.ensures {u = tt}
    ∙ ap₂ (λ (front : List ℕ) (test : Bool). front ++ cond test (place ∷ []) []) c.loop-place.invariant c.comes_to-test.ensures
    ∙ sym (filter_more (comes_to c.args.problem.now c.args.sources.now) targets i 0 c.loop-place-test.true)
