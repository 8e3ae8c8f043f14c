use Rattle.std.proofs.Common.{ℕ, Bool, [], ◌∷◌, ◌++◌, List, cond, length, sym, ap, ap₂, ◌∙◌, arith, filter}
use Rattle.std.specs.List.{range_with_len}
use Rattle.vd_space.specs.Validity.{can_stand, protocols}
use Rattle.vd_diag_terminal.proofs.Ranges.{filter_range_more}
use Rattle.vd_diag_terminal.proofs.diag_choice.left.candidates.Goals as goal

pub overflow_cast-number : goal.overflow_cast-number
overflow_cast-number c = let few = c.requires.list.few in omega (arith, few)

pub loop-place-preserved : goal.loop-place-preserved
loop-place-preserved c =
    let place = c.loop-place.place in
    c.in_ok-push_if.ensures {u = tt}
    ∙ ap₂ (λ (front : List ℕ) (test : Bool). front ++ cond test (place ∷ []) []) c.loop-place.invariant c.is_candidate_at-test.ensures
    ∙ sym (filter_range_more (can_stand c.args.problem.now c.args.making.now) place)
