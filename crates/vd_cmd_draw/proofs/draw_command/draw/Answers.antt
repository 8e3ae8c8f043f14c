use Rattle.std.proofs.lemmas.Result.{err_from_is_err_and}
use Rattle.vd_cmd_plan.specs.Plans.{answer_then}
use Rattle.vd_cmd_plan.proofs.Front.{answers}
use Rattle.vd_cmd_choice.specs.Choice.{chosen_of}
use Rattle.vd_cmd_choice.proofs.Front.{source_choice_refused, source_refused, source_then}
use Rattle.vd_cmd_draw.specs.Drawing.{drawn_for}
use Rattle.vd_cmd_draw.proofs.draw_command.draw.Goals as goal

pub draw_choice-requires : goal.draw_choice-requires
draw_choice-requires g c = (c.in_ok-choice.ensures {u = tt}).found.least

pub returns-in_err-loaded : goal.returns-in_err-loaded
returns-in_err-loaded g c =
    let p = err_from_is_err_and c.from_residual.result c.from_residual.ensures.1 in
    rw (p.1, p.2)
    (source_refused c.args.source.now c.args.budget (λ text x. answer_then (drawn_for c.args.source.now text x)) _ _ c.in_err-loaded.field-0.0 (c.in_err-loaded.ensures {u = tt}).loads)

pub returns-in_err-choice : goal.returns-in_err-choice
returns-in_err-choice g c =
    let p = err_from_is_err_and c.from_residual-in_err-choice.result c.from_residual-in_err-choice.ensures.1 in
    rw (p.1, p.2)
    (source_choice_refused c.args.source.now c.args.budget (λ text x. answer_then (drawn_for c.args.source.now text x)) _ _ c.in_ok-loaded.loaded c.in_err-choice.field-0.0
    (c.in_ok-loaded.ensures {u = tt}).loads (c.in_err-choice.ensures {u = tt}).chooses)

pub returns : goal.returns
returns g c =
    let loaded = c.in_ok-loaded.loaded in
    let choice = c.in_ok-choice.choice in
    source_then c.args.source.now c.args.budget (λ text x. answer_then (drawn_for c.args.source.now text x)) _ _ loaded choice c.draw_choice.result
    (c.in_ok-loaded.ensures {u = tt}).loads (c.in_ok-choice.ensures {u = tt}).chooses
    (answers (drawn_for c.args.source.now loaded.text (chosen_of choice)) _ c.draw_choice.result c.draw_choice.ensures)
