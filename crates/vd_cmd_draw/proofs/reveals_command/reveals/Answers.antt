use Rattle.std.proofs.lemmas.Result.{err_from_is_err_and}
use Rattle.vd_cmd_choice.proofs.Front.{source_choice_refused, source_refused, source_then}
use Rattle.vd_cmd_draw.specs.Revealing.{asked_then}
use Rattle.vd_cmd_draw.proofs.reveals_command.reveals.Goals as goal

pub reveals_found-requires : goal.reveals_found-requires
reveals_found-requires g c = (c.in_ok-choice.ensures {u = tt}).found.least

pub returns-in_err-loaded : goal.returns-in_err-loaded
returns-in_err-loaded g c =
    let words = c.args.words.now in
    let p = err_from_is_err_and c.from_residual.result c.from_residual.ensures.1 in
    rw (p.1, p.2) (source_refused words.source words.budget (asked_then words.host) _ _ c.in_err-loaded.field-0.0 (rw c.as_str.ensures at (c.in_err-loaded.ensures {u = tt}).loads))

pub returns-in_err-choice : goal.returns-in_err-choice
returns-in_err-choice g c =
    let words = c.args.words.now in
    let p = err_from_is_err_and c.from_residual-in_err-choice.result c.from_residual-in_err-choice.ensures.1 in
    rw (p.1, p.2)
    (source_choice_refused words.source words.budget (asked_then words.host) _ _ c.in_ok-loaded.loaded c.in_err-choice.field-0.0 (rw c.as_str.ensures at (c.in_ok-loaded.ensures {u = tt}).loads)
    (c.in_err-choice.ensures {u = tt}).chooses)

pub returns : goal.returns
returns g c =
    let words = c.args.words.now in
    source_then words.source words.budget (asked_then words.host) _ _ c.in_ok-loaded.loaded c.in_ok-choice.choice c.reveals_found.result (rw c.as_str.ensures at (c.in_ok-loaded.ensures {u = tt}).loads)
    (c.in_ok-choice.ensures {u = tt}).chooses (c.reveals_found.ensures _)
