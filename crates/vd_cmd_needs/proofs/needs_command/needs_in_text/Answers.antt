use Rattle.std.proofs.lemmas.Result.{err_from_is_err_and}
use Rattle.vd_cmd_plan.specs.Plans.{answer_then}
use Rattle.vd_cmd_plan.proofs.Front.{answers}
use Rattle.vd_cmd_choice.specs.Choice.{choice_of_then, chosen_of}
use Rattle.vd_cmd_choice.specs.Searching.{GaveUp, searched_by}
use Rattle.vd_cmd_choice.proofs.Front.{choice_is, text_choice_refused, text_refused, text_then, tree_refused}
use Rattle.vd_cmd_needs.specs.Needing.{needs_answer}
use Rattle.vd_cmd_needs.proofs.Told.{text_told}
use Rattle.vd_cmd_needs.proofs.needs_command.needs_in_text.Goals as goal

pub program_of-requires : goal.program_of-requires
program_of-requires c = (c.in_ok-expect_short.ensures {u = tt}).short

pub needs_choice-requires-clause-least : goal.needs_choice-requires-clause-least
needs_choice-requires-clause-least c = (c.in_ok-choice.ensures {u = tt}).found.least

pub needs_choice-requires-clause-selected : goal.needs_choice-requires-clause-selected
needs_choice-requires-clause-selected c = (c.in_ok-choice.ensures {u = tt}).found.selected

pub returns-in_err-expect_short-clause-executes : goal.returns-in_err-expect_short-clause-executes
returns-in_err-expect_short-clause-executes c = (
  GaveUp,
  λ certificates choices texts least files.
      let p = err_from_is_err_and c.from_residual.result c.from_residual.ensures.1 in
      let words = c.args.words.now in
      let refused = rw c.as_str.ensures at ((c.in_err-expect_short.ensures {u = tt}).refused texts) in
      rw (p.1, p.2)
      (tree_refused texts least words.file c.args.bytes.now files c.in_err-expect_short.field-0.0 refused
      (λ program. choice_of_then least choices (searched_by certificates choices GaveUp) words.budget program (λ x. answer_then (needs_answer words.kind x)))),
)

pub returns-in_err-program-clause-executes : goal.returns-in_err-program-clause-executes
returns-in_err-program-clause-executes c =
    let p = err_from_is_err_and c.from_residual-in_err-program.result c.from_residual-in_err-program.ensures.1 in
    let words = c.args.words.now in
    rw (p.1, p.2)
    (text_refused words.file c.args.bytes.now words.budget (λ x. answer_then (needs_answer words.kind x)) c.in_err-program.field-0.0 (c.in_err-program.ensures {u = tt}).reads)

pub returns-in_err-choice-clause-executes : goal.returns-in_err-choice-clause-executes
returns-in_err-choice-clause-executes c =
    let p = err_from_is_err_and c.from_residual-in_err-choice.result c.from_residual-in_err-choice.ensures.1 in
    let words = c.args.words.now in
    rw (p.1, p.2)
    (text_choice_refused words.file c.args.bytes.now words.budget (λ x. answer_then (needs_answer words.kind x)) c.in_ok-program.program c.in_err-choice.field-0.0
    (c.in_ok-program.ensures {u = tt}).reads (c.in_err-choice.ensures {u = tt}).chooses)

pub returns-clause-executes : goal.returns-clause-executes
returns-clause-executes c =
    let words = c.args.words.now in
    let choice = c.in_ok-choice.choice in
    text_then words.file c.args.bytes.now words.budget (λ x. answer_then (needs_answer words.kind x)) c.in_ok-program.program choice c.needs_choice.result
    (c.in_ok-program.ensures {u = tt}).reads (c.in_ok-choice.ensures {u = tt}).chooses
    (λ files. answers (needs_answer words.kind (chosen_of choice)) files c.needs_choice.result c.needs_choice.ensures.computes)

pub returns-clause-tells : goal.returns-clause-tells
returns-clause-tells c =
    let found = choice_is c.args.bytes.now c.in_ok-program.program c.in_ok-choice.choice (c.in_ok-program.ensures {u = tt}).is_run (c.in_ok-choice.ensures {u = tt}).found in
    text_told c.args.words.now c.args.bytes.now c.in_ok-choice.choice.program c.needs_choice.result found.of c.needs_choice.ensures.tells
