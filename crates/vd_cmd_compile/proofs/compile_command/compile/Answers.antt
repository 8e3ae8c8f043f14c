use Rattle.std.proofs.lemmas.Result.{err_from_is_err_and}
use Rattle.vd_cmd_plan.specs.Plans.{answer_then}
use Rattle.vd_cmd_plan.proofs.Front.{answers}
use Rattle.vd_cmd_choice.specs.Choice.{chosen_of}
use Rattle.vd_cmd_choice.proofs.Front.{choice_is, source_choice_refused, source_refused, source_then}
use Rattle.vd_cmd_compile.specs.Compiling.{compiled_for}
use Rattle.vd_cmd_compile.proofs.Telling.{source_stored}
use Rattle.vd_cmd_compile.proofs.compile_command.compile.Goals as goal

pub compile_choice-requires : goal.compile_choice-requires
compile_choice-requires g c =
    choice_is c.in_ok-loaded.loaded.text c.in_ok-loaded.loaded.program c.in_ok-choice.choice (c.in_ok-loaded.ensures {u = tt}).is_run (c.in_ok-choice.ensures {u = tt}).found

pub returns-in_err-loaded-clause-executes : goal.returns-in_err-loaded-clause-executes
returns-in_err-loaded-clause-executes g c =
    let p = err_from_is_err_and c.from_residual.result c.from_residual.ensures.1 in
    rw (p.1, p.2)
    (source_refused c.args.source.now c.args.budget (λ text x. answer_then (compiled_for text c.args.prefix.now x)) _ _ c.in_err-loaded.field-0.0 (c.in_err-loaded.ensures {u = tt}).loads)

pub returns-in_err-choice-clause-executes : goal.returns-in_err-choice-clause-executes
returns-in_err-choice-clause-executes g c =
    let p = err_from_is_err_and c.from_residual-in_err-choice.result c.from_residual-in_err-choice.ensures.1 in
    rw (p.1, p.2)
    (source_choice_refused c.args.source.now c.args.budget (λ text x. answer_then (compiled_for text c.args.prefix.now x)) _ _ c.in_ok-loaded.loaded c.in_err-choice.field-0.0
    (c.in_ok-loaded.ensures {u = tt}).loads (c.in_err-choice.ensures {u = tt}).chooses)

pub returns-clause-executes : goal.returns-clause-executes
returns-clause-executes g c =
    let loaded = c.in_ok-loaded.loaded in
    let choice = c.in_ok-choice.choice in
    source_then c.args.source.now c.args.budget (λ text x. answer_then (compiled_for text c.args.prefix.now x)) _ _ loaded choice c.compile_choice.result
    (c.in_ok-loaded.ensures {u = tt}).loads (c.in_ok-choice.ensures {u = tt}).chooses
    (answers (compiled_for loaded.text c.args.prefix.now (chosen_of choice)) _ c.compile_choice.result c.compile_choice.ensures.computes)

pub returns-clause-tells : goal.returns-clause-tells
returns-clause-tells g c =
    source_stored c.args.source.now c.args.prefix.now (g.F.Files.view c.args.files.now) c.in_ok-loaded.loaded.text c.compile_choice.result (c.in_ok-loaded.ensures {u = tt}).given c.compile_choice.ensures.tells
