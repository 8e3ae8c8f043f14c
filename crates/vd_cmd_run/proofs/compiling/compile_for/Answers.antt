use Rattle.std.proofs.Common.{Ok, Err, ◌∙◌}
use Rattle.std.proofs.lemmas.Result.{err_from_is_err_and}
use Rattle.vd_base.specs.Limits.{most_search_budget}
use Rattle.vd_cmd_plan.specs.Plans.{answer_then}
use Rattle.vd_cmd_plan.proofs.Front.{answers, any_memory}
use Rattle.vd_cmd_choice.specs.Choice.{chosen_of}
use Rattle.vd_cmd_choice.proofs.Front.{choice_is, source_choice_refused, source_refused, source_then}
use Rattle.vd_cmd_compile.specs.Compiling.{compiled_for}
use Rattle.vd_cmd_run.proofs.compiling.compile_for.Goals as goal

pub compile_choice-requires : goal.compile_choice-requires
compile_choice-requires g c =
    choice_is c.in_ok-loaded.loaded.text c.in_ok-loaded.loaded.program c.in_ok-choice.choice (c.in_ok-loaded.ensures {u = tt}).is_run (c.in_ok-choice.ensures {u = tt}).found

pub returns-in_err-loaded-clause-compiles : goal.returns-in_err-loaded-clause-compiles
returns-in_err-loaded-clause-compiles g c =
    let p = err_from_is_err_and c.from_residual.result c.from_residual.ensures.1 in
    rw (p.1, p.2)
    (source_refused c.args.source.now most_search_budget (λ text x. answer_then (compiled_for text c.args.prefix.now x)) _ _ c.in_err-loaded.field-0.0 (c.in_err-loaded.ensures {u = tt}).loads)

pub returns-in_err-choice-clause-compiles : goal.returns-in_err-choice-clause-compiles
returns-in_err-choice-clause-compiles g c =
    let p = err_from_is_err_and c.from_residual-in_err-choice.result c.from_residual-in_err-choice.ensures.1 in
    rw (p.1, p.2)
    (source_choice_refused c.args.source.now most_search_budget (λ text x. answer_then (compiled_for text c.args.prefix.now x)) _ _ c.in_ok-loaded.loaded c.in_err-choice.field-0.0
    (c.in_ok-loaded.ensures {u = tt}).loads (c.in_err-choice.ensures {u = tt}).chooses)

pub returns-in_err-names-clause-compiles : goal.returns-in_err-names-clause-compiles
returns-in_err-names-clause-compiles g c =
    let p = err_from_is_err_and c.from_residual-in_err-names.result c.from_residual-in_err-names.ensures.1 in
    rw (p.1, p.2)
    (source_then c.args.source.now most_search_budget (λ text x. answer_then (compiled_for text c.args.prefix.now x)) _ _ c.in_ok-loaded.loaded c.in_ok-choice.choice _
    (c.in_ok-loaded.ensures {u = tt}).loads (c.in_ok-choice.ensures {u = tt}).chooses (any_memory _ _))

pub returns-in_err-answer-clause-compiles : goal.returns-in_err-answer-clause-compiles
returns-in_err-answer-clause-compiles g c =
    let p = err_from_is_err_and c.from_residual-in_err-answer.result c.from_residual-in_err-answer.ensures.1 in
    let loaded = c.in_ok-loaded.loaded in
    let choice = c.in_ok-choice.choice in
    rw (p.1, p.2)
    (source_then c.args.source.now most_search_budget (λ text x. answer_then (compiled_for text c.args.prefix.now x)) _ _ loaded choice (Err c.in_err-answer.field-0.0)
    (c.in_ok-loaded.ensures {u = tt}).loads (c.in_ok-choice.ensures {u = tt}).chooses
    (answers (compiled_for loaded.text c.args.prefix.now (chosen_of choice)) _ (Err c.in_err-answer.field-0.0) (c.in_err-answer.ensures {u = tt}).computes))

pub returns-clause-compiles : goal.returns-clause-compiles
returns-clause-compiles g c =
    let loaded = c.in_ok-loaded.loaded in
    let choice = c.in_ok-choice.choice in
    source_then c.args.source.now most_search_budget (λ text x. answer_then (compiled_for text c.args.prefix.now x)) _ _ loaded choice (Ok c.in_ok-answer.answer)
    (c.in_ok-loaded.ensures {u = tt}).loads (c.in_ok-choice.ensures {u = tt}).chooses
    (answers (compiled_for loaded.text c.args.prefix.now (chosen_of choice)) _ (Ok c.in_ok-answer.answer) (c.in_ok-answer.ensures {u = tt}).computes)

pub returns-clause-hosts : goal.returns-clause-hosts
returns-clause-hosts g c = λ told.
    let loaded = c.in_ok-loaded.loaded in
    let read = c.in_ok-loaded.ensures {u = tt} in
    let found = choice_is loaded.text loaded.program c.in_ok-choice.choice read.is_run (c.in_ok-choice.ensures {u = tt}).found in
    record {
      source = found.of.source;
      held = record { bytes = loaded.text; is_fetched = read.given told; holds = found.of.read };
      names_are = c.in_ok-names.ensures.same ∙ found.of.is_run.hosts;
    }

pub returns-clause-few : goal.returns-clause-few
returns-clause-few g c = c.in_ok-names.ensures.few

pub returns-clause-given : goal.returns-clause-given
returns-clause-given g c = (c.in_ok-answer.ensures {u = tt}).computes.proper.0
