use Rattle.std.proofs.Common.{ℕ, List, [], Ok, Err, subst}
use Rattle.std.proofs.lemmas.Result.{err_from_is_err_and}
use Rattle.vd_semantics.specs.SourceMeaning.{source_outputs}
use Rattle.vd_report.specs.Lines.{output_lines}
use Rattle.vd_cmd_plan.specs.Plans.{Computes, answer_then, ended}
use Rattle.vd_cmd_labels.specs.Clear.{clear_text}
use Rattle.vd_cmd_plan.proofs.Front.{answers}
use Rattle.vd_cmd_labels.proofs.Reading.{inputs_for}
use Rattle.vd_cmd_labels.proofs.clear_command.clear_resolved.Goals as goal

pub returns-in_err-words : goal.returns-in_err-words
returns-in_err-words g c = λ texts.
    let p = err_from_is_err_and c.from_residual-in_err-words.result c.from_residual-in_err-words.ensures.1 in
    rw (p.1, p.2)
    (inputs_for texts c.args.inputs.now _ _ _ _ (Err c.in_err-words.field-0.0) c.in_ok-names.ensures ((c.in_err-words.ensures {u = tt}).loads texts) (λ words. answer_then (ended [] (clear_text c.args.source.now words))))

pub returns : goal.returns
returns g c = λ texts.
    inputs_for texts c.args.inputs.now _ _ _ _ (Ok c.in_ok-words.words) c.in_ok-names.ensures ((c.in_ok-words.ensures {u = tt}).loads texts) (λ words. answer_then (ended [] (clear_text c.args.source.now words))) _ _
    (answers _ _ _ (subst (λ (hosts : List (List ℕ)). Computes (ended [] (output_lines hosts (source_outputs c.args.source.now c.in_ok-words.words))) c.clear_answer.result) c.in_ok-names.ensures c.clear_answer.ensures))
