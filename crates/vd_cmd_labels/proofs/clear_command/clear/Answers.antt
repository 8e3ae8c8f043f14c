use Rattle.std.proofs.Common.{true, subst}
use Rattle.std.proofs.lemmas.Result.{err_from_is_err_and}
use Rattle.vd_core.specs.declared.source.Source.{Source}
use Rattle.vd_cmd_plan.specs.Plans.{Executes}
use Rattle.vd_cmd_labels.specs.Clear.{resolved_plan}
use Rattle.vd_cmd_labels.proofs.clear_command.clear.Goals as goal

pub returns-in_err-resolved : goal.returns-in_err-resolved
returns-in_err-resolved g c = λ texts.
    let p = err_from_is_err_and c.from_residual.result c.from_residual.ensures.1 in
    rw (p.1, p.2) ((c.in_err-resolved.ensures {u = tt}).loads texts (resolved_plan texts c.args.inputs.now))

pub returns : goal.returns
returns g c = λ texts.
    (c.in_ok-resolved.ensures {u = tt}).loads texts (resolved_plan texts c.args.inputs.now) _ _
    (subst (λ (tree : Source). Executes true (resolved_plan texts c.args.inputs.now tree) (g.F.Files.view c.load_source.new.files) (g.F.Files.view c.clear_resolved.new.files) c.clear_resolved.result) c.source.ensures.same (c.clear_resolved.ensures texts))
