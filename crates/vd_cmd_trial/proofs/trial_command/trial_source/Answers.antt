use Rattle.std.proofs.Common.{◌≤◌, sym, subst}
use Rattle.std.proofs.lemmas.Result.{err_from_is_err_and}
use Rattle.vd_core.specs.declared.normal.NormalForm.{NormalForm}
use Rattle.vd_core.specs.Facts.{weight_sum}
use Rattle.vd_cmd_plan.proofs.Front.{any_memory}
use Rattle.vd_cmd_choice.specs.Searching.{GaveUp}
use Rattle.vd_deal_needs.specs.Items.{most_executed}
use Rattle.vd_cmd_trial.specs.Trial.{ExecutesProgram}
use Rattle.vd_cmd_trial.proofs.Told.{source_told}
use Rattle.vd_cmd_trial.proofs.trial_command.trial_source.Goals as goal

pub trial_program-requires : goal.trial_program-requires
trial_program-requires c = subst (λ (form : NormalForm). weight_sum form.body ≤ most_executed) (sym c.in_ok-program.ensures.form) c.requires

pub returns-in_err-program-clause-executes : goal.returns-in_err-program-clause-executes
returns-in_err-program-clause-executes c = (
  GaveUp,
  λ certificates choices least files. let p = err_from_is_err_and c.from_residual.result c.from_residual.ensures.1 in rw (p.1, p.2) (any_memory _ files),
)

pub returns-clause-executes : goal.returns-clause-executes
returns-clause-executes c = subst (λ (form : NormalForm). ExecutesProgram c.args.coordinates form c.trial_program.result) c.in_ok-program.ensures.form c.trial_program.ensures.executes

pub returns-clause-tells : goal.returns-clause-tells
returns-clause-tells c = source_told c.args.coordinates c.args.source c.in_ok-program.program c.trial_program.result c.in_ok-program.ensures.form c.trial_program.ensures.tells
