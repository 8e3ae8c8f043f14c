use Rattle.std.proofs.Common.{◌≤◌, [], Some, None, subst, sym}
use Rattle.std.proofs.lemmas.Result.{err_from_is_err_and}
use Rattle.vd_base.specs.Limits.{most_search_budget}
use Rattle.vd_core.specs.declared.normal.NormalForm.{NormalForm}
use Rattle.vd_core.specs.Facts.{weight_sum}
use Rattle.vd_deal_needs.specs.Items.{most_executed}
use Rattle.vd_cmd_plan.specs.Labelled.{labelled_form}
use Rattle.vd_cmd_plan.specs.Plans.{ended}
use Rattle.vd_cmd_plan.proofs.Front.{answers}
use Rattle.vd_cmd_choice.specs.Choice.{IsSelected, no_list}
use Rattle.vd_cmd_choice.proofs.Front.{choice_refused, choice_which, none_computes, which_is}
use Rattle.vd_cmd_trial.specs.Telling.{TellsProgram}
use Rattle.vd_cmd_trial.specs.Trial.{choice_plan, trial_text}
use Rattle.vd_cmd_trial.proofs.Told.{none_told}
use Rattle.vd_cmd_trial.proofs.trial_command.trial_program.Goals as goal

pub trial_at-requires-clause-few : goal.trial_at-requires-clause-few
trial_at-requires-clause-few c = subst (λ (p : NormalForm). weight_sum p.body ≤ most_executed) (sym (c.in_ok-choice.ensures {u = tt}).found.same) c.requires

pub trial_at-requires-clause-selected : goal.trial_at-requires-clause-selected
trial_at-requires-clause-selected c =
    which_is (IsSelected c.in_ok-choice.choice.program) c.in_ok-choice.choice.assignment c.in-Some.assignment c.in-Some.is (c.in_ok-choice.ensures {u = tt}).found.selected

pub no_assignment-requires : goal.no_assignment-requires
no_assignment-requires c = (c.in_ok-choice.ensures {u = tt}).found.least

pub returns-in_err-choice-clause-executes : goal.returns-in_err-choice-clause-executes
returns-in_err-choice-clause-executes c =
    let p = err_from_is_err_and c.from_residual.result c.from_residual.ensures.1 in
    rw (p.1, p.2) (choice_refused c.args.program most_search_budget (λ x. choice_plan c.args.coordinates (labelled_form x.program x.labels) x.assignment) c.in_err-choice.field-0.0 (c.in_err-choice.ensures {u = tt}).chooses)

pub returns-in-Some-clause-executes : goal.returns-in-Some-clause-executes
returns-in-Some-clause-executes c =
    let choice = c.in_ok-choice.choice in
    choice_which c.args.program most_search_budget (choice_plan c.args.coordinates) choice (Some c.in-Some.assignment) c.trial_at.result (c.in_ok-choice.ensures {u = tt}).chooses c.in-Some.is
    (λ files. answers (ended [] (trial_text c.args.coordinates choice.program c.in-Some.assignment)) files c.trial_at.result c.trial_at.ensures.computes)

pub returns-in-Some-clause-tells : goal.returns-in-Some-clause-tells
returns-in-Some-clause-tells c = subst (λ (p : NormalForm). TellsProgram c.args.coordinates p c.trial_at.result) (c.in_ok-choice.ensures {u = tt}).found.same c.trial_at.ensures.tells

pub returns-in-None-clause-executes : goal.returns-in-None-clause-executes
returns-in-None-clause-executes c =
    choice_which c.args.program most_search_budget (choice_plan c.args.coordinates) c.in_ok-choice.choice None _ (c.in_ok-choice.ensures {u = tt}).chooses c.in-None.is
    (λ files. answers (no_list (labelled_form c.in_ok-choice.choice.program c.in_ok-choice.choice.labels)) files _ (none_computes (labelled_form c.in_ok-choice.choice.program c.in_ok-choice.choice.labels) c.no_assignment.result c.no_assignment.ensures))

pub returns-in-None-clause-tells : goal.returns-in-None-clause-tells
returns-in-None-clause-tells c = none_told c.args.coordinates c.args.program (labelled_form c.in_ok-choice.choice.program c.in_ok-choice.choice.labels) c.no_assignment.result c.no_assignment.ensures
