use Rattle.std.proofs.Common.{Some, None, []}
use Rattle.vd_search_stages.specs.declared.optimum.Assignment.{Assignment}
use Rattle.vd_cmd_plan.specs.Labelled.{labelled_form}
use Rattle.vd_cmd_plan.specs.Plans.{ended}
use Rattle.vd_cmd_choice.specs.Choice.{IsSelected}
use Rattle.vd_cmd_choice.proofs.Front.{assigned_computes, none_computes, which_is}
use Rattle.vd_cmd_needs.specs.Needing.{needs_text}
use Rattle.vd_cmd_needs.proofs.Told.{none_told, told_then}
use Rattle.vd_cmd_needs.proofs.needs_command.needs_choice.Goals as goal

pub needs_at-requires : goal.needs_at-requires
needs_at-requires c = which_is (IsSelected c.args.choice.program) c.args.choice.assignment c.in-Some.assignment c.in-Some.is c.requires.selected

pub no_assignment-requires : goal.no_assignment-requires
no_assignment-requires c = c.requires.least

pub returns-in-Some-clause-computes : goal.returns-in-Some-clause-computes
returns-in-Some-clause-computes c =
    let choice = c.args.choice in
    assigned_computes (labelled_form choice.program choice.labels) (λ (a : Assignment). ended [] (needs_text c.args.kind choice.program a.protocols)) choice.assignment (Some c.in-Some.assignment) c.needs_at.result c.in-Some.is c.needs_at.ensures.computes

pub returns-in-Some-clause-tells : goal.returns-in-Some-clause-tells
returns-in-Some-clause-tells c = told_then c.args.kind c.args.choice.program c.needs_at.result c.needs_at.ensures.tells

pub returns-in-None-clause-computes : goal.returns-in-None-clause-computes
returns-in-None-clause-computes c =
    let choice = c.args.choice in
    assigned_computes (labelled_form choice.program choice.labels) (λ (a : Assignment). ended [] (needs_text c.args.kind choice.program a.protocols)) choice.assignment None _ c.in-None.is
    (none_computes (labelled_form choice.program choice.labels) c.no_assignment.result c.no_assignment.ensures)

pub returns-in-None-clause-tells : goal.returns-in-None-clause-tells
returns-in-None-clause-tells c = none_told c.args.kind c.args.choice.program (labelled_form c.args.choice.program c.args.choice.labels) c.no_assignment.result c.no_assignment.ensures
