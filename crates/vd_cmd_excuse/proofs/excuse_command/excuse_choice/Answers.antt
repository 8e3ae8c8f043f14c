use Rattle.vd_space.specs.Reading.{problem_of}
use Rattle.vd_space.specs.Cheapest.{IsAssignment}
use Rattle.vd_search_stages.specs.declared.optimum.Assignment.{Assignment}
use Rattle.vd_cmd_plan.specs.Labelled.{labelled_form}
use Rattle.vd_cmd_choice.specs.Choice.{IsSelected}
use Rattle.vd_cmd_choice.proofs.Front.{which_is}
use Rattle.vd_cmd_excuse.proofs.Answered.{at_none, at_some, none_told}
use Rattle.vd_cmd_excuse.proofs.excuse_command.excuse_choice.Goals as goal

pub excuse_at-requires-clause-selected : goal.excuse_at-requires-clause-selected
excuse_at-requires-clause-selected c = which_is (IsSelected c.args.choice.program) c.args.choice.assignment c.in-Some.assignment c.in-Some.is c.requires.found.selected

pub no_assignment-requires : goal.no_assignment-requires
no_assignment-requires c = c.requires.found.least

pub returns-in-Some-clause-executes : goal.returns-in-Some-clause-executes
returns-in-Some-clause-executes c =
    let choice = c.args.choice in
    let valid = which_is (λ (a : Assignment). IsAssignment (problem_of choice.program choice.labels) a.protocols) choice.assignment c.in-Some.assignment c.in-Some.is c.requires.found.valid in
    at_some choice c.args.host c.args.runs c.args.out.now c.in-Some.assignment c.excuse_at.result c.in-Some.is (c.excuse_at.ensures.executes choice.labels valid)

pub returns-in-None-clause-executes : goal.returns-in-None-clause-executes
returns-in-None-clause-executes c = at_none c.args.choice c.args.host c.args.runs c.args.out.now c.no_assignment.result c.in-None.is c.no_assignment.ensures

pub returns-in-None-clause-tells : goal.returns-in-None-clause-tells
returns-in-None-clause-tells c =
    none_told c.args.host c.args.choice.program c.args.out.now c.args.runs (labelled_form c.args.choice.program c.args.choice.labels) c.no_assignment.result c.no_assignment.ensures
