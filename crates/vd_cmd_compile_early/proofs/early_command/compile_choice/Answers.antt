use Rattle.std.proofs.Common.{Some, None}
use Rattle.vd_execution.specs.Joint.{Done}
use Rattle.vd_search_stages.specs.declared.optimum.Assignment.{Assignment}
use Rattle.vd_cmd_choice.specs.Choice.{IsSelected}
use Rattle.vd_cmd_choice.proofs.Front.{assigned_computes, none_computes, which_is}
use Rattle.vd_cmd_compile_early.specs.Compiling.{early_at}
use Rattle.vd_cmd_compile_early.proofs.Telling.{none_told, run_told}
use Rattle.vd_cmd_compile_early.proofs.early_command.compile_choice.Goals as goal
use Rattle.vd_cmd_plan.specs.Labelled.{labelled_form}

pub compile_at-requires : goal.compile_at-requires
compile_at-requires c =
    let choice = c.args.found.choice in
    which_is (IsSelected choice.program) choice.assignment c.in-Some.assignment c.in-Some.is c.requires.selected

pub no_assignment-requires : goal.no_assignment-requires
no_assignment-requires c = c.requires.least

pub returns-in-Some-clause-computes : goal.returns-in-Some-clause-computes
returns-in-Some-clause-computes c =
    let found = c.args.found in
    let o = rw c.as_slice.ensures at c.compile_at.ensures.computes in (
      o.0,
      assigned_computes (labelled_form found.choice.program found.choice.labels) (λ (a : Assignment). early_at found.choice.program o.0 a found.text c.args.prefix.now) found.choice.assignment (Some c.in-Some.assignment) c.compile_at.result c.in-Some.is o.1,
    )

pub returns-in-Some-clause-tells : goal.returns-in-Some-clause-tells
returns-in-Some-clause-tells c =
    let found = c.args.found in
    run_told found.text c.args.prefix.now found.choice.program c.compile_at.result c.requires.of (rw c.as_slice.ensures at c.compile_at.ensures.tells)

pub returns-clause-computes : goal.returns-clause-computes
returns-clause-computes c =
    let found = c.args.found in (
      Done,
      assigned_computes (labelled_form found.choice.program found.choice.labels) (λ (a : Assignment). early_at found.choice.program Done a found.text c.args.prefix.now) found.choice.assignment None _ c.in-None.is
          (none_computes (labelled_form found.choice.program found.choice.labels) c.no_assignment.result c.no_assignment.ensures),
    )

pub returns-clause-tells : goal.returns-clause-tells
returns-clause-tells c = none_told c.args.found.text c.args.prefix.now (labelled_form c.args.found.choice.program c.args.found.choice.labels) c.no_assignment.result c.no_assignment.ensures
