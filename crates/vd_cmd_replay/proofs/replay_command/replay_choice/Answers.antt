use Rattle.std.proofs.lemmas.Result.{err_from_is_err_and}
use Rattle.vd_cmd_choice.specs.Choice.{IsSelected}
use Rattle.vd_cmd_choice.proofs.Front.{which_is}
use Rattle.vd_cmd_plan.specs.Labelled.{labelled_form}
use Rattle.vd_cmd_replay.proofs.Counting.{choice_counted, none_counted}
use Rattle.vd_cmd_replay.proofs.Playable.{dealt, told_then}
use Rattle.vd_cmd_replay.proofs.Replayed.{none_told, none_valid, not_consistent, reported}
use Rattle.vd_cmd_replay.proofs.replay_command.replay_choice.Goals as goal

pub expect_consistent-requires : goal.expect_consistent-requires
expect_consistent-requires c = dealt _ c.args.asked c.requires.asked

pub replay_counted-requires-clause-selected : goal.replay_counted-requires-clause-selected
replay_counted-requires-clause-selected c = which_is (IsSelected c.args.choice.program) c.args.choice.assignment c.in-Some.assignment c.in-Some.is c.requires.found.selected

pub no_assignment-requires : goal.no_assignment-requires
no_assignment-requires c = c.requires.found.least

pub returns-in_err-expect_consistent-in-Some-clause-executes : goal.returns-in_err-expect_consistent-in-Some-clause-executes
returns-in_err-expect_consistent-in-Some-clause-executes c =
    let p = err_from_is_err_and c.from_residual.result c.from_residual.ensures.1 in
    rw (p.1, p.2)
    (not_consistent c.args.choice c.args.asked c.in-Some.assignment c.in_err-expect_consistent-in-Some.field-0.0 c.in-Some.is (c.in_err-expect_consistent-in-Some.ensures {u = tt}).checks)

pub returns-in_ok-expect_consistent-in-Some-clause-executes : goal.returns-in_ok-expect_consistent-in-Some-clause-executes
returns-in_ok-expect_consistent-in-Some-clause-executes c =
    reported c.args.choice c.args.asked c.in-Some.assignment c.replay_counted.result c.in-Some.is (c.in_ok-expect_consistent-in-Some.ensures {u = tt}).checks c.replay_counted.ensures.computes

pub returns-in_ok-expect_consistent-in-Some-clause-tells : goal.returns-in_ok-expect_consistent-in-Some-clause-tells
returns-in_ok-expect_consistent-in-Some-clause-tells c = told_then c.args.choice.program c.args.asked c.replay_counted.result c.replay_counted.ensures.tells

pub returns-in_ok-expect_consistent-in-Some-clause-counts : goal.returns-in_ok-expect_consistent-in-Some-clause-counts
returns-in_ok-expect_consistent-in-Some-clause-counts c =
    choice_counted c.args.choice.program c.in-Some.assignment c.args.asked c.replay_counted.new.packets c.replay_counted.result
    (which_is (IsSelected c.args.choice.program) c.args.choice.assignment c.in-Some.assignment c.in-Some.is c.requires.found.selected) c.replay_counted.ensures.counts

pub returns-in-None-clause-executes : goal.returns-in-None-clause-executes
returns-in-None-clause-executes c = none_valid c.args.choice c.args.asked c.no_assignment.result c.in-None.is c.no_assignment.ensures

pub returns-in-None-clause-tells : goal.returns-in-None-clause-tells
returns-in-None-clause-tells c = none_told c.args.choice.program c.args.asked (labelled_form c.args.choice.program c.args.choice.labels) c.no_assignment.result c.no_assignment.ensures

pub returns-in-None-clause-counts : goal.returns-in-None-clause-counts
returns-in-None-clause-counts c =
    none_counted c.args.choice.program c.args.asked c.args.packets.now (labelled_form c.args.choice.program c.args.choice.labels) c.no_assignment.result c.no_assignment.ensures
