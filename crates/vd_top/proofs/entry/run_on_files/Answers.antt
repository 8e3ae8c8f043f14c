use Rattle.vd_top.proofs.Compiling.{stores}
use Rattle.vd_top.proofs.Ending.{counted, shows}
use Rattle.vd_top.proofs.Words.{given, some_outcomes}
use Rattle.vd_top.specs.Commands.{plan_of, search_of}
use Rattle.vd_top.proofs.entry.run_on_files.Goals as goal

pub finish-requires : goal.finish-requires
finish-requires g c = given _ _ (c.answer_command-came.ensures.answers.1 some_outcomes).proper

pub returns-clause-runs : goal.returns-clause-runs
returns-clause-runs g c = (c.answer_command-came.ensures.answers.0, λ outcomes. c.finish.ensures _ _ _ (c.answer_command-came.ensures.answers.1 outcomes))

pub returns-clause-shows : goal.returns-clause-shows
returns-clause-shows g c =
    let s = c.answer_command-came.ensures.answers in
    shows (plan_of some_outcomes (search_of some_outcomes s.0) c.args.command.now) (g.F.Files.view c.args.files.now) _ _ _ _ c.args.command.now c.answer_command-came.result c.finish.result (s.1 some_outcomes)
    c.finish.ensures c.answer_command-came.ensures.tells

pub returns-clause-stores : goal.returns-clause-stores
returns-clause-stores g c =
    let s = c.answer_command-came.ensures.answers in
    stores (plan_of some_outcomes (search_of some_outcomes s.0) c.args.command.now) (g.F.Files.view c.args.files.now) _ _ _ _ c.args.command.now c.answer_command-came.result c.finish.result (s.1 some_outcomes)
    c.finish.ensures c.answer_command-came.ensures.tells

pub returns-clause-counts : goal.returns-clause-counts
returns-clause-counts g c =
    let s = c.answer_command-came.ensures.answers in
    counted (plan_of some_outcomes (search_of some_outcomes s.0) c.args.command.now) (g.F.Files.view c.args.files.now) _ _ _ _ c.args.command.now c.answer_command-came.new.packets c.answer_command-came.result c.finish.result (s.1 some_outcomes)
    c.finish.ensures c.answer_command-came.ensures.counts
