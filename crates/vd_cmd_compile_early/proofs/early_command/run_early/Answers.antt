use Rattle.vd_cmd_plan.specs.declared.status.Status.TheVariants.{Memory}
use Rattle.vd_cmd_compile_early.proofs.Running.{given, keeps, runs}
use Rattle.vd_cmd_compile_early.proofs.early_command.run_early.Goals as goal

pub compile_early-came-requires : goal.compile_early-came-requires
compile_early-came-requires g c = c.requires.1

pub finish-requires : goal.finish-requires
finish-requires g c =
    let came = rw (c.as_str.ensures, c.as_str-2.ensures) at c.compile_early-came.ensures in
    given c.args.words.now (g.F.Files.view c.args.files.now) (g.F.Files.view c.compile_early-came.new.files) (g.F.Files.view c.compile_early-came.new.files) (g.O.Sink.view c.args.out.now) (g.O.Sink.view c.args.out.now) c.compile_early-came.result Memory came.executes

pub returns-clause-runs : goal.returns-clause-runs
returns-clause-runs g c =
    let came = rw (c.as_str.ensures, c.as_str-2.ensures) at c.compile_early-came.ensures in
    runs c.args.words.now (g.F.Files.view c.args.files.now) (g.F.Files.view c.compile_early-came.new.files) (g.F.Files.view c.finish.new.files) (g.O.Sink.view c.args.out.now) (g.O.Sink.view c.finish.new.out) c.compile_early-came.result c.finish.result
    came.executes c.finish.ensures

pub returns-clause-keeps : goal.returns-clause-keeps
returns-clause-keeps g c =
    let came = rw (c.as_str.ensures, c.as_str-2.ensures) at c.compile_early-came.ensures in
    keeps c.args.words.now (g.F.Files.view c.args.files.now) (g.F.Files.view c.compile_early-came.new.files) (g.F.Files.view c.finish.new.files) (g.O.Sink.view c.args.out.now) (g.O.Sink.view c.finish.new.out) c.compile_early-came.result c.finish.result
    came.executes c.finish.ensures came.tells
