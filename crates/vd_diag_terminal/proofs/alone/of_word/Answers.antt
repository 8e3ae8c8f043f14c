use Rattle.vd_diag_terminal.proofs.Looks.{of_named}
use Rattle.vd_diag_terminal.proofs.alone.of_word.Goals as goal

pub returns-in-Some : goal.returns-in-Some
returns-in-Some c = of_named c.args.words.now c.args.place c.of_whole.result c.in-Some.name.now c.args.sentence c.in-Some.ensures c.of_whole.ensures
