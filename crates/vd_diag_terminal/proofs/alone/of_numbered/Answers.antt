use Rattle.vd_diag_terminal.proofs.Looks.{of_prefixed}
use Rattle.vd_diag_terminal.proofs.alone.of_numbered.Goals as goal

pub returns-in-Some : goal.returns-in-Some
returns-in-Some c = of_prefixed c.args.words.now 3 c.of_prefixed.result c.in-Some.prefix.now c.args.number c.args.offset c.in-Some.ensures c.of_prefixed.ensures
