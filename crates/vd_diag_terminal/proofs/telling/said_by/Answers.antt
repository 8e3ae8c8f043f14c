use Rattle.vd_diag_terminal.proofs.Looks.{by_name, by_no_name}
use Rattle.vd_diag_terminal.proofs.telling.said_by.Goals as goal

pub returns-in-Some : goal.returns-in-Some
returns-in-Some g c = by_name c.args.coloured c.args.words.now c.args.status.now _ _ c.said_of_file.result c.args.reading c.in-Some.name.now c.in-Some.ensures c.said_of_file.ensures

pub returns-in-None : goal.returns-in-None
returns-in-None g c = by_no_name c.args.coloured c.args.words.now c.args.status.now _ c.args.reading c.new.result c.in-None.ensures c.new.ensures
