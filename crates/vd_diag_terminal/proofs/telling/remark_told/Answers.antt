use Rattle.vd_diag_terminal.proofs.Parts.{of_remark, of_no_remark}
use Rattle.vd_diag_terminal.proofs.telling.remark_told.Goals as goal

pub returns-in_ok-text-in-Some : goal.returns-in_ok-text-in-Some
returns-in_ok-text-in-Some c =
    of_remark c.args.coloured c.args.status.now c.args.name.now c.args.bytes.now c.in_ok-found.found c.in-Some.remark c.in_ok-text-in-Some.text c.in-Some.is (c.in_ok-found.ensures {u = tt}) (c.in_ok-text-in-Some.ensures {u = tt})

pub returns-in-None : goal.returns-in-None
returns-in-None c = of_no_remark c.args.coloured c.args.status.now c.args.name.now c.args.bytes.now c.in_ok-found.found c.new.result c.in-None.is (c.in_ok-found.ensures {u = tt}) c.new.ensures
