use Rattle.vd_diag_terminal.proofs.Steps.{of_way}
use Rattle.vd_diag_terminal.proofs.diag_flow.explained.steps_of_check.Goals as goal

pub returns-in_ok-told-in-Some : goal.returns-in_ok-told-in-Some
returns-in_ok-told-in-Some c =
    of_way c.args.form.now c.args.system.now c.args.check.now c.in_ok-found.found c.in-Some.steps c.as_slice.result.now c.in_ok-told-in-Some.told c.in-Some.is (c.in_ok-found.ensures {u = tt}) c.as_slice.ensures
    (c.in_ok-told-in-Some.ensures {u = tt})
