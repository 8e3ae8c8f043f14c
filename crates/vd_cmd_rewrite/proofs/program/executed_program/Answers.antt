use Rattle.vd_cmd_rewrite.proofs.Made.{run_is_form, run_is_program, run_tells_as}
use Rattle.vd_cmd_rewrite.proofs.program.executed_program.Goals as goal

pub returns-clause-form : goal.returns-clause-form
returns-clause-form c =
    run_is_form c.args.source c.in_ok-program.program c.in_ok-turned.turned c.in_ok-program.ensures.form c.form-form.ensures.well_made c.form-turned_form.ensures.well_made c.form-turned_form.ensures.fit c.in_ok-turned.ensures c.with_loops.result
    c.with_loops.ensures

pub returns-clause-made : goal.returns-clause-made
returns-clause-made c =
    run_is_program c.args.source c.in_ok-program.program c.in_ok-turned.turned c.in_ok-program.ensures.form c.form-form.ensures.well_made c.form-turned_form.ensures.well_made c.form-turned_form.ensures.fit c.in_ok-turned.ensures c.with_loops.result
    c.with_loops.ensures

pub returns-clause-tells : goal.returns-clause-tells
returns-clause-tells c =
    run_tells_as c.args.source c.in_ok-program.program c.in_ok-turned.turned c.in_ok-program.ensures.form c.form-form.ensures.well_made c.form-turned_form.ensures.well_made c.form-turned_form.ensures.fit c.in_ok-turned.ensures c.with_loops.result
    c.with_loops.ensures
