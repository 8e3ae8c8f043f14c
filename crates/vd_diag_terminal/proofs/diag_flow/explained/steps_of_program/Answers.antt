use Rattle.std.proofs.Common.{length, refl, sym, ap, ◌∙◌}
use Rattle.std.proofs.lemmas.Bool.{ltb-true}
use Rattle.std.proofs.lemmas.Option.{slice_get_read}
use Rattle.std.specs.Prelude.{List, slice_get}
use Rattle.vd_constraints.specs.declared.system.Check.{Check}
use Rattle.vd_diag_terminal.proofs.Steps.{of_program}
use Rattle.vd_diag_terminal.proofs.diag_flow.explained.steps_of_program.Goals as goal

pub returns-in-Some : goal.returns-in-Some
returns-in-Some c =
    let lookup = c.in-Some.ensures.lookup in
    let checks = c.checks.result.now in
    of_program c.args.number c.args.program.now c.form.result.now c.in_ok-collected.collected.system c.in-Some.check.now c.steps_of_check.result c.form.ensures.same (c.in_ok-collected.ensures.system)
    (ap (λ (list : List Check). slice_get list c.args.number) (sym c.checks.ensures.same)
    ∙ slice_get_read checks (length checks) c.args.number c.in-Some.check.now refl (ltb-true c.args.number (length checks) (sym lookup.0)) lookup.1)
    c.steps_of_check.ensures
