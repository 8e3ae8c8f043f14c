use Rattle.std.proofs.Common.{refl, sym, ap, ◌∙◌}
use Rattle.vd_core.specs.declared.normal.NormalForm.{NormalForm}
use Rattle.vd_cmd_rewrite.specs.Plain.{some_division}
use Rattle.vd_cmd_rewrite.specs.RunPrograms.{Plain, Without}
use Rattle.vd_cmd_rewrite.proofs.Untouched.{not_lengthened}
use Rattle.vd_cmd_rewrite.proofs.program.with_loops.Goals as goal

pub returns-then-not-some_division : goal.returns-then-not-some_division
returns-then-not-some_division c =
    let none = sym (ap some_division (c.as_slice.ensures ∙ ap (λ (form : NormalForm). form.body) c.form.ensures.same)) ∙ sym (c.if-not-some_division.ensures {u = tt}) in Plain (λ l. not_lengthened c.args.program l none) refl

pub returns-in-None : goal.returns-in-None
returns-in-None c = Without (rw c.in-None.is at c.in_ok-found.ensures) refl
