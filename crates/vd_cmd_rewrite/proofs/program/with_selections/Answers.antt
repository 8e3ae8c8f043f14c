use Rattle.std.proofs.Common.{refl, sym, ap, ◌∙◌}
use Rattle.vd_core.specs.declared.normal.NormalForm.{NormalForm}
use Rattle.vd_cmd_rewrite.specs.Plain.{some_branch}
use Rattle.vd_cmd_rewrite.specs.RunPrograms.{Plain, Without}
use Rattle.vd_cmd_rewrite.proofs.Untouched.{not_turned}
use Rattle.vd_cmd_rewrite.proofs.program.with_selections.Goals as goal

pub returns-then-not-some_branch : goal.returns-then-not-some_branch
returns-then-not-some_branch c =
    let none = sym (ap some_branch (c.as_slice.ensures ∙ ap (λ (form : NormalForm). form.body) c.form.ensures.same)) ∙ sym (c.if-not-some_branch.ensures {u = tt}) in Plain (λ l. not_turned c.args.program l none) refl

pub returns-in-None : goal.returns-in-None
returns-in-None c = Without (rw c.in-None.is at c.in_ok-found.ensures) refl
