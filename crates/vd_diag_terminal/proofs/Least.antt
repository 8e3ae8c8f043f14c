-- The parts of a program with its least labels.
use Rattle.std.proofs.Common.{◌≡◌, sym, subst}
use Rattle.vd_core.specs.declared.normal.NormalForm.{NormalForm}
use Rattle.vd_constraints.specs.Rules.{system_of}
use Rattle.vd_constraints.specs.Satisfies.{IsLeast}
use Rattle.vd_constraints.specs.declared.labels.Labels.{Labels}
use Rattle.vd_cmd_plan.specs.Labelled.{LabelledForm}

pub least_of : (form : LabelledForm) (program : NormalForm) (labels : Labels) → program ≡ form.program → labels ≡ form.labels → IsLeast (system_of form.program) form.labels → IsLeast (system_of program) labels
least_of form program labels same_program same_labels least =
    subst (λ (p : NormalForm). IsLeast (system_of p) labels) (sym same_program) (subst (λ (l : Labels). IsLeast (system_of form.program) l) (sym same_labels) least)
