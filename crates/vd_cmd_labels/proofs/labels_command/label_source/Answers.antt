use Rattle.std.proofs.Common.{true, subst}
use Rattle.vd_core.specs.declared.normal.NormalForm.{NormalForm}
use Rattle.vd_cmd_plan.specs.Plans.{Executes}
use Rattle.vd_cmd_labels.specs.Labelling.{program_plan}
use Rattle.vd_cmd_labels.proofs.labels_command.label_source.Goals as goal

pub returns : goal.returns
returns c = λ least files.
    subst (λ (form : NormalForm). Executes true (program_plan least form) files files c.label_program.result) (c.in_ok-program.ensures.form) (c.label_program.ensures least files)
