-- What `labels` prints.
use Rattle.std.proofs.Common.{ℕ, List, [], ap, ◌∙◌}
use Rattle.vd_outside.specs.Files.{Contents}
use Rattle.vd_core.specs.declared.normal.NormalForm.{NormalForm}
use Rattle.vd_constraints.specs.declared.labels.Labels.{Labels}
use Rattle.vd_elaborate.specs.Normal.{normal_form}
use Rattle.vd_cmd_plan.specs.Plans.{Plan, answer_then, ended}
use Rattle.vd_cmd_plan.specs.declared.answer.Answer.{Answer}
use Rattle.vd_cmd_labels.specs.Labelling.{labelled_plan, labels_of, labels_plan, labels_text}
use Rattle.vd_cmd_laws.specs.Laws.{LabelsTell}
use Rattle.vd_cmd_laws.proofs.Plans.{answered, check_came, ends_as}
use Rattle.vd_cmd_laws.proofs.Sources.{labels_are, labels_never, made_of, source_came}

pub labels_tell : LabelsTell
labels_tell texts least name contents ends =
    let file = source_came contents texts name (labelled_plan least) ends in
    let program : NormalForm = normal_form file.0 in
    let made = made_of name contents file.0 file.1 in
    let rest : Labels → Contents → Plan = λ labels. answer_then (ended [] (labels_text program labels)) in
    let found = check_came contents (labels_of least program) rest (labels_never least program made) (ends_as contents (labels_plan texts least name) (labelled_plan least file.0) ends file.2) in
    record {
      source = file.0;
      held = file.1;
      labels = found.0;
      least = labels_are least program made found.0 found.1;
      lines = ap (λ (a : Answer). a.printed) (file.2 ∙ found.2 ∙ answered contents (ended [] (labels_text program found.0)));
    }
