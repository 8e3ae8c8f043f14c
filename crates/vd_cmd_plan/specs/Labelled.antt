-- A program with labels of its slots and blocks.
use Rattle.vd_core.specs.declared.normal.NormalForm.{NormalForm}
use Rattle.vd_constraints.specs.declared.labels.Labels.{Labels}

pub record LabelledForm : Type 0 where
  pub program : NormalForm
  pub labels : Labels

abbrev pub labelled_form : NormalForm → Labels → LabelledForm
labelled_form program labels = record { program = program; labels = labels }
