-- A label is printed as a source writes it.
use Rattle.std.proofs.Common.{refl}
use Rattle.vd_formula.specs.TruthTable.{both_of, either_of, name_of}
use Rattle.vd_report.specs.LabelsRead.{LabelsAreWritten}

pub labels_written : LabelsAreWritten
unfolding both_of either_of name_of
labels_written number slot = refl
