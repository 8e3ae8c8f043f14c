use Rattle.vd_lsp.proofs.Outcomes.{labels_end}
use Rattle.vd_lsp.proofs.laws.faults_are_those_of_labels.Goals as goal

pub returns : goal.returns
returns c = λ texts least files name text is. labels_end texts least files name text is
