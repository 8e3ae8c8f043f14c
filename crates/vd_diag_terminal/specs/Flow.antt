-- What is said of a check that fails.
use Rattle.std.specs.Prelude.{ℕ, List}
use Rattle.vd_formula.specs.TruthTable.{TruthTable}
use Rattle.vd_constraints.specs.declared.origin.Origin.{Origin}
use Rattle.vd_constraints.specs.declared.system.Check.{Check}
use Rattle.vd_diag.specs.declared.remark.Remark.{Remark}
use Rattle.vd_diag.specs.Remarks.{at}
use Rattle.vd_diag_terminal.specs.FlowSentences.{flow_sentence}

-- at its statement stands the sentence of what asks for it, with its constant and with the formula that this would have to act for
abbrev pub flow_remark : (principals hosts : List (List ℕ)) → Check → Origin → (asked : TruthTable) → Remark
flow_remark principals hosts check origin asked = at check.offset (flow_sentence principals hosts check origin asked)
