-- The command `labels`.
use Rattle.std.specs.Prelude.{ℕ, true, List, [], Result, Ok, Err, slice_index_or}
use Rattle.vd_outside.specs.Files.{FilesView, Contents}
use Rattle.vd_core.specs.declared.source.Source.{Source}
use Rattle.vd_core.specs.declared.normal.NormalForm.{NormalForm}
use Rattle.vd_elaborate.specs.Normal.{normal_form}
use Rattle.vd_formula.specs.TruthTable.{any_of}
use Rattle.vd_constraints.specs.Rules.{check, conf, system_of}
use Rattle.vd_constraints.specs.Satisfies.{formula_at}
use Rattle.vd_constraints.specs.Origins.{origins_of}
use Rattle.vd_constraints.specs.declared.origin.Origin.{Origin}
use Rattle.vd_constraints.specs.declared.origin.Origin.TheVariants.{Endorse}
use Rattle.vd_constraints.specs.declared.system.Place.TheVariants.{Block}
use Rattle.vd_constraints.specs.declared.labels.Labels.{Labels}
use Rattle.vd_constraints.specs.declared.system.Check.{Check}
use Rattle.vd_report.specs.LabelLines.{label_lines}
use Rattle.vd_cmd_plan.specs.Plans.{Plan, Executes, check_then, answer_then, ended}
use Rattle.vd_cmd_labels.specs.Outcomes.{TextOutcomes, LabelOutcomes}
use Rattle.vd_cmd_labels.specs.Sources.{source_then}
use Rattle.vd_cmd_plan.specs.declared.answer.Answer.{Answer}
use Rattle.vd_cmd_plan.specs.declared.status.FlowFault.{FlowFault}
use Rattle.vd_cmd_plan.specs.declared.status.Status.{Status}
use Rattle.vd_cmd_plan.specs.declared.status.Status.TheVariants.{Flow}

-- the check with this number; where there is none, one of nothing
abbrev pub no_check : Check
no_check = check (any_of 0) (conf (Block 0)) 0

abbrev pub check_at : List Check → (number : ℕ) → Check
check_at checks number = slice_index_or checks number no_check

-- what asks for the check with this number
abbrev pub origin_at : List Origin → (number : ℕ) → Origin
origin_at origins number = slice_index_or origins number Endorse

-- what is carried of the check of a program with this number, which fails at this solution of its rules
abbrev pub fault_of : NormalForm → (solution : Labels) → List Check → List Origin → (number : ℕ) → FlowFault
fault_of program solution checks origins number = record {
  number = number;
  check = check_at checks number;
  origin = origin_at origins number;
  asked = formula_at solution (check_at checks number).part;
  principals = program.principals;
  hosts = program.hosts;
}

-- of the check with this number, at the least solution
abbrev pub flow_fault : LabelOutcomes → NormalForm → (number : ℕ) → FlowFault
flow_fault least program number = fault_of program (least.solution (system_of program)) (system_of program).checks (origins_of program) number

-- the labels of a program, or the status of its refusal
abbrev pub as_labels : LabelOutcomes → NormalForm → Result Labels ℕ → Result Labels Status
as_labels least program (Ok labels) = Ok labels
as_labels least program (Err number) = Err (Flow (flow_fault least program number))

abbrev pub labels_of : LabelOutcomes → NormalForm → Result Labels Status
labels_of least program = as_labels least program (least.label (system_of program))

-- a line for each slot
abbrev pub labels_text : NormalForm → Labels → List ℕ
labels_text program labels = label_lines program.principals 0 program.slots labels.slots

-- what `labels` does with a program
abbrev pub program_plan : LabelOutcomes → NormalForm → Contents → Plan
program_plan least program = check_then (labels_of least program) (λ labels. answer_then (ended [] (labels_text program labels)))

-- what it does with a source that meets every rule
abbrev pub labelled_plan : LabelOutcomes → Source → Contents → Plan
labelled_plan least source = program_plan least (normal_form source)

abbrev pub labels_plan : TextOutcomes → LabelOutcomes → List ℕ → Contents → Plan
labels_plan texts least source = source_then texts source (labelled_plan least)

abbrev pub ExecutesLabels : List ℕ → FilesView → FilesView → Result Answer Status → Type 0
ExecutesLabels source before now result = (texts : TextOutcomes) (least : LabelOutcomes) → Executes true (labels_plan texts least source) before now result
