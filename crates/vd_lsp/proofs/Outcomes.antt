-- The outcome of a text, step by step.
use Rattle.std.proofs.Common.{rules, ◌≡◌, ◌<◌, ℕ, List, [], ◌∷◌, length, Result, Ok, Err, refl, sym, ap, subst, ◌∙◌, inr}
use Rattle.vd_base.specs.Limits.{most_source_bytes}
use Rattle.vd_constraints.specs.declared.labels.Labels.{Labels}
use Rattle.vd_core.specs.declared.normal.NormalForm.{NormalForm}
use Rattle.vd_core.specs.declared.source.Source.{Source}
use Rattle.vd_elaborate.specs.Normal.{normal_form}
use Rattle.vd_outside.specs.Files.{Contents, fetched}
use Rattle.vd_parser.specs.declared.fault.ParseFault.TheVariants as parse_fault
use Rattle.vd_cmd_plan.specs.Plans.{Checks, IsRefusal, check_then, answer_then, file_then, with_file}
use Rattle.vd_cmd_plan.specs.declared.status.Status.{Status}
use Rattle.vd_cmd_plan.specs.declared.status.Status.TheVariants.{Ended, Memory, Usage, ReadFault, WriteFault, TooLong, NoAssignment, Host, ChildFault}
use Rattle.vd_cmd_labels.specs.Labelling.{labels_of, labels_plan, labelled_plan, program_plan}
use Rattle.vd_cmd_labels.specs.Outcomes.{LabelOutcomes, TextOutcomes}
use Rattle.vd_cmd_labels.specs.Sources.{resolved_of, source_of, source_then, tree_then}
use Rattle.vd_cmd_labels.proofs.Front.{parsed}
use Rattle.vd_lsp.specs.Outcomes.{next, outcome_of, source_outcome, status_of, tree_outcome}

-- a refusal of the first step is one of the whole
refused_then : {T U : Type 0} (wanted : Result T Status) (step : T → Result U Status) (status : Status) → IsRefusal wanted status → IsRefusal (next wanted step) status
refused_then wanted step Ended is = is
refused_then wanted step (NoAssignment labelled) is = is
refused_then wanted step Memory is = tt
refused_then wanted step Usage is = is
refused_then wanted step (ReadFault name) is = is
refused_then wanted step WriteFault is = is
refused_then wanted step (Host cause) is = (is.0, ap (λ r. next r step) is.1)
refused_then wanted step (ChildFault hosts fault) is = is
refused_then wanted step status is = ap (λ r. next r step) is

pub stopped : {T U : Type 0} (wanted : Result T Status) (step : T → Result U Status) (status : Status) → Checks wanted (Err status) → Checks (next wanted step) (Err status)
stopped wanted step status checks = record { ok = tt; err = refused_then wanted step status checks.err }

-- a step that was made leaves the next
pub made : {T U : Type 0} (wanted : Result T Status) (step : T → Result U Status) (value : T) (result : Result U Status) → Checks wanted (Ok value) → Checks (step value) result
    → Checks (next wanted step) result
made wanted step value result first second = subst (λ r. Checks (next r step) result) (sym first.ok) second

-- out of memory is a refusal of anything
pub no_memory : {T : Type 0} (wanted : Result T Status) → Checks wanted (Err Memory)
no_memory wanted = record { ok = tt; err = tt }

pub of_form : (least : LabelOutcomes) (source : Source) (program form : NormalForm) (result : Result Labels Status) → program ≡ form → Checks (labels_of least program) result → Checks (labels_of least form) result
of_form least source program form result is checks = subst (λ p. Checks (labels_of least p) result) is checks

pub too_long : (texts : TextOutcomes) (least : LabelOutcomes) (name text : List ℕ) → most_source_bytes < length text → outcome_of texts least name text ≡ Err (TooLong name most_source_bytes)
too_long texts least name text over =
    ap (λ r. next r (tree_outcome least)) (parsed texts name text (Err (parse_fault.TooLong (length text))) (inr (over, refl)) (λ e. cc e))

-- ---- what `labels` ends with

program_ends : (least : LabelOutcomes) (program : NormalForm) (files : Contents) (r : Result Labels Status) → labels_of least program ≡ r → (program_plan least program files).answer.status ≡ status_of r
unfolding check_then answer_then
program_ends least program files (Ok labels) e = search (rules, e)
program_ends least program files (Err status) e = search (rules, e)

tree_ends : (least : LabelOutcomes) (tree : Source) (files : Contents) (r : Result Source Status) → resolved_of tree ≡ r
    → (check_then (resolved_of tree) (labelled_plan least) files).answer.status ≡ status_of (next r (source_outcome least))
unfolding check_then
tree_ends least tree files (Ok source) e = search (rules, e, program_ends least (normal_form source) files (labels_of least (normal_form source)) refl)
tree_ends least tree files (Err status) e = search (rules, e)

text_ends : (texts : TextOutcomes) (least : LabelOutcomes) (files : Contents) (name text : List ℕ) (r : Result Source Status) → source_of texts name text ≡ r
    → (check_then (source_of texts name text) (λ tree. check_then (resolved_of tree) (labelled_plan least)) files).answer.status ≡ status_of (next r (tree_outcome least))
unfolding check_then
text_ends texts least files name text (Ok tree) e = search (rules, e, tree_ends least tree files (resolved_of tree) refl)
text_ends texts least files name text (Err status) e = search (rules, e)

pub labels_end : (texts : TextOutcomes) (least : LabelOutcomes) (files : Contents) (name text : List ℕ) → fetched (files name) most_source_bytes ≡ Ok text
    → (labels_plan texts least name files).answer.status ≡ status_of (outcome_of texts least name text)
unfolding source_then tree_then file_then
labels_end texts least files name text e =
    ap (λ f. (with_file name most_source_bytes f (λ bytes. check_then (source_of texts name bytes) (λ tree. check_then (resolved_of tree) (labelled_plan least)) files)).answer.status) e
    ∙ text_ends texts least files name text (source_of texts name text) refl
