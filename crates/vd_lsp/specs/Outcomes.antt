-- What `labels` comes to on a file with this text.
use Rattle.std.specs.Prelude.{◌≡◌, ℕ, List, Result, Ok, Err}
use Rattle.vd_base.specs.Limits.{most_source_bytes}
use Rattle.vd_constraints.specs.declared.labels.Labels.{Labels}
use Rattle.vd_elaborate.specs.Normal.{normal_form}
use Rattle.vd_core.specs.declared.source.Source.{Source}
use Rattle.vd_outside.specs.Files.{Contents, fetched}
use Rattle.vd_cmd_plan.specs.declared.status.Status.{Status}
use Rattle.vd_cmd_plan.specs.declared.status.Status.TheVariants.{Ended}
use Rattle.vd_cmd_labels.specs.Labelling.{labels_of, labels_plan}
use Rattle.vd_cmd_labels.specs.Outcomes.{LabelOutcomes, TextOutcomes}
use Rattle.vd_cmd_labels.specs.Sources.{resolved_of, source_of}

-- a step, and the next one where it was made
abbrev pub next : {T U : Type 0} → Result T Status → (T → Result U Status) → Result U Status
next (Ok value) step = step value
next (Err status) step = Err status

abbrev pub source_outcome : LabelOutcomes → Source → Result Labels Status
source_outcome least source = labels_of least (normal_form source)

abbrev pub tree_outcome : LabelOutcomes → Source → Result Labels Status
tree_outcome least tree = next (resolved_of tree) (source_outcome least)

-- the least labels of the text with this name, or the status of its refusal
abbrev pub outcome_of : TextOutcomes → LabelOutcomes → (name text : List ℕ) → Result Labels Status
outcome_of texts least name text = next (source_of texts name text) (tree_outcome least)

abbrev pub status_of : Result Labels Status → Status
status_of (Ok labels) = Ended
status_of (Err status) = status

-- The outcome of a text is the status with which `labels` ends on a file that has it.
abbrev pub FaultsAreThoseOfLabels : Type 0
FaultsAreThoseOfLabels = (texts : TextOutcomes) (least : LabelOutcomes) (files : Contents) (name text : List ℕ)
    → fetched (files name) most_source_bytes ≡ Ok text → (labels_plan texts least name files).answer.status ≡ status_of (outcome_of texts least name text)
