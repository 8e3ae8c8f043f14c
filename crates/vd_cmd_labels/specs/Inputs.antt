-- The step that reads inputs.
use Rattle.std.specs.Prelude.{ℕ, List, Result, Ok, Err}
use Rattle.vd_base.specs.Limits.{most_inputs_bytes}
use Rattle.vd_outside.specs.Files.{Contents}
use Rattle.vd_report.specs.InputsText.{GivesInputs}
use Rattle.vd_report.specs.declared.fault.ReadFault.{ReadFault}
use Rattle.vd_cmd_plan.specs.Held.{IsHeld}
use Rattle.vd_cmd_plan.specs.Plans.{Plan, file_then, check_then}
use Rattle.vd_cmd_plan.specs.Refusals.{input_status}
use Rattle.vd_cmd_plan.specs.declared.status.Status.{Status}
use Rattle.vd_cmd_labels.specs.Outcomes.{TextOutcomes}

-- the words, or the status of a refusal
abbrev pub as_inputs : Result (List (List ℕ)) ReadFault → Result (List (List ℕ)) Status
as_inputs (Ok inputs) = Ok inputs
as_inputs (Err fault) = Err (input_status fault)

-- the words that a text hands in for these hosts
abbrev pub words_of : TextOutcomes → List (List ℕ) → List ℕ → Result (List (List ℕ)) Status
words_of texts hosts bytes = as_inputs (texts.inputs hosts bytes)

-- fetch the inputs of these hosts and go on with their words
unfoldable pub inputs_then : TextOutcomes → List ℕ → List (List ℕ) → (List (List ℕ) → Contents → Plan) → Contents → Plan
inputs_then texts name hosts rest = file_then name most_inputs_bytes (λ bytes. check_then (words_of texts hosts bytes) rest)

-- the file holds a text that gives these words to these hosts
abbrev pub HoldsInputs : List ℕ → List (List ℕ) → Contents → List (List ℕ) → Type 0
HoldsInputs name hosts contents inputs = IsHeld name most_inputs_bytes contents (λ bytes. GivesInputs hosts bytes inputs)
