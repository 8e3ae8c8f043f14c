-- The command `choose`.
use Rattle.std.specs.Prelude.{ℕ, true, Option, Some, None, List, [], ◌∷◌, ◌++◌, Result, codes}
use Rattle.vd_outside.specs.Files.{FilesView, Contents}
use Rattle.vd_outside.specs.declared.stored.Stored.{Stored}
use Rattle.vd_search_stages.specs.Choices.{ChoiceOutcomes}
use Rattle.vd_search_stages.specs.declared.optimum.Assignment.{Assignment}
use Rattle.vd_cmd_plan.specs.Labelled.{LabelledForm, labelled_form}
use Rattle.vd_cmd_plan.specs.Plans.{Plan, Executes, answer_then, ended}
use Rattle.vd_cmd_plan.specs.declared.answer.Answer.{Answer}
use Rattle.vd_cmd_plan.specs.declared.status.Status.{Status}
use Rattle.vd_cmd_plan.specs.declared.status.Status.TheVariants.{NoAssignment}
use Rattle.vd_cmd_labels.specs.Outcomes.{TextOutcomes, LabelOutcomes}
use Rattle.vd_cmd_choice.specs.Choice.{Chosen, printed_at, source_choice_then}
use Rattle.vd_cmd_choice.specs.Searching.{Search, SomeSearch}

-- SOURCE.cert
abbrev pub certificate_file : List ℕ → List ℕ → Stored
certificate_file source bytes = record { name = source ++ codes ".cert"; content = bytes }

-- the certificate is stored, and the choice for the program printed with its cost, if there is one
abbrev pub choice_answer : LabelledForm → Option Assignment → Stored → Answer
choice_answer form (Some a) file = ended (file ∷ []) (printed_at form.program a)
choice_answer form None file = record { status = NoAssignment form; stores = file ∷ []; printed = [] }

-- the answer to what was found
abbrev pub chosen_answer : List ℕ → Chosen → Answer
chosen_answer source c = choice_answer (labelled_form c.program c.labels) c.assignment (certificate_file source c.certificate)

-- what `choose` does with a file: it is the program that is run for the source that it chooses for
abbrev pub choose_plan : TextOutcomes → LabelOutcomes → ChoiceOutcomes → Search → List ℕ → ℕ → Contents → Plan
choose_plan texts least choices search source budget = source_choice_then texts least choices search source budget (λ text c. answer_then (chosen_answer source c))

abbrev pub ExecutesChoose : List ℕ → ℕ → FilesView → FilesView → Result Answer Status → Type 0
ExecutesChoose source budget before now result =
    SomeSearch (λ choices search. (texts : TextOutcomes) (least : LabelOutcomes) → Executes true (choose_plan texts least choices search source budget) before now result)
