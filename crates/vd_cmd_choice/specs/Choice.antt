-- The choice of protocols for a program, and the step that finds it.
use Rattle.std.specs.Prelude.{◌≡◌, ℕ, Option, Some, None, List, [], Result, Ok, Err, IfSome}
use Rattle.vd_base.specs.Limits.{most_source_bytes}
use Rattle.vd_outside.specs.Files.{Contents, FilesView}
use Rattle.vd_core.specs.declared.normal.NormalForm.{NormalForm}
use Rattle.vd_report.specs.ChoiceLines.{choice_lines}
use Rattle.vd_constraints.specs.Rules.{system_of}
use Rattle.vd_constraints.specs.Satisfies.{IsLeast}
use Rattle.vd_constraints.specs.declared.labels.Labels.{Labels}
use Rattle.vd_search_tree.specs.Texts.{text_of}
use Rattle.vd_space.specs.Reading.{problem_of}
use Rattle.vd_space.specs.Cheapest.{IsAssignment}
use Rattle.vd_search_stages.specs.Choices.{ChoiceOutcomes}
use Rattle.vd_search_stages.specs.Optimum.{IsOptimal, assignment_of}
use Rattle.vd_search_stages.specs.declared.optimum.Assignment.{Assignment}
use Rattle.vd_search.specs.declared.writing.SearchFault.{SearchFault}
use Rattle.vd_search.specs.declared.writing.SearchFault.TheVariants as search_fault
use Rattle.vd_cmd_plan.specs.Labelled.{LabelledForm, labelled_form}
use Rattle.vd_cmd_plan.specs.Plans.{ExecutesStep, Plan, check_then, file_then}
use Rattle.vd_cmd_plan.specs.declared.answer.Answer.{Answer}
use Rattle.vd_cmd_plan.specs.declared.status.Status.{Status}
use Rattle.vd_cmd_plan.specs.declared.status.Status.TheVariants.{Memory, NoAssignment, Spent}
use Rattle.vd_cmd_labels.specs.Outcomes.{LabelOutcomes, TextOutcomes}
use Rattle.vd_cmd_labels.specs.Labelling.{labels_of}
use Rattle.vd_cmd_choice.specs.Searching.{Search, SomeSearch}
use Rattle.vd_cmd_choice.specs.Programs.{IsProgramOf, text_program_then}
use Rattle.vd_cmd_choice.specs.declared.choice.Choice.{Choice}

-- This is the choice for a program: the assignment that is valid under its least labels, of least cost, and the first of these in order.
pub record IsSelected (program : NormalForm) (a : Assignment) : Type 0 where
  pub labels : Labels
  pub least : IsLeast (system_of program) labels
  pub optimal : IsOptimal (problem_of program labels) a

-- what is printed of it: a line for each slot, and the cost
abbrev pub printed_at : NormalForm → Assignment → List ℕ
printed_at program a = choice_lines program a.protocols a.cost

-- ---- the step that finds it

-- the program and its labels, the choice, if there is one, and the bytes of a certificate of that
pub record Chosen : Type 0 where
  pub program : NormalForm
  pub labels : Labels
  pub assignment : Option Assignment
  pub certificate : List ℕ

abbrev pub chosen_by : ChoiceOutcomes → NormalForm → Labels → List ℕ → Chosen
chosen_by choices program l bytes =
    record { program = program; labels = l; assignment = assignment_of choices (problem_of program l); certificate = bytes }

-- what a search with this budget for a program came to: where the budget is spent, the status carries the program with its labels
abbrev pub as_searched : (budget : ℕ) → LabelledForm → Result (List ℕ) SearchFault → Result (List ℕ) Status
as_searched budget form (Ok bytes) = Ok bytes
as_searched budget form (Err search_fault.Spent) = Err (Spent budget form)
as_searched budget form (Err search_fault.Memory) = Err Memory

-- search with a budget under these labels of a program, and go on with what is found
abbrev pub search_then : ChoiceOutcomes → Search → (budget : ℕ) → NormalForm → Labels → (Chosen → Contents → Plan) → Contents → Plan
search_then choices search budget program l rest =
    check_then (as_searched budget (labelled_form program l) (search (problem_of program l) budget))
    (λ bytes. rest (chosen_by choices program l bytes))

-- the step: the same under its least labels
abbrev pub choice_of_then : LabelOutcomes → ChoiceOutcomes → Search → (budget : ℕ) → NormalForm → (Chosen → Contents → Plan) → Contents
    → Plan
choice_of_then least choices search budget program rest =
    check_then (labels_of least program) (λ l. search_then choices search budget program l rest)

-- for the program that is run for the source with this text, which goes by this name
abbrev pub text_choice_then : TextOutcomes → LabelOutcomes → ChoiceOutcomes → Search → (name : List ℕ) → (budget : ℕ) → (text : List ℕ)
    → (Chosen → Contents → Plan) → Contents → Plan
text_choice_then texts least choices search name budget text rest =
    text_program_then texts least name text (λ program. choice_of_then least choices search budget program rest)

-- and for the source in a file, whose text is kept
abbrev pub source_choice_then : TextOutcomes → LabelOutcomes → ChoiceOutcomes → Search → (name : List ℕ) → (budget : ℕ)
    → (List ℕ → Chosen → Contents → Plan) → Contents → Plan
source_choice_then texts least choices search name budget rest =
    file_then name most_source_bytes (λ text. text_choice_then texts least choices search name budget text (rest text))

-- ---- the answer to it

-- where no assignment is valid for a program: the status carries it with its labels
abbrev pub no_list : LabelledForm → Answer
no_list form = record { status = NoAssignment form; stores = []; printed = [] }

-- this one of an assignment for a program, if there is one
abbrev pub assigned_answer : LabelledForm → (Assignment → Answer) → Option Assignment → Answer
assigned_answer form answer None = no_list form
assigned_answer form answer (Some a) = answer a

-- ---- what its parts do, whatever functions pick outcomes

abbrev pub chosen_of : Choice → Chosen
chosen_of choice =
    record { program = choice.program; labels = choice.labels; assignment = choice.assignment; certificate = text_of choice.certificate }

abbrev pub chosen_in : Result Choice Status → Result Chosen Status
chosen_in (Ok choice) = Ok (chosen_of choice)
chosen_in (Err status) = Err status

abbrev pub Searches : NormalForm → Labels → (budget : ℕ) → Result Choice Status → Type 0
Searches program l budget result =
    SomeSearch
    (λ choices search. (files : FilesView) → ExecutesStep (search_then choices search budget program l) files files (chosen_in result))

abbrev pub Chooses : NormalForm → (budget : ℕ) → Result Choice Status → Type 0
Chooses program budget result =
    SomeSearch
    (λ choices search. (least : LabelOutcomes) (files : FilesView)
    → ExecutesStep (choice_of_then least choices search budget program) files files (chosen_in result))

-- ---- what they find

-- what was found for a program, and that its labels are the least
pub record IsChoiceFor (program : NormalForm) (choice : Choice) : Type 0 where
  pub same : choice.program ≡ program
  pub least : IsLeast (system_of choice.program) choice.labels
  pub selected : IfSome choice.assignment (IsSelected choice.program)
  pub valid : IfSome choice.assignment (λ a. IsAssignment (problem_of choice.program choice.labels) a.protocols)

-- what was found for the source with this text, and that its labels are the least
pub record IsChoiceIn (text : List ℕ) (choice : Choice) : Type 0 where
  pub of : IsProgramOf text choice.program
  pub least : IsLeast (system_of choice.program) choice.labels
  pub selected : IfSome choice.assignment (IsSelected choice.program)
