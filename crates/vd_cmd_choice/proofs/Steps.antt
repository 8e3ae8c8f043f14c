-- What follows the step that finds a choice.
use Rattle.std.proofs.Common.{◌≡◌, inl, inr, ℕ, Bool, true, false, if◌then◌else◌, Option, List, [], Result, Ok, Err, refl, sym, ◌∙◌, subst}
use Rattle.std.specs.Prelude.{IfSome, Some, nat_lt}
use Rattle.vd_outside.specs.Files.{Contents, FilesView}
use Rattle.vd_core.specs.declared.normal.NormalForm.{NormalForm}
use Rattle.vd_constraints.specs.declared.labels.Labels.{Labels}
use Rattle.vd_space.specs.declared.problem.Problem.{Problem}
use Rattle.vd_space.specs.Reading.{problem_of}
use Rattle.vd_search_stages.specs.Choices.{ChoiceOutcomes, needed}
use Rattle.vd_search_stages.specs.declared.optimum.Assignment.{Assignment}
use Rattle.vd_search.specs.declared.writing.SearchFault.{SearchFault}
use Rattle.vd_search.specs.declared.writing.SearchFault.TheVariants as search_fault
use Rattle.vd_cmd_plan.specs.Labelled.{LabelledForm, labelled_form}
use Rattle.vd_cmd_plan.specs.Plans.{Computes, Executes, Plan, check_then}
use Rattle.vd_cmd_plan.specs.declared.answer.Answer.{Answer}
use Rattle.vd_cmd_plan.specs.declared.status.Status.{Status}
use Rattle.vd_cmd_plan.specs.declared.status.Status.TheVariants.{Ended, Memory, Spent}
use Rattle.vd_cmd_plan.proofs.Front.{Follows, check_follows}
use Rattle.vd_cmd_labels.specs.Labelling.{labels_of}
use Rattle.vd_cmd_labels.specs.Outcomes.{LabelOutcomes, TextOutcomes}
use Rattle.vd_cmd_choice.specs.Choice.{Chosen, Chooses, IsChoiceFor, IsChoiceIn, as_searched, assigned_answer, choice_of_then, chosen_by, chosen_of, no_list, search_then, source_choice_then, text_choice_then}
use Rattle.vd_cmd_choice.specs.Outcomes.{CertificateOutcomes}
use Rattle.vd_cmd_choice.specs.Searching.{Certified, GaveUp, Search, Searched, SomeSearch, is_accepted, searched_by, sure_search}
use Rattle.vd_cmd_choice.specs.declared.choice.Choice.{Choice}
use Rattle.vd_cmd_choice.specs.Programs.{IsProgramOf, LoadsSourceProgram, ReadsProgram}
use Rattle.vd_cmd_choice.specs.declared.programs.SourceProgram.{SourceProgram}

-- what there is of an assignment, if it is there
pub which_is : (P : Assignment → Type 0) (o : Option Assignment) (a : Assignment) → o ≡ Some a → IfSome o P → P a
which_is P o a is has = subst (λ (x : Option Assignment). IfSome x P) is has

-- ---- what a command goes on with

-- no assignment is valid
pub none_computes : (form : LabelledForm) (answer : Answer) → answer ≡ no_list form → Computes (no_list form) (Ok answer)
none_computes form answer is = subst (λ (a : Answer). Computes (no_list form) (Ok a)) (sym is) (record { proper = (refl, refl); no_fault = λ file e. cc e; settled = refl })

-- the answer of an assignment, if this is what there is
pub assigned_computes : (form : LabelledForm) (answer : Assignment → Answer) (o other : Option Assignment) (result : Result Answer Status) → o ≡ other → Computes (assigned_answer form answer other) result
    → Computes (assigned_answer form answer o) result
assigned_computes form answer o other result is computes = subst (λ (x : Option Assignment). Computes (assigned_answer form answer x) result) (sym is) computes

-- for the program of a source that was fetched
module _ (name : List ℕ) (budget : ℕ) (rest : List ℕ → Chosen → Contents → Plan) (before now : FilesView) where
  abbrev pub RunsOf : Result Answer Status → Type 0
  RunsOf result = SomeSearch (λ choices search. (texts : TextOutcomes) (least : LabelOutcomes) → Executes true (source_choice_then texts least choices search name budget rest) before now result)

  abbrev chosen : LabelOutcomes → ChoiceOutcomes → Search → SourceProgram → Contents → Plan
  chosen least choices search loaded = choice_of_then least choices search budget loaded.program (rest loaded.text)

  pub source_then : (loaded : SourceProgram) (choice : Choice) (result : Result Answer Status) → LoadsSourceProgram name before now (Ok loaded) → Chooses loaded.program budget (Ok choice)
      → Executes true (rest loaded.text (chosen_of choice)) now now result → RunsOf result
  source_then loaded choice result loads chooses runs = (
    chooses.0,
    λ certificates choices texts least.
        loads texts least (chosen least choices (searched_by certificates choices chooses.0)) now result
        (chooses.1 certificates choices least now (rest loaded.text) now result runs),
  )

  pub source_choice_refused : (loaded : SourceProgram) (status : Status) → LoadsSourceProgram name before now (Ok loaded) → Chooses loaded.program budget (Err status) → RunsOf (Err status)
  source_choice_refused loaded status loads chooses = (
    chooses.0,
    λ certificates choices texts least.
        loads texts least (chosen least choices (searched_by certificates choices chooses.0)) now (Err status) (chooses.1 certificates choices least now (rest loaded.text)),
  )

  pub source_refused : (status : Status) → LoadsSourceProgram name before now (Err status) → RunsOf (Err status)
  source_refused status loads = (GaveUp, λ certificates choices texts least. loads texts least (chosen least choices (searched_by certificates choices GaveUp)))

-- for the program of a text
module _ (name text : List ℕ) (budget : ℕ) (rest : Chosen → Contents → Plan) where
  abbrev pub RunsIn : Result Answer Status → Type 0
  RunsIn result = SomeSearch (λ choices search. (texts : TextOutcomes) (least : LabelOutcomes) (files : FilesView) → Executes true (text_choice_then texts least choices search name budget text rest) files files result)

  abbrev chosen_for : LabelOutcomes → ChoiceOutcomes → Search → NormalForm → Contents → Plan
  chosen_for least choices search program = choice_of_then least choices search budget program rest

  pub text_then : (program : NormalForm) (choice : Choice) (result : Result Answer Status) → ReadsProgram text (Ok program) → Chooses program budget (Ok choice)
      → ((files : FilesView) → Executes true (rest (chosen_of choice)) files files result) → RunsIn result
  text_then program choice result reads chooses runs = (
    chooses.0,
    λ certificates choices texts least files.
        reads texts least name files (chosen_for least choices (searched_by certificates choices chooses.0)) files result
        (chooses.1 certificates choices least files rest files result (runs files)),
  )

  pub text_choice_refused : (program : NormalForm) (status : Status) → ReadsProgram text (Ok program) → Chooses program budget (Err status) → RunsIn (Err status)
  text_choice_refused program status reads chooses = (
    chooses.0,
    λ certificates choices texts least files.
        reads texts least name files (chosen_for least choices (searched_by certificates choices chooses.0)) files (Err status) (chooses.1 certificates choices least files rest),
  )

  pub text_refused : (status : Status) → ReadsProgram text (Err status) → RunsIn (Err status)
  text_refused status reads = (GaveUp, λ certificates choices texts least files. reads texts least name files (chosen_for least choices (searched_by certificates choices GaveUp)))

-- what was found for the program of a text was found for the text
pub choice_is : (text : List ℕ) (program : NormalForm) (choice : Choice) → IsProgramOf text program → IsChoiceFor program choice → IsChoiceIn text choice
choice_is text program choice of is = record { of = subst (IsProgramOf text) (sym is.same) of; least = is.least; selected = is.selected }

-- for a program
module _ (program : NormalForm) (budget : ℕ) (rest : Chosen → Contents → Plan) where
  abbrev pub RunsFor : Result Answer Status → Type 0
  RunsFor result = SomeSearch (λ choices search. (least : LabelOutcomes) (files : FilesView) → Executes true (choice_of_then least choices search budget program rest) files files result)

  choice_with : (choice : Choice) (result : Result Answer Status) → Chooses program budget (Ok choice) → ((files : FilesView) → Executes true (rest (chosen_of choice)) files files result) → RunsFor result
  choice_with choice result chooses runs = (chooses.0, λ certificates choices least files. chooses.1 certificates choices least files rest files result (runs files))

  pub choice_refused : (status : Status) → Chooses program budget (Err status) → RunsFor (Err status)
  choice_refused status chooses = (chooses.0, λ certificates choices least files. chooses.1 certificates choices least files rest)

-- with its assignment, if there is one
pub choice_which : (program : NormalForm) (budget : ℕ) (rest : LabelledForm → Option Assignment → Contents → Plan) (choice : Choice) (o : Option Assignment) (result : Result Answer Status) → Chooses program budget (Ok choice)
    → choice.assignment ≡ o → ((files : FilesView) → Executes true (rest (labelled_form choice.program choice.labels) o) files files result) → RunsFor program budget (λ c. rest (labelled_form c.program c.labels) c.assignment) result
choice_which program budget rest choice o result chooses is runs =
    choice_with program budget (λ c. rest (labelled_form c.program c.labels) c.assignment) choice result chooses (λ files. subst (λ (a : Option Assignment). Executes true (rest (labelled_form choice.program choice.labels) a) files files result) (sym is) (runs files))

-- ---- a search that gives up wherever it may, beside any other

module _ (program : NormalForm) (budget : ℕ) (certificates : CertificateOutcomes) (choices : ChoiceOutcomes) (rest : Chosen → Contents → Plan) (files : Contents) where
  -- the status does not go by the certificate
  abbrev pub GoesByChoice : Type 0
  GoesByChoice = (l : Labels) (one other : List ℕ) → (rest (chosen_by choices program l one) files).answer.status ≡ (rest (chosen_by choices program l other) files).answer.status

  module _ (l : Labels) where
    abbrev problem : Problem
    problem = problem_of program l

    abbrev after : Result (List ℕ) SearchFault → Plan
    after answer = check_then (as_searched budget (labelled_form program l) answer) (λ bytes. rest (chosen_by choices program l bytes)) files

    status_after : (bytes : List ℕ) → (after (Ok bytes)).answer.status ≡ (rest (chosen_by choices program l bytes) files).answer.status
    unfolding check_then
    status_after bytes = refl

    spent_after : (after (Err search_fault.Spent)).answer.status ≡ Spent budget (labelled_form program l)
    unfolding check_then
    spent_after = refl

    memory_after : (after (Err search_fault.Memory)).answer.status ≡ Memory
    unfolding check_then
    memory_after = refl

    found_follows : GoesByChoice → (sure bytes : List ℕ) → Follows (after (Ok sure)) (after (Ok bytes))
    found_follows same sure bytes e = inl (status_after bytes ∙ same l bytes sure ∙ sym (status_after sure) ∙ e)

    memory_follows : (sure : Plan) → Follows sure (after (Err search_fault.Memory))
    memory_follows sure e = inr memory_after

    spent_follows : (over : Bool) → Follows (after (if over then Err search_fault.Spent else Ok [])) (after (if over then Err search_fault.Spent else Err search_fault.Memory))
    spent_follows true e = inl e
    spent_follows false e = memory_follows (after (Ok [])) e

    accepted_follows : GoesByChoice → (over passes : Bool) (bytes : List ℕ) → Follows (after (if over then Err search_fault.Spent else Ok [])) (after (if passes then Ok bytes else Err search_fault.Memory))
    accepted_follows same true passes bytes e = let is : Spent budget (labelled_form program l) ≡ Ended = sym spent_after ∙ e in absurd (cc is)
    accepted_follows same false true bytes e = found_follows same [] bytes e
    accepted_follows same false false bytes e = memory_follows (after (Ok [])) e

    search_follows : GoesByChoice → (searched : Searched)
        → Follows (search_then choices (sure_search choices) budget program l rest files) (search_then choices (searched_by certificates choices searched) budget program l rest files)
    search_follows same GaveUp = spent_follows (nat_lt budget (needed problem (choices.choose problem)))
    search_follows same (Certified bytes) = accepted_follows same (nat_lt budget (needed problem (choices.choose problem))) (is_accepted problem budget (certificates.read bytes)) bytes

  pub choice_follows : GoesByChoice → (least : LabelOutcomes) (searched : Searched)
      → Follows (choice_of_then least choices (sure_search choices) budget program rest files) (choice_of_then least choices (searched_by certificates choices searched) budget program rest files)
  choice_follows same least searched =
      check_follows (labels_of least program) (λ l. search_then choices (sure_search choices) budget program l rest) (λ l. search_then choices (searched_by certificates choices searched) budget program l rest) files
      (λ l. search_follows l same searched)
