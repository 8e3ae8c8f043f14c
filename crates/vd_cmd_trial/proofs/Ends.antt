-- How a trial ends: its source is read and meets every rule, so what is left to be refused is what comes of its program.
use Rattle.std.proofs.Common.{◌≡◌, ℕ, ◌≤◌, Bool, true, false, if◌then◌else◌, Option, Some, None, List, [], Result, Ok, Err, IfErr, refl, sym, ap, ◌∙◌, subst, arith}
use Rattle.std.specs.Prelude.{nat_lt}
use Rattle.vd_base.specs.Limits.{most_search_budget}
use Rattle.vd_outside.specs.Files.{FilesView, Contents}
use Rattle.vd_core.specs.declared.normal.NormalForm.{NormalForm}
use Rattle.vd_elaborate.specs.Normal.{normal_form}
use Rattle.vd_constraints.specs.Rules.{system_of}
use Rattle.vd_constraints.specs.declared.labels.Labels.{Labels}
use Rattle.vd_gen.specs.Sizes.{most_coordinates}
use Rattle.vd_gen.specs.Source.{generated}
use Rattle.vd_space.specs.declared.problem.Problem.{Problem}
use Rattle.vd_space.specs.Reading.{problem_of}
use Rattle.vd_search_stages.specs.Choices.{ChoiceOutcomes, needed}
use Rattle.vd_search_stages.specs.Optimum.{assignment_of}
use Rattle.vd_search_stages.specs.declared.optimum.Assignment.{Assignment}
use Rattle.vd_search.specs.declared.writing.SearchFault.TheVariants as search_fault
use Rattle.vd_search_stages.proofs.Front.{some_choices}
use Rattle.vd_cmd_plan.specs.Labelled.{LabelledForm, labelled_form}
use Rattle.vd_cmd_plan.specs.Plans.{Plan, Executes, check_then, answer_then}
use Rattle.vd_cmd_plan.specs.declared.answer.Answer.{Answer}
use Rattle.vd_cmd_plan.specs.declared.status.Status.{Status}
use Rattle.vd_cmd_plan.specs.declared.status.Status.TheVariants.{Memory, ReadFault}
use Rattle.vd_cmd_labels.specs.Labelling.{as_labels, labels_of}
use Rattle.vd_cmd_labels.specs.Outcomes.{TextOutcomes, LabelOutcomes}
use Rattle.vd_cmd_labels.specs.Sources.{source_of, resolved_of}
use Rattle.vd_cmd_labels.proofs.Front.{some_labels, some_texts}
use Rattle.vd_cmd_choose.proofs.Front.{is_read}
use Rattle.vd_cmd_choice.specs.Choice.{Chosen, as_searched, chosen_by, search_then}
use Rattle.vd_cmd_choice.specs.Searching.{Searched, GaveUp, Certified, is_accepted, searched_by}
use Rattle.vd_cmd_choice.specs.Outcomes.{CertificateOutcomes}
use Rattle.vd_cmd_choice.proofs.Front.{some_certificates}
use Rattle.vd_cmd_trial.specs.Telling.{AnswersTrial, EndsTrial}
use Rattle.vd_cmd_trial.specs.Trial.{ExecutesTrial, choice_plan, program_plan, source_plan, trial_plan}

-- ---- plans

-- a plan stores nothing, and ends as a trial does
record Ends (plan : Plan) : Type 0 where
  stores : plan.answer.stores ≡ []
  status : EndsTrial plan.answer.status

check_ends : {T : Type 0} (wanted : Result T Status) (rest : T → Contents → Plan) (files : Contents) → IfErr wanted EndsTrial → ((value : T) → Ends (rest value files)) → Ends (check_then wanted rest files)
unfolding check_then
check_ends (Ok value) rest files refusal each = each value
check_ends (Err status) rest files refusal each = record { stores = refl; status = refusal }

passed_ends : {T : Type 0} (wanted : Result T Status) (value : T) (rest : T → Contents → Plan) (files : Contents) → wanted ≡ Ok value → Ends (rest value files) → Ends (check_then wanted rest files)
unfolding check_then
passed_ends {T = T} wanted value rest files is ends = subst (λ (r : Result T Status). Ends (check_then r rest files)) (sym is) ends

-- ---- the choice of protocols for a program

-- its labels, or the flow check that fails
labels_end : (least : LabelOutcomes) (program : NormalForm) (found : Result Labels ℕ) → IfErr (as_labels least program found) EndsTrial
labels_end least program (Ok labels) = tt
labels_end least program (Err number) = tt

module _ (form : LabelledForm) (budget : ℕ) where
  spent_ends : (over : Bool) → IfErr (as_searched budget form (if over then Err search_fault.Spent else Err search_fault.Memory)) EndsTrial
  spent_ends true = tt
  spent_ends false = tt

  accepted_ends : (bytes : List ℕ) (passes : Bool) → IfErr (as_searched budget form (if passes then Ok bytes else Err search_fault.Memory)) EndsTrial
  accepted_ends bytes true = tt
  accepted_ends bytes false = tt

  search_ends : (certificates : CertificateOutcomes) (choices : ChoiceOutcomes) (searched : Searched) (problem : Problem) → IfErr (as_searched budget form (searched_by certificates choices searched problem budget)) EndsTrial
  search_ends certificates choices GaveUp problem = spent_ends (nat_lt budget (needed problem (choices.choose problem)))
  search_ends certificates choices (Certified bytes) problem = accepted_ends bytes (is_accepted problem budget (certificates.read bytes))

choice_ends : (coordinates : ℕ) (form : LabelledForm) (choice : Option Assignment) (files : Contents) → Ends (choice_plan coordinates form choice files)
unfolding answer_then
choice_ends coordinates form None files = record { stores = refl; status = tt }
choice_ends coordinates form (Some a) files = record { stores = refl; status = tt }

module _ (texts : TextOutcomes) (least : LabelOutcomes) (certificates : CertificateOutcomes) (choices : ChoiceOutcomes) (searched : Searched) (coordinates : ℕ) (files : Contents) where
  program_ends : (program : NormalForm) → Ends (program_plan least choices (searched_by certificates choices searched) coordinates program files)
  program_ends program =
      let search = searched_by certificates choices searched in
      let rest : Chosen → Contents → Plan = λ c. choice_plan coordinates (labelled_form c.program c.labels) c.assignment in
      check_ends (labels_of least program) (λ l. search_then choices search most_search_budget program l rest) files (labels_end least program (least.label (system_of program)))
      (λ l. check_ends (as_searched most_search_budget (labelled_form program l) (search (problem_of program l) most_search_budget)) (λ bytes. rest (chosen_by choices program l bytes)) files
      (search_ends (labelled_form program l) most_search_budget certificates choices searched (problem_of program l)) (λ bytes. choice_ends coordinates (labelled_form program l) (assignment_of choices (problem_of program l)) files))

  -- ---- the generated source, which is read and meets every rule

  plan_ends : 1 ≤ coordinates → coordinates ≤ most_coordinates → Ends (trial_plan texts least choices (searched_by certificates choices searched) coordinates files)
  plan_ends some most =
      let read = is_read texts [] coordinates some most in
      let after = source_plan least choices (searched_by certificates choices searched) coordinates in
      passed_ends (source_of texts [] (generated coordinates)) read.tree (λ tree. check_then (resolved_of tree) after) files read.reads
      (passed_ends (resolved_of read.tree) read.tree after files read.meets (program_ends (normal_form read.tree)))

-- ---- what is answered

-- files of which none was fetched yet
abbrev no_files : FilesView
no_files = record { told = true; contents = λ name. None; asked = []; faults = 0 }

answer_ends : (plan : Contents → Plan) (result : Result Answer Status) → Ends (plan no_files.contents) → Executes true plan no_files no_files result → AnswersTrial result
answer_ends plan (Ok answer) ends w = let is = w.settled refl in (ap (λ (a : Answer). a.stores) is ∙ ends.stores, subst EndsTrial (sym (ap (λ (a : Answer). a.status) is)) ends.status)
answer_ends plan (Err Memory) ends w = tt
answer_ends plan (Err (ReadFault name)) ends w = let rose = w.fault name refl in absurd (omega (arith, rose))
answer_ends plan (Err status) ends w = subst EndsTrial (sym (ap (λ (a : Answer). a.status) (w.settled refl))) ends.status

-- whoever executes the plan of a trial answers so
pub ends : (coordinates : ℕ) → 1 ≤ coordinates → coordinates ≤ most_coordinates → (result : Result Answer Status) → ExecutesTrial coordinates result → AnswersTrial result
ends coordinates some most result executes =
    answer_ends (trial_plan some_texts some_labels some_choices (searched_by some_certificates some_choices executes.0) coordinates) result
    (plan_ends some_texts some_labels some_certificates some_choices executes.0 coordinates no_files.contents some most) (executes.1 some_certificates some_choices some_texts some_labels no_files)
