-- What the command comes to, whatever functions pick the outcomes.
use Rattle.std.proofs.Common.{◌≡◌, true, Option, Some, None, [], Result, Ok, Err, sym, ap, ◌∙◌, subst}
use Rattle.vd_outside.specs.Files.{FilesView}
use Rattle.vd_core.specs.declared.normal.NormalForm.{NormalForm}
use Rattle.vd_search_stages.specs.declared.optimum.Assignment.{Assignment}
use Rattle.vd_cmd.specs.declared.command.ReplayWords.{ReplayWords}
use Rattle.vd_cmd_plan.specs.Labelled.{LabelledForm, labelled_form}
use Rattle.vd_cmd_plan.specs.Plans.{Checks, Computes, Executes, ended, answer_then}
use Rattle.vd_cmd_plan.specs.declared.answer.Answer.{Answer}
use Rattle.vd_cmd_plan.specs.declared.status.Status.{Status}
use Rattle.vd_cmd_plan.specs.declared.status.Status.TheVariants.{Ended, NoAssignment}
use Rattle.vd_cmd_plan.proofs.Front.{answers, check_step}
use Rattle.vd_cmd_choice.specs.Choice.{Chooses, chosen_of, no_list}
use Rattle.vd_cmd_choice.specs.Programs.{LoadsProgram}
use Rattle.vd_cmd_choice.specs.Searching.{GaveUp, searched_by}
use Rattle.vd_cmd_choice.specs.declared.choice.Choice.{Choice}
use Rattle.vd_cmd_choice.proofs.Front.{none_computes}
use Rattle.vd_cmd_files.specs.Outcomes.{ReplayOutcomes}
use Rattle.vd_cmd_files.specs.declared.run_files.RunFiles.{RunFiles}
use Rattle.vd_cmd_files.specs.Asking.{LoadsAsked}
use Rattle.vd_cmd_files.specs.Deals.{as_consistent}
use Rattle.vd_cmd_replay.specs.Replaying.{ExecutesChoice, ExecutesReplay, asked_plan, choice_plan, program_plan, report_for}
use Rattle.vd_cmd_replay.specs.Telling.{TellsOf}

-- ---- with the choice for a program

module _ (choice : Choice) (asked : RunFiles) where
  abbrev found : LabelledForm
  found = labelled_form choice.program choice.labels

  -- what is there of an assignment
  which : (o : Option Assignment) (result : Result Answer Status) → choice.assignment ≡ o
      → ((outcomes : ReplayOutcomes) (files : FilesView) → Executes true (choice_plan outcomes asked found o) files files result) → ExecutesChoice asked (chosen_of choice) result
  which o result is then outcomes files = subst (λ (a : Option Assignment). Executes true (choice_plan outcomes asked found a) files files result) (sym is) (then outcomes files)

  pub not_consistent : (a : Assignment) (status : Status) → choice.assignment ≡ Some a → ((outcomes : ReplayOutcomes) → Checks (as_consistent (outcomes.judge asked.deals)) (Err status))
      → ExecutesChoice asked (chosen_of choice) (Err status)
  not_consistent a status is checks =
      which (Some a) (Err status) is
      (λ outcomes files. check_step (as_consistent (outcomes.judge asked.deals)) files (Err status) (checks outcomes) (λ consistent. answer_then (ended [] (report_for choice.program a.protocols asked))))

  pub reported : (a : Assignment) (result : Result Answer Status) → choice.assignment ≡ Some a → ((outcomes : ReplayOutcomes) → Checks (as_consistent (outcomes.judge asked.deals)) (Ok tt))
      → Computes (ended [] (report_for choice.program a.protocols asked)) result → ExecutesChoice asked (chosen_of choice) result
  reported a result is checks computes =
      which (Some a) result is
      (λ outcomes files.
      check_step (as_consistent (outcomes.judge asked.deals)) files (Ok tt) (checks outcomes) (λ consistent. answer_then (ended [] (report_for choice.program a.protocols asked))) files result
      (answers (ended [] (report_for choice.program a.protocols asked)) files result computes))

  pub none_valid : (answer : Answer) → choice.assignment ≡ None → answer ≡ no_list found → ExecutesChoice asked (chosen_of choice) (Ok answer)
  none_valid answer is given = which None (Ok answer) is (λ outcomes files. answers (no_list found) files (Ok answer) (none_computes found answer given))

-- where no list is valid, nothing is told
pub none_told : (program : NormalForm) (asked : RunFiles) (found : LabelledForm) (answer : Answer) → answer ≡ no_list found → TellsOf program asked (Ok answer)
none_told program asked found answer is = λ e. let wrong : NoAssignment found ≡ Ended = sym (ap (λ (a : Answer). a.status) is) ∙ e in absurd (cc wrong)

-- ---- from the words on

module _ (words : ReplayWords) (before now : FilesView) where
  pub source_refused : (status : Status) → LoadsProgram words.source before now (Err status) → ExecutesReplay words before now (Err status)
  source_refused status loads =
      (GaveUp, λ certificates choices texts outcomes least. loads texts least (program_plan texts outcomes least choices (searched_by certificates choices GaveUp) words))

  module _ (mid : FilesView) (program : NormalForm) (loads : LoadsProgram words.source before mid (Ok program)) where
    pub files_refused : (status : Status) → LoadsAsked words program.hosts mid now (Err status) → ExecutesReplay words before now (Err status)
    files_refused status asks = (
      GaveUp,
      λ certificates choices texts outcomes least.
          loads texts least (program_plan texts outcomes least choices (searched_by certificates choices GaveUp) words) now (Err status)
          (asks texts outcomes (asked_plan outcomes least choices (searched_by certificates choices GaveUp) words.budget program)),
    )

    module _ (asked : RunFiles) (asks : LoadsAsked words program.hosts mid now (Ok asked)) where
      pub search_refused : (status : Status) → Chooses program words.budget (Err status) → ExecutesReplay words before now (Err status)
      search_refused status chooses = (
        chooses.0,
        λ certificates choices texts outcomes least.
            loads texts least (program_plan texts outcomes least choices (searched_by certificates choices chooses.0) words) now (Err status)
            (asks texts outcomes (asked_plan outcomes least choices (searched_by certificates choices chooses.0) words.budget program) now (Err status)
            (chooses.1 certificates choices least now (λ c. choice_plan outcomes asked (labelled_form c.program c.labels) c.assignment))),
      )

      pub with_choice : (choice : Choice) (result : Result Answer Status) → Chooses program words.budget (Ok choice) → ExecutesChoice asked (chosen_of choice) result → ExecutesReplay words before now result
      with_choice choice result chooses executes = (
        chooses.0,
        λ certificates choices texts outcomes least.
            loads texts least (program_plan texts outcomes least choices (searched_by certificates choices chooses.0) words) now result
            (asks texts outcomes (asked_plan outcomes least choices (searched_by certificates choices chooses.0) words.budget program) now result
            (chooses.1 certificates choices least now (λ c. choice_plan outcomes asked (labelled_form c.program c.labels) c.assignment) now result (executes outcomes now))),
      )
