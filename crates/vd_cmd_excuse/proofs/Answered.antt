-- What the parts of the command come to, whatever functions pick the outcomes.
use Rattle.std.proofs.Common.{◌≡◌, ℕ, true, List, Option, Some, None, Result, Ok, Err, refl, sym, ap, subst, ◌∙◌}
use Rattle.vd_outside.specs.declared.stored.Stored.{Stored}
use Rattle.vd_outside.specs.Files.{FilesView}
use Rattle.vd_base.specs.declared.ids.HostId.{HostId}
use Rattle.vd_base.specs.declared.protocols.Proto.{Proto}
use Rattle.vd_core.specs.declared.normal.NormalForm.{NormalForm}
use Rattle.vd_constraints.specs.declared.labels.Labels.{Labels}
use Rattle.vd_tape.specs.declared.deal_items.deal.Deal.{Deal}
use Rattle.vd_search_stages.specs.declared.optimum.Assignment.{Assignment}
use Rattle.vd_cmd_plan.specs.Labelled.{LabelledForm, labelled_form}
use Rattle.vd_cmd_plan.specs.Plans.{Checks, Computes, Executes, ended, answer_then, check_then}
use Rattle.vd_cmd_plan.specs.declared.answer.Answer.{Answer}
use Rattle.vd_cmd_plan.specs.declared.status.Status.{Status}
use Rattle.vd_cmd_plan.specs.declared.status.Status.TheVariants.{Ended, NoAssignment}
use Rattle.vd_cmd_plan.proofs.Front.{answers, check_step}
use Rattle.vd_cmd_files.specs.Outcomes.{ReplayOutcomes}
use Rattle.vd_cmd_files.specs.Deals.{as_consistent}
use Rattle.vd_cmd_excuse.specs.declared.runs.Runs.{Runs}
use Rattle.vd_cmd_excuse.specs.Excusing.{ExecutesAt, ExecutesChoice, ExecutesExcuse, ExecutesRuns, as_free, as_two, choice_plan, commitment_in, excuse_answer, excused_for, excused_plan, program_plan, runs_plan}
use Rattle.vd_cmd_excuse.specs.Runs.{LoadsRuns}
use Rattle.vd_cmd_excuse.specs.Telling.{TellsAt}
use Rattle.vd_cmd_depends.specs.Depending.{as_host}
use Rattle.vd_cmd_choice.specs.Choice.{Chooses, chosen_of, no_list}
use Rattle.vd_cmd_choice.specs.Programs.{LoadsProgram}
use Rattle.vd_cmd_choice.specs.Searching.{GaveUp, searched_by}
use Rattle.vd_cmd_choice.proofs.Front.{none_computes}
use Rattle.vd_cmd_excuse.proofs.Naming.{of_two_hosts}
use Rattle.vd_cmd_choice.specs.declared.choice.Choice.{Choice}
use Rattle.vd_cmd.specs.declared.command.ExcuseWords.{ExcuseWords}

-- the answer that stores and prints this
computes_it : (answer : Answer) (stores : List Stored) (printed : List ℕ) → answer ≡ ended stores printed → Computes (ended stores printed) (Ok answer)
computes_it answer stores printed is =
    subst (λ (a : Answer). Computes (ended stores printed) (Ok a)) (sym is) (record { proper = (tt, refl); no_fault = λ file e. cc e; settled = refl })

-- ---- with protocols as they are read

module _ (p : NormalForm) (h : HostId) (runs : Runs) (protocols seen : List Proto) (same : seen ≡ protocols) where
  -- the deal that explains is the same
  pub checks_at : (l : Labels) (result : Result (List Deal) Status) → Checks (excused_for p l seen h runs) result → Checks (excused_for p l protocols h runs) result
  checks_at l result = subst (λ (ps : List Proto). Checks (excused_for p l ps h runs) result) same

  -- and so is the answer
  pub answer_at : (out : List ℕ) (stored shown : List Deal) (answer : Answer) → shown ≡ stored → answer ≡ excuse_answer p seen h runs out shown → answer ≡ excuse_answer p protocols h runs out stored
  answer_at out stored shown answer given is = is ∙ (λ i. excuse_answer p (same i) h runs out (given i))

-- ---- at an assignment of protocols

module _ (p : NormalForm) (h : HostId) (runs : Runs) (out : List ℕ) (l : Labels) (a : Assignment) where
  pub not_free : (status : Status) → Checks {T = Unit {0}} (as_free (commitment_in a.protocols)) (Err status) → ExecutesAt p l h runs out a (Err status)
  not_free status checks outcomes files =
      check_step (as_free (commitment_in a.protocols)) files (Err status) checks
      (λ free. check_then (as_consistent (outcomes.judge runs.dealing.deals)) (λ consistent. excused_plan p l h runs out a.protocols))

  module _ (checks : Checks (as_free (commitment_in a.protocols)) (Ok tt)) where
    pub not_consistent : (status : Status) → ((outcomes : ReplayOutcomes) → Checks {T = Unit {0}} (as_consistent (outcomes.judge runs.dealing.deals)) (Err status)) → ExecutesAt p l h runs out a (Err status)
    not_consistent status judged outcomes files =
        check_step (as_free (commitment_in a.protocols)) files (Ok tt) checks
        (λ free. check_then (as_consistent (outcomes.judge runs.dealing.deals)) (λ consistent. excused_plan p l h runs out a.protocols)) files (Err status)
        (check_step (as_consistent (outcomes.judge runs.dealing.deals)) files (Err status) (judged outcomes) (λ consistent. excused_plan p l h runs out a.protocols))

    module _ (judged : (outcomes : ReplayOutcomes) → Checks (as_consistent (outcomes.judge runs.dealing.deals)) (Ok tt)) where
      looked_at : (result : Result Answer Status) → ((files : FilesView) → Executes true (excused_plan p l h runs out a.protocols) files files result) → ExecutesAt p l h runs out a result
      looked_at result then outcomes files =
          check_step (as_free (commitment_in a.protocols)) files (Ok tt) checks
          (λ free. check_then (as_consistent (outcomes.judge runs.dealing.deals)) (λ consistent. excused_plan p l h runs out a.protocols)) files result
          (check_step (as_consistent (outcomes.judge runs.dealing.deals)) files (Ok tt) (judged outcomes) (λ consistent. excused_plan p l h runs out a.protocols) files result (then files))

      pub not_excused : (status : Status) → Checks {T = List Deal} (excused_for p l a.protocols h runs) (Err status) → ExecutesAt p l h runs out a (Err status)
      not_excused status excused =
          looked_at (Err status) (λ files. check_step (excused_for p l a.protocols h runs) files (Err status) excused (λ stored. answer_then (excuse_answer p a.protocols h runs out stored)))

      pub explained : (stored : List Deal) (answer : Answer) → Checks (excused_for p l a.protocols h runs) (Ok stored) → answer ≡ excuse_answer p a.protocols h runs out stored → ExecutesAt p l h runs out a (Ok answer)
      explained stored answer excused is =
          looked_at (Ok answer)
          (λ files.
          check_step (excused_for p l a.protocols h runs) files (Ok stored) excused (λ stored. answer_then (excuse_answer p a.protocols h runs out stored)) files (Ok answer)
          (answers (excuse_answer p a.protocols h runs out stored) files (Ok answer) (computes_it answer _ _ is)))

-- ---- with the choice for a program

module _ (choice : Choice) (h : HostId) (runs : Runs) (out : List ℕ) where
  which : (o : Option Assignment) (result : Result Answer Status) → choice.assignment ≡ o
      → ((outcomes : ReplayOutcomes) (files : FilesView) → Executes true (choice_plan outcomes h runs out choice.program choice.labels o) files files result) → ExecutesChoice h runs out (chosen_of choice) result
  which o result is then outcomes files = subst (λ (a : Option Assignment). Executes true (choice_plan outcomes h runs out choice.program choice.labels a) files files result) (sym is) (then outcomes files)

  pub at_some : (a : Assignment) (result : Result Answer Status) → choice.assignment ≡ Some a → ExecutesAt choice.program choice.labels h runs out a result → ExecutesChoice h runs out (chosen_of choice) result
  at_some a result is then = which (Some a) result is then

  pub at_none : (answer : Answer) → choice.assignment ≡ None → answer ≡ no_list (labelled_form choice.program choice.labels) → ExecutesChoice h runs out (chosen_of choice) (Ok answer)
  at_none answer is given =
      which None (Ok answer) is
      (λ outcomes files. answers (no_list (labelled_form choice.program choice.labels)) files (Ok answer) (none_computes (labelled_form choice.program choice.labels) answer given))

-- ---- with a program, and both runs

module _ (words : ExcuseWords) (p : NormalForm) (h : HostId) (runs : Runs) (checks : Checks (as_host p.hosts words.host) (Ok h)) (two : Checks (as_two p.hosts) (Ok tt)) where
  pub search_refused : (status : Status) → Chooses p words.budget (Err status) → ExecutesRuns words p runs (Err status)
  search_refused status chooses = (
    chooses.0,
    λ certificates choices outcomes least files.
        of_two_hosts outcomes least choices (searched_by certificates choices chooses.0) words p runs files h checks (Err status) two
        (chooses.1 certificates choices least files (λ c. choice_plan outcomes h runs words.out c.program c.labels c.assignment)),
  )

  pub with_choice : (choice : Choice) (result : Result Answer Status) → Chooses p words.budget (Ok choice) → ExecutesChoice h runs words.out (chosen_of choice) result → ExecutesRuns words p runs result
  with_choice choice result chooses executes = (
    chooses.0,
    λ certificates choices outcomes least files.
        of_two_hosts outcomes least choices (searched_by certificates choices chooses.0) words p runs files h checks result two
        (chooses.1 certificates choices least files (λ c. choice_plan outcomes h runs words.out c.program c.labels c.assignment) files result (executes outcomes files)),
  )

-- ---- from the words on

module _ (words : ExcuseWords) (before now : FilesView) where
  pub source_refused : (status : Status) → LoadsProgram words.source before now (Err status) → ExecutesExcuse words before now (Err status)
  source_refused status loads =
      (GaveUp, λ certificates choices texts outcomes least. loads texts least (program_plan texts outcomes least choices (searched_by certificates choices GaveUp) words))

  module _ (mid : FilesView) (program : NormalForm) (loads : LoadsProgram words.source before mid (Ok program)) where
    pub files_refused : (status : Status) → LoadsRuns words program.hosts mid now (Err status) → ExecutesExcuse words before now (Err status)
    files_refused status reads = (
      GaveUp,
      λ certificates choices texts outcomes least.
          loads texts least (program_plan texts outcomes least choices (searched_by certificates choices GaveUp) words) now (Err status)
          (reads texts (runs_plan outcomes least choices (searched_by certificates choices GaveUp) words program)),
    )

    pub with_runs : (runs : Runs) (result : Result Answer Status) → LoadsRuns words program.hosts mid now (Ok runs) → ExecutesRuns words program runs result → ExecutesExcuse words before now result
    with_runs runs result reads executes = (
      executes.0,
      λ certificates choices texts outcomes least.
          loads texts least (program_plan texts outcomes least choices (searched_by certificates choices executes.0) words) now result
          (reads texts (runs_plan outcomes least choices (searched_by certificates choices executes.0) words program) now result (executes.1 certificates choices outcomes least now)),
    )

-- where no assignment is valid, nothing is told
pub none_told : (h : HostId) (p : NormalForm) (out : List ℕ) (runs : Runs) (found : LabelledForm) (answer : Answer) → answer ≡ no_list found → TellsAt h p out runs (Ok answer)
none_told h p out runs found answer is = λ name named e. let wrong : NoAssignment found ≡ Ended = sym (ap (λ (a : Answer). a.status) is) ∙ e in absurd (cc wrong)
