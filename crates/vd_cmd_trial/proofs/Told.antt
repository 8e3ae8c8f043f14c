-- What is told of a run of a program, of a source, and of the generated text.
use Rattle.std.proofs.Common.{◌≡◌, ℕ, zero, suc, ◌+◌, ◌*◌, ◌<◌, ◌≤◌, Bool, true, false, Some, List, [], ◌∷◌, ◌++◌, length, map, Result, Ok, Err, refl, sym, ap, ap₂, ◌∙◌, subst, arith, append-nil}
use mathlib.Core.Path.{fun_ext}
use Rattle.std.specs.Prelude.{slice_index_or}
use Rattle.std.specs.List.{range_with_len}
use Rattle.vd_core.specs.declared.normal.NormalForm.{NormalForm}
use Rattle.vd_core.specs.declared.source.Source.{Source}
use Rattle.vd_core.specs.Facts.{IsWellMade, weight_sum}
use Rattle.vd_constraints.specs.Rules.{system_of}
use Rattle.vd_constraints.specs.declared.labels.Labels.{Labels}
use Rattle.vd_solver.proofs.Front.{labelled_once}
use Rattle.vd_semantics.specs.ProgramMeaning.{program_outputs}
use Rattle.vd_semantics.specs.SourceMeaning.{source_outputs}
use Rattle.vd_elaborate.specs.Normal.{normal_form}
use Rattle.vd_elaborate.proofs.Front.{outputs_kept}
use Rattle.vd_parser.specs.Outcomes.{IsParse}
use Rattle.vd_resolve.specs.Limits.{resolution}
use Rattle.vd_resolve.specs.Faults.{Fault}
use Rattle.vd_gen.specs.Sizes.{most_coordinates}
use Rattle.vd_gen.specs.Source.{generated}
use Rattle.vd_cmd_choose.proofs.Front.{executed_of}
use Rattle.vd_deal_needs.specs.Items.{most_executed}
use Rattle.vd_execution.specs.Joint.{Joint, started}
use Rattle.vd_execution.specs.World.{Supply, World}
use Rattle.vd_execution.specs.Claims.{Suffices, last_of}
use Rattle.vd_world.specs.Reports.{line_of, lines_of, report_of}
use Rattle.vd_world.specs.Schedules.{replayed}
use Rattle.vd_world.specs.Supplies.{supply_of_files}
use Rattle.vd_world.specs.Told.{HaveEnded}
use Rattle.vd_report.specs.ReportLines.{host_lines}
use Rattle.vd_space.specs.Reading.{problem_of}
use Rattle.vd_space.proofs.Front.{is_problem}
use Rattle.vd_space.proofs.Front.{back}
use Rattle.vd_search_stages.specs.Choices.{IsChosen}
use Rattle.vd_search_stages.specs.Optimum.{assigned}
use Rattle.vd_search_stages.specs.declared.optimum.Assignment.{Assignment}
use Rattle.vd_search_stages.proofs.Front.{chosen_once, has_places}
use Rattle.vd_cmd_plan.specs.Labelled.{LabelledForm}
use Rattle.vd_cmd_plan.specs.Plans.{Checks}
use Rattle.vd_cmd_plan.specs.declared.answer.Answer.{Answer}
use Rattle.vd_cmd_plan.specs.declared.status.Status.{Status}
use Rattle.vd_cmd_plan.specs.declared.status.Status.TheVariants.{Ended, NoAssignment}
use Rattle.vd_cmd_labels.specs.Sources.{as_resolved, resolved_of}
use Rattle.vd_cmd_choice.specs.Choice.{IsSelected, no_list}
use Rattle.vd_cmd_files.specs.declared.run_files.RunFiles.{RunFiles}
use Rattle.vd_cmd_replay.specs.Telling.{IsReport}
use Rattle.vd_cmd_trial.specs.Trial.{Suffice, headed_by, trial_asked}
use Rattle.vd_cmd_trial.specs.Telling.{IsRun, TellsProgram, TellsSource, TellsTrial, ended_line, ended_lines}

-- ---- all hosts have ended

-- functions that are the same at each number of a range give the same list
map_alike : {X : Type 0} (f g : ℕ → X) (a n : ℕ) → ((k : ℕ) → k < a + n → f k ≡ g k) → map f (range_with_len a n) ≡ map g (range_with_len a n)
map_alike f g a zero each = refl
map_alike {X} f g a (suc n) each =
    ap₂ (λ (x : X) (xs : List X). x ∷ xs) (each a (omega arith)) (map_alike f g (a + 1) n (λ k below. each k (omega (arith, below))))

-- the lines of hosts that have ended and printed all that they are told
ended_alike : (outputs : List (List ℕ)) (s : Supply) (w : World) (n : ℕ) → HaveEnded s n w → ((h : ℕ) → h < n → (w h).printed ≡ slice_index_or outputs h [])
    → lines_of s w n ≡ map (ended_line outputs) (range_with_len 0 n)
ended_alike outputs s w n ended printed =
    map_alike (line_of s w) (ended_line outputs) 0 n
    (λ h below. let lt : h < n = omega (arith, below) in λ i. record { state = ended h lt i; printed = printed h lt i })

module _ (program : NormalForm) (outputs : List (List ℕ)) (asked : RunFiles) (lines : List ℕ) (is : IsReport program outputs asked lines) where
  abbrev supply : Supply
  supply = supply_of_files asked.inputs asked.deals

  abbrev world : World
  world = replayed supply (length program.hosts) asked.schedule (started is.joint)

  all_ended : asked.schedule.all ≡ true → asked.messages ≡ false → Suffice program is.code.assignment.protocols asked → lines ≡ ended_lines program.hosts outputs
  all_ended all quiet suffice =
      let there : Suffices supply (last_of supply is.joint) = subst (λ (j : Joint). Suffices supply (last_of supply j)) (sym is.code.compiled) suffice in
      let ended : HaveEnded supply (length program.hosts) world = is.told.told.ends all there in
      let printed = is.told.told.told.all_printed ended in
      let report : lines ≡ host_lines program.hosts program.hosts (lines_of supply world (length program.hosts)) ++ [] =
      is.told.report ∙ ap (λ (b : Bool). report_of program.hosts supply world b) quiet in
      report ∙ append-nil (host_lines program.hosts program.hosts (lines_of supply world (length program.hosts)))
      ∙ ap (host_lines program.hosts program.hosts) (ended_alike outputs supply world (length program.hosts) ended printed)

-- ---- the choice

-- there is one choice of protocols for a program
selected_once : (program : NormalForm) → IsWellMade program → (a b : Assignment) → IsSelected program a → IsSelected program b → a ≡ b
selected_once program made a b one other =
    let labels : Ok one.labels ≡ Ok other.labels = labelled_once (system_of program) (Ok one.labels) (Ok other.labels) one.least other.least in
    let same : one.labels ≡ other.labels = cc labels in
    let at = has_places (problem_of program one.labels) a one.optimal in
    let others = has_places (problem_of program other.labels) b other.optimal in
    let first : IsChosen (problem_of program one.labels) (Some at.places) = back (problem_of program one.labels) at.places (is_problem program one.labels made) at.cheapest in
    let second : IsChosen (problem_of program other.labels) (Some others.places) = back (problem_of program other.labels) others.places (is_problem program other.labels made) others.cheapest in
    let lists : Some at.places ≡ Some others.places =
    chosen_once (problem_of program other.labels) (Some at.places) (Some others.places) (subst (λ (l : Labels). IsChosen (problem_of program l) (Some at.places)) same first) second in
    let places : at.places ≡ others.places = cc lists in
    at.is ∙ (λ i. assigned (problem_of program (same i)) (places i)) ∙ sym others.is

module _ (coordinates : ℕ) (program : NormalForm) where
  pub run_told : (a : Assignment) (asked : RunFiles) (report headed : Answer) → IsWellMade program → IsSelected program a → asked ≡ trial_asked coordinates program a.protocols → Suffice program a.protocols asked
      → IsReport program (program_outputs program asked.inputs) asked report.printed → headed ≡ headed_by a.cost report → TellsProgram coordinates program (Ok headed)
  run_told a asked report headed well selected made suffice is same = λ e.
      let own = trial_asked coordinates program a.protocols in
      let there : IsReport program (program_outputs program own.inputs) own report.printed = subst (λ (x : RunFiles). IsReport program (program_outputs program x.inputs) x report.printed) made is in
      let one = selected_once program well a there.code.assignment selected there.code.selected in
      let enough : Suffice program there.code.assignment.protocols own = subst (λ (b : Assignment). Suffice program b.protocols own) one (subst (Suffice program a.protocols) made suffice) in
      record {
        assignment = a;
        selected = selected;
        lines = report.printed;
        report = there;
        ends = all_ended program (program_outputs program own.inputs) own report.printed there refl refl enough;
        printed_is = ap (λ (x : Answer). x.printed) same;
      }

  -- where no list is valid, nothing is told
  pub none_told : (found : LabelledForm) (answer : Answer) → answer ≡ no_list found → TellsProgram coordinates program (Ok answer)
  none_told found answer is = λ e. let wrong : NoAssignment found ≡ Ended = sym (ap (λ (a : Answer). a.status) is) ∙ e in absurd (cc wrong)

-- ---- the source

-- the outputs of a source are those of its let-normal form
pub source_told : (coordinates : ℕ) (source : Source) (program : NormalForm) (result : Result Answer Status) → program ≡ normal_form source → TellsProgram coordinates program result → TellsSource coordinates source result
source_told coordinates source program (Ok answer) same tells = λ e.
    let run : IsRun coordinates (normal_form source) (program_outputs (normal_form source)) answer.printed =
    subst (λ (p : NormalForm). IsRun coordinates p (program_outputs p) answer.printed) same (tells e) in
    let alike : program_outputs (normal_form source) ≡ source_outputs source = fun_ext (λ inputs. outputs_kept source inputs) in
    subst (λ (outputs : List (List ℕ) → List (List ℕ)). IsRun coordinates (normal_form source) outputs answer.printed) alike run
source_told coordinates source program (Err status) same tells = tt

resolved_as : (tree source : Source) (found : Result (Unit {0}) Fault) → resolution tree ≡ found → as_resolved tree found ≡ Ok source → (resolution tree ≡ Ok tt) × (tree ≡ source)
resolved_as tree source (Ok done) is same = (is, cc same)
resolved_as tree source (Err fault) is same = absurd (cc same)

-- the statements of the source that was read are executed few times
pub few_executed : (coordinates : ℕ) → 1 ≤ coordinates → coordinates ≤ most_coordinates → (bytes seen : List ℕ) (tree source : Source) → bytes ≡ generated coordinates → seen ≡ bytes → IsParse seen (Ok tree)
    → Checks (resolved_of tree) (Ok source) → weight_sum (normal_form source).body ≤ most_executed
few_executed coordinates some most bytes seen tree source text same parsed checks =
    let is = resolved_as tree source (resolution tree) refl checks.ok in
    let few = executed_of coordinates some most tree (subst (λ (b : List ℕ). IsParse b (Ok tree)) (same ∙ text) parsed) in
    subst (λ (s : Source). weight_sum (normal_form s).body ≤ most_executed) is.1 (within coordinates _ most few)
  where
    within : (n w : ℕ) → n ≤ 100 → w ≤ 5 * n + 5 → w ≤ 1024
    within n w p q = omega (arith, p, q)

pub trial_told : (coordinates : ℕ) (bytes seen : List ℕ) (tree source : Source) (result : Result Answer Status) → bytes ≡ generated coordinates → seen ≡ bytes → IsParse seen (Ok tree) → Checks (resolved_of tree) (Ok source)
    → TellsSource coordinates source result → TellsTrial coordinates result
trial_told coordinates bytes seen tree source (Ok answer) text same parsed checks tells = λ e.
    let is = resolved_as tree source (resolution tree) refl checks.ok in
    let read : IsParse (generated coordinates) (Ok source) = subst (λ (b : List ℕ). IsParse b (Ok source)) (same ∙ text) (subst (λ (s : Source). IsParse seen (Ok s)) is.1 parsed) in
    record {
      source = source;
      text = record { parsed = read; meets = subst (λ (s : Source). resolution s ≡ Ok tt) is.1 is.0 };
      run = tells e;
    }
trial_told coordinates bytes seen tree source (Err status) text same parsed checks tells = tt
