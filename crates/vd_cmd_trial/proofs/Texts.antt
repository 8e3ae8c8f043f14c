-- The steps that read the generated source.
use Rattle.std.proofs.Common.{◌≡◌, ℕ, true, List, [], Result, Ok, Err, ◌∙◌, subst}
use Rattle.vd_outside.specs.Files.{FilesView, Contents}
use Rattle.vd_core.specs.declared.source.Source.{Source}
use Rattle.vd_gen.specs.Source.{generated}
use Rattle.vd_search_stages.specs.Choices.{ChoiceOutcomes}
use Rattle.vd_cmd_plan.specs.Plans.{Plan, Checks, Executes, check_then}
use Rattle.vd_cmd_plan.specs.declared.answer.Answer.{Answer}
use Rattle.vd_cmd_plan.specs.declared.status.Status.{Status}
use Rattle.vd_cmd_plan.proofs.Front.{check_step}
use Rattle.vd_cmd_labels.specs.Outcomes.{TextOutcomes, LabelOutcomes}
use Rattle.vd_cmd_labels.specs.Sources.{source_of, resolved_of}
use Rattle.vd_cmd_choice.specs.Searching.{Search}
use Rattle.vd_cmd_trial.specs.Trial.{source_plan, trial_plan}

module _ (texts : TextOutcomes) (least : LabelOutcomes) (choices : ChoiceOutcomes) (search : Search) (coordinates : ℕ) (bytes seen : List ℕ) (text : bytes ≡ generated coordinates) (same : seen ≡ bytes) (files : FilesView) where
  abbrev tree_plan : Source → Contents → Plan
  tree_plan tree = check_then (resolved_of tree) (source_plan least choices search coordinates)

  of_text : (result : Result Source Status) → Checks (source_of texts [] seen) result → Checks (source_of texts [] (generated coordinates)) result
  of_text result checks = subst (λ (b : List ℕ). Checks (source_of texts [] b) result) (same ∙ text) checks

  pub tree_refused : (status : Status) → Checks {T = Source} (source_of texts [] seen) (Err status) → Executes true (trial_plan texts least choices search coordinates) files files (Err status)
  tree_refused status reads = check_step (source_of texts [] (generated coordinates)) files (Err status) (of_text (Err status) reads) tree_plan

  module _ (tree : Source) (reads : Checks (source_of texts [] seen) (Ok tree)) where
    tree_read : (result : Result Answer Status) → Executes true (tree_plan tree) files files result → Executes true (trial_plan texts least choices search coordinates) files files result
    tree_read result then = check_step (source_of texts [] (generated coordinates)) files (Ok tree) (of_text (Ok tree) reads) tree_plan files result then

    pub rules_refused : (status : Status) → Checks {T = Source} (resolved_of tree) (Err status) → Executes true (trial_plan texts least choices search coordinates) files files (Err status)
    rules_refused status checks = tree_read (Err status) (check_step (resolved_of tree) files (Err status) checks (source_plan least choices search coordinates))

    pub source_runs : (source : Source) (result : Result Answer Status) → Checks (resolved_of tree) (Ok source) → Executes true (source_plan least choices search coordinates source) files files result
        → Executes true (trial_plan texts least choices search coordinates) files files result
    source_runs source result checks then = tree_read result (check_step (resolved_of tree) files (Ok source) checks (source_plan least choices search coordinates) files result then)
