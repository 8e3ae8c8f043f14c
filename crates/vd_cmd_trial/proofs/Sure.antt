-- A search that gives up wherever it may, beside any other.
use Rattle.std.proofs.Common.{ℕ, [], refl}
use Rattle.vd_base.specs.Limits.{most_search_budget}
use Rattle.vd_outside.specs.Files.{Contents}
use Rattle.vd_core.specs.declared.normal.NormalForm.{NormalForm}
use Rattle.vd_elaborate.specs.Normal.{normal_form}
use Rattle.vd_gen.specs.Source.{generated}
use Rattle.vd_search_stages.specs.Choices.{ChoiceOutcomes}
use Rattle.vd_cmd_plan.specs.Labelled.{labelled_form}
use Rattle.vd_cmd_plan.specs.Plans.{check_then}
use Rattle.vd_cmd_plan.proofs.Front.{Follows, check_follows}
use Rattle.vd_cmd_labels.specs.Outcomes.{TextOutcomes, LabelOutcomes}
use Rattle.vd_cmd_labels.specs.Sources.{source_of, resolved_of}
use Rattle.vd_cmd_choice.specs.Outcomes.{CertificateOutcomes}
use Rattle.vd_cmd_choice.specs.Searching.{Searched, searched_by, sure_search}
use Rattle.vd_cmd_choice.proofs.Front.{choice_follows}
use Rattle.vd_cmd_trial.specs.Trial.{choice_plan, program_plan, source_plan, trial_plan}

module _ (least : LabelOutcomes) (certificates : CertificateOutcomes) (choices : ChoiceOutcomes) (searched : Searched) (coordinates : ℕ) (files : Contents) where
  program_follows : (program : NormalForm)
      → Follows (program_plan least choices (sure_search choices) coordinates program files) (program_plan least choices (searched_by certificates choices searched) coordinates program files)
  program_follows program = choice_follows program most_search_budget certificates choices (λ c. choice_plan coordinates (labelled_form c.program c.labels) c.assignment) files (λ l one other. refl) least searched

  pub trial_follows : (texts : TextOutcomes)
      → Follows (trial_plan texts least choices (sure_search choices) coordinates files) (trial_plan texts least choices (searched_by certificates choices searched) coordinates files)
  trial_follows texts =
      let sure = source_plan least choices (sure_search choices) coordinates in
      let other = source_plan least choices (searched_by certificates choices searched) coordinates in
      check_follows (source_of texts [] (generated coordinates)) (λ tree. check_then (resolved_of tree) sure) (λ tree. check_then (resolved_of tree) other) files
      (λ tree. check_follows (resolved_of tree) sure other files (λ source. program_follows (normal_form source)))
