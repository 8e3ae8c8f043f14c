-- A search that gives up wherever it may, beside any other.
use Rattle.std.proofs.Common.{ℕ, List}
use Rattle.vd_base.specs.Limits.{most_source_bytes}
use Rattle.vd_outside.specs.Files.{Contents}
use Rattle.vd_core.specs.declared.normal.NormalForm.{NormalForm}
use Rattle.vd_core.specs.declared.source.Source.{Source}
use Rattle.vd_elaborate.specs.Normal.{normal_form}
use Rattle.vd_cmd_rewrite.specs.RunPrograms.{run_form}
use Rattle.vd_search_stages.specs.Choices.{ChoiceOutcomes}
use Rattle.vd_cmd_plan.specs.Plans.{Plan, check_then}
use Rattle.vd_cmd_plan.proofs.Front.{Follows, file_follows, check_follows}
use Rattle.vd_cmd_labels.specs.Outcomes.{TextOutcomes, LabelOutcomes}
use Rattle.vd_cmd_labels.specs.Sources.{source_of, resolved_of}
use Rattle.vd_cmd_choice.specs.Outcomes.{CertificateOutcomes}
use Rattle.vd_cmd_choice.specs.Choice.{Chosen, choice_of_then, source_choice_then, text_choice_then}
use Rattle.vd_cmd_choice.specs.Programs.{program_then, text_program_then}
use Rattle.vd_cmd_choice.specs.Searching.{Searched, searched_by, sure_search}
use Rattle.vd_cmd_choice.proofs.Steps.{GoesByChoice, choice_follows}

module _ (texts : TextOutcomes) (least : LabelOutcomes) (name : List ℕ) (sure plan : NormalForm → Contents → Plan) (files : Contents) (each : (program : NormalForm) → Follows (sure program files) (plan program files)) where
  text_follows : (text : List ℕ) → Follows (text_program_then texts least name text sure files) (text_program_then texts least name text plan files)
  text_follows text =
      let with_source : (NormalForm → Contents → Plan) → Source → Contents → Plan = λ rest source. rest (run_form least (normal_form source)) in
      check_follows (source_of texts name text) (λ tree. check_then (resolved_of tree) (with_source sure)) (λ tree. check_then (resolved_of tree) (with_source plan)) files
      (λ tree. check_follows (resolved_of tree) (with_source sure) (with_source plan) files (λ source. each (run_form least (normal_form source))))

  pub program_follows : Follows (program_then texts least name sure files) (program_then texts least name plan files)
  program_follows = file_follows name most_source_bytes (λ text. text_program_then texts least name text sure) (λ text. text_program_then texts least name text plan) files text_follows

module _ (texts : TextOutcomes) (least : LabelOutcomes) (certificates : CertificateOutcomes) (choices : ChoiceOutcomes) (searched : Searched) (name : List ℕ) (budget : ℕ) (files : Contents) where
  -- of a choice that is gone on with so
  abbrev pub GoesOn : (Chosen → Contents → Plan) → Type 0
  GoesOn rest = (program : NormalForm) → GoesByChoice program budget certificates choices rest files

  pub text_choice_follows : (text : List ℕ) (rest : Chosen → Contents → Plan) → GoesOn rest
      → Follows (text_choice_then texts least choices (sure_search choices) name budget text rest files) (text_choice_then texts least choices (searched_by certificates choices searched) name budget text rest files)
  text_choice_follows text rest goes =
      text_follows texts least name (λ program. choice_of_then least choices (sure_search choices) budget program rest) (λ program. choice_of_then least choices (searched_by certificates choices searched) budget program rest) files
      (λ program. choice_follows program budget certificates choices rest files (goes program) least searched) text

  pub source_choice_follows : (rest : List ℕ → Chosen → Contents → Plan) → ((text : List ℕ) → GoesOn (rest text))
      → Follows (source_choice_then texts least choices (sure_search choices) name budget rest files) (source_choice_then texts least choices (searched_by certificates choices searched) name budget rest files)
  source_choice_follows rest goes =
      file_follows name most_source_bytes (λ text. text_choice_then texts least choices (sure_search choices) name budget text (rest text)) (λ text. text_choice_then texts least choices (searched_by certificates choices searched) name budget text (rest text)) files
      (λ text. text_choice_follows text (rest text) (goes text))
