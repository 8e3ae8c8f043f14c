-- A search that gives up wherever it may, beside any other.
use Rattle.std.proofs.Common.{inl, ℕ, Bool, true, false, if◌then◌else◌, List, refl}
use Rattle.vd_base.specs.Limits.{most_host_file_bytes}
use Rattle.vd_outside.specs.Files.{Contents}
use Rattle.vd_search_stages.specs.Choices.{ChoiceOutcomes}
use Rattle.vd_cmd.specs.declared.command.NeedsWords.{NeedsWords}
use Rattle.vd_cmd_plan.specs.Plans.{Plan, answer_then}
use Rattle.vd_cmd_plan.proofs.Front.{Follows, file_follows}
use Rattle.vd_cmd_labels.specs.Outcomes.{TextOutcomes, LabelOutcomes}
use Rattle.vd_cmd_choice.specs.Outcomes.{CertificateOutcomes}
use Rattle.vd_cmd_choice.specs.Searching.{Searched, searched_by, sure_search}
use Rattle.vd_cmd_choice.proofs.Front.{text_choice_follows}
use Rattle.vd_cmd_needs.specs.Needing.{bytes_plan, host_plan, is_program_text, needs_answer, needs_plan, text_plan}
use Rattle.vd_cmd_plan.specs.Programs.{ProgramOutcomes}

either_follows : (b : Bool) (host sure plan : Contents → Plan) (files : Contents) → Follows (sure files) (plan files) → Follows ((if b then host else sure) files) ((if b then host else plan) files)
either_follows true host sure plan files follows = λ e. inl e
either_follows false host sure plan files follows = follows

module _ (texts : TextOutcomes) (programs : ProgramOutcomes) (least : LabelOutcomes) (certificates : CertificateOutcomes) (choices : ChoiceOutcomes) (searched : Searched) (words : NeedsWords) (files : Contents) where
  text_follows : (bytes : List ℕ) → Follows (text_plan texts least choices (sure_search choices) words bytes files) (text_plan texts least choices (searched_by certificates choices searched) words bytes files)
  text_follows bytes =
      text_choice_follows texts least certificates choices searched words.file words.budget files bytes (λ c. answer_then (needs_answer words.kind c)) (λ program l one other. refl)

  pub needs_follows : Follows (needs_plan texts programs least choices (sure_search choices) words files) (needs_plan texts programs least choices (searched_by certificates choices searched) words files)
  needs_follows =
      file_follows words.file most_host_file_bytes (bytes_plan texts programs least choices (sure_search choices) words) (bytes_plan texts programs least choices (searched_by certificates choices searched) words) files
      (λ bytes. either_follows (is_program_text bytes) (host_plan programs words.kind bytes) (text_plan texts least choices (sure_search choices) words bytes)
      (text_plan texts least choices (searched_by certificates choices searched) words bytes) files (text_follows bytes))
