-- What the bytes of a file come to, whatever functions pick the outcomes.
use Rattle.std.proofs.Common.{◌≡◌, ℕ, Bool, true, false, if◌then◌else◌, List, Result, Ok, Err, sym, subst}
use Rattle.vd_base.specs.Limits.{most_host_file_bytes}
use Rattle.vd_outside.specs.Files.{FilesView}
use Rattle.vd_search_stages.specs.Choices.{ChoiceOutcomes}
use Rattle.vd_cmd.specs.declared.command.NeedsWords.{NeedsWords}
use Rattle.vd_cmd_plan.specs.Loads.{Loads}
use Rattle.vd_cmd_plan.specs.Plans.{Executes}
use Rattle.vd_cmd_plan.specs.declared.answer.Answer.{Answer}
use Rattle.vd_cmd_plan.specs.declared.status.Status.{Status}
use Rattle.vd_cmd_plan.proofs.Front.{load_step}
use Rattle.vd_cmd_labels.specs.Outcomes.{TextOutcomes, LabelOutcomes}
use Rattle.vd_cmd_choice.specs.Searching.{Search, GaveUp, searched_by}
use Rattle.vd_cmd_needs.specs.Needing.{ExecutesBytes, ExecutesHost, ExecutesText, bytes_plan, host_plan, is_program_text, needs_plan, text_plan}
use Rattle.vd_cmd_plan.specs.Programs.{ProgramOutcomes}

-- ---- with the bytes of a file

module _ (words : NeedsWords) (bytes : List ℕ) (result : Result Answer Status) where
  pub of_host : is_program_text bytes ≡ true → ExecutesHost words.kind bytes result → ExecutesBytes words bytes result
  of_host is executes = (
    GaveUp,
    λ certificates choices texts programs least files.
        subst (λ (b : Bool). Executes true (if b then host_plan programs words.kind bytes else text_plan texts least choices (searched_by certificates choices GaveUp) words bytes) files files result) (sym is)
        (executes programs files),
  )

  pub of_text : is_program_text bytes ≡ false → ExecutesText words bytes result → ExecutesBytes words bytes result
  of_text is executes = (
    executes.0,
    λ certificates choices texts programs least files.
        subst (λ (b : Bool). Executes true (if b then host_plan programs words.kind bytes else text_plan texts least choices (searched_by certificates choices executes.0) words bytes) files files result) (sym is)
        (executes.1 certificates choices texts least files),
  )

-- ---- with the file

module _ (texts : TextOutcomes) (programs : ProgramOutcomes) (least : LabelOutcomes) (choices : ChoiceOutcomes) (search : Search) (words : NeedsWords) where
  pub fetch_refused : (before now : FilesView) (status : Status) → Loads words.file most_host_file_bytes before now (Err status)
      → Executes true (needs_plan texts programs least choices search words) before now (Err status)
  fetch_refused before now status loads = load_step words.file most_host_file_bytes before now (Err status) loads (bytes_plan texts programs least choices search words)

  pub fetched_then : (before now : FilesView) (bytes seen : List ℕ) (result : Result Answer Status) → Loads words.file most_host_file_bytes before now (Ok bytes) → seen ≡ bytes
      → Executes true (bytes_plan texts programs least choices search words seen) now now result → Executes true (needs_plan texts programs least choices search words) before now result
  fetched_then before now bytes seen result loads same executes =
      load_step words.file most_host_file_bytes before now (Ok bytes) loads (bytes_plan texts programs least choices search words) now result
      (subst (λ (b : List ℕ). Executes true (bytes_plan texts programs least choices search words b) now now result) same executes)
