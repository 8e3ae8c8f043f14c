-- The program that is run for a source, and the step that reads it.
use Rattle.std.specs.Prelude.{◌≡◌, ℕ, List, Result, Ok}
use Rattle.vd_base.specs.Limits.{most_source_bytes}
use Rattle.vd_outside.specs.Files.{Contents, FilesView, fetched}
use Rattle.vd_core.specs.declared.normal.NormalForm.{NormalForm}
use Rattle.vd_core.specs.declared.source.Source.{Source}
use Rattle.vd_elaborate.specs.Normal.{normal_form}
use Rattle.vd_cmd_plan.specs.Held.{IsHeld}
use Rattle.vd_cmd_plan.specs.Plans.{ExecutesStep, Plan, check_then, file_then}
use Rattle.vd_cmd_plan.specs.declared.status.Status.{Status}
use Rattle.vd_cmd_labels.specs.Outcomes.{LabelOutcomes, TextOutcomes}
use Rattle.vd_cmd_labels.specs.Sources.{IsSourceText, resolved_of, source_of}
use Rattle.vd_cmd_rewrite.specs.RunPrograms.{IsRunProgram, TellsAs, run_form}
use Rattle.vd_cmd_choice.specs.declared.programs.SourceProgram.{SourceProgram}

-- ---- the step: with the text of a source that goes by this name, and with its file

abbrev pub text_program_then : TextOutcomes → LabelOutcomes → (name text : List ℕ) → (NormalForm → Contents → Plan) → Contents → Plan
text_program_then texts least name text rest =
    check_then (source_of texts name text) (λ tree. check_then (resolved_of tree) (λ source. rest (run_form least (normal_form source))))

abbrev pub program_then : TextOutcomes → LabelOutcomes → (name : List ℕ) → (NormalForm → Contents → Plan) → Contents → Plan
program_then texts least name rest = file_then name most_source_bytes (λ text. text_program_then texts least name text rest)

-- and with its text kept
abbrev pub source_program_then : TextOutcomes → LabelOutcomes → (name : List ℕ) → (SourceProgram → Contents → Plan) → Contents → Plan
source_program_then texts least name rest =
    file_then name most_source_bytes
    (λ text. text_program_then texts least name text (λ program. rest (record { text = text; program = program })))

-- ---- what its parts do, whatever functions pick outcomes

abbrev pub ReadsProgram : (text : List ℕ) → Result NormalForm Status → Type 0
ReadsProgram text result =
    (texts : TextOutcomes) (least : LabelOutcomes) (name : List ℕ) (files : FilesView)
    → ExecutesStep (text_program_then texts least name text) files files result

abbrev pub LoadsProgram : (name : List ℕ) → FilesView → FilesView → Result NormalForm Status → Type 0
LoadsProgram name before now result =
    (texts : TextOutcomes) (least : LabelOutcomes) → ExecutesStep (program_then texts least name) before now result

abbrev pub LoadsSourceProgram : (name : List ℕ) → FilesView → FilesView → Result SourceProgram Status → Type 0
LoadsSourceProgram name before now result =
    (texts : TextOutcomes) (least : LabelOutcomes) → ExecutesStep (source_program_then texts least name) before now result

-- ---- what it gives

-- the text is that of a source that meets every rule, and the program is the one that is run for it
pub record IsProgramOf (text : List ℕ) (program : NormalForm) : Type 0 where
  pub source : Source
  pub read : IsSourceText source text
  pub is_run : IsRunProgram source program
  pub tells : TellsAs source program

-- the file of this name has this text
abbrev pub HasText : (name : List ℕ) → Contents → (text : List ℕ) → Type 0
HasText name contents text = fetched (contents name) most_source_bytes ≡ Ok text

-- a file has the text of such a source
abbrev pub HoldsProgram : (name : List ℕ) → Contents → NormalForm → Type 0
HoldsProgram name contents program = IsHeld name most_source_bytes contents (λ text. IsProgramOf text program)
