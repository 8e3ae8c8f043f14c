-- What `compile` stores: the programs of all hosts of a source, at its choice of protocols.
use Rattle.std.specs.Prelude.{◌≡◌, ◌<◌, ℕ, List, length, Result, IfOk}
use Rattle.vd_base.specs.Limits.{most_source_bytes}
use Rattle.vd_outside.specs.Files.{FilesView}
use Rattle.vd_core.specs.declared.normal.NormalForm.{NormalForm}
use Rattle.vd_core.specs.declared.source.Source.{Source}
use Rattle.vd_search_stages.specs.declared.optimum.Assignment.{Assignment}
use Rattle.vd_cmd_rewrite.specs.RunPrograms.{IsRunProgram, TellsAs}
use Rattle.vd_projection.specs.Programs.{host_codes}
use Rattle.vd_projection.specs.Stored.{CanBeStored}
use Rattle.vd_cmd_plan.specs.Held.{Finds, IsHeld}
use Rattle.vd_cmd_plan.specs.declared.answer.Answer.{Answer}
use Rattle.vd_cmd_plan.specs.declared.status.Status.{Status}
use Rattle.vd_cmd_plan.specs.declared.status.Status.TheVariants.{Ended}
use Rattle.vd_cmd_labels.specs.Sources.{IsSourceText}
use Rattle.vd_cmd_choice.specs.Choice.{IsSelected}
use Rattle.vd_cmd_compile.specs.Compiling.{host_files, plan_for}

-- The answer stores a file for each host, of the host's code at the choice of protocols. The plan is the digest of the source's bytes
-- and of what is printed. Each of these programs is one that can be read back from its file.
pub record StoresPrograms (program : NormalForm) (text prefix : List ℕ) (answer : Answer) : Type 0 where
  pub assignment : Assignment
  pub selected : IsSelected program assignment
  pub can_be_stored : (h : ℕ) → h < length program.hosts → CanBeStored program assignment.protocols (plan_for text answer.printed) h
  pub stores : answer.stores ≡ host_files prefix program.hosts (plan_for text answer.printed) 0 (host_codes program assignment.protocols)

-- So does an answer of a program that ended.
abbrev pub TellsPrograms : NormalForm → (text prefix : List ℕ) → Result Answer Status → Type 0
TellsPrograms program text prefix result = IfOk result (λ answer. answer.status ≡ Ended → StoresPrograms program text prefix answer)

-- the text is that of a source that meets every rule, and the programs of its hosts are stored
pub record CompilesText (text prefix : List ℕ) (answer : Answer) : Type 0 where
  pub source : Source
  pub read : IsSourceText source text
  pub program : NormalForm
  pub is_run : IsRunProgram source program
  pub tells : TellsAs source program
  pub programs : StoresPrograms program text prefix answer

-- so does an answer to this text that ended
abbrev pub TellsText : (text prefix : List ℕ) → Result Answer Status → Type 0
TellsText text prefix result = IfOk result (λ answer. answer.status ≡ Ended → CompilesText text prefix answer)

-- Where the files tell what they hold, and the answer ended, the file of this name holds such a text.
abbrev pub TellsSource : (source prefix : List ℕ) → FilesView → Result Answer Status → Type 0
TellsSource source prefix before result =
    Finds before result (λ contents answer. answer.status ≡ Ended → IsHeld source most_source_bytes contents (λ text. CompilesText text prefix answer))
