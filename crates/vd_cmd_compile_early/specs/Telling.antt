-- What `compile` stores with the word `early`: the programs of all hosts of a source in an order that waits less, at its choice of protocols.
use Rattle.std.specs.Prelude.{◌≡◌, ◌<◌, ℕ, List, length, Result, IfOk}
use Rattle.vd_base.specs.Limits.{most_source_bytes}
use Rattle.vd_outside.specs.Files.{FilesView}
use Rattle.vd_core.specs.declared.normal.NormalForm.{NormalForm}
use Rattle.vd_core.specs.declared.source.Source.{Source}
use Rattle.vd_search_stages.specs.declared.optimum.Assignment.{Assignment}
use Rattle.vd_cmd_rewrite.specs.RunPrograms.{IsRunProgram, TellsAs}
use Rattle.vd_execution.specs.Joint.{Joint}
use Rattle.vd_projection.specs.Programs.{joint_of}
use Rattle.vd_projection.specs.Stored.{CanBeStored}
use Rattle.vd_cmd_plan.specs.Held.{Finds, IsHeld}
use Rattle.vd_cmd_plan.specs.declared.answer.Answer.{Answer}
use Rattle.vd_cmd_plan.specs.declared.status.Status.{Status}
use Rattle.vd_cmd_plan.specs.declared.status.Status.TheVariants.{Ended}
use Rattle.vd_cmd_labels.specs.Sources.{IsSourceText}
use Rattle.vd_cmd_choice.specs.Choice.{IsSelected}
use Rattle.vd_cmd_compile.specs.Compiling.{host_files}
use Rattle.vd_projection.specs.Early.{IsEarly, each_code, opened_in_order}
use Rattle.vd_cmd_compile_early.specs.Compiling.{early_plan_for}

-- The answer stores a file for each host, of its part of what all hosts do together: the joint code at the choice of protocols, in an order
-- that waits less. The plan is the digest of the source's bytes, of what is printed, and of the word for this order. Each of these programs
-- is one that can be read back from its file.
pub record StoresEarly (program : NormalForm) (text prefix : List ℕ) (answer : Answer) : Type 0 where
  pub assignment : Assignment
  pub selected : IsSelected program assignment
  pub joint : Joint
  pub early : IsEarly (joint_of program assignment.protocols) joint
  pub can_be_stored : (h : ℕ) → h < length program.hosts → CanBeStored program assignment.protocols (early_plan_for text answer.printed) h
  pub stores : let codes = each_code (opened_in_order program assignment.protocols) (length program.hosts) joint in
      answer.stores ≡ host_files prefix program.hosts (early_plan_for text answer.printed) 0 codes

-- So does an answer of a program that ended.
abbrev pub TellsPrograms : NormalForm → (text prefix : List ℕ) → Result Answer Status → Type 0
TellsPrograms program text prefix result = IfOk result (λ answer. answer.status ≡ Ended → StoresEarly program text prefix answer)

-- the text is that of a source that meets every rule, and the programs of its hosts are stored
pub record CompilesEarly (text prefix : List ℕ) (answer : Answer) : Type 0 where
  pub source : Source
  pub read : IsSourceText source text
  pub program : NormalForm
  pub is_run : IsRunProgram source program
  pub tells : TellsAs source program
  pub programs : StoresEarly program text prefix answer

-- so does an answer to this text that ended
abbrev pub TellsText : (text prefix : List ℕ) → Result Answer Status → Type 0
TellsText text prefix result = IfOk result (λ answer. answer.status ≡ Ended → CompilesEarly text prefix answer)

-- Where the files tell what they hold, and the answer ended, the file of this name holds such a text.
abbrev pub TellsSource : (source prefix : List ℕ) → FilesView → Result Answer Status → Type 0
TellsSource source prefix before result =
    Finds before result (λ contents answer. answer.status ≡ Ended → IsHeld source most_source_bytes contents (λ text. CompilesEarly text prefix answer))
