-- What a run of `compile` has stored, and one of `excuse`, where it ended.
use Rattle.std.specs.Prelude.{◌≡◌, ◌++◌, ℕ, IsTrue, List, Option, Some}
use Rattle.vd_base.specs.Limits.{most_source_bytes}
use Rattle.vd_outside.specs.Files.{FilesView}
use Rattle.vd_outside.specs.Sink.{SinkView}
use Rattle.vd_cmd.specs.Commands.{form_of}
use Rattle.vd_cmd.specs.declared.command.Command.{Command}
use Rattle.vd_cmd.specs.declared.command.Command.TheVariants.{OnFiles}
use Rattle.vd_cmd.specs.declared.command.FilesCommand.{FilesCommand}
use Rattle.vd_cmd.specs.declared.command.FilesCommand.TheVariants.{Compile, Excuse}
use Rattle.vd_cmd_plan.specs.Held.{IsHeld}
use Rattle.vd_cmd_plan.specs.declared.status.Status.{Status}
use Rattle.vd_cmd_plan.specs.declared.status.Status.TheVariants.{Ended}
use Rattle.vd_cmd_laws.specs.Holding.{IsCompilation}
use Rattle.vd_top.specs.Headline.{PrintsExcuse}

-- The first file held the text of a source, and the file of each of its hosts now holds that host's program, at the choice that was
-- printed.
pub record StoresPrograms (source prefix : List ℕ) (before now : FilesView) (out_before out_now : SinkView) : Type 0 where
  pub printed : List ℕ
  pub added : IsTrue out_now.told → out_now.taken ≡ out_before.taken ++ printed
  pub compiled : IsHeld source most_source_bytes before.contents (λ text. IsCompilation text prefix printed now.contents)

-- Where the words are those of `compile`, and the files tell what they hold, a run with status 0 has stored the programs of all hosts.
abbrev pub KeepsStored : (words : List (List ℕ)) → (before now : FilesView) → (out_before out_now : SinkView) → Status → Type 0
KeepsStored words before now out_before out_now status =
    (source prefix : List ℕ) (budget : ℕ) → form_of words ≡ Some (OnFiles (Compile source prefix budget)) → IsTrue before.told → status ≡ Ended
    → StoresPrograms source prefix before now out_before out_now

-- ---- the same of a command

abbrev pub StoresOf : FilesCommand → (before now : FilesView) → (out_before out_now : SinkView) → Status → Type 0
StoresOf (Compile source prefix budget) before now out_before out_now status =
    IsTrue before.told → status ≡ Ended → StoresPrograms source prefix before now out_before out_now
StoresOf (Excuse words) before now out_before out_now status = IsTrue before.told → status ≡ Ended → PrintsExcuse words before now out_before out_now
StoresOf command before now out_before out_now status = Unit {0}

abbrev pub StoresForm : Option Command → (before now : FilesView) → (out_before out_now : SinkView) → Status → Type 0
StoresForm (Some (OnFiles command)) before now out_before out_now status = StoresOf command before now out_before out_now status
StoresForm other before now out_before out_now status = Unit {0}
