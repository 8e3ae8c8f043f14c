-- What becomes of `compile` with the word `early`.
use Rattle.std.specs.Prelude.{ℕ, List, Option, Some}
use Rattle.vd_outside.specs.Files.{FilesView}
use Rattle.vd_outside.specs.Sink.{SinkView}
use Rattle.vd_cmd.specs.Commands.{form_of}
use Rattle.vd_cmd.specs.declared.command.Command.{Command}
use Rattle.vd_cmd.specs.declared.command.Command.TheVariants.{Early}
use Rattle.vd_cmd.specs.declared.command.EarlyWords.{EarlyWords}
use Rattle.vd_cmd_plan.specs.declared.status.Status.{Status}
use Rattle.vd_cmd_compile_early.specs.Running.{KeepsOrder, RunsEarly}

-- The whole of its plan is run, with some order; and where the files tell what they hold and it ends well, it has stored the programs of all
-- hosts in an order that waits less.
pub record CompilesInOrder (words : EarlyWords) (before now : FilesView) (out_before out_now : SinkView) (status : Status) : Type 0 where
  pub runs : RunsEarly words before now out_before out_now status
  pub keeps : KeepsOrder words before now out_before out_now status

abbrev pub EarlyForm : Option Command → FilesView → FilesView → SinkView → SinkView → Status → Type 0
EarlyForm (Some (Early words)) before now out_before out_now status = CompilesInOrder words before now out_before out_now status
EarlyForm other before now out_before out_now status = Unit {0}

abbrev pub EarlyByWords : List (List ℕ) → FilesView → FilesView → SinkView → SinkView → Status → Type 0
EarlyByWords words before now out_before out_now status = EarlyForm (form_of words) before now out_before out_now status
