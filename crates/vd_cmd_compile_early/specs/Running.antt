-- What becomes of `compile` with the word `early`.
use Rattle.std.specs.Prelude.{◌≡◌, ◌++◌, true, IsTrue}
use Rattle.vd_base.specs.Limits.{most_source_bytes}
use Rattle.vd_outside.specs.Files.{FilesView}
use Rattle.vd_outside.specs.Sink.{SinkView}
use Rattle.vd_cmd.specs.declared.command.EarlyWords.{EarlyWords}
use Rattle.vd_cmd_labels.specs.Outcomes.{TextOutcomes, LabelOutcomes}
use Rattle.vd_cmd_choice.specs.Searching.{SomeSearch}
use Rattle.vd_cmd_plan.specs.Deliver.{stored}
use Rattle.vd_cmd_plan.specs.Held.{IsHeld}
use Rattle.vd_cmd_plan.specs.Runs.{Runs}
use Rattle.vd_cmd_plan.specs.declared.answer.Answer.{Answer}
use Rattle.vd_cmd_plan.specs.declared.status.Status.{Status}
use Rattle.vd_cmd_plan.specs.declared.status.Status.TheVariants.{Ended}
use Rattle.vd_cmd_compile_early.specs.Compiling.{SomeOrder, early_plan}
use Rattle.vd_cmd_compile_early.specs.Telling.{CompilesEarly}

-- There are an order and an answer of the search, with which the whole of the plan is run, whatever functions pick outcomes.
abbrev pub RunsEarly : EarlyWords → FilesView → FilesView → SinkView → SinkView → Status → Type 0
RunsEarly words before now out_before out_now status =
    SomeOrder (λ joint. SomeSearch (λ choices search. (texts : TextOutcomes) (least : LabelOutcomes)
    → Runs true (early_plan texts least choices search joint words.source words.prefix words.budget) before now out_before out_now status))

-- The first file held the text of a source, and the programs of all its hosts in an order that waits less were stored, at the choice that
-- was printed.
pub record StoresOrder (words : EarlyWords) (before now : FilesView) (out_before out_now : SinkView) : Type 0 where
  pub answer : Answer
  pub added : IsTrue out_now.told → out_now.taken ≡ out_before.taken ++ answer.printed
  pub kept : now.contents ≡ stored answer.stores before.contents
  pub compiled : IsHeld words.source most_source_bytes before.contents (λ text. CompilesEarly text words.prefix answer)

-- so it is where the files tell what they hold, and the run ended well
abbrev pub KeepsOrder : EarlyWords → FilesView → FilesView → SinkView → SinkView → Status → Type 0
KeepsOrder words before now out_before out_now status = IsTrue before.told → status ≡ Ended → StoresOrder words before now out_before out_now
