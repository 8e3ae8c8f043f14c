-- What a run of `compile` with the word `early` has stored, and that it runs its plan.
use Rattle.std.proofs.Common.{true, Result, Ok, Err, IfOk}
use Rattle.vd_outside.specs.Files.{FilesView, Contents}
use Rattle.vd_outside.specs.Sink.{SinkView}
use Rattle.vd_cmd.specs.declared.command.EarlyWords.{EarlyWords}
use Rattle.vd_cmd_labels.proofs.Front.{some_labels, some_texts}
use Rattle.vd_cmd_choice.specs.Searching.{searched_by}
use Rattle.vd_cmd_choice.proofs.Front.{some_certificates}
use Rattle.vd_search_stages.proofs.Front.{some_choices}
use Rattle.vd_cmd_plan.specs.Plans.{Executes, IsGiven, IsProper, Plan}
use Rattle.vd_cmd_plan.specs.Runs.{Finishes}
use Rattle.vd_cmd_plan.specs.declared.answer.Answer.{Answer}
use Rattle.vd_cmd_plan.specs.declared.status.Status.{Status}
use Rattle.vd_cmd_laws.proofs.Front.{ended, never, printed, stand}
use Rattle.vd_cmd_compile_early.specs.Compiling.{ExecutesEarly, early_plan}
use Rattle.vd_cmd_compile_early.specs.Telling.{TellsSource}
use Rattle.vd_cmd_compile_early.specs.Running.{KeepsOrder, RunsEarly}

-- an answer of a proper result may be delivered
proper : (result : Result Answer Status) → IsProper true result → IfOk result (λ answer. IsGiven answer.status answer.printed)
proper (Ok answer) is = is.0
proper (Err status) is = tt

module _ (words : EarlyWords) (before mid now : FilesView) (out_before out_now : SinkView) (came : Result Answer Status) (status : Status)
    (executes : ExecutesEarly words.source words.prefix words.budget before mid came) where
  abbrev plan : Contents → Plan
  plan = early_plan some_texts some_labels some_choices (searched_by some_certificates some_choices executes.1.0) executes.0 words.source words.prefix words.budget

  one : Executes true plan before mid came
  one = executes.1.1 some_certificates some_choices some_texts some_labels

  pub given : IfOk came (λ answer. IsGiven answer.status answer.printed)
  given = proper came one.proper

  pub runs : Finishes came mid now out_before out_now status → RunsEarly words before now out_before out_now status
  runs finishes = (executes.0, (executes.1.0, λ certificates choices texts least. finishes true _ before (executes.1.1 certificates choices texts least)))

  pub keeps : Finishes came mid now out_before out_now status → TellsSource words.source words.prefix before came → KeepsOrder words before now out_before out_now status
  keeps finishes tells = by came one finishes tells
    where
      by : (came : Result Answer Status) → Executes true plan before mid came → Finishes came mid now out_before out_now status → TellsSource words.source words.prefix before came
          → KeepsOrder words before now out_before out_now status
      by (Ok answer) w finishes tells = λ t e. record {
        answer = answer;
        added = λ o. (printed plan before mid now out_before out_now answer status w finishes t o e).1;
        kept = stand plan before mid now out_before out_now answer status w finishes t e;
        compiled = tells t (ended plan before mid now out_before out_now answer status w finishes t e);
      }
      by (Err fault) w finishes tells = λ t e. absurd (never plan before mid now out_before out_now fault status w finishes t e)
