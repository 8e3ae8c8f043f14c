-- A run of `trial` ends as its answer does, unless memory was out or a write failed.
use Rattle.std.proofs.Common.{◌≡◌, ℕ, true, IsTrue, List, [], ◌∷◌, ◌++◌, length, Result, Ok, Err, refl, sym, ap, ◌∙◌, subst, arith, length-append}
use Rattle.vd_outside.specs.Files.{FilesView}
use Rattle.vd_outside.specs.Sink.{SinkView}
use Rattle.vd_outside.specs.declared.files.FilesCall.TheVariants.{Fetch}
use Rattle.vd_cmd_plan.specs.Deliver.{store_calls}
use Rattle.vd_cmd_plan.specs.Plans.{Computes, GrowsWithin, IsLast, IsProper, only, refused}
use Rattle.vd_cmd_plan.specs.Runs.{Finishes, IsAnswered, Runs}
use Rattle.vd_cmd_plan.specs.declared.answer.Answer.{Answer}
use Rattle.vd_cmd_plan.specs.declared.status.Status.{Status}
use Rattle.vd_cmd_plan.specs.declared.status.Status.TheVariants.{Memory, ReadFault, WriteFault}
use Rattle.vd_cmd_plan.proofs.Front.{computes}
use Rattle.vd_cmd_trial.specs.Telling.{AnswersTrial, EndsTrial}

-- what grew by nothing has no last item that came
none_last : {T : Type 0} (item : T) (before now wanted : List T) → wanted ≡ [] → GrowsWithin before now wanted → IsLast item before now → ⊥
none_last item before now wanted none grown last =
    let all = ap length (sym none ∙ grown.2.1) in
    let parts = length-append grown.0 grown.2.0 in
    let added = ap length grown.1 ∙ length-append before grown.0 in
    let came = ap length last.1 ∙ length-append before (last.0 ++ item ∷ []) in
    let one = length-append last.0 (item ∷ []) in
    omega (arith, all, parts, added, came, one)

-- what was answered, or memory ran out, or a write that failed
status_ends : (answered status : Status) → EndsTrial answered → IsAnswered answered status → ((name : List ℕ) → status ≡ ReadFault name → ⊥) → EndsTrial status
status_ends answered Memory ends is no_read = tt
status_ends answered (ReadFault name) ends is no_read = no_read name refl
status_ends answered WriteFault ends is no_read = tt
status_ends answered status ends is no_read = subst EndsTrial (sym is) ends

refusal_computes : (status : Status) → EndsTrial status → IsProper true (Err status) → Computes (refused status) (Err status)
refusal_computes Memory ends proper = record { proper = proper; no_fault = λ name e. cc e; settled = tt }
refusal_computes (ReadFault name) ends proper = absurd ends
refusal_computes status ends proper = record { proper = proper; no_fault = λ name e. cc e; settled = refl }

module _ (mid now : FilesView) (out_before out_now : SinkView) (told : IsTrue mid.told) where
  -- an answer that stores nothing is delivered
  delivered : (answer : Answer) (status : Status) → answer.stores ≡ [] → EndsTrial answer.status → Runs true (λ files. only answer) mid now out_before out_now status → EndsTrial status
  delivered answer status none ends runs =
      status_ends answer.status status ends (runs.answered told)
      (λ name e. none_last (Fetch name) mid.asked now.asked (store_calls answer.stores) (ap store_calls none) (runs.front told) (runs.read_last told name e))

  pub run_ends : (came : Result Answer Status) (status : Status) → IsProper true came → AnswersTrial came → Finishes came mid now out_before out_now status → EndsTrial status
  run_ends (Ok answer) status proper ends finishes =
      delivered answer status ends.0 ends.1
      (finishes true (λ files. only answer) mid (computes answer mid (Ok answer) (record { proper = proper; no_fault = λ name e. cc e; settled = refl })))
  run_ends (Err refusal) status proper ends finishes =
      delivered (refused refusal) status refl ends (finishes true (λ files. only (refused refusal)) mid (computes (refused refusal) mid (Err refusal) (refusal_computes refusal ends proper)))
