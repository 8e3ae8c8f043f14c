-- A run that ended has answered well, stored its files and printed its answer.
use Rattle.std.proofs.Common.{◌≡◌, true, IsTrue, ◌++◌, Result, Ok, Err, sym, ap, ◌∙◌, subst}
use Rattle.vd_outside.specs.Files.{FilesView, Contents}
use Rattle.vd_outside.specs.Sink.{SinkView}
use Rattle.vd_cmd_plan.specs.Deliver.{IsDone, IsLeft, stored}
use Rattle.vd_cmd_plan.specs.Plans.{Executes, Plan, Settles, refused}
use Rattle.vd_cmd_plan.specs.Runs.{Finishes, IsAnswered}
use Rattle.vd_cmd_plan.specs.declared.answer.Answer.{Answer}
use Rattle.vd_cmd_plan.specs.declared.status.Status.{Status}
use Rattle.vd_cmd_plan.specs.declared.status.Status.TheVariants.{Ended, Memory, ReadFault, Usage}

module _ (plan : Contents → Plan) (before mid now : FilesView) (out_before out_now : SinkView) where
  -- the same fetches, and another answer
  abbrev other_plan : Contents → Plan
  other_plan files = record { fetches = (plan files).fetches; answer = refused Usage }

  -- where nothing settles the answer, any other is as good
  unsettled : (status : Status) → Settles (refused Usage) (Err status) → Executes true plan before mid (Err status) → Executes true other_plan before mid (Err status)
  unsettled status any w = record {
    later = w.later;
    proper = w.proper;
    fault = w.fault;
    last = w.last;
    still_told = w.still_told;
    contents = w.contents;
    front = w.front;
    whole = λ t. tt;
    settled = λ t. any;
  }

  pub answered : (came : Result Answer Status) (status : Status) (p : Contents → Plan) → Executes true p before mid came → Finishes came mid now out_before out_now status → IsTrue before.told → status ≡ Ended
      → Ended ≡ (p before.contents).answer.status
  answered came status p w finishes t e = subst (λ (s : Status). IsAnswered (p before.contents).answer.status s) e ((finishes true p before w).answered t)

  -- a refusal does not end well
  pub never : (came status : Status) → Executes true plan before mid (Err came) → Finishes (Err came) mid now out_before out_now status → IsTrue before.told → status ≡ Ended → ⊥
  never Ended status w finishes t e = w.proper
  never Memory status w finishes t e = let wrong = answered (Err Memory) status other_plan (unsettled Memory tt w) finishes t e in cc
  never (ReadFault name) status w finishes t e = let wrong = answered (Err (ReadFault name)) status other_plan (unsettled (ReadFault name) tt w) finishes t e in cc
  never other status w finishes t e = let wrong = answered (Err other) status plan w finishes t e ∙ sym (ap (λ (a : Answer). a.status) (w.settled t)) in cc

  -- the answer ended well
  pub ended : (answer : Answer) (status : Status) → Executes true plan before mid (Ok answer) → Finishes (Ok answer) mid now out_before out_now status → IsTrue before.told → status ≡ Ended → answer.status ≡ Ended
  ended answer status w finishes t e = ap (λ (a : Answer). a.status) (w.settled t) ∙ sym (answered (Ok answer) status plan w finishes t e)

  -- and was printed
  pub printed : (answer : Answer) (status : Status) → Executes true plan before mid (Ok answer) → Finishes (Ok answer) mid now out_before out_now status → IsTrue before.told → IsTrue out_now.told → status ≡ Ended
      → (answer.status ≡ Ended) × (out_now.taken ≡ out_before.taken ++ answer.printed)
  printed answer status w finishes t o e =
      let same = w.settled t in
      let left = subst (λ (s : Status). IsLeft (plan before.contents).answer.printed out_before.taken out_now.taken s) e ((finishes true plan before w).left t o) in
      (ended answer status w finishes t e, left ∙ ap (λ (a : Answer). out_before.taken ++ a.printed) (sym same))

  -- its files stand
  pub stand : (answer : Answer) (status : Status) → Executes true plan before mid (Ok answer) → Finishes (Ok answer) mid now out_before out_now status → IsTrue before.told → status ≡ Ended
      → now.contents ≡ stored answer.stores before.contents
  stand answer status w finishes t e =
      (finishes true plan before w).stores t (subst IsDone (sym e) tt) ∙ ap (λ (a : Answer). stored a.stores before.contents) (sym (w.settled t))
