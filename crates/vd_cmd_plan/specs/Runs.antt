-- What a whole run comes to.
use Rattle.std.specs.Prelude.{◌≡◌, ◌≤◌, ◌⊎◌, ℕ, Bool, false, IsTrue, List, ◌++◌, Result}
use Rattle.vd_outside.specs.Causes.{Rose}
use Rattle.vd_outside.specs.Files.{FilesView, Contents}
use Rattle.vd_outside.specs.Sink.{SinkView}
use Rattle.vd_outside.specs.declared.files.FilesCall.{FilesCall}
use Rattle.vd_outside.specs.declared.files.FilesCall.TheVariants.{Fetch}
use Rattle.vd_cmd_plan.specs.Plans.{Plan, Executes, GrowsWithin, IsLast, IsPlanned, fetch_calls}
use Rattle.vd_cmd_plan.specs.Deliver.{store_calls, stored, IsPartlyStored, IsLastStore, IsLeft, IsEnded, IsDone}
use Rattle.vd_cmd_plan.specs.declared.answer.Answer.{Answer}
use Rattle.vd_cmd_plan.specs.declared.status.Status.{Status}
use Rattle.vd_cmd_plan.specs.declared.status.Status.TheVariants.{Ended, Memory, Usage, ReadFault, WriteFault}

abbrev pub calls : Plan → List FilesCall
calls plan = fetch_calls plan.fetches ++ store_calls plan.answer.stores

-- The status is the definition's. Memory and outside faults stand apart; a write's fault comes only where the command
-- would be carried out.
abbrev pub IsAnswered : Status → Status → Type 0
IsAnswered wanted Memory = Unit {0}
IsAnswered wanted (ReadFault name) = Unit {0}
IsAnswered wanted WriteFault = IsDone wanted
IsAnswered wanted status = status ≡ wanted

-- Why each status came, and what it left. fits tells whether the words have a form.
pub record Runs (fits : Bool) (plan : Contents → Plan) (before now : FilesView) (out_before out_now : SinkView) (status : Status) : Type 0 where
  pub later : before.faults ≤ now.faults
  pub out_later : out_before.faults ≤ out_now.faults
  pub planned : IsPlanned status
  pub usage : status ≡ Usage → fits ≡ false
  pub usage_comes : fits ≡ false → status ≡ Usage
  pub read_fault : (name : List ℕ) → status ≡ ReadFault name → Rose before.faults now.faults
  pub read_last : IsTrue before.told → (name : List ℕ) → status ≡ ReadFault name → IsLast (Fetch name) before.asked now.asked
  pub write_fault : status ≡ WriteFault → Rose before.faults now.faults ⊎ Rose out_before.faults out_now.faults
  pub write_cause : IsTrue before.told → status ≡ WriteFault → (Rose before.faults now.faults × IsLastStore before.asked now.asked) ⊎ Rose out_before.faults out_now.faults
  pub answered : IsTrue before.told → IsAnswered (plan before.contents).answer.status status
  pub still_told : IsTrue before.told → IsTrue now.told
  pub front : IsTrue before.told → GrowsWithin before.asked now.asked (calls (plan before.contents))
  pub whole : IsTrue before.told → IsDone status → now.asked ≡ before.asked ++ calls (plan before.contents)
  pub stores : IsTrue before.told → IsDone status → now.contents ≡ stored (plan before.contents).answer.stores before.contents
  pub part : IsTrue before.told → IsPartlyStored status (plan before.contents).answer.stores before.contents now.contents
  pub was_told : IsTrue out_now.told → IsTrue out_before.told
  pub left : IsTrue before.told → IsTrue out_now.told → IsLeft (plan before.contents).answer.printed out_before.taken out_now.taken status
  pub silent : IsTrue out_now.told → (IsEnded status → ⊥) → (status ≡ WriteFault → ⊥) → out_now.taken ≡ out_before.taken
  -- a write's fault that the output did not count is that of a store, and leaves the output alone
  pub unwritten : status ≡ WriteFault → (Rose out_before.faults out_now.faults → ⊥) → out_now ≡ out_before

-- a good input and no fault give Ended, or memory runs out
abbrev pub IsComplete : (Contents → Plan) → FilesView → FilesView → SinkView → SinkView → Status → Type 0
IsComplete plan before now out_before out_now status =
    IsTrue before.told → (Rose before.faults now.faults → ⊥) → (Rose out_before.faults out_now.faults → ⊥)
    → (plan before.contents).answer.status ≡ Ended → (status ≡ Ended) ⊎ (status ≡ Memory)

-- Whatever plan was executed so far, the whole of it is run.
abbrev pub Finishes : Result Answer Status → FilesView → FilesView → SinkView → SinkView → Status → Type 0
Finishes came mid now out_before out_now status =
    (fits : Bool) (plan : Contents → Plan) (before : FilesView) → Executes fits plan before mid came → Runs fits plan before now out_before out_now status

-- a text is printed, and nothing else is done
pub record Prints (text : List ℕ) (out_before out_now : SinkView) (status : Status) : Type 0 where
  pub out_later : out_before.faults ≤ out_now.faults
  pub ends : (status ≡ Ended) ⊎ (status ≡ WriteFault)
  pub write_fault : status ≡ WriteFault → Rose out_before.faults out_now.faults
  pub was_told : IsTrue out_now.told → IsTrue out_before.told
  pub left : IsTrue out_now.told → IsLeft text out_before.taken out_now.taken status
