-- What a command is to do: the files that it fetches, in order, and its answer.
use Rattle.std.specs.Prelude.{◌≡◌, ◌≤◌, ℕ, Bool, true, false, IsTrue, List, [], ◌∷◌, ◌++◌, Result, Ok, Err, IfOk, IfErr}
use Rattle.vd_outside.specs.Causes.{Rose}
use Rattle.vd_outside.specs.Files.{FilesView, Contents, fetched}
use Rattle.vd_outside.specs.declared.stored.Stored.{Stored}
use Rattle.vd_outside.specs.declared.files.FilesCall.{FilesCall}
use Rattle.vd_outside.specs.declared.files.FilesCall.TheVariants.{Fetch}
use Rattle.vd_outside.specs.declared.faults.FetchFault.{FetchFault}
use Rattle.vd_outside.specs.declared.faults.FetchFault.TheVariants as fetch_fault
use Rattle.vd_cmd_plan.specs.declared.status.HostStatus.{HostStatus}
use Rattle.vd_cmd_plan.specs.declared.status.HostStatus.TheVariants.{ProgramText, ProgramRange}
use Rattle.vd_cmd_plan.specs.declared.status.Status.{Status}
use Rattle.vd_cmd_plan.specs.declared.status.Status.TheVariants.{Ended, Memory, Usage, ReadFault, WriteFault, TooLong, NoAssignment, Host, ChildFault}
use Rattle.vd_cmd_plan.specs.declared.answer.Answer.{Answer}

abbrev pub refused : Status → Answer
refused status = record { status = status; stores = []; printed = [] }

abbrev pub ended : List Stored → List ℕ → Answer
ended stores printed = record { status = Ended; stores = stores; printed = printed }

pub record Plan : Type 0 where
  pub fetches : List (List ℕ)
  pub answer : Answer

abbrev pub only : Answer → Plan
only answer = record { fetches = []; answer = answer }

-- fetch a file, and go on with its bytes
abbrev pub with_file : List ℕ → ℕ → Result (List ℕ) FetchFault → (List ℕ → Plan) → Plan
with_file name limit (Ok bytes) rest = record { fetches = name ∷ (rest bytes).fetches; answer = (rest bytes).answer }
with_file name limit (Err fetch_fault.TooLong) rest = record { fetches = name ∷ []; answer = refused (TooLong name limit) }
with_file name limit (Err fetch_fault.Failed) rest = record { fetches = name ∷ []; answer = refused (ReadFault name) }
with_file name limit (Err fetch_fault.Memory) rest = record { fetches = name ∷ []; answer = refused Memory }

-- The steps of which a command is made: fetch a file and go on with its bytes; go on with what was read, or
-- refuse; and the answer.
unfoldable pub file_then : List ℕ → ℕ → (List ℕ → Contents → Plan) → Contents → Plan
file_then name limit rest files = with_file name limit (fetched (files name) limit) (λ bytes. rest bytes files)

unfoldable pub check_then : {T : Type 0} → Result T Status → (T → Contents → Plan) → Contents → Plan
check_then (Ok value) rest files = rest value files
check_then (Err status) rest files = only (refused status)

unfoldable pub answer_then : Answer → Contents → Plan
answer_then answer files = only answer

abbrev pub IsPrefix : {T : Type 0} → List T → List T → Type 0
IsPrefix front list = (rest : _) × (list ≡ front ++ rest)

-- the list grew by a prefix of these items
abbrev pub GrowsWithin : {T : Type 0} → List T → List T → List T → Type 0
GrowsWithin before now items = (added : _) × (now ≡ before ++ added) × IsPrefix added items

-- the list grew, and this item came last
abbrev pub IsLast : {T : Type 0} → T → List T → List T → Type 0
IsLast item before now = (front : _) × (now ≡ before ++ (front ++ item ∷ []))

-- the calls of a plan's fetches
abbrev pub fetch_calls : List (List ℕ) → List FilesCall
fetch_calls [] = []
fetch_calls (name ∷ names) = Fetch name ∷ fetch_calls names

-- The result is the plan's answer, or the status of its refusal. Memory and outside faults stand apart.
abbrev pub Settles : Answer → Result Answer Status → Type 0
Settles answer (Ok given) = given ≡ answer
Settles answer (Err Memory) = Unit {0}
Settles answer (Err (ReadFault name)) = Unit {0}
Settles answer (Err status) = refused status ≡ answer

-- the statuses with which an answer may be delivered; it prints with Ended alone
abbrev pub IsGiven : Status → List ℕ → Type 0
IsGiven Ended printed = Unit {0}
IsGiven (NoAssignment labelled) printed = printed ≡ []
IsGiven status printed = ⊥

-- a file that is no program of a host within the ranges is refused by a plan; all else of one host comes where it is run
abbrev pub IsOfProgram : HostStatus → Type 0
IsOfProgram (ProgramText offset) = Unit {0}
IsOfProgram (ProgramRange number) = Unit {0}
IsOfProgram other = ⊥

-- the statuses of hosts that are run over a net or as children come in no plan
abbrev pub IsPlanned : Status → Type 0
IsPlanned (Host cause) = IsOfProgram cause
IsPlanned (ChildFault hosts fault) = ⊥
IsPlanned status = Unit {0}

-- Whatever is told: Usage comes exactly where the words have no form, and a write's fault never before the writing.
abbrev pub IsProper : Bool → Result Answer Status → Type 0
IsProper fits (Ok given) = IsGiven given.status given.printed × (fits ≡ true)
IsProper fits (Err Ended) = ⊥
IsProper fits (Err (NoAssignment labelled)) = ⊥
IsProper fits (Err Usage) = fits ≡ false
IsProper fits (Err WriteFault) = ⊥
IsProper fits (Err (Host cause)) = IsOfProgram cause × (fits ≡ true)
IsProper fits (Err (ChildFault hosts fault)) = ⊥
IsProper fits (Err status) = fits ≡ true

-- The files were fetched and the answer computed as the plan says, and nothing was written.
pub record Executes (fits : Bool) (plan : Contents → Plan) (before now : FilesView) (result : Result Answer Status) : Type 0 where
  pub later : before.faults ≤ now.faults
  pub proper : IsProper fits result
  pub fault : (file : List ℕ) → result ≡ Err (ReadFault file) → Rose before.faults now.faults
  pub last : IsTrue before.told → (file : List ℕ) → result ≡ Err (ReadFault file) → IsLast (Fetch file) before.asked now.asked
  pub still_told : IsTrue before.told → IsTrue now.told
  pub contents : IsTrue before.told → now.contents ≡ before.contents
  pub front : IsTrue before.told → GrowsWithin before.asked now.asked (fetch_calls (plan before.contents).fetches)
  pub whole : IsTrue before.told → IfOk result (λ answer. now.asked ≡ before.asked ++ fetch_calls (plan before.contents).fetches)
  pub settled : IsTrue before.told → Settles (plan before.contents).answer result

-- A part of a command: whatever follows it, it executes the step before that.
abbrev pub ExecutesStep : {T : Type 0} → ((T → Contents → Plan) → Contents → Plan) → FilesView → FilesView → Result T Status → Type 0
ExecutesStep {T = T} step before now (Ok value) = (rest : T → Contents → Plan) (last : FilesView) (result : Result Answer Status) → Executes true (rest value) now last result → Executes true (step rest) before last result
ExecutesStep {T = T} step before now (Err status) = (rest : T → Contents → Plan) → Executes true (step rest) before now (Err status)

-- the part of a command after its last fetch
pub record Computes (answer : Answer) (result : Result Answer Status) : Type 0 where
  pub proper : IsProper true result
  pub no_fault : (file : List ℕ) → result ≡ Err (ReadFault file) → ⊥
  pub settled : Settles answer result

-- a test refuses where its definition does, and with no outside fault
abbrev pub IsRefusal : {T : Type 0} → Result T Status → Status → Type 0
IsRefusal wanted Ended = ⊥
IsRefusal wanted (NoAssignment labelled) = ⊥
IsRefusal wanted Memory = Unit {0}
IsRefusal wanted Usage = ⊥
IsRefusal wanted (ReadFault name) = ⊥
IsRefusal wanted WriteFault = ⊥
IsRefusal wanted (Host cause) = IsOfProgram cause × (wanted ≡ Err (Host cause))
IsRefusal wanted (ChildFault hosts fault) = ⊥
IsRefusal wanted status = wanted ≡ Err status

pub record Checks {T : Type 0} (wanted result : Result T Status) : Type 0 where
  pub ok : IfOk result (λ value. wanted ≡ Ok value)
  pub err : IfErr result (λ status. IsRefusal wanted status)
