-- The stores of an answer, and then its bytes.
use Rattle.std.specs.Prelude.{◌≡◌, ◌≤◌, ◌⊎◌, ℕ, false, IsTrue, List, [], ◌∷◌, ◌++◌, take, drop, Some, Result, Ok, Err, IfErr, OnOk}
use Rattle.std.specs.Str.{bytes_eq}
use Rattle.vd_outside.specs.Causes.{Rose}
use Rattle.vd_outside.specs.Files.{FilesView, Contents, with_content}
use Rattle.vd_outside.specs.Sink.{SinkView}
use Rattle.vd_outside.specs.declared.stored.Stored.{Stored}
use Rattle.vd_outside.specs.declared.files.FilesCall.{FilesCall}
use Rattle.vd_outside.specs.declared.files.FilesCall.TheVariants.{Store}
use Rattle.vd_cmd_plan.specs.Plans.{GrowsWithin, IsLast}
use Rattle.vd_cmd_plan.specs.declared.status.Status.{Status}
use Rattle.vd_cmd_plan.specs.declared.status.Status.TheVariants.{Ended, Memory, WriteFault, NoAssignment}
use Rattle.vd_cmd_plan.specs.declared.answer.Answer.{Answer}

abbrev pub store_calls : List Stored → List FilesCall
store_calls [] = []
store_calls (piece ∷ pieces) = Store piece.name ∷ store_calls pieces

abbrev pub stored : List Stored → Contents → Contents
stored [] files = files
stored (piece ∷ pieces) files = stored pieces (with_content files piece.name (Some piece.content))

-- all but the next piece's name is as in this base
abbrev pub IsOpenAt : List Stored → Contents → Contents → Type 0
IsOpenAt [] base now = ⊥
IsOpenAt (piece ∷ pieces) base now = (other : List ℕ) → bytes_eq piece.name other ≡ false → now other ≡ base other

-- The first pieces stand whole. Only after a write's fault the next one may be open.
abbrev pub StoredTo : Status → List Stored → Contents → Contents → Type 0
StoredTo WriteFault next base now = (now ≡ base) ⊎ IsOpenAt next base now
StoredTo status next base now = now ≡ base

abbrev pub IsPartlyStored : Status → List Stored → Contents → Contents → Type 0
IsPartlyStored status pieces before now = (whole : ℕ) × StoredTo status (drop whole pieces) (stored (take whole pieces) before) now

abbrev pub EndsStore : Status → Type 0
EndsStore Memory = Unit {0}
EndsStore WriteFault = Unit {0}
EndsStore status = ⊥

abbrev pub IsLastStore : List FilesCall → List FilesCall → Type 0
IsLastStore before now = (name : List ℕ) × IsLast (Store name) before now

abbrev pub asked_put : List FilesCall → List ℕ → Result (Unit {0}) Status → List FilesCall
asked_put asked name (Ok done) = asked ++ Store name ∷ []
asked_put asked name (Err Memory) = asked
asked_put asked name (Err status) = asked ++ Store name ∷ []

-- one store
pub record StoresOne (piece : Stored) (before now : FilesView) (result : Result (Unit {0}) Status) : Type 0 where
  pub later : before.faults ≤ now.faults
  pub ends : IfErr result EndsStore
  pub fault : result ≡ Err WriteFault → Rose before.faults now.faults
  pub still_told : IsTrue before.told → IsTrue now.told
  pub asked : IsTrue before.told → now.asked ≡ asked_put before.asked piece.name result
  pub contents : IsTrue before.told → OnOk result (now.contents ≡ with_content before.contents piece.name (Some piece.content))
  pub memory : IsTrue before.told → result ≡ Err Memory → now.contents ≡ before.contents
  pub others : IsTrue before.told → (other : List ℕ) → bytes_eq piece.name other ≡ false → now.contents other ≡ before.contents other

pub record StoresAll (pieces : List Stored) (before now : FilesView) (result : Result (Unit {0}) Status) : Type 0 where
  pub later : before.faults ≤ now.faults
  pub ends : IfErr result EndsStore
  pub fault : result ≡ Err WriteFault → Rose before.faults now.faults
  pub last : IsTrue before.told → result ≡ Err WriteFault → IsLastStore before.asked now.asked
  pub still_told : IsTrue before.told → IsTrue now.told
  pub front : IsTrue before.told → GrowsWithin before.asked now.asked (store_calls pieces)
  pub whole : IsTrue before.told → OnOk result (now.asked ≡ before.asked ++ store_calls pieces)
  pub contents : IsTrue before.told → OnOk result (now.contents ≡ stored pieces before.contents)
  pub part : IsTrue before.told → IfErr result (λ status. IsPartlyStored status pieces before.contents now.contents)

abbrev pub EndsDelivery : Status → Status → Type 0
EndsDelivery given Memory = Unit {0}
EndsDelivery given WriteFault = Unit {0}
EndsDelivery given status = status ≡ given

-- what stands in `out` after a status
abbrev pub IsLeft : List ℕ → List ℕ → List ℕ → Status → Type 0
IsLeft printed before now Ended = now ≡ before ++ printed
IsLeft printed before now WriteFault = (count : ℕ) × (now ≡ before ++ take count printed)
IsLeft printed before now status = now ≡ before

abbrev pub IsEnded : Status → Type 0
IsEnded Ended = Unit {0}
IsEnded status = ⊥

-- the statuses of a command that was carried out: all files stand
abbrev pub IsDone : Status → Type 0
IsDone Ended = Unit {0}
IsDone (NoAssignment labelled) = Unit {0}
IsDone status = ⊥

-- after a given answer
pub record Delivers (given : Answer) (before now : FilesView) (out_before out_now : SinkView) (status : Status) : Type 0 where
  pub later : before.faults ≤ now.faults
  pub out_later : out_before.faults ≤ out_now.faults
  pub ends : EndsDelivery given.status status
  pub fault : status ≡ WriteFault → Rose before.faults now.faults ⊎ Rose out_before.faults out_now.faults
  pub cause : IsTrue before.told → status ≡ WriteFault → (Rose before.faults now.faults × IsLastStore before.asked now.asked) ⊎ Rose out_before.faults out_now.faults
  pub still_told : IsTrue before.told → IsTrue now.told
  pub front : IsTrue before.told → GrowsWithin before.asked now.asked (store_calls given.stores)
  pub whole : IsTrue before.told → IsDone status → now.asked ≡ before.asked ++ store_calls given.stores
  pub contents : IsTrue before.told → IsDone status → now.contents ≡ stored given.stores before.contents
  pub part : IsTrue before.told → IsPartlyStored status given.stores before.contents now.contents
  pub was_told : IsTrue out_now.told → IsTrue out_before.told
  pub left : IsTrue out_now.told → IsLeft given.printed out_before.taken out_now.taken status
  pub unwritten : status ≡ WriteFault → (Rose out_before.faults out_now.faults → ⊥) → out_now ≡ out_before
