-- What marks tell, and what each call changes of it. Marks stand in the folders of files.
use Rattle.std.specs.Prelude.{◌≡◌, ◌≢◌, ◌≤◌, ℕ, Bool, true, false, IsTrue, List, ◌∷◌, length, Some, None, is_some, Result, IfOk, IfErr, OnOk, OnErr, IsErrOf}
use Rattle.std.specs.Str.{bytes_eq}
use Rattle.vd_base.specs.declared.faults.CallFault.{CallFault}
use Rattle.vd_base.specs.declared.faults.CallFault.TheVariants as call_fault
use Rattle.vd_outside.specs.Causes.{Rose, asked_after}
use Rattle.vd_outside.specs.Files.{Contents, with_content}
use Rattle.vd_outside.specs.Places.{mark_at}
use Rattle.vd_outside.specs.declared.outside_marks.marks.MarksCall.{MarksCall}
use Rattle.vd_outside.specs.declared.outside_marks.marks.MarksCall.TheVariants.{Draw, Claim, Look, Release}

-- If they tell it: the names that are taken, with their bytes, the draws that are still to come, and the calls that were asked. And
-- how often they have failed.
pub record MarksView : Type 0 where
  pub told : Bool
  pub taken : Contents
  pub draws : List (List ℕ)
  pub asked : List MarksCall
  pub faults : ℕ

pub record Draws (before now : MarksView) (result : Result (List ℕ) CallFault) : Type 0 where
  pub later : before.faults ≤ now.faults
  pub failed : IsErrOf result call_fault.Failed → Rose before.faults now.faults
  pub bytes : IfOk result (λ drawn. length drawn ≡ 32)
  pub still_told : IsTrue before.told → IsTrue now.told
  pub asked : IsTrue before.told → now.asked ≡ asked_after before.asked Draw result
  pub taken : IsTrue before.told → now.taken ≡ before.taken
  pub next : IsTrue before.told → IfOk result (λ drawn. before.draws ≡ drawn ∷ now.draws)

-- What stands at this name stays where it was taken, and so does all at other names.
pub record Stays (place : List ℕ) (before now : Contents) : Type 0 where
  pub stands : before place ≢ None → now place ≡ before place
  pub others : (other : List ℕ) → bytes_eq place other ≡ false → now other ≡ before other

-- The name was free and has these bytes now; or it was taken, and stays as it was.
abbrev pub Takes : (place bytes : List ℕ) → (before now : Contents) → Bool → Type 0
Takes place bytes before now true = (before place ≡ None) × (now ≡ with_content before place (Some bytes))
Takes place bytes before now false = (before place ≢ None) × (now ≡ before)

-- After a fault all that stands stays. What stands at the name is open where it was free.
pub record Claims (beside name bytes : List ℕ) (before now : MarksView) (result : Result Bool CallFault) : Type 0 where
  pub later : before.faults ≤ now.faults
  pub failed : IsErrOf result call_fault.Failed → Rose before.faults now.faults
  pub still_told : IsTrue before.told → IsTrue now.told
  pub asked : IsTrue before.told → now.asked ≡ asked_after before.asked (Claim (mark_at beside name)) result
  pub draws : IsTrue before.told → now.draws ≡ before.draws
  pub takes : IsTrue before.told → IfOk result (Takes (mark_at beside name) bytes before.taken now.taken)
  pub stays : IsTrue before.told → IfErr result (λ fault. Stays (mark_at beside name) before.taken now.taken)
  pub memory : IsTrue before.told → IsErrOf result call_fault.Memory → now.taken ≡ before.taken

-- What stands at all names stays, and it is told whether something stands at this one.
pub record Looks (beside name : List ℕ) (before now : MarksView) (result : Result Bool CallFault) : Type 0 where
  pub later : before.faults ≤ now.faults
  pub failed : IsErrOf result call_fault.Failed → Rose before.faults now.faults
  pub still_told : IsTrue before.told → IsTrue now.told
  pub asked : IsTrue before.told → now.asked ≡ asked_after before.asked (Look (mark_at beside name)) result
  pub draws : IsTrue before.told → now.draws ≡ before.draws
  pub taken : IsTrue before.told → now.taken ≡ before.taken
  pub found : IsTrue before.told → IfOk result (λ found. found ≡ is_some (before.taken (mark_at beside name)))

-- Where the name is not made free, that is counted as a fault, also where memory ran out. What stands at other names stays.
pub record Releases {T : Type 0} (beside name : List ℕ) (before now : MarksView) (result : Result T CallFault) : Type 0 where
  pub later : before.faults ≤ now.faults
  pub failed : OnErr result (Rose before.faults now.faults)
  pub still_told : IsTrue before.told → IsTrue now.told
  pub asked : IsTrue before.told → now.asked ≡ asked_after before.asked (Release (mark_at beside name)) result
  pub draws : IsTrue before.told → now.draws ≡ before.draws
  pub free : IsTrue before.told → OnOk result (now.taken ≡ with_content before.taken (mark_at beside name) None)
  pub others : IsTrue before.told → (other : List ℕ) → bytes_eq (mark_at beside name) other ≡ false → now.taken other ≡ before.taken other
  pub memory : IsTrue before.told → IsErrOf result call_fault.Memory → now.taken ≡ before.taken
