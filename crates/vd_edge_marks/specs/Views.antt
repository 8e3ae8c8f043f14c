-- What marks over a directory tell, and what stands in the directory.
use Rattle.std.specs.Prelude.{◌≡◌, ◌≢◌, ◌||◌, ℕ, Bool, true, false, IsTrue, List, [], Option, None, Some, Result, Ok, IfOk, IfSome, OnErr, OnOk, is_some}
use Rattle.std.specs.Str.{bytes_eq}
use Rattle.vd_base.specs.declared.faults.CallFault.{CallFault}
use Rattle.vd_outside.specs.Files.{Contents}
use Rattle.vd_outside.specs.Marks.{MarksView}
use Rattle.vd_outside.specs.Places.{mark_at}

-- how often they have failed; what stands in the directory is not told
abbrev pub marks_view : (faults : ℕ) → MarksView
marks_view faults = record { told = false; taken = λ place. None; draws = []; asked = []; faults = faults }

-- where the second mark of a name stands, wherever the file is: in the user's folder for all marks, if there is one
abbrev pub far_of : (home : Option (List ℕ)) → (name : List ℕ) → Option (List ℕ)
far_of None name = None
far_of (Some home) name = Some (mark_at home name)

-- nothing stands there
abbrev pub IsFree : Contents → List ℕ → Type 0
IsFree holds place = holds place ≡ None

-- What stands at both places stays where it stood, and all stands as it stood elsewhere.
pub record StayBoth (far : Option (List ℕ)) (near : List ℕ) (before now : Contents) : Type 0 where
  pub kept_near : before near ≢ None → now near ≡ before near
  pub kept_far : IfSome far (λ place. before place ≢ None → now place ≡ before place)
  pub others : (other : List ℕ) → bytes_eq near other ≡ false → IfSome far (λ place. bytes_eq place other ≡ false) → now other ≡ before other

-- The mark is new where nothing stood at either place, and now these bytes stand at both. It is not where something stood at one of them.
-- Nothing that stood there is lost or changed, and nothing elsewhere.
pub record ClaimsFiles {E : Type 0} (far : Option (List ℕ)) (near bytes : List ℕ) (before now : Contents) (result : Result Bool E) : Type 0 where
  pub free : IfOk result (λ new. IsTrue new → IsFree before near × IfSome far (IsFree before))
  pub made : IfOk result (λ new. IsTrue new → (now near ≡ Some bytes) × IfSome far (λ place. now place ≡ Some bytes))
  pub stay : StayBoth far near before now

-- whether something stands at one of the places of a mark
abbrev pub is_marked : (far : Option (List ℕ)) → (near : List ℕ) → Contents → Bool
is_marked None near holds = is_some (holds near)
is_marked (Some far) near holds = is_some (holds far) || is_some (holds near)

-- Both are gone, and all stands as it stood elsewhere.
pub record ReleasesFiles {T E : Type 0} (far : Option (List ℕ)) (near : List ℕ) (before now : Contents) (result : Result T E) : Type 0 where
  pub gone : OnOk result (IsFree now near × IfSome far (IsFree now))
  pub others : (other : List ℕ) → bytes_eq near other ≡ false → IfSome far (λ place. bytes_eq place other ≡ false) → now other ≡ before other

-- Of two claims of one name for one user only the first is new, in whatever folders the files are, as long as what the first made in the folder
-- for all marks stands.
abbrev pub NoCopyServesTwice : Type 0
NoCopyServesTwice = (home name : List ℕ) (beside again bytes text : List ℕ) (before between later now : Contents)
    → ClaimsFiles {E = CallFault} (far_of (Some home) name) (mark_at beside name) bytes before between (Ok true)
    → later (mark_at home name) ≡ between (mark_at home name)
    → ClaimsFiles {E = CallFault} (far_of (Some home) name) (mark_at again name) text later now (Ok true) → ⊥
