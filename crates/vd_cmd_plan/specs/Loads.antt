-- One fetched file.
use Rattle.std.specs.Prelude.{◌≡◌, ◌≤◌, ℕ, IsTrue, List, [], ◌∷◌, ◌++◌, length, Result, Ok, Err, IfOk, IfErr}
use Rattle.vd_outside.specs.Causes.{Rose}
use Rattle.vd_outside.specs.Files.{FilesView, fetched}
use Rattle.vd_outside.specs.declared.files.FilesCall.{FilesCall}
use Rattle.vd_outside.specs.declared.files.FilesCall.TheVariants.{Fetch}
use Rattle.vd_outside.specs.declared.faults.FetchFault.TheVariants as fetch_fault
use Rattle.vd_cmd_plan.specs.declared.status.Status.{Status}
use Rattle.vd_cmd_plan.specs.declared.status.Status.TheVariants.{Memory, ReadFault, TooLong}

-- the call joins those that were asked, unless memory ran out
abbrev pub asked_load : List FilesCall → List ℕ → Result (List ℕ) Status → List FilesCall
asked_load asked name (Ok bytes) = asked ++ Fetch name ∷ []
asked_load asked name (Err Memory) = asked
asked_load asked name (Err status) = asked ++ Fetch name ∷ []

-- a fetch of this name ends a command with these statuses alone
abbrev pub EndsLoad : List ℕ → ℕ → Status → Type 0
EndsLoad name limit Memory = Unit {0}
EndsLoad name limit (ReadFault file) = file ≡ name
EndsLoad name limit (TooLong file most) = (file ≡ name) × (most ≡ limit)
EndsLoad name limit status = ⊥

pub record Loads (name : List ℕ) (limit : ℕ) (before now : FilesView) (result : Result (List ℕ) Status) : Type 0 where
  pub later : before.faults ≤ now.faults
  pub fault : (file : List ℕ) → result ≡ Err (ReadFault file) → Rose before.faults now.faults
  pub short : IfOk result (λ bytes. length bytes ≤ limit)
  pub ends : IfErr result (λ status. EndsLoad name limit status)
  pub still_told : IsTrue before.told → IsTrue now.told
  pub contents : IsTrue before.told → now.contents ≡ before.contents
  pub asked : IsTrue before.told → now.asked ≡ asked_load before.asked name result
  pub given : IsTrue before.told → IfOk result (λ bytes. fetched (before.contents name) limit ≡ Ok bytes)
  pub too_long : IsTrue before.told → (file : List ℕ) (most : ℕ) → result ≡ Err (TooLong file most) → fetched (before.contents name) limit ≡ Err fetch_fault.TooLong
