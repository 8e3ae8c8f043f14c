-- What the files of a command hold.
use Rattle.std.specs.Prelude.{◌≡◌, ℕ, IsTrue, List, Result, Ok, IfOk}
use Rattle.vd_outside.specs.Files.{FilesView, Contents, fetched}
use Rattle.vd_cmd_plan.specs.declared.status.Status.{Status}

-- a file of this name, of at most so many bytes, holds what is said
pub record IsHeld (name : List ℕ) (limit : ℕ) (contents : Contents) (Is : List ℕ → Type 0) : Type 0 where
  pub bytes : List ℕ
  pub is_fetched : fetched (contents name) limit ≡ Ok bytes
  pub holds : Is bytes

-- where the files tell, a value is what their contents say
abbrev pub Finds : {T : Type 0} → FilesView → Result T Status → (Contents → T → Type 0) → Type 0
Finds before result Says = IsTrue before.told → IfOk result (λ value. Says before.contents value)
