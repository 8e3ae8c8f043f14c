-- What files hold, from one step of a command to the next.
use Rattle.std.proofs.Common.{◌≡◌, ℕ, IsTrue, List, Ok, Err, subst}
use Rattle.vd_outside.specs.Files.{FilesView, Contents}
use Rattle.vd_cmd_plan.specs.Held.{IsHeld}
use Rattle.vd_cmd_plan.specs.Loads.{Loads}
use Rattle.vd_cmd_plan.specs.Plans.{Plan, ExecutesStep, only, refused}
use Rattle.vd_cmd_plan.specs.declared.status.Status.TheVariants.{Memory}
use Rattle.vd_cmd_plan.proofs.InSteps.{any_memory}

-- what was loaded is what the file holds
pub loaded_is : (name : List ℕ) (limit : ℕ) (before now : FilesView) (bytes seen : List ℕ) (Is : List ℕ → Type 0) → Loads name limit before now (Ok bytes) → seen ≡ bytes → Is seen
    → IsTrue before.told → IsHeld name limit before.contents Is
loaded_is name limit before now bytes seen Is loads same is t = record { bytes = bytes; is_fetched = loads.given t; holds = subst Is same is }

-- after a step the files still tell, and hold what they held
pub step_tells : {T : Type 0} (step : (T → Contents → Plan) → Contents → Plan) (before now : FilesView) (value : T) → ExecutesStep step before now (Ok value) → IsTrue before.told → IsTrue now.told
step_tells {T = T} step before now value e t =
    let rest : T → Contents → Plan = λ v files. only (refused Memory) in
    (e rest now (Err Memory) (any_memory (rest value) now)).still_told t

pub step_keeps : {T : Type 0} (step : (T → Contents → Plan) → Contents → Plan) (before now : FilesView) (value : T) → ExecutesStep step before now (Ok value) → IsTrue before.told → now.contents ≡ before.contents
step_keeps {T = T} step before now value e t =
    let rest : T → Contents → Plan = λ v files. only (refused Memory) in
    (e rest now (Err Memory) (any_memory (rest value) now)).contents t
