-- A host that is served: it takes a word from a peer, and another, and compares them.
use Rattle.std.specs.Prelude.{◌<◌, ◌^◌, ℕ, true, false, nat_eq, if◌then◌else◌, List, [], ◌∷◌, ◌++◌, Some, None}
use Rattle.vd_execution.specs.Code.{Code, Finished, Then, Recv}
use Rattle.vd_execution.specs.declared.instructions.Action.TheVariants as action
use Rattle.vd_execution.specs.declared.instructions.Reg.{Reg}
use Rattle.vd_machine.specs.Kept.{at_start}
use Rattle.vd_machine.specs.declared.lists.Lists.{Lists}
use Rattle.vd_link.specs.Frames.{frame}
use Rattle.vd_engine.specs.Drives.{Sessions}
use Rattle.vd_engine.specs.Enough.{IsEnough}

abbrev pub register : ℕ → Reg
register r = record { 0 = r }

abbrev pub comparing : Code
comparing = Recv 0 (register 0 ∷ []) (Recv 0 (register 1 ∷ []) (Then (action.Same (register 0) (register 1)) Finished))

-- these bytes are still to come from host 0, and there is no other host
abbrev pub coming_from_first : List ℕ → Sessions
coming_from_first bytes n =
    if nat_eq n 0 then Some (record { link = record { told = true; coming = bytes; sent = []; ended = false; faults = 0 }; received = 36; failed = false }) else None

-- It has all that it wants where the same word comes twice.
abbrev pub EqualWordsAreEnough : Type 0
EqualWordsAreEnough = (lists : Lists) (word : ℕ) → word < 2 ^ 32
    → IsEnough lists (at_start comparing) (coming_from_first (frame (word ∷ []) ++ frame (word ∷ [])))
