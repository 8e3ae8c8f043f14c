-- A window on sends, and room on the links.
use Rattle.std.specs.Prelude.{◌≡◌, ℕ, suc, ◌≤◌, List, Bool}
use Rattle.vd_execution.specs.Schedule.{run_by, IsStuckBy}
use Rattle.vd_execution.specs.World.{World, Tape, endless}
use Rattle.vd_execution.specs.Joint.{Joint, code_of, fresh, joint, resting, at_end, IsTidy, IsSmooth}
use Rattle.vd_reorder.specs.Hastening.{Piece}
use Rattle.vd_reorder.specs.ReorderLawsPassing.{IsSoundTest, hastened}
use Rattle.vd_reorder.specs.Careful.{hastened_start}
use Rattle.vd_execution.specs.Room.{narrow}

-- all hosts at their start, each with its code hastened by its own test and its own window
abbrev pub begun : Joint → (ℕ → Piece → Piece → Bool) → (ℕ → ℕ) → World
begun j test window = resting (λ h. hastened (test h) (window h) (code_of h j)) fresh

-- Over links that have room for so many packets, each schedule from this world that leaves no host able to step leads to the end of the
-- joint run.
abbrev pub EndsOver : ℕ → Tape → Joint → World → Type 0
EndsOver room t j start = (b : List ℕ) → IsStuckBy (narrow room (endless t)) (run_by (narrow room (endless t)) b start)
    → run_by (narrow room (endless t)) b start ≡ at_end (joint t j fresh)

-- On endless lists room for as many packets as the greatest window is enough, and for one at least,
abbrev pub RoomForTheWindowIsEnough : Type 0
RoomForTheWindowIsEnough = (room : ℕ) (t : Tape) (j : Joint) (test : ℕ → Piece → Piece → Bool) (window : ℕ → ℕ)
    → IsTidy j → IsSmooth t j fresh
    → ((h : ℕ) → IsSoundTest (test h)) → ((h : ℕ) → window h ≤ suc room) → EndsOver (suc room) t j (begun j test window)

-- whatever is to stay in its order at each host.
abbrev pub RoomForCarefulHostsIsEnough : Type 0
RoomForCarefulHostsIsEnough = (room : ℕ) (t : Tape) (j : Joint) (stays : ℕ → Piece → Bool) (window : ℕ → ℕ)
    → IsTidy j → IsSmooth t j fresh
    → ((h : ℕ) → window h ≤ suc room) → EndsOver (suc room) t j (hastened_start j stays window)
