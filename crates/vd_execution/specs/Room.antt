-- Links that have room for so many packets: a host that sends on a full one waits until a packet was taken from it.
use Rattle.std.specs.Prelude.{◌≡◌, ℕ, suc, nat_lt, if◌then◌else◌, Bool, true, List, Option, None, length}
use Rattle.vd_execution.specs.Step.{Deed, Quiet, Said, Heard, Printed, deed}
use Rattle.vd_execution.specs.Schedule.{run_by, effective_by, IsStuckBy, HasDiamond}
use Rattle.vd_execution.specs.World.{World, Supply, Tape, queue, step, endless}
use Rattle.vd_execution.specs.Joint.{Joint, fresh, joint, started, at_end, IsTidy, IsSmooth}

-- what is done next goes on no full link
abbrev pub has_room : ℕ → World → ℕ → Deed → Bool
has_room room w h Quiet = true
has_room room w h (Said p words) = nat_lt (length (queue w h p)) room
has_room room w h (Heard p) = true
has_room room w h (Printed x) = true

-- the world after a step of h over such links, or none where h cannot step
abbrev pub narrow : ℕ → Supply → ℕ → World → Option World
narrow room s h w = if has_room room w h (deed (w h).state) then step s h w else None

-- The steps of two hosts commute there too.
abbrev pub NarrowCommutes : Type 0
NarrowCommutes = (room : ℕ) (s : Supply) → HasDiamond (narrow room s)

-- So all schedules that leave no host able to step end in one world, after equally many steps.
abbrev pub NarrowHasOneEnd : Type 0
NarrowHasOneEnd = (room : ℕ) (s : Supply) (w : World) (a b : List ℕ) → IsStuckBy (narrow room s) (run_by (narrow room s) a w) → IsStuckBy (narrow room s) (run_by (narrow room s) b w)
    → (run_by (narrow room s) b w ≡ run_by (narrow room s) a w) × (effective_by (narrow room s) b w ≡ effective_by (narrow room s) a w)

-- As compiled, on endless lists, room for one packet is enough: each schedule that leaves no host able to step leads to the end of the joint run.
abbrev pub RoomForOneIsEnough : Type 0
RoomForOneIsEnough = (room : ℕ) (t : Tape) (j : Joint) (b : List ℕ) → IsTidy j → IsSmooth t j fresh
    → IsStuckBy (narrow (suc room) (endless t)) (run_by (narrow (suc room) (endless t)) b (started j))
    → run_by (narrow (suc room) (endless t)) b (started j) ≡ at_end (joint t j fresh)
