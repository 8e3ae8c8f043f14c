-- A world that is run over a schedule.
use Rattle.std.specs.Prelude.{ℕ, List, map, if◌then◌else◌}
use Rattle.vd_base.specs.declared.ids.HostId.{HostId}
use Rattle.vd_execution.specs.World.{World, Supply, run}
use Rattle.vd_execution.specs.Claims.{then_all}
use Rattle.vd_report.specs.declared.schedule.Schedule.{Schedule}

-- the hosts of the entries, by number
abbrev pub numbers : List HostId → List ℕ
numbers entries = map (λ h. h.0) entries

-- the entries in turn, and then, where the schedule ends with `all`, rounds over n hosts until none can step
abbrev pub replayed : Supply → ℕ → Schedule → World → World
replayed s n schedule w =
    if schedule.all then then_all s n (run s (numbers schedule.entries) w) else run s (numbers schedule.entries) w
