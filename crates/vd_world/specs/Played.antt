-- The worlds that a schedule leads to, of machines and of files.
use Rattle.std.specs.Prelude.{ℕ, List, length}
use Rattle.vd_tape.specs.declared.deal_items.deal.Deal.{Deal}
use Rattle.vd_execution.specs.World.{World}
use Rattle.vd_execution.specs.Joint.{Joint, started}
use Rattle.vd_report.specs.declared.schedule.Schedule.{Schedule}
use Rattle.vd_world.specs.Hosts.{HostKept, supply_of, world_of}
use Rattle.vd_world.specs.Supplies.{supply_of_files}
use Rattle.vd_world.specs.Schedules.{replayed}

-- these hosts after a schedule
abbrev pub followed : List HostKept → Schedule → World
followed hosts schedule = replayed (supply_of hosts) (length hosts) schedule (world_of hosts)

-- the hosts of a joint code after a schedule, with these inputs and deals
abbrev pub played : (inputs : List (List ℕ)) → List Deal → (hosts : ℕ) → Schedule → Joint → World
played inputs deals hosts schedule j = replayed (supply_of_files inputs deals) hosts schedule (started j)
