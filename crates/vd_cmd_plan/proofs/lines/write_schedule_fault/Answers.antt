use Rattle.vd_cmd_plan.proofs.lines.write_schedule_fault.Goals as goal

pub returns-in-Text : goal.returns-in-Text
returns-in-Text g c = rw c.in-Text.is c.write_offset.ensures

pub returns-in-UnknownHost : goal.returns-in-UnknownHost
returns-in-UnknownHost g c = rw c.in-UnknownHost.is c.write_offset-in-UnknownHost.ensures

pub returns-in-Memory : goal.returns-in-Memory
returns-in-Memory g c = rw c.in-Memory.is c.write_memory.ensures
