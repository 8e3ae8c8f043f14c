use Rattle.vd_cmd_plan.proofs.host_lines.write_host_status.Goals as goal

pub returns-in-ProgramText : goal.returns-in-ProgramText
returns-in-ProgramText g c = rw c.in-ProgramText.is c.write_offset.ensures

pub returns-in-ProgramRange : goal.returns-in-ProgramRange
returns-in-ProgramRange g c = rw c.in-ProgramRange.is c.write_offset-in-ProgramRange.ensures

pub returns-in-PeerFault : goal.returns-in-PeerFault
returns-in-PeerFault g c = rw (c.in-PeerFault.is, ← c.as_slice.ensures) c.write_name.ensures

pub returns-in-Unequal : goal.returns-in-Unequal
returns-in-Unequal g c = rw (c.in-Unequal.is, ← c.from.ensures, ← c.from-in-Unequal.ensures) c.write_two.ensures

pub returns-in-WrongProgram : goal.returns-in-WrongProgram
returns-in-WrongProgram g c = rw c.in-WrongProgram.is c.write_parts.ensures

pub returns-in-WrongHost : goal.returns-in-WrongHost
returns-in-WrongHost g c = rw (c.in-WrongHost.is, ← c.from-in-WrongHost.ensures, ← c.from-in-WrongHost-2.ensures) c.write_two-in-WrongHost.ensures

pub returns-in-ShortInput : goal.returns-in-ShortInput
returns-in-ShortInput g c = rw c.in-ShortInput.is c.write_two-in-ShortInput.ensures
