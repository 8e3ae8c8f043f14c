use Rattle.vd_cmd_plan.proofs.lines.write_syntax_fault.Goals as goal

pub returns-in-BadByte : goal.returns-in-BadByte
returns-in-BadByte g c = rw c.in-BadByte.is c.write_offset.ensures

pub returns-in-Unexpected : goal.returns-in-Unexpected
returns-in-Unexpected g c = rw c.in-Unexpected.is c.write_offset-in-Unexpected.ensures

pub returns-in-TooDeep : goal.returns-in-TooDeep
returns-in-TooDeep g c = rw c.in-TooDeep.is c.write_offset-in-TooDeep.ensures

pub returns-in-TooLong : goal.returns-in-TooLong
returns-in-TooLong g c = rw c.in-TooLong.is c.write_parts.ensures

pub returns-in-Memory : goal.returns-in-Memory
returns-in-Memory g c = rw c.in-Memory.is c.write_memory.ensures
