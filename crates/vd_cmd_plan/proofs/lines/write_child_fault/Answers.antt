use Rattle.vd_cmd_plan.proofs.lines.write_child_fault.Goals as goal

pub returns-in-Memory : goal.returns-in-Memory
returns-in-Memory g c = rw c.in-Memory.is c.write_memory.ensures

pub returns-in-Failed : goal.returns-in-Failed
returns-in-Failed g c = rw c.in-Failed.is c.write_child.ensures

pub returns-in-Line : goal.returns-in-Line
returns-in-Line g c = rw c.in-Line.is c.write_child-in-Line.ensures

pub returns-in-Status : goal.returns-in-Status
returns-in-Status g c = rw (c.in-Status.is, ← c.format.ensures.text, ← c.as_bytes-number.ensures.value) c.write_child-in-Status.ensures
