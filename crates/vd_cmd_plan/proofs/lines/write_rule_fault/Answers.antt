use Rattle.vd_cmd_plan.proofs.lines.write_rule_fault.Goals as goal

pub returns-in-Unknown : goal.returns-in-Unknown
returns-in-Unknown g c = rw c.in-Unknown.is c.write_offset.ensures

pub returns-in-Twice : goal.returns-in-Twice
returns-in-Twice g c = rw c.in-Twice.is c.write_offset-in-Twice.ensures

pub returns-in-Recursive : goal.returns-in-Recursive
returns-in-Recursive g c = rw c.in-Recursive.is c.write_offset-in-Recursive.ensures

pub returns-in-Arity : goal.returns-in-Arity
returns-in-Arity g c = rw c.in-Arity.is c.write_offset-in-Arity.ensures

pub returns-in-Kind : goal.returns-in-Kind
returns-in-Kind g c = rw c.in-Kind.is c.write_offset-in-Kind.ensures

pub returns-in-Memory : goal.returns-in-Memory
returns-in-Memory g c = rw c.in-Memory.is c.write_memory.ensures
