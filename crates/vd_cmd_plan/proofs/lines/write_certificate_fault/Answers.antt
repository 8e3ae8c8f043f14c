use Rattle.vd_cmd_plan.proofs.lines.write_certificate_fault.Goals as goal

pub returns-in-BadShift : goal.returns-in-BadShift
returns-in-BadShift g c = rw c.in-BadShift.is c.write_offset.ensures

pub returns-in-Shape : goal.returns-in-Shape
returns-in-Shape g c = rw c.in-Shape.is c.write_offset-in-Shape.ensures

pub returns-in-BestInvalid : goal.returns-in-BestInvalid
returns-in-BestInvalid g c = rw c.in-BestInvalid.is c.write_parts.ensures

pub returns-in-NotViolated : goal.returns-in-NotViolated
returns-in-NotViolated g c = rw c.in-NotViolated.is c.write_offset-in-NotViolated.ensures

pub returns-in-Memory : goal.returns-in-Memory
returns-in-Memory g c = rw c.in-Memory.is c.write_memory.ensures
