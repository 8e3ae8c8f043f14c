use Rattle.vd_solver.specs.Reading.{IsIndex}
use Rattle.vd_solver.proofs.readers.readers.Given as goal

abbrev pub invariant-loop-place : goal.invariant-loop-place
invariant-loop-place l = IsIndex l.system l.place l.readers.items
