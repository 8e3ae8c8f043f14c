use Rattle.std.proofs.Common.{◌≡◌, drop}
use Rattle.vd_excuse.specs.Reading.{nothing_read, read}
use Rattle.vd_excuse.proofs.equivocation_steps.steps.read_all.Given as goal

abbrev pub invariant-loop-at : goal.invariant-loop-at
invariant-loop-at l = read (drop l.at l.lines) l.reader ≡ read l.lines nothing_read
