use Rattle.std.proofs.Common.{◌≡◌, drop}
use Rattle.vd_fakes.specs.MemDirectory.{held_by}
use Rattle.vd_fakes.proofs.mem_directory.is_held.Given as goal

abbrev pub invariant-loop-entry : goal.invariant-loop-entry
invariant-loop-entry l = held_by (drop l.entry-index l.entries) l.name ≡ held_by l.entries l.name
