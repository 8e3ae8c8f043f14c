use Rattle.std.proofs.Common.{◌≡◌, drop}
use Rattle.vd_base.specs.Names.{at_name}
use Rattle.vd_base.proofs.sight.find_entry.Given as goal

abbrev pub invariant-loop-entry : goal.invariant-loop-entry
invariant-loop-entry g l = at_name (drop l.entry-index l.entries) l.name ≡ at_name l.entries l.name
