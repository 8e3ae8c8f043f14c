use Rattle.std.proofs.Common.{◌≡◌, take, None}
use Rattle.vd_base.specs.Names.{at_name}
use Rattle.vd_base.proofs.sight.replace_entry.Given as goal

abbrev pub invariant-loop-i : goal.invariant-loop-i
invariant-loop-i g l = (at_name (take l.i l.entries.items) l.name ≡ None) × (l.entries ≡ l.initial.entries)
