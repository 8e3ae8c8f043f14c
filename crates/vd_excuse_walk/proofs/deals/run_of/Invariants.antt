use Rattle.std.proofs.Common.{◌≡◌, ◌++◌, drop}
use Rattle.vd_excuse_walk.specs.Files.{dealt_sides}
use Rattle.vd_excuse_walk.proofs.deals.run_of.Given as goal

abbrev pub invariant-loop-host : goal.invariant-loop-host
invariant-loop-host l = l.sides.items ++ dealt_sides l.host l.inputs (drop l.host l.deals) ≡ dealt_sides 0 l.inputs l.deals
