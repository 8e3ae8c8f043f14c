use Rattle.std.proofs.Common.{◌≡◌, map, take}
use Rattle.vd_space_tables.specs.Charges.{telling_of}
use Rattle.vd_space_tables.proofs.tellings.tellings_by_guard.Given as goal

abbrev pub invariant-loop-guard : goal.invariant-loop-guard
invariant-loop-guard l = l.tellings ≡ map (telling_of l.problem) (take l.guard-index l.problem.guards)
