use Rattle.std.proofs.Common.{◌≡◌}
use Rattle.std.specs.Prelude.{filter}
use Rattle.vd_base.specs.HostSets.{has_host, hosts}
use Rattle.vd_base.proofs.protocols.HostSet.members.Given as goal

abbrev pub invariant-loop-number : goal.invariant-loop-number
invariant-loop-number l = l.hosts ≡ filter (has_host l.self) (hosts l.number)
