use Rattle.std.proofs.Common.{◌≡◌, ◌++◌, map}
use Rattle.vd_base.specs.declared.protocols.Proto.TheVariants as proto
use Rattle.vd_base.specs.HostSets.{hosts}
use Rattle.vd_protocol.proofs.list.push_local.Given as goal

abbrev pub invariant-loop-host : goal.invariant-loop-host
invariant-loop-host l = l.list ≡ l.initial.list ++ map proto.Local (hosts l.host)
