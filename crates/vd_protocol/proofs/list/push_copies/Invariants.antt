use Rattle.std.proofs.Common.{◌≡◌, ◌++◌, map}
use Rattle.std.specs.Prelude.{filter, nat_le}
use Rattle.std.specs.List.{range_with_len}
use Rattle.vd_base.specs.declared.protocols.Proto.TheVariants as proto
use Rattle.vd_base.specs.HostSets.{host_set, size}
use Rattle.vd_protocol.proofs.list.push_copies.Given as goal

abbrev pub invariant-loop-bits : goal.invariant-loop-bits
invariant-loop-bits l = l.list ≡ l.initial.list ++ map proto.Rep (filter (λ set. nat_le 2 (size set)) (map host_set (range_with_len 0 l.bits)))
