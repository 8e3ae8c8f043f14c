use Rattle.std.proofs.Common.{◌≡◌, ◌++◌, map}
use Rattle.std.specs.Prelude.{filter}
use Rattle.std.specs.List.{flat_map}
use Rattle.vd_base.specs.HostSets.{host, hosts}
use Rattle.vd_protocol.specs.Pairings.{protocol_of, takes}
use Rattle.vd_protocol.proofs.list.push_pairs.Given as goal

abbrev pub invariant-loop-first : goal.invariant-loop-first
invariant-loop-first l = l.list ≡ l.initial.list ++ flat_map (λ a. map (protocol_of l.pairing a) (filter (takes l.pairing a) (hosts l.hosts))) (hosts l.first)

abbrev pub invariant-loop-second : goal.invariant-loop-second
invariant-loop-second l = l.list ≡ l.initial.list ++ map (protocol_of l.pairing (host l.first)) (filter (takes l.pairing (host l.first)) (hosts l.second))
