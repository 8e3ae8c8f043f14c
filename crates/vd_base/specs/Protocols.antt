-- The protocols over n hosts, in order.
use Rattle.std.specs.Prelude.{ℕ, ◌^◌, ◌==◌, nat_lt, nat_le, Bool, not, List, ◌++◌, map, filter}
use Rattle.std.specs.List.{range_with_len, flat_map}
use Rattle.vd_base.specs.declared.ids.HostId.{HostId}
use Rattle.vd_base.specs.declared.protocols.HostSet.{HostSet}
use Rattle.vd_base.specs.declared.protocols.Proto.{Proto}
use Rattle.vd_base.specs.declared.protocols.Proto.TheVariants.{Local, Rep, Commit, Add, Xor}
use Rattle.vd_base.specs.HostSets.{host_set, hosts, same_host, size}

-- the sets of two or more of n hosts, by their numbers
abbrev pub groups : ℕ → List HostSet
groups n = filter (λ set. nat_le 2 (size set)) (map host_set (range_with_len 0 (2 ^ n)))

-- a protocol for each two of n hosts that pass the test, by the first host and then by the second
abbrev pub pairs : (HostId → HostId → Bool) → (HostId → HostId → Proto) → ℕ → List Proto
pairs test protocol n = flat_map (λ a. map (protocol a) (filter (test a) (hosts n))) (hosts n)

abbrev pub differ : HostId → HostId → Bool
differ a b = not (same_host a b)

abbrev pub is_earlier : HostId → HostId → Bool
is_earlier a b = nat_lt a.0 b.0

abbrev pub protocols_of : ℕ → List Proto
protocols_of n = map Local (hosts n) ++ map Rep (groups n) ++ pairs differ Commit n ++ pairs is_earlier Add n ++ pairs is_earlier Xor n
