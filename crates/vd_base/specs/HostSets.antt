-- Hosts, and sets of hosts by the number whose bit h stands for host h.
use Rattle.std.specs.Prelude.{ℕ, ◌==◌, Bool, ◌&&◌, List, map, filter, bit_and, count_ones}
use Rattle.std.specs.Int.{bit_at, bit_not, w8}
use Rattle.std.specs.List.{range_with_len}
use Rattle.vd_base.specs.declared.ids.HostId.{HostId}
use Rattle.vd_base.specs.declared.protocols.HostSet.{HostSet}

abbrev pub host : ℕ → HostId
host h = record { 0 = h }

-- the first n hosts, in order
abbrev pub hosts : ℕ → List HostId
hosts n = map host (range_with_len 0 n)

abbrev pub same_host : HostId → HostId → Bool
same_host a b = a.0 == b.0

abbrev pub host_set : ℕ → HostSet
host_set bits = record { bits = bits }

abbrev pub has_host : HostSet → HostId → Bool
has_host set h = bit_at set.bits h.0 == 1

abbrev pub size : HostSet → ℕ
size set = count_ones set.bits

-- the hosts of a set that are not in another
abbrev pub outside : HostSet → HostSet → HostSet
outside set other = host_set (bit_and set.bits (bit_not w8 other.bits))

-- the set of two hosts
abbrev pub is_pair : HostSet → HostId → HostId → Bool
is_pair set a b = has_host set a && has_host set b && size set == 2

-- its members among the first n hosts, in order
abbrev pub members : ℕ → HostSet → List HostId
members n set = filter (has_host set) (hosts n)
