-- The members of a set of hosts, as a test.
use Rattle.std.specs.Prelude.{ℕ, nat_eq, nat_lt, Bool, ◌&&◌, ◌||◌, if◌then◌else◌}
use Rattle.vd_base.specs.declared.protocols.HostSet.{HostSet}
use Rattle.vd_base.specs.HostSets.{has_host, host}
use Rattle.vd_noninter.specs.declared.reached.Reached.{Reached}
use Rattle.vd_noninter.specs.Reached.{is_marked}

abbrev pub members : HostSet → ℕ → Bool
members set k = has_host set (host k)

-- with one host more, if it is reached
abbrev pub members_with : Bool → ℕ → HostSet → ℕ → Bool
members_with reached number set k = if reached then nat_eq k number || members set k else members set k

-- the first eight hosts whose inputs are reached
abbrev pub reached_hosts : Reached → ℕ → Bool
reached_hosts reached k = nat_lt k 8 && is_marked reached.hosts k
