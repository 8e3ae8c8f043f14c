use Rattle.std.proofs.Common.{◌≡◌, ◌-◌, length, map}
use Rattle.std.specs.List.{list_all, range_with_len}
use Rattle.vd_base.specs.HostSets.{host}
use Rattle.vd_space.specs.Validity.{holder_told, all_hosts}
use Rattle.vd_space.proofs.validity.are_holders_told.Given as goal

abbrev pub invariant-loop-host : goal.invariant-loop-host
invariant-loop-host l =
    list_all (holder_told l.problem l.prefix l.slot l.place) (map host (range_with_len l.host (length l.problem.hosts - l.host)))
    ≡ list_all (holder_told l.problem l.prefix l.slot l.place) (all_hosts l.problem)
