use Rattle.std.proofs.Common.{◌≡◌, ◌-◌, ◌||◌, not, length, map}
use Rattle.std.specs.List.{list_all, range_with_len}
use Rattle.vd_base.specs.HostSets.{host}
use Rattle.vd_space.specs.Validity.{all_hosts, holds_at, may_read}
use Rattle.vd_cost_network_tables.proofs.points.can_hosts_read.Given as goal

abbrev pub invariant-loop-host : goal.invariant-loop-host
invariant-loop-host l =
    list_all (λ h. not (holds_at l.problem h l.place) || may_read l.problem h l.index.0) (map host (range_with_len l.host (length l.problem.hosts - l.host)))
    ≡ list_all (λ h. not (holds_at l.problem h l.place) || may_read l.problem h l.index.0) (all_hosts l.problem)
