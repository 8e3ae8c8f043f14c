use Rattle.std.proofs.Common.{◌≡◌, [], drop}
use Rattle.vd_resolve.specs.Causes.{hosts_told}
use Rattle.vd_resolve.specs.Rules.{hosts_check}
use Rattle.vd_resolve.specs.Tables.{names}
use Rattle.vd_resolve.proofs.whole.declare_hosts.Given as goal

abbrev pub invariant-loop-host : goal.invariant-loop-host
invariant-loop-host l =
    (hosts_check (names l.principals) (names l.table) (drop l.host-index l.hosts) ≡ hosts_check (names l.principals) [] l.hosts)
    × (hosts_told (names l.principals) l.table (drop l.host-index l.hosts) ≡ hosts_told (names l.principals) ([], []) l.hosts)
