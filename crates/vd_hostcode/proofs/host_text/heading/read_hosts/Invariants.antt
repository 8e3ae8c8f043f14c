use Rattle.std.proofs.Common.{◌-◌, ◌≤◌, length}
use Rattle.vd_hostcode.specs.Heading.{hosts_at}
use Rattle.vd_hostcode.proofs.HostSteps.{NamesGoOn}
use Rattle.vd_hostcode.proofs.host_text.heading.read_hosts.Given as goal

abbrev pub invariant-names : goal.invariant-names
invariant-names l = NamesGoOn l.hosts l.cursor (hosts_at l.fn.cursor) × (1 ≤ length l.hosts) × (length l.hosts ≤ 4)

abbrev pub decreases-names : goal.decreases-names
decreases-names l = 4 - length l.hosts
