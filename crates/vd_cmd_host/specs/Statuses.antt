-- The status of the command where a host answers a fault.
use Rattle.std.specs.Prelude.{◌<◌, ℕ, List, length}
use Rattle.vd_host_session.specs.declared.fault.HostFault.{HostFault}
use Rattle.vd_host_session.specs.declared.fault.HostFault.TheVariants as fault
use Rattle.vd_report.specs.ChoiceLines.{host_name}
use Rattle.vd_cmd_plan.specs.declared.status.HostStatus.TheVariants as host_status
use Rattle.vd_cmd_plan.specs.declared.status.Status.{Status}
use Rattle.vd_cmd_plan.specs.declared.status.Status.TheVariants.{Host, Memory, WriteFault}

-- the peer of a fault is one of the hosts
abbrev pub PeersAreNamed : List (List ℕ) → HostFault → Type 0
PeersAreNamed names (fault.Peer peer) = peer.0 < length names
PeersAreNamed names (fault.WrongProgram peer ours theirs) = peer.0 < length names
PeersAreNamed names (fault.EndOfLink peer) = peer.0 < length names
PeersAreNamed names other = Unit {0}

-- the peer goes by its name
abbrev pub status_of : List (List ℕ) → HostFault → Status
status_of names fault.Memory = Memory
status_of names fault.Write = WriteFault
status_of names (fault.Peer peer) = Host (host_status.PeerFault (host_name names peer))
status_of names (fault.BadFrame offset byte) = Host (host_status.BadFrame offset byte)
status_of names (fault.Unequal left right) = Host (host_status.Unequal left right)
status_of names (fault.WrongProgram peer ours theirs) = Host (host_status.WrongProgram (host_name names peer) ours theirs)
status_of names (fault.WrongHost wanted named) = Host (host_status.WrongHost wanted named)
status_of names (fault.ShortInput cursor count) = Host (host_status.ShortInput cursor count)
status_of names (fault.ShortDeal kind cursor count) = Host (host_status.ShortDeal kind cursor count)
status_of names (fault.EndOfLink peer) = Host (host_status.EndOfLink (host_name names peer))
