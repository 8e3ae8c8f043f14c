-- What holds whatever becomes of a host over a net.
use Rattle.std.specs.Prelude.{◌≡◌, ◌≤◌, ◌+◌, ◌-◌, ◌++◌, ℕ, suc, IsTrue, List, map, length, Result, Err, OnOk, if◌then◌else◌, nat_lt}
use Rattle.vd_machine.specs.Kept.{Kept}
use Rattle.vd_outside.specs.Causes.{Rose}
use Rattle.vd_outside.specs.Link.{LinkView}
use Rattle.vd_outside.specs.Net.{NetView}
use Rattle.vd_outside.specs.Sink.{SinkView}
use Rattle.vd_outside.specs.declared.net.NetCall.{NetCall}
use Rattle.vd_outside.specs.declared.net.NetCall.TheVariants.{Listen, Accept, Connect}
use Rattle.vd_engine.specs.declared.engine.Ended.{Ended}
use Rattle.vd_host_session.specs.Peers.{Peer, all_later, all_peers}
use Rattle.vd_host_session.specs.Plays.{Plays}
use Rattle.vd_host_session.specs.declared.fault.HostFault.{HostFault}
use Rattle.vd_host_session.specs.declared.fault.HostFault.TheVariants as fault
use Rattle.vd_host_session.specs.declared.task.Task.{Task}

-- the call that listens for a peer, and the one that gets the link to it, where the first listener has this number
abbrev pub listen_for : Peer → NetCall
listen_for peer = Listen peer.address

abbrev pub link_with : (first me : ℕ) → Peer → NetCall
link_with first me peer = if nat_lt me peer.number then Accept (first + (peer.number - suc me)) else Connect peer.address

-- the calls of a host, where its first listener has this number: it listens for each later peer, and then gets the link to
-- each peer, in their order
abbrev pub calls_of : Task → ℕ → List NetCall
calls_of task first = map listen_for (all_later task) ++ map (link_with first task.me.0) (all_peers task)

-- the calls that were asked grew by a prefix of these
abbrev pub AsksFrontOf : List NetCall → NetView → NetView → Type 0
AsksFrontOf calls start end = (rest : List NetCall) × (end.asked ++ rest ≡ start.asked ++ calls)

-- A net that tells its calls was asked for a prefix of those of the host, and for all of them where the host ran to its end.
abbrev pub HostsAskInOrder : Type 0
HostsAskInOrder = (machine : Kept) (task : Task) (start end : NetView) (out_before out_now : SinkView) (result : Result Ended HostFault)
    → Plays machine task start end out_before out_now result → IsTrue start.told
    → AsksFrontOf (calls_of task start.given) start end × OnOk result (end.asked ≡ start.asked ++ calls_of task start.given)

-- a count of the net or of the sink rose, where the fault is one of them
abbrev pub HasCause : NetView → NetView → SinkView → SinkView → Result Ended HostFault → Type 0
HasCause start end out_before out_now (Err (fault.Peer peer)) = Rose start.faults end.faults
HasCause start end out_before out_now (Err fault.Write) = Rose out_before.faults out_now.faults
HasCause start end out_before out_now other = Unit {0}

-- A fault of a peer is answered only where the count of the net rose, and one of the output only where that of the sink did.
abbrev pub FaultsHaveCauses : Type 0
FaultsHaveCauses = (machine : Kept) (task : Task) (start end : NetView) (out_before out_now : SinkView) (result : Result Ended HostFault)
    → length task.addresses ≤ 3 → task.me.0 ≤ length task.addresses → Plays machine task start end out_before out_now result → HasCause start end out_before out_now result

-- Of a net that tells them: these links came back, and they are as many as were given.
pub record ComesBack (start end : NetView) : Type 0 where
  pub handed : List LinkView
  pub back : end.back ≡ start.back ++ handed
  pub counted : end.links ≡ start.links + length handed

-- Whatever becomes of a host, each link that it was given comes back.
abbrev pub LinksComeBack : Type 0
LinksComeBack = (machine : Kept) (task : Task) (start end : NetView) (out_before out_now : SinkView) (result : Result Ended HostFault)
    → length task.addresses ≤ 3 → task.me.0 ≤ length task.addresses → Plays machine task start end out_before out_now result
    → IsTrue start.told → length start.back ≤ start.links → ComesBack start end

-- Whatever becomes of a host, the limit of its waits stays.
abbrev pub LimitsStay : Type 0
LimitsStay = (machine : Kept) (task : Task) (start end : NetView) (out_before out_now : SinkView) (result : Result Ended HostFault)
    → Plays machine task start end out_before out_now result → end.limit ≡ start.limit
