-- The peer that a fault names is one of the hosts.
use Rattle.std.proofs.Common.{arith, ◌≡◌, ◌<◌, ◌≤◌, ◌+◌, ⊎_elim, ℕ, zero, suc, List, length, Option, Some, None, Result, Ok, Err, subst}
use Rattle.vd_base.specs.declared.faults.CallFault.{CallFault}
use Rattle.vd_base.specs.declared.faults.CallFault.TheVariants as call_fault
use Rattle.vd_machine.specs.Kept.{Kept}
use Rattle.vd_outside.specs.Net.{NetView}
use Rattle.vd_outside.specs.Sink.{SinkView}
use Rattle.vd_link.specs.declared.faults.GreetFault.{GreetFault}
use Rattle.vd_link.specs.declared.faults.GreetFault.TheVariants as greet_fault
use Rattle.vd_engine.specs.Drives.{At, EndsAt, FailsAt, SessionView, Sessions}
use Rattle.vd_engine.specs.Hosts.{seen_at, wants_with}
use Rattle.vd_engine.specs.declared.engine.Ended.{Ended}
use Rattle.vd_engine.specs.declared.fault.EngineFault.{EngineFault}
use Rattle.vd_engine.specs.declared.fault.EngineFault.TheVariants as engine_fault
use Rattle.vd_host_session.specs.Histories.{DrivesOver, call_status, engine_status, greet_status}
use Rattle.vd_host_session.specs.Peers.{Peer, number_at, peer_at}
use Rattle.vd_host_session.specs.Plays.{Driven, DrivesAndTells, NoRoom, NotAnnounced, NotGiven, NotGreeted, NotListening, Plays, Stopped, Told, Untold}
use Rattle.vd_host_session.specs.Stages.{AreMet}
use Rattle.vd_host_session.specs.declared.fault.HostFault.{HostFault}
use Rattle.vd_host_session.specs.declared.task.Task.{Task}
use Rattle.vd_host_session.proofs.Front.{earlier_number, later_number, less_or_least}
use Rattle.vd_cmd_host.specs.Statuses.{PeersAreNamed}

abbrev IsNamed : List (List ℕ) → Result Ended HostFault → Type 0
IsNamed names (Ok done) = Unit {0}
IsNamed names (Err cause) = PeersAreNamed names cause

-- the number of a peer is that of a host
peer_small : (task : Task) (place : ℕ) → place < length task.addresses → number_at task.me.0 place < length task.addresses + 1
peer_small task place there =
    ⊎_elim (λ (less : place < task.me.0). let is = earlier_number task.me.0 place less in omega (arith, is, there))
    (λ (least : task.me.0 ≤ place). let is = later_number task.me.0 place least in omega (arith, is, there))
    (less_or_least place task.me.0)

-- no session is with a host of another number
none_beyond : (task : Task) (first : ℕ) (start now : NetView) (sessions : Sessions) (host : ℕ) → task.me.0 ≤ length task.addresses → length task.addresses + 1 ≤ host
    → AreMet task first (length task.addresses) start now sessions → sessions host ≡ None
none_beyond task first start now sessions zero own far m = absurd (omega (arith, far))
none_beyond task first start now sessions (suc place) own far m =
    subst (λ (n : ℕ). sessions n ≡ None) (later_number task.me.0 place (omega (arith, own, far))) (m.later place (omega (arith, far)))

by_call : (names : List (List ℕ)) (peer : Peer) (cause : CallFault) → peer.number < length names → PeersAreNamed names (call_status peer cause)
by_call names peer call_fault.Failed small = small
by_call names peer call_fault.Memory small = tt

by_greeting : (names : List (List ℕ)) (peer : Peer) (refusal : GreetFault) → peer.number < length names → PeersAreNamed names (greet_status peer refusal)
by_greeting names peer greet_fault.Peer small = small
by_greeting names peer (greet_fault.BadFrame offset byte) small = tt
by_greeting names peer (greet_fault.WrongProgram ours theirs) small = small
by_greeting names peer (greet_fault.WrongHost wanted named) small = tt
by_greeting names peer greet_fault.End small = small

stands_before : (holds : SessionView → SessionView → Type 0) (before now : Option SessionView) → At holds before now → before ≡ None → ⊥
stands_before holds None now at none = at
stands_before holds (Some before) now at none = cc

below_all : (names : List (List ℕ)) (host : ℕ) → (length names ≤ host → ⊥) → host < length names
below_all names host out = ⊎_elim (λ (less : host < length names). less) (λ (far : length names ≤ host). absurd (out far)) (less_or_least host (length names))

by_engine : (names : List (List ℕ)) (machine : Kept) (before now : Sessions) (ob on : SinkView) (cause : EngineFault) → ((host : ℕ) → length names ≤ host → before host ≡ None)
    → DrivesOver machine before now ob on (Err cause) → PeersAreNamed names (engine_status cause)
by_engine names machine before now ob on (engine_fault.Peer peer) none drives =
    below_all names peer.0 (λ far. stands_before (FailsAt peer.0 drives.events (wants_with machine.lists drives.machine) (seen_at drives.machine)) (before peer.0) (now peer.0) drives.driven.0 (none peer.0 far))
by_engine names machine before now ob on engine_fault.Write none drives = tt
by_engine names machine before now ob on (engine_fault.BadFrame peer offset byte) none drives = tt
by_engine names machine before now ob on (engine_fault.Unequal left right) none drives = tt
by_engine names machine before now ob on (engine_fault.ShortInput cursor count) none drives = tt
by_engine names machine before now ob on (engine_fault.ShortDeal kind cursor count) none drives = tt
by_engine names machine before now ob on (engine_fault.EndOfLink peer) none drives =
    below_all names peer.0 (λ far. stands_before (EndsAt peer.0 drives.events (wants_with machine.lists drives.machine)) (before peer.0) (now peer.0) drives.driven.0 (none peer.0 far))

by_driving : (names : List (List ℕ)) (machine : Kept) (before now : Sessions) (ob on : SinkView) → ((host : ℕ) → length names ≤ host → before host ≡ None)
    → {result : Result Ended HostFault} → DrivesAndTells machine before now ob on result → IsNamed names result
by_driving names machine before now ob on none (Told mid done drives written) = tt
by_driving names machine before now ob on none (Untold mid done failed drives written) = tt
by_driving names machine before now ob on none (Stopped cause drives) = by_engine names machine before now ob on cause none drives

-- whatever becomes of a host, its fault names one of the hosts
pub names_a_host : (names : List (List ℕ)) (machine : Kept) (task : Task) (start end : NetView) (ob on : SinkView) (result : Result Ended HostFault) → task.me.0 ≤ length task.addresses
    → length task.addresses + 1 ≡ length names → Plays machine task start end ob on result → IsNamed names result
names_a_host names machine task start end ob on result own long plays = by plays
  where
    small : (place : ℕ) → place < length task.addresses → number_at task.me.0 place < length names
    small place there = let less = peer_small task place there in omega (arith, less, long)

    by : {result : Result Ended HostFault} → Plays machine task start end ob on result → IsNamed names result
    by (NotListening count net cause there listened call same) = by_call names (peer_at task (task.me.0 + count)) cause (small (task.me.0 + count) there)
    by (NotAnnounced failed announces) = tt
    by (NotGiven count sessions met net cause meets there gets back) = by_call names (peer_at task count) cause (small count there)
    by (NoRoom count sessions met net back given meets there gets handed hung) = tt
    by (NotGreeted count sessions met net back given link refusal meets there gets greets handed hung) = by_greeting names (peer_at task count) refusal (small count there)
    by (Driven sessions later met out result meets drives back) =
        by_driving names machine sessions later out on (λ host far. none_beyond task meets.first meets.net met sessions host own (omega (arith, far, long)) meets.met) drives
