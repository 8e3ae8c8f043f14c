-- What one host does over a net: which calls it makes, in which order, and what came of each.
use Rattle.std.specs.Prelude.{◌≡◌, ◌<◌, ◌+◌, ◌-◌, ℕ, suc, Bool, false, List, [], ◌∷◌, ◌++◌, length, codes, Option, Some, None, Result, Ok, if◌then◌else◌, nat_eq}
use Rattle.vd_base.specs.declared.faults.CallFault.{CallFault}
use Rattle.vd_base.specs.declared.faults.CallFault.TheVariants as call_fault
use Rattle.vd_base.specs.declared.faults.Failed.{Failed}
use Rattle.vd_base.specs.HostSets.{host}
use Rattle.vd_machine.specs.Kept.{Kept, state_of}
use Rattle.vd_outside.specs.Link.{LinkView}
use Rattle.vd_outside.specs.Net.{NetView, Listens, Accepts, Connects, HangsUp}
use Rattle.vd_outside.specs.Sink.{SinkView, WritesAll}
use Rattle.vd_link.specs.Sessions.{Ends, Greets}
use Rattle.vd_link.specs.declared.faults.GreetFault.{GreetFault}
use Rattle.vd_link.specs.declared.faults.GreetFault.TheVariants as greet_fault
use Rattle.vd_engine.specs.Drives.{Drives, Sessions}
use Rattle.vd_engine.specs.Hosts.{next_with, seen_at, wants_with}
use Rattle.vd_engine.specs.declared.engine.Ended.{Ended}
use Rattle.vd_engine.specs.declared.fault.EngineFault.{EngineFault}
use Rattle.vd_engine.specs.declared.fault.EngineFault.TheVariants as engine_fault
use Rattle.vd_host_session.specs.Peers.{Peer, all_later}
use Rattle.vd_host_session.specs.declared.fault.HostFault.{HostFault}
use Rattle.vd_host_session.specs.declared.fault.HostFault.TheVariants as fault
use Rattle.vd_host_session.specs.declared.task.Task.{Task}

-- the net listens for these peers, one after the other
pub data Listened (start : NetView) : List Peer → NetView → Type 0 where
  NoListener : Listened start [] start
  OneListener : (peers : List Peer) (peer : Peer) (number : ℕ) (net now : NetView)
      → Listened start peers net → Listens peer.address net now (Ok number) → Listened start (peers ++ peer ∷ []) now

-- The net gives the link to a peer. The earlier of two hosts accepts it, at the listener for that peer, of which the first
-- has this number; the later one connects.
pub data Gets (first me : ℕ) (peer : Peer) (net now : NetView) (result : Result LinkView CallFault) : Type 0 where
  ByAccept : me < peer.number → Accepts (first + (peer.number - suc me)) net now result → Gets first me peer net now result
  ByConnect : peer.number < me → Connects peer.address net now result → Gets first me peer net now result

abbrev pub ends_with : Task → Peer → Ends
ends_with task peer = record { me = task.me.0; peer = peer.number; plan = task.plan }

-- a link to a peer, as it was given and as the greetings left it
pub record Held : Type 0 where
  pub peer : Peer
  pub given : LinkView
  pub greeted : LinkView

-- the net gives these links, and on each the greetings are exchanged, one after the other
pub data Met (task : Task) (first : ℕ) (start : NetView) : List Held → NetView → Type 0 where
  NoneMet : Met task first start [] start
  OneMet : (all : List Held) (held : Held) (net now : NetView) → Met task first start all net
      → Gets first task.me.0 held.peer net now (Ok held.given) → Greets (ends_with task held.peer) held.given held.greeted (Ok tt)
      → Met task first start (all ++ held ∷ []) now

-- the sessions of these links: of each 36 bytes were received
abbrev pub sessions_with : List Held → Sessions
sessions_with [] number = None
sessions_with (held ∷ more) number =
    if nat_eq held.peer.number number then Some (record { link = held.greeted; received = 36; failed = false }) else sessions_with more number

-- these are the sessions of these links
abbrev pub AreOf : List Held → Sessions → Type 0
AreOf all sessions = (number : ℕ) → sessions number ≡ sessions_with all number

-- the links of the sessions with the first hosts, so many, are handed back one after the other
pub data HandedBack (sessions : Sessions) (start : NetView) : ℕ → NetView → Type 0 where
  NoneBack : HandedBack sessions start 0 start
  NoSession : (count : ℕ) (now : NetView) → HandedBack sessions start count now → sessions count ≡ None → HandedBack sessions start (count + 1) now
  OneBack : (count : ℕ) (link : LinkView) (received : ℕ) (failed : Bool) (net now : NetView) → HandedBack sessions start count net
      → sessions count ≡ Some (record { link = link; received = received; failed = failed }) → HangsUp link net now → HandedBack sessions start (count + 1) now

-- a link is handed back, if there is one
abbrev pub HungUp : Option LinkView → NetView → NetView → Type 0
HungUp None before now = now ≡ before
HungUp (Some link) before now = HangsUp link before now

abbrev pub call_status : Peer → CallFault → HostFault
call_status peer call_fault.Failed = fault.Peer (host peer.number)
call_status peer call_fault.Memory = fault.Memory

abbrev pub greet_status : Peer → GreetFault → HostFault
greet_status peer greet_fault.Peer = fault.Peer (host peer.number)
greet_status peer (greet_fault.BadFrame offset byte) = fault.BadFrame offset byte
greet_status peer (greet_fault.WrongProgram ours theirs) = fault.WrongProgram (host peer.number) ours theirs
greet_status peer (greet_fault.WrongHost wanted named) = fault.WrongHost wanted named
greet_status peer greet_fault.End = fault.EndOfLink (host peer.number)

abbrev pub engine_status : EngineFault → HostFault
engine_status (engine_fault.Peer peer) = fault.Peer peer
engine_status engine_fault.Write = fault.Write
engine_status (engine_fault.BadFrame peer offset byte) = fault.BadFrame offset byte
engine_status (engine_fault.Unequal left right) = fault.Unequal left right
engine_status (engine_fault.ShortInput cursor length) = fault.ShortInput cursor length
engine_status (engine_fault.ShortDeal kind cursor length) = fault.ShortDeal kind cursor length
engine_status (engine_fault.EndOfLink peer) = fault.EndOfLink peer

abbrev pub listening : List ℕ
listening = codes "listening\n"

abbrev pub ended : List ℕ
ended = codes "ended\n"

-- the machine of a host is driven over these sessions
abbrev pub DrivesOver : Kept → Sessions → Sessions → SinkView → SinkView → Result Ended EngineFault → Type 0
DrivesOver machine before now out_before out_now result =
    Drives (wants_with machine.lists) (next_with machine.lists) seen_at (state_of machine) before now out_before out_now result

-- it listens for all later peers, and then says so
pub record Announces (task : Task) (start net : NetView) (out_before out_now : SinkView) (result : Result (Unit {0}) Failed) : Type 0 where
  pub listened : Listened start (all_later task) net
  pub written : WritesAll listening out_before out_now result
