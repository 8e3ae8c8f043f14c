-- The stages of a host over a net.
use Rattle.std.specs.Prelude.{◌≡◌, ◌≢◌, ◌<◌, ◌≤◌, ◌+◌, ◌-◌, ℕ, IsSome, List, length, map, Result, Ok, Err, Option, Some, None, false}
use Rattle.vd_base.specs.declared.faults.CallFault.{CallFault}
use Rattle.vd_outside.specs.Link.{LinkView}
use Rattle.vd_outside.specs.Net.{NetView, Listens}
use Rattle.vd_link.specs.Sessions.{Greets}
use Rattle.vd_link.specs.declared.faults.GreetFault.{GreetFault}
use Rattle.vd_engine.specs.Drives.{Sessions}
use Rattle.vd_host_session.specs.Histories.{AreOf, Gets, Held, Listened, Met, call_status, ends_with, greet_status}
use Rattle.vd_host_session.specs.Peers.{all_later, first_later, first_peers, number_at, peer_at}
use Rattle.vd_host_session.specs.declared.fault.HostFault.{HostFault}
use Rattle.vd_host_session.specs.declared.fault.HostFault.TheVariants as fault
use Rattle.vd_host_session.specs.declared.task.Task.{Task}

-- a later peer for whom the net does not listen
pub record Unheard (task : Task) (start now : NetView) (fault : HostFault) : Type 0 where
  pub count : ℕ
  pub there : task.me.0 + count < length task.addresses
  pub net : NetView
  pub cause : CallFault
  pub before : Listened start (first_later task count) net
  pub call : Listens (peer_at task (task.me.0 + count)).address net now (Err cause)
  pub told : fault ≡ call_status (peer_at task (task.me.0 + count)) cause

-- the net listens for all later peers; the first of the listeners has the next number
pub record HasListened (task : Task) (start now : NetView) (first : ℕ) : Type 0 where
  pub listened : Listened start (all_later task) now
  pub first_is : task.me.0 < length task.addresses → first ≡ start.given
  pub low : first ≤ start.given
  pub given : start.given + (length task.addresses - task.me.0) ≡ now.given

abbrev pub ListensAll : Task → NetView → NetView → Result ℕ HostFault → Type 0
ListensAll task start now (Ok first) = HasListened task start now first
ListensAll task start now (Err fault) = Unheard task start now fault

-- each later peer has a listener, of which the first has this number
abbrev pub HasListeners : Task → ℕ → NetView → Type 0
HasListeners task first net = task.me.0 < length task.addresses → first + (length task.addresses - task.me.0) ≤ net.given

-- at most three peers, each later one with a listener, and numbers left for all of these
pub record CanMeet (task : Task) (first : ℕ) (net : NetView) : Type 0 where
  pub few : length task.addresses ≤ 3
  pub room : first ≤ 4294967000
  pub listeners : HasListeners task first net

-- at most three peers, and the host itself is among them or behind them
pub record IsOfFewHosts (task : Task) : Type 0 where
  pub few : length task.addresses ≤ 3
  pub own : task.me.0 ≤ length task.addresses

-- why the peer at a place was not met, and its link as it is then, where one was given
pub data Fails (task : Task) (first place : ℕ) (before now : NetView) : HostFault → Option LinkView → Type 0 where
  NoLink : (cause : CallFault) → Gets first task.me.0 (peer_at task place) before now (Err cause) → Fails task first place before now (call_status (peer_at task place) cause) None
  NoMemory : (given : LinkView) → Gets first task.me.0 (peer_at task place) before now (Ok given) → Fails task first place before now fault.Memory (Some given)
  NoGreeting : (given link : LinkView) (refusal : GreetFault) → Gets first task.me.0 (peer_at task place) before now (Ok given)
      → Greets (ends_with task (peer_at task place)) given link (Err refusal) → Fails task first place before now (greet_status (peer_at task place) refusal) (Some link)

-- the peer at a place is met: it has a session, and the others are as they were
pub record MetOne (task : Task) (first place : ℕ) (before now : NetView) (sessions later : Sessions) : Type 0 where
  pub given : LinkView
  pub greeted : LinkView
  pub gets : Gets first task.me.0 (peer_at task place) before now (Ok given)
  pub greets : Greets (ends_with task (peer_at task place)) given greeted (Ok tt)
  pub added : later (number_at task.me.0 place) ≡ Some (record { link = greeted; received = 36; failed = false })
  pub others : (other : ℕ) → other ≢ number_at task.me.0 place → later other ≡ sessions other

-- the first peers, so many, are met, and nobody else
pub record AreMet (task : Task) (first count : ℕ) (start now : NetView) (sessions : Sessions) : Type 0 where
  pub all : List Held
  pub peers : map (λ held. held.peer) all ≡ first_peers task count
  pub met : Met task first start all now
  pub are : AreOf all sessions
  pub stand : (place : ℕ) → place < count → IsSome (sessions (number_at task.me.0 place))
  pub later : (place : ℕ) → count ≤ place → sessions (number_at task.me.0 place) ≡ None
  pub own : sessions task.me.0 ≡ None
