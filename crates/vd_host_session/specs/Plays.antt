-- What becomes of a host over a net.
use Rattle.std.specs.Prelude.{◌≡◌, ◌<◌, ◌+◌, ℕ, length, Result, Ok, Err}
use Rattle.vd_base.specs.declared.faults.CallFault.{CallFault}
use Rattle.vd_base.specs.declared.faults.Failed.{Failed}
use Rattle.vd_machine.specs.Kept.{Kept}
use Rattle.vd_outside.specs.Link.{LinkView}
use Rattle.vd_outside.specs.Net.{NetView, Listens, HangsUp}
use Rattle.vd_outside.specs.Sink.{SinkView, WritesAll}
use Rattle.vd_link.specs.Sessions.{Greets}
use Rattle.vd_link.specs.declared.faults.GreetFault.{GreetFault}
use Rattle.vd_engine.specs.Drives.{Sessions}
use Rattle.vd_engine.specs.declared.engine.Ended.{Ended}
use Rattle.vd_engine.specs.declared.fault.EngineFault.{EngineFault}
use Rattle.vd_host_session.specs.Histories.{Announces, DrivesOver, Gets, HandedBack, Listened, call_status, ended, ends_with, engine_status, greet_status}
use Rattle.vd_host_session.specs.Peers.{first_later, peer_at}
use Rattle.vd_host_session.specs.Stages.{AreMet}
use Rattle.vd_host_session.specs.declared.fault.HostFault.{HostFault}
use Rattle.vd_host_session.specs.declared.fault.HostFault.TheVariants as fault
use Rattle.vd_host_session.specs.declared.task.Task.{Task}

-- it announces itself, and then meets the first of its peers, so many
pub record Meets (task : Task) (start now : NetView) (out_before out_now : SinkView) (count : ℕ) (sessions : Sessions) : Type 0 where
  pub net : NetView
  pub announced : Announces task start net out_before out_now (Ok tt)
  pub first : ℕ
  pub first_is : task.me.0 < length task.addresses → first ≡ start.given
  pub met : AreMet task first count net now sessions

-- the machine is driven over these sessions, and its end is told
pub data DrivesAndTells (machine : Kept) (before now : Sessions) (out_before out_now : SinkView) : Result Ended HostFault → Type 0 where
  Told : (out : SinkView) (done : Ended) → DrivesOver machine before now out_before out (Ok done) → WritesAll {E = Failed} ended out out_now (Ok tt)
      → DrivesAndTells machine before now out_before out_now (Ok done)
  Untold : (out : SinkView) (done : Ended) (failed : Failed) → DrivesOver machine before now out_before out (Ok done) → WritesAll {E = Failed} ended out out_now (Err failed)
      → DrivesAndTells machine before now out_before out_now (Err fault.Write)
  Stopped : (cause : EngineFault) → DrivesOver machine before now out_before out_now (Err cause) → DrivesAndTells machine before now out_before out_now (Err (engine_status cause))

-- What becomes of a host. Whatever it is, each link that was given is handed back, in the order of the peers.
pub data Plays (machine : Kept) (task : Task) (start end : NetView) (out_before out_now : SinkView) : Result Ended HostFault → Type 0 where
  -- the net does not listen for a later peer
  NotListening : (count : ℕ) (net : NetView) (cause : CallFault) → task.me.0 + count < length task.addresses → Listened start (first_later task count) net
      → Listens (peer_at task (task.me.0 + count)).address net end (Err cause) → out_now ≡ out_before
      → Plays machine task start end out_before out_now (Err (call_status (peer_at task (task.me.0 + count)) cause))
  NotAnnounced : (failed : Failed) → Announces task start end out_before out_now (Err failed) → Plays machine task start end out_before out_now (Err fault.Write)
  -- no link to a peer is given
  NotGiven : (count : ℕ) (sessions : Sessions) (met net : NetView) (cause : CallFault) → (meets : Meets task start met out_before out_now count sessions)
      → count < length task.addresses → Gets meets.first task.me.0 (peer_at task count) met net (Err cause) → HandedBack sessions net 4 end
      → Plays machine task start end out_before out_now (Err (call_status (peer_at task count) cause))
  -- there is no memory for its session
  NoRoom : (count : ℕ) (sessions : Sessions) (met net back : NetView) (given : LinkView) → (meets : Meets task start met out_before out_now count sessions)
      → count < length task.addresses → Gets meets.first task.me.0 (peer_at task count) met net (Ok given) → HandedBack sessions net 4 back → HangsUp given back end
      → Plays machine task start end out_before out_now (Err fault.Memory)
  -- it does not greet as it should
  NotGreeted : (count : ℕ) (sessions : Sessions) (met net back : NetView) (given link : LinkView) (refusal : GreetFault) → (meets : Meets task start met out_before out_now count sessions)
      → count < length task.addresses → Gets meets.first task.me.0 (peer_at task count) met net (Ok given) → Greets (ends_with task (peer_at task count)) given link (Err refusal)
      → HandedBack sessions net 4 back → HangsUp link back end
      → Plays machine task start end out_before out_now (Err (greet_status (peer_at task count) refusal))
  -- all peers are met, and the machine is driven
  Driven : (sessions later : Sessions) (met : NetView) (out : SinkView) (result : Result Ended HostFault) → Meets task start met out_before out (length task.addresses) sessions
      → DrivesAndTells machine sessions later out out_now result → HandedBack later met 4 end → Plays machine task start end out_before out_now result
