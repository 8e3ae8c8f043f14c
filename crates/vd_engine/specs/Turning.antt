-- One turn of what is driven.
use Rattle.std.specs.Prelude.{◌≡◌, ◌≢◌, ◌+◌, ◌*◌, ℕ, true, false, List, [], ◌++◌, length, Result, Ok, Err, OnOk, OnErr}
use Rattle.vd_base.specs.declared.ids.HostId.{HostId}
use Rattle.vd_base.specs.declared.packet.Packet.{Packet}
use Rattle.vd_execution.specs.Step.{Deed}
use Rattle.vd_machine.specs.Dids.{deed_of_did}
use Rattle.vd_machine.specs.Kept.{Kept, state_of}
use Rattle.vd_machine.specs.declared.did.Did.{Did}
use Rattle.vd_machine.specs.declared.want.Want.{Want}
use Rattle.vd_machine.specs.declared.want.Want.TheVariants as want
use Rattle.vd_outside.specs.Link.{LinkView, SendsAll}
use Rattle.vd_outside.specs.Sink.{SinkView}
use Rattle.vd_link.specs.Frames.{frame}
use Rattle.vd_link.specs.Sessions.{Takes, offset_after}
use Rattle.vd_link.specs.declared.faults.LinkFault.{LinkFault}
use Rattle.vd_link.specs.declared.faults.LinkFault.TheVariants as link_fault
use Rattle.vd_engine.specs.Drives.{At, CarriesAll, IsDriven, SessionView, Sessions, Writes, sessions_of}
use Rattle.vd_engine.specs.Events.{IsHeard, received_in, shown, printed}
use Rattle.vd_engine.specs.Hosts.{next_with, seen_at, wants_with}
use Rattle.vd_engine.specs.declared.engine.Turn.{Turn}
use Rattle.vd_engine.specs.declared.engine.Turn.TheVariants as turn
use Rattle.vd_engine.specs.declared.fault.EngineFault.{EngineFault}
use Rattle.vd_engine.specs.declared.fault.EngineFault.TheVariants as fault
use Rattle.vd_engine.specs.declared.links.Links.{Links}

-- a packet of so many words is received over a session
abbrev pub HearsOver : ℕ → Result Packet LinkFault → SessionView → SessionView → Type 0
HearsOver count result before now =
    Takes count before.received before.link now.link result
    × OnOk result ((now.received ≡ offset_after before.received (2 + 4 * count)) × (now.failed ≡ false))
    × OnErr result (now.failed ≡ true)

-- a packet of these words is sent
abbrev pub SaysOver : {E : Type 0} → List ℕ → Result (Unit {0}) E → SessionView → SessionView → Type 0
SaysOver words result before now =
    SendsAll (frame words) before.link now.link result
    × OnOk result ((now.received ≡ before.received) × (now.failed ≡ false))
    × OnErr result (now.failed ≡ true)

-- one packet is received from this host, and nothing happens to others
pub record Hears (host count : ℕ) (before now : Sessions) (result : Result Packet LinkFault) : Type 0 where
  pub others : (other : ℕ) → other ≢ host → now other ≡ before other
  pub at : At (HearsOver count result) (before host) (now host)

-- one packet is sent to this host
pub record Says {E : Type 0} (host : ℕ) (words : List ℕ) (before now : Sessions) (result : Result (Unit {0}) E) : Type 0 where
  pub others : (other : ℕ) → other ≢ host → now other ≡ before other
  pub at : At (SaysOver words result) (before host) (now host)

-- the events of a turn, and where the machine is after it
pub record Goes {M : Type 0} (wants : M → Want) (next : M → List ℕ → M) (does : M → Deed) (start end : M) (before now : Sessions) (out_before out_now : SinkView) (printed_now : ℕ) : Type 0 where
  pub heard : List ℕ
  pub wanted : IsHeard (wants start) heard
  pub moved : end ≡ next start heard
  pub kept : CarriesAll (received_in (wants start) heard ++ shown (does start)) before now
  pub written : Writes (received_in (wants start) heard ++ shown (does start)) out_before out_now
  pub counted : length (printed (received_in (wants start) heard ++ shown (does start))) ≡ printed_now

-- what a turn comes to
abbrev pub IsTurn : {M : Type 0} → (M → Want) → (M → List ℕ → M) → (M → Deed) → M → M → Sessions → Sessions → SinkView → SinkView → Result Turn EngineFault → Type 0
IsTurn wants next does start end before now ob on (Ok turn.Over) = (wants start ≡ want.Ended) × CarriesAll [] before now × Writes [] ob on
IsTurn wants next does start end before now ob on (Ok turn.Quiet) = Goes wants next does start end before now ob on 0
IsTurn wants next does start end before now ob on (Ok turn.Printed) = Goes wants next does start end before now ob on 1
IsTurn wants next does start end before now ob on (Err cause) = IsDriven [] (wants start) (does start) before now ob on (Err cause)

-- what is done about a step, where these events are behind it
abbrev pub IsDone : Deed → Sessions → Sessions → SinkView → SinkView → Result Turn EngineFault → Type 0
IsDone does before now ob on (Ok turn.Over) = ⊥
IsDone does before now ob on (Ok turn.Quiet) = CarriesAll (shown does) before now × Writes (shown does) ob on × (length (printed (shown does)) ≡ 0)
IsDone does before now ob on (Ok turn.Printed) = CarriesAll (shown does) before now × Writes (shown does) ob on × (length (printed (shown does)) ≡ 1)
IsDone does before now ob on (Err cause) = IsDriven [] want.Nothing does before now ob on (Err cause)

-- the fault of a link as that of the engine
abbrev pub engine_fault : HostId → LinkFault → EngineFault
engine_fault host link_fault.Peer = fault.Peer host
engine_fault host (link_fault.BadFrame offset byte) = fault.BadFrame host offset byte
engine_fault host link_fault.End = fault.EndOfLink host

-- the same of a host's machine
abbrev pub IsTurnOf : {L : Type 0} → (L → LinkView) → Kept → Kept → Links L → Links L → SinkView → SinkView → Result Turn EngineFault → Type 0
IsTurnOf view host after before now ob on result =
    IsTurn (wants_with host.lists) (next_with host.lists) seen_at (state_of host) (state_of after) (sessions_of view before) (sessions_of view now) ob on result

-- the same of what is done about a step
abbrev pub IsDoneOf : {L : Type 0} → (L → LinkView) → Did → Links L → Links L → SinkView → SinkView → Result Turn EngineFault → Type 0
IsDoneOf view did before now ob on result = IsDone (deed_of_did did) (sessions_of view before) (sessions_of view now) ob on result
