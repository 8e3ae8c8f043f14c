-- What a greeting and a packet take from a link, and what they put on it.
use Rattle.std.specs.Prelude.{◌≡◌, ◌≢◌, ◌<◌, ◌≤◌, ◌+◌, ◌*◌, ◌-◌, ◌^◌, ◌⊎◌, ℕ, IsTrue, min, List, ◌++◌, length, take, Result, Ok, Err, IfOk, IfErr, OnOk, IsErrOf}
use Rattle.vd_base.specs.Packets.{packet_words}
use Rattle.vd_base.specs.declared.packet.Packet.{Packet}
use Rattle.vd_outside.specs.Causes.{Rose}
use Rattle.vd_outside.specs.Link.{LinkView}
use Rattle.vd_link.specs.Frames.{greeting, frame}
use Rattle.vd_link.specs.Receiving.{IsFront, IsBadByte}
use Rattle.vd_link.specs.declared.receiving.FrameFault.{FrameFault}
use Rattle.vd_link.specs.declared.receiving.FrameFault.TheVariants as frame_fault
use Rattle.vd_link.specs.declared.faults.GreetFault.{GreetFault}
use Rattle.vd_link.specs.declared.faults.GreetFault.TheVariants as greet_fault
use Rattle.vd_link.specs.declared.faults.LinkFault.{LinkFault}
use Rattle.vd_link.specs.declared.faults.LinkFault.TheVariants as link_fault

-- who speaks to whom, and by which plan
pub record Ends : Type 0 where
  pub me : ℕ
  pub peer : ℕ
  pub plan : List ℕ

-- the greeting of this end, and the one that it waits for
abbrev pub own_greeting : Ends → List ℕ
own_greeting ends = greeting ends.plan ends.me ends.peer

abbrev pub wanted_greeting : Ends → List ℕ
wanted_greeting ends = greeting ends.plan ends.peer ends.me

-- an offset stays at the end of its type
abbrev pub offset_after : ℕ → ℕ → ℕ
offset_after offset count = min (offset + count) (2 ^ 64 - 1)

-- A whole greeting came, with this plan and these hosts.
pub record Greeting (coming plan : List ℕ) (from to : ℕ) : Type 0 where
  pub rest : List ℕ
  pub digest : length plan ≡ 32
  pub came : coming ≡ greeting plan from to ++ rest

abbrev pub HasGreeting : List ℕ → List ℕ → Type 0
HasGreeting coming plan = (from : ℕ) × (to : ℕ) × Greeting coming plan from to

-- a byte that differs from the one that should stand there, and the two
pub record Differs (wanted named wanted_byte named_byte : ℕ) : Type 0 where
  pub differ : named_byte ≢ wanted_byte
  pub wanted_is : wanted ≡ wanted_byte
  pub named_is : named ≡ named_byte

-- the sender's byte is looked at first
abbrev pub NamesWrong : Ends → ℕ → ℕ → ℕ → ℕ → Type 0
NamesWrong ends from to wanted named = Differs wanted named ends.peer from ⊎ ((from ≡ ends.peer) × Differs wanted named ends.me to)

-- what a fault of a greeting says of the bytes that were to come
abbrev pub IsGreetFault : Ends → List ℕ → GreetFault → Type 0
IsGreetFault ends coming greet_fault.Peer = Unit {0}
IsGreetFault ends coming (greet_fault.BadFrame offset byte) = IsBadByte 0x47 1 0 1 offset byte coming
IsGreetFault ends coming (greet_fault.WrongProgram ours theirs) = (ours ≡ ends.plan) × (theirs ≢ ends.plan) × HasGreeting coming theirs
IsGreetFault ends coming (greet_fault.WrongHost wanted named) = (from : ℕ) × (to : ℕ) × Greeting coming ends.plan from to × NamesWrong ends from to wanted named
IsGreetFault ends coming greet_fault.End = (length coming < 36) × IsFront 0x47 1 coming

-- the fault of a greeting whose frame did not come
abbrev pub greet_fault_of : FrameFault → GreetFault
greet_fault_of frame_fault.Peer = greet_fault.Peer
greet_fault_of (frame_fault.First byte) = greet_fault.BadFrame 0 byte
greet_fault_of (frame_fault.Second byte) = greet_fault.BadFrame 1 byte
greet_fault_of frame_fault.End = greet_fault.End

-- what is made of a greeting with this plan and these hosts
abbrev pub Judges : Ends → List ℕ → ℕ → ℕ → Result (Unit {0}) GreetFault → Type 0
Judges ends theirs from to (Ok done) = (theirs ≡ ends.plan) × (from ≡ ends.peer) × (to ≡ ends.me)
Judges ends theirs from to (Err (greet_fault.WrongProgram ours named)) = (ours ≡ ends.plan) × (named ≡ theirs) × (theirs ≢ ends.plan)
Judges ends theirs from to (Err (greet_fault.WrongHost wanted named)) = (theirs ≡ ends.plan) × NamesWrong ends from to wanted named
Judges ends theirs from to (Err fault) = ⊥

-- A greeting comes in.
pub record ReceivesGreeting (ends : Ends) (before now : LinkView) (result : Result (Unit {0}) GreetFault) : Type 0 where
  pub later : before.faults ≤ now.faults
  pub failed : IsErrOf result greet_fault.Peer → Rose before.faults now.faults
  pub ended : IsErrOf result greet_fault.End → IsTrue now.ended
  pub still_told : now.told ≡ before.told
  pub sent : IsTrue now.told → now.sent ≡ before.sent
  pub came : IsTrue now.told → OnOk result (before.coming ≡ wanted_greeting ends ++ now.coming)
  pub fault : IsTrue now.told → IfErr result (IsGreetFault ends before.coming)

-- The link failed in a greeting: some prefix of it went out, and nothing was taken from the peer.
pub record StopsIn (own : List ℕ) (before now : LinkView) : Type 0 where
  pub count : ℕ
  pub part : now.sent ≡ before.sent ++ take count own
  pub untaken : now.coming ≡ before.coming

-- A greeting went out whole, or the link failed in it.
abbrev pub GoesOut : List ℕ → LinkView → LinkView → Result (Unit {0}) GreetFault → Type 0
GoesOut own before now (Err greet_fault.Peer) = (now.sent ≡ before.sent ++ own) ⊎ StopsIn own before now
GoesOut own before now result = now.sent ≡ before.sent ++ own

-- A greeting goes out, and when all of it is out another comes in.
pub record Greets (ends : Ends) (before now : LinkView) (result : Result (Unit {0}) GreetFault) : Type 0 where
  pub later : before.faults ≤ now.faults
  pub failed : IsErrOf result greet_fault.Peer → Rose before.faults now.faults
  pub ended : IsErrOf result greet_fault.End → IsTrue now.ended
  pub was_told : IsTrue now.told → IsTrue before.told
  pub sent : IsTrue now.told → GoesOut (own_greeting ends) before now result
  pub came : IsTrue now.told → OnOk result (before.coming ≡ wanted_greeting ends ++ now.coming)
  pub fault : IsTrue now.told → IfErr result (IsGreetFault ends before.coming)

-- what a fault of a packet of so many words says of the bytes that were to come, the first of which has this offset
abbrev pub IsLinkFault : ℕ → ℕ → List ℕ → LinkFault → Type 0
IsLinkFault count offset coming link_fault.Peer = Unit {0}
IsLinkFault count offset coming (link_fault.BadFrame place byte) = IsBadByte 0x56 count offset (offset_after offset 1) place byte coming
IsLinkFault count offset coming link_fault.End = (length coming < 2 + 4 * count) × IsFront 0x56 count coming

-- the fault of a packet whose frame did not come, the first byte of which has this offset
abbrev pub link_fault_at : ℕ → FrameFault → LinkFault
link_fault_at offset frame_fault.Peer = link_fault.Peer
link_fault_at offset (frame_fault.First byte) = link_fault.BadFrame offset byte
link_fault_at offset (frame_fault.Second byte) = link_fault.BadFrame (offset_after offset 1) byte
link_fault_at offset frame_fault.End = link_fault.End

-- A packet of so many words comes in.
pub record Takes (count offset : ℕ) (before now : LinkView) (result : Result Packet LinkFault) : Type 0 where
  pub later : before.faults ≤ now.faults
  pub failed : IsErrOf result link_fault.Peer → Rose before.faults now.faults
  pub ended : IsErrOf result link_fault.End → IsTrue now.ended
  pub still_told : now.told ≡ before.told
  pub sent : IsTrue now.told → now.sent ≡ before.sent
  pub count_is : IfOk result (λ packet. length (packet_words packet) ≡ count)
  pub came : IsTrue now.told → IfOk result (λ packet. before.coming ≡ frame (packet_words packet) ++ now.coming)
  pub fault : IsTrue now.told → IfErr result (IsLinkFault count offset before.coming)
