-- What is driven over its links, and what is written and sent then.
use Rattle.std.specs.Prelude.{◌≡◌, ◌≢◌, ◌<◌, ◌≤◌, ◌⊎◌, ℕ, ◌^◌, Bool, IsTrue, true, false, List, [], ◌∷◌, ◌++◌, length, take, flat_map, decimal, codes, Option, Some, None, Result, Ok, Err, option_map, IfSome}
use Rattle.vd_execution.specs.Step.{Deed, Said, Printed as Shows}
use Rattle.vd_machine.specs.Kept.{Kept, state_of}
use Rattle.vd_machine.specs.declared.want.Want.{Want}
use Rattle.vd_machine.specs.declared.want.Want.TheVariants as want
use Rattle.vd_outside.specs.Causes.{Rose}
use Rattle.vd_outside.specs.Link.{LinkView}
use Rattle.vd_outside.specs.Sink.{SinkView}
use Rattle.vd_link.specs.Frames.{frame, frames}
use Rattle.vd_link.specs.Sessions.{IsLinkFault, offset_after}
use Rattle.vd_link.specs.States.{has_failed, link_of, offset_of}
use Rattle.vd_link.specs.declared.faults.LinkFault.TheVariants as link_fault
use Rattle.vd_link.specs.declared.session.Greeted.{Greeted}
use Rattle.vd_link.specs.declared.session.Session.{Session}
use Rattle.vd_engine.specs.Events.{Event, Reached, received_from, sent_to, printed}
use Rattle.vd_engine.specs.Hosts.{next_with, seen_at, wants_with}
use Rattle.vd_engine.specs.Links.{session_at}
use Rattle.vd_engine.specs.declared.engine.Ended.{Ended}
use Rattle.vd_engine.specs.declared.fault.EngineFault.{EngineFault}
use Rattle.vd_engine.specs.declared.fault.EngineFault.TheVariants as fault
use Rattle.vd_engine.specs.declared.links.Links.{Links}

-- a session as it is told: the link, the offset of the next byte, and whether it has failed
pub record SessionView : Type 0 where
  pub link : LinkView
  pub received : ℕ
  pub failed : Bool

-- the session with each host, where there is one
abbrev pub Sessions : Type 0
Sessions = ℕ → Option SessionView

abbrev pub session_view : {L : Type 0} → (L → LinkView) → Session L Greeted → SessionView
session_view view session = record { link = view (link_of session); received = offset_of session; failed = has_failed session }

abbrev pub sessions_of : {L : Type 0} → (L → LinkView) → Links L → Sessions
sessions_of view links host = option_map (session_view view) (session_at links host)

-- no session has answered a fault, and their offsets are numbers of 64 bits
abbrev pub IsSound : Sessions → Type 0
IsSound sessions = (host : ℕ) → IfSome (sessions host) (λ session. (session.failed ≡ false) × (session.received < 2 ^ 64))

-- each word in decimal on a line of its own
abbrev pub lines : List ℕ → List ℕ
lines words = flat_map (λ word. decimal word ++ codes "\n") words

-- The packets of these events came and went over the link of this host, and nothing else.
pub record Carries (host : ℕ) (events : List Event) (before now : SessionView) : Type 0 where
  pub later : before.link.faults ≤ now.link.faults
  pub was_told : IsTrue now.link.told → IsTrue before.link.told
  pub came : IsTrue now.link.told → before.link.coming ≡ frames (received_from host events) ++ now.link.coming
  pub went : IsTrue now.link.told → now.link.sent ≡ before.link.sent ++ frames (sent_to host events)
  pub offset : now.received ≡ offset_after before.received (length (frames (received_from host events)))
  pub sound : now.failed ≡ false

-- the same of each host
abbrev pub CarriesAt : ℕ → List Event → Option SessionView → Option SessionView → Type 0
CarriesAt host events None None = (received_from host events ≡ []) × (sent_to host events ≡ [])
CarriesAt host events (Some before) (Some now) = Carries host events before now
CarriesAt host events before now = ⊥

abbrev pub CarriesAll : List Event → Sessions → Sessions → Type 0
CarriesAll events before now = (host : ℕ) → CarriesAt host events (before host) (now host)

abbrev pub CarriesOthers : ℕ → List Event → Sessions → Sessions → Type 0
CarriesOthers failing events before now = (host : ℕ) → host ≢ failing → CarriesAt host events (before host) (now host)

-- The link of this host failed or gave no packet: the packets of these events came and went, and perhaps a prefix of the
-- frame of another.
pub record Breaks (host : ℕ) (events : List Event) (before now : SessionView) : Type 0 where
  pub later : before.link.faults ≤ now.link.faults
  pub was_told : IsTrue now.link.told → IsTrue before.link.told
  pub rest : List ℕ
  pub came : IsTrue now.link.told → before.link.coming ≡ frames (received_from host events) ++ rest
  pub failed : now.failed ≡ true
  pub more : List ℕ
  pub went : IsTrue now.link.told → now.link.sent ≡ before.link.sent ++ (frames (sent_to host events) ++ more)

-- the next instruction of a machine receives a packet of so many words from this host, sends this packet to it, or prints
-- this word
abbrev pub TakesFrom : Want → ℕ → ℕ → Type 0
TakesFrom (want.Words from many) host count = (from.0 ≡ host) × (many ≡ count)
TakesFrom other host count = ⊥

abbrev pub SaysTo : Deed → ℕ → List ℕ → Type 0
SaysTo (Said to packet) host words = (to ≡ host) × (packet ≡ words)
SaysTo other host words = ⊥

abbrev pub Prints : Deed → ℕ → Type 0
Prints (Shows shown) word = shown ≡ word
Prints other word = ⊥

-- of the packet of the next instruction none came, or some prefix went out
abbrev pub StopsAtPacket : ℕ → Want → Deed → List ℕ → Type 0
StopsAtPacket host wants does more =
    ((count : ℕ) × TakesFrom wants host count × (more ≡ []))
    ⊎ ((words : List ℕ) × (front : ℕ) × (wants ≡ want.Nothing) × SaysTo does host words × (more ≡ take front (frame words)))

-- a link that failed: its count rose
pub record FailsAt (host : ℕ) (events : List Event) (wants : Want) (does : Deed) (before now : SessionView) : Type 0 where
  pub breaks : Breaks host events before now
  pub rose : Rose before.link.faults now.link.faults
  pub next : StopsAtPacket host wants does breaks.more

-- the offset behind the packets that came from this host
abbrev pub offset_behind : ℕ → List Event → SessionView → ℕ
offset_behind host events before = offset_after before.received (length (frames (received_from host events)))

-- the bytes behind the packets are no packet with the wanted count
pub record NoPacket (host : ℕ) (events : List Event) (wants : Want) (offset byte : ℕ) (before now : SessionView) : Type 0 where
  pub breaks : Breaks host events before now
  pub count : ℕ
  pub next : TakesFrom wants host count
  pub nothing_more : breaks.more ≡ []
  pub wrong : IsTrue now.link.told → IsLinkFault count (offset_behind host events before) breaks.rest (link_fault.BadFrame offset byte)

-- the link told its end inside or before the wanted packet
pub record EndsAt (host : ℕ) (events : List Event) (wants : Want) (before now : SessionView) : Type 0 where
  pub breaks : Breaks host events before now
  pub count : ℕ
  pub next : TakesFrom wants host count
  pub nothing_more : breaks.more ≡ []
  pub told_end : IsTrue now.link.ended
  pub short : IsTrue now.link.told → IsLinkFault count 0 breaks.rest link_fault.End

abbrev pub At : (SessionView → SessionView → Type 0) → Option SessionView → Option SessionView → Type 0
At holds (Some before) (Some now) = holds before now
At holds before now = ⊥

-- the words of these events stand in the sink as decimal lines
pub record Writes (events : List Event) (before now : SinkView) : Type 0 where
  pub later : before.faults ≤ now.faults
  pub was_told : IsTrue now.told → IsTrue before.told
  pub taken : IsTrue now.told → now.taken ≡ before.taken ++ lines (printed events)

-- the same, and a prefix of the line of another word; the count rose
pub record WritesPart (events : List Event) (word : ℕ) (before now : SinkView) : Type 0 where
  pub rose : Rose before.faults now.faults
  pub was_told : IsTrue now.told → IsTrue before.told
  pub front : ℕ
  pub taken : IsTrue now.told → now.taken ≡ before.taken ++ (lines (printed events) ++ take front (lines (word ∷ [])))

-- what the answer says after these events, where the next instruction wants and does this
abbrev pub IsDriven : List Event → Want → Deed → Sessions → Sessions → SinkView → SinkView → Result Ended EngineFault → Type 0
IsDriven events wants does before now out_before out_now (Ok ended) =
    (wants ≡ want.Ended) × (ended.printed ≡ length (printed events)) × CarriesAll events before now × Writes events out_before out_now
IsDriven events wants does before now out_before out_now (Err (fault.Peer host)) =
    At (FailsAt host.0 events wants does) (before host.0) (now host.0) × CarriesOthers host.0 events before now × Writes events out_before out_now
IsDriven events wants does before now out_before out_now (Err fault.Write) =
    (word : ℕ) × (wants ≡ want.Nothing) × Prints does word × CarriesAll events before now × WritesPart events word out_before out_now
IsDriven events wants does before now out_before out_now (Err (fault.BadFrame host offset byte)) =
    At (NoPacket host.0 events wants offset byte) (before host.0) (now host.0) × CarriesOthers host.0 events before now × Writes events out_before out_now
IsDriven events wants does before now out_before out_now (Err (fault.Unequal left right)) =
    (wants ≡ want.Unequal left right) × CarriesAll events before now × Writes events out_before out_now
IsDriven events wants does before now out_before out_now (Err (fault.ShortInput cursor length)) =
    (wants ≡ want.ShortInput cursor length) × CarriesAll events before now × Writes events out_before out_now
IsDriven events wants does before now out_before out_now (Err (fault.ShortDeal kind cursor length)) =
    (wants ≡ want.ShortDeal kind cursor length) × CarriesAll events before now × Writes events out_before out_now
IsDriven events wants does before now out_before out_now (Err (fault.EndOfLink host)) =
    At (EndsAt host.0 events wants) (before host.0) (now host.0) × CarriesOthers host.0 events before now × Writes events out_before out_now

-- There are steps of what is driven, from its start, of which this holds.
pub record Drives {M : Type 0} (wants : M → Want) (next : M → List ℕ → M) (does : M → Deed) (start : M) (before now : Sessions) (out_before out_now : SinkView) (result : Result Ended EngineFault) : Type 0 where
  pub steps : ℕ
  pub events : List Event
  pub machine : M
  pub reached : Reached wants next does start steps events machine
  pub driven : IsDriven events (wants machine) (does machine) before now out_before out_now result

-- the same of a host's machine, from where it stands
abbrev pub DrivesHost : {L : Type 0} → (L → LinkView) → Kept → Links L → Links L → SinkView → SinkView → Result Ended EngineFault → Type 0
DrivesHost view host before now out_before out_now result =
    Drives (wants_with host.lists) (next_with host.lists) seen_at (state_of host) (sessions_of view before) (sessions_of view now) out_before out_now result

-- no session has answered a fault
abbrev pub AreSound : {L : Type 0} → (L → LinkView) → Links L → Type 0
AreSound view links = IsSound (sessions_of view links)
