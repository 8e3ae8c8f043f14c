-- How a net whose links are sealed waits for a peer, and why it does not reach one.
use Rattle.std.specs.Prelude.{◌≡◌, ◌≤◌, ℕ, ◌+◌, ◌-◌, ◌^◌, false, List, [], ◌∷◌, ◌++◌, length, Ok, Err}
use Rattle.vd_base.specs.declared.faults.CallFault.{CallFault}
use Rattle.vd_base.specs.declared.faults.CallFault.TheVariants as call_fault
use Rattle.vd_outside.specs.Link.{LinkView}
use Rattle.vd_outside.specs.Net.{Accepts, Connects, HangsUp, NetView}
use Rattle.vd_channel_link.specs.Seals.{IsKeyless, IsLeft, IsTurnedAway, awaited_at}
use Rattle.vd_channel_link.specs.declared.channel_net.seal.Seal.{Seal}
use Rattle.vd_channel_link.specs.declared.fault.SealFault.{SealFault}

-- a host that waits: its link as it came, and as it is since the host was answered
pub record Waiter : Type 0 where
  pub came : LinkView
  pub link : LinkView

-- by what a host is awaited at a listener of the net below: a seal, and the number of the host
pub record Post : Type 0 where
  pub seal : Seal
  pub peer : ℕ
  pub listener : ℕ

-- the host that is awaited at a listener
abbrev pub post_of : Seal → (listener : ℕ) → Post
post_of seal listener = record { seal = seal; peer = awaited_at seal listener; listener = listener }

-- What happened at a listener in so many turns: these wait, in the order in which they are looked at. Each host that came waits until it is
-- given, unless it is turned away, or as many wait as may. Nobody waits whose link tells its bytes: its proof is at hand.
pub data Awaits (post : Post) (start : NetView) : (turns : ℕ) → (waiting : List Waiter) → NetView → Type 0 where
  NoneCame : Awaits post start 0 [] start
  NobodyThere : (turns : ℕ) (waiting : List Waiter) (net : NetView) → Awaits post start turns waiting net → net.told ≡ false
      → Awaits post start (turns + 1) waiting net
  OneCame : (turns : ℕ) (waiting : List Waiter) (net now : NetView) (one : Waiter) → Awaits post start turns waiting net
      → Accepts post.listener net now (Ok one.came) → one.link.told ≡ false → Awaits post start (turns + 1) (waiting ++ one ∷ []) now
  OneTurnedAway : (turns : ℕ) (waiting : List Waiter) (net given now : NetView) (came left : LinkView) (why : SealFault)
      → Awaits post start turns waiting net → Accepts post.listener net given (Ok came) → IsTurnedAway post.seal post.peer came left why
      → HangsUp left given now → Awaits post start (turns + 1) waiting now
  OneWaitsOn : (turns : ℕ) (waiting : List Waiter) (net : NetView) (one : Waiter) → Awaits post start turns (one ∷ waiting) net
      → Awaits post start turns (waiting ++ one ∷ []) net
  OneProvedNothing : (turns : ℕ) (waiting : List Waiter) (net now : NetView) (one : Waiter) (left : LinkView) (why : SealFault)
      → Awaits post start turns (one ∷ waiting) net → IsTurnedAway post.seal post.peer one.came left why → HangsUp left net now
      → Awaits post start turns waiting now
  OneMadeRoom : (turns : ℕ) (waiting : List Waiter) (net now : NetView) (one : Waiter) → Awaits post start turns (waiting ++ one ∷ []) net
      → 64 ≤ length waiting + 1 → HangsUp one.link net now → Awaits post start turns waiting now

-- One of those who came is given, at once or after it waited. The others wait.
pub data Comes (post : Post) (start : NetView) (waiting : List Waiter) (now : NetView) : Type 0 where
  AtOnce : (turns : ℕ) (net : NetView) (came : LinkView) → Awaits post start turns waiting net → Accepts post.listener net now (Ok came)
      → Comes post start waiting now
  AfterAWait : (turns : ℕ) (one : Waiter) → Awaits post start turns (one ∷ waiting) now → Comes post start waiting now

-- Why no link is given while these wait: there is no memory, the net below gives none, or all numbers of connections are used, or all turns
-- taken.
pub data Fails (post : Post) (tried : ℕ) (start : NetView) (waiting : List Waiter) (now : NetView) : CallFault → Type 0 where
  NoRoom : (turns : ℕ) → Awaits post start turns waiting now → Fails post tried start waiting now call_fault.Memory
  NotGiven : (turns : ℕ) (net : NetView) (fault : CallFault) → Awaits post start turns waiting net
      → Accepts post.listener net now (Err fault) → Fails post tried start waiting now fault
  AllNumbersUsed : (turns : ℕ) → tried ≡ 2 ^ 32 - 1 → Awaits post start turns waiting now
      → Fails post tried start waiting now call_fault.Failed
  AllTurnsTaken : Awaits post start (2 ^ 64 - 1) waiting now → Fails post tried start waiting now call_fault.Failed

-- all of these are hung up
abbrev pub HangsUpAll : List Waiter → (before now : NetView) → Type 0
HangsUpAll [] before now = now ≡ before
HangsUpAll (one ∷ waiting) before now = (net : NetView) × HangsUp one.link before net × HangsUpAll waiting net now

-- one of those who came is given, and only then the others are hung up
pub record ComesAfter (post : Post) (start now : NetView) : Type 0 where
  pub waiting : List Waiter
  pub net : NetView
  pub comes : Comes post start waiting net
  pub hung_up : HangsUpAll waiting net now

-- Why no link is given: the peer has no key, or what is said above. Never because a stranger came, or came first.
pub data GivesUp (post : Post) (HasNoKey : Type 0) (tried : ℕ) (start now : NetView) : CallFault → Type 0 where
  NoKey : HasNoKey → now ≡ start → GivesUp post HasNoKey tried start now call_fault.Failed
  NotMet : (waiting : List Waiter) (net : NetView) (fault : CallFault) → Fails post tried start waiting net fault
      → HangsUpAll waiting net now → GivesUp post HasNoKey tried start now fault

-- Why no link to an earlier host is given: it has no key, or all numbers of connections are used, or there is no memory; or the net below
-- gives none; or what came over the one that it gave was not the greeting of that host, and it is hung up.
pub data IsNotReached (seal : Seal) (address : List ℕ) (start now : NetView) : CallFault → Type 0 where
  NoKeyForIt : IsKeyless seal seal.connected → now ≡ start → IsNotReached seal address start now call_fault.Failed
  NoNumberLeft : seal.tried ≡ 2 ^ 32 - 1 → now ≡ start → IsNotReached seal address start now call_fault.Failed
  NoMemory : now ≡ start → IsNotReached seal address start now call_fault.Memory
  NotConnected : (fault : CallFault) → Connects address start now (Err fault) → IsNotReached seal address start now fault
  NotGreeted : (net : NetView) (came left : LinkView) (why : SealFault) → Connects address start net (Ok came)
      → IsLeft seal seal.connected came left why → HangsUp left net now → IsNotReached seal address start now call_fault.Failed
