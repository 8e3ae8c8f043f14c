-- When a host runs to its end.
use Rattle.std.specs.Prelude.{◌≡◌, [], ◌++◌, ℕ, IsTrue, List, length, Option, Some, None, Result, IfSome, IsOk}
use Rattle.vd_execution.specs.Step.{State}
use Rattle.vd_machine.specs.declared.lists.Lists.{Lists}
use Rattle.vd_machine.specs.declared.want.Want.{Want}
use Rattle.vd_machine.specs.declared.want.Want.TheVariants as want
use Rattle.vd_outside.specs.Causes.{Rose}
use Rattle.vd_outside.specs.Sink.{SinkView}
use Rattle.vd_link.specs.Frames.{frame, frames}
use Rattle.vd_engine.specs.Drives.{Drives, SessionView, Sessions}
use Rattle.vd_engine.specs.Events.{Event, Reached, received_from}
use Rattle.vd_engine.specs.Hosts.{next_with, seen_at, wants_with}
use Rattle.vd_engine.specs.declared.engine.Ended.{Ended}
use Rattle.vd_engine.specs.declared.fault.EngineFault.{EngineFault}

-- These packets came on a session: its bytes to come begin with them. None came where there is no session.
abbrev pub HasCome : List (List ℕ) → Option SessionView → Type 0
HasCome packets None = packets ≡ []
HasCome packets (Some session) = (rest : List ℕ) × (session.link.coming ≡ frames packets ++ rest)

-- the packets that were received in these events are those that came
abbrev pub HaveCome : Sessions → List Event → Type 0
HaveCome sessions events = (host : ℕ) → HasCome (received_from host events) (sessions host)

-- behind the packets that were received from this host comes one of so many words
pub record PacketComes (host count : ℕ) (events : List Event) (session : SessionView) : Type 0 where
  pub words : List ℕ
  pub rest : List ℕ
  pub counted : length words ≡ count
  pub comes : session.link.coming ≡ frames (received_from host events) ++ (frame words ++ rest)

-- after these events what is wanted is there
abbrev pub IsThere : Sessions → List Event → Want → Type 0
IsThere sessions events want.Nothing = Unit {0}
IsThere sessions events want.Ended = Unit {0}
IsThere sessions events (want.Words host count) = IfSome (sessions host.0) (PacketComes host.0 count events)
IsThere sessions events other = ⊥

-- wherever a host's steps lead on the packets that come, what it wants is there
abbrev pub IsEnough : Lists → State → Sessions → Type 0
IsEnough lists start sessions = (steps : ℕ) (events : List Event) (state : State)
    → Reached (wants_with lists) (next_with lists) seen_at start steps events state → HaveCome sessions events → IsThere sessions events (wants_with lists state)

-- all sessions tell their bytes, and no count rose
abbrev pub AreTold : Sessions → Type 0
AreTold sessions = (host : ℕ) → IfSome (sessions host) (λ session. IsTrue session.link.told)

abbrev pub NotRisen : Option SessionView → Option SessionView → Type 0
NotRisen (Some before) (Some now) = Rose before.link.faults now.link.faults → ⊥
NotRisen before now = Unit {0}

-- Where all that a host wants is there, and nothing failed, it runs to its end.
abbrev pub EnoughEndsWell : Type 0
EnoughEndsWell = (lists : Lists) (start : State) (before now : Sessions) (out_before out_now : SinkView) (result : Result Ended EngineFault)
    → Drives (wants_with lists) (next_with lists) seen_at start before now out_before out_now result → IsEnough lists start before
    → AreTold now → ((host : ℕ) → NotRisen (before host) (now host)) → (Rose out_before.faults out_now.faults → ⊥) → IsOk result
