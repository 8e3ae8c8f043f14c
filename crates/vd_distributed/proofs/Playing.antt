-- Each host over its net.
use Rattle.std.proofs.Common.{◌≡◌, ◌≢◌, ◌<◌, ◌≤◌, ℕ, zero, suc, nat_eq, if◌then◌else◌, Bool, true, false, IsSome, List, [], ◌∷◌, ◌++◌, length, map, codes, Option, Some, None, Result, Ok, Err, decimal, refl, sym, ap, ◌∙◌, subst, arith, append-nil}
use Rattle.std.proofs.lemmas.Bool.{ne_eqb}
use Rattle.std.proofs.lemmas.Fmt.{decimal_digit}
use Rattle.vd_base.specs.declared.faults.Failed.{Failed}
use Rattle.vd_machine.specs.Kept.{state_of}
use Rattle.vd_execution.specs.Registers.{put}
use Rattle.vd_outside.specs.Link.{LinkView}
use Rattle.vd_outside.specs.Net.{Accepts, Connects, HangsUp, Listens}
use Rattle.vd_outside.specs.Sink.{SinkView, WritesAll}
use Rattle.vd_link.specs.Frames.{frames}
use Rattle.vd_link.specs.Sessions.{Greets}
use Rattle.vd_engine.specs.Drives.{Carries, CarriesAll, CarriesAt, SessionView, Sessions, Writes}
use Rattle.vd_engine.specs.Events.{AtStart, Event, OneMore, Printed, Received, Sent, received_from, sent_to}
use Rattle.vd_engine.specs.Hosts.{next_with}
use Rattle.vd_host_session.specs.Histories.{ByAccept, ByConnect, DrivesOver, Held, NoListener, NoneBack, NoneMet, NoSession, OneBack, OneListener, OneMet, HandedBack, ended, ends_with, listening}
use Rattle.vd_host_session.specs.Peers.{number_at, peer_at}
use Rattle.vd_host_session.specs.Plays.{Driven, DrivesAndTells, Meets, Plays, Told}
use Rattle.vd_host_session.specs.Stages.{AreMet}
use Rattle.vd_host_session.specs.declared.task.Task.{Task}
use Rattle.vd_host_session.proofs.Front.{later_number}
use Rattle.vd_distributed.specs.Running.{IsPlayed}
use Rattle.vd_distributed.specs.Instance.{address, fresh_net, greeted_a, greeted_b, greeting_a, handed, later_a, later_b, link_a, link_b, listening_a, machine_a, machine_b, met_a, met_b, output, packet, run_a, run_b}

-- the one session of a host
abbrev pub session_if : Bool → LinkView → ℕ → Option SessionView
session_if test link received = if test then Some (record { link = link; received = received; failed = false }) else None

abbrev pub session_with : ℕ → LinkView → ℕ → Sessions
session_with peer link received number = session_if (nat_eq peer number) link received

none_with : (peer number : ℕ) (link : LinkView) (received : ℕ) → peer ≢ number → session_with peer link received number ≡ None
none_with peer number link received differ = ap (λ (test : Bool). session_if test link received) (ne_eqb peer number differ)

-- nothing is exchanged with others
quiet : (host : ℕ) (events : List Event) (before now : Option SessionView) → before ≡ None → now ≡ None → received_from host events ≡ [] → sent_to host events ≡ []
    → CarriesAt host events before now
quiet host events before now b n received sent =
    subst (λ (x : Option SessionView). CarriesAt host events x now) (sym b) (subst (λ (y : Option SessionView). CarriesAt host events None y) (sym n) (received, sent))

others : (peer number : ℕ) (words : List ℕ) → peer ≢ number → (if nat_eq peer number then words ∷ [] else []) ++ [] ≡ []
others peer number words differ = ap (λ (test : Bool). (if test then words ∷ [] else []) ++ []) (ne_eqb peer number differ)

-- ---- what host a does

abbrev events_a : List Event
events_a = Sent 1 (7 ∷ []) ∷ []

carried_a : Carries 1 events_a (record { link = greeted_a; received = 36; failed = false }) (record { link = later_a; received = 36; failed = false })
carried_a = record {
  later = omega arith;
  was_told = λ told. told;
  came = λ told. refl;
  went = λ told. ap (λ (l : List ℕ). greeting_a ++ l) (sym (append-nil packet));
  offset = refl;
  sound = refl;
}

carries_a : (host : ℕ) → CarriesAt host events_a (session_with 1 greeted_a 36 host) (session_with 1 later_a 36 host)
carries_a zero = (refl, refl)
carries_a (suc zero) = carried_a
carries_a (suc (suc h)) =
    let differ : 1 ≢ suc (suc h) = λ e. omega (arith, e) in
    quiet (suc (suc h)) events_a _ _ (none_with 1 (suc (suc h)) greeted_a 36 differ) (none_with 1 (suc (suc h)) later_a 36 differ) refl (others 1 (suc (suc h)) (7 ∷ []) differ)

writes_a : Writes events_a (output listening) (output listening)
writes_a = record { later = omega arith; was_told = λ told. told; taken = λ told. refl }

drives_a : DrivesOver machine_a (session_with 1 greeted_a 36) (session_with 1 later_a 36) (output listening) (output listening) (Ok (record { printed = 0 }))
unfolding put lib.Count.ones
drives_a =
    let next = next_with machine_a.lists in
    record {
      steps = 2;
      events = events_a;
      machine = next (next (state_of machine_a) []) [];
      reached = OneMore 1 [] (next (state_of machine_a) []) [] (OneMore 0 [] (state_of machine_a) [] AtStart refl) refl;
      driven = (refl, refl, carries_a, writes_a);
    }

-- ---- what host b does

abbrev events_b : List Event
events_b = Received 0 (7 ∷ []) ∷ Printed 7 ∷ []

carried_b : Carries 0 events_b (record { link = greeted_b; received = 36; failed = false }) (record { link = later_b; received = 42; failed = false })
unfolding lib.Count.ones
carried_b = record {
  later = omega arith;
  was_told = λ told. told;
  came = λ told. sym (ap (λ (l : List ℕ). l ++ []) (append-nil packet) ∙ append-nil packet);
  went = λ told. refl;
  offset = refl;
  sound = refl;
}

carries_b : (host : ℕ) → CarriesAt host events_b (session_with 0 greeted_b 36 host) (session_with 0 later_b 42 host)
carries_b zero = carried_b
carries_b (suc h) =
    let differ : 0 ≢ suc h = λ e. omega (arith, e) in
    quiet (suc h) events_b _ _ (none_with 0 (suc h) greeted_b 36 differ) (none_with 0 (suc h) later_b 42 differ) (others 0 (suc h) (7 ∷ []) differ) refl

pub seven : decimal 7 ≡ codes "7"
seven = decimal_digit 7 (omega arith)

writes_b : Writes events_b (output listening) (output (codes "listening\n7\n"))
writes_b = record { later = omega arith; was_told = λ told. told; taken = λ told. ap (λ (text : List ℕ). listening ++ ((text ++ codes "\n") ++ [])) (sym seven) }

drives_b : DrivesOver machine_b (session_with 0 greeted_b 36) (session_with 0 later_b 42) (output listening) (output (codes "listening\n7\n")) (Ok (record { printed = 1 }))
unfolding put lib.Count.ones
drives_b =
    let next = next_with machine_b.lists in
    record {
      steps = 2;
      events = events_b;
      machine = next (next (state_of machine_b) (7 ∷ [])) [];
      reached = OneMore 1 (Received 0 (7 ∷ []) ∷ []) (next (state_of machine_b) (7 ∷ [])) [] (OneMore 0 [] (state_of machine_b) (7 ∷ []) AtStart (refl, (omega arith, tt))) refl;
      driven = (refl, refl, carries_b, writes_b);
    }

-- ---- the nets

-- a call that went well answered no fault
abbrev WentWell : {T E : Type 0} → Result T E → Type 0
WentWell (Ok value) = Unit {0}
WentWell (Err fault) = ⊥

pub listens_a : Listens address (fresh_net link_a) listening_a (Ok 0)
listens_a = record {
  later = omega arith;
  failed = λ is. absurd (subst WentWell is tt);
  number = (refl, refl);
  none_given = tt;
  limit = refl;
  still_told = λ told. told;
  asked = λ told. refl;
  links = λ told. record { waiting = refl; otherwise = refl; links = refl; back = refl };
  listeners = λ told. refl;
  no_listener = λ told. tt;
}

pub accepts_a : Accepts 0 listening_a met_a (Ok link_a)
accepts_a = record {
  later = omega arith;
  failed = λ is. absurd (subst WentWell is tt);
  fresh = refl;
  limit = refl;
  listeners = record { given = refl; listeners = λ told. refl };
  still_told = λ told. told;
  asked = λ told. refl;
  gives = λ told. (address, refl, record { at_address = refl; waiting = refl; otherwise = refl; links = refl; back = refl });
  no_link = λ told. tt;
}

pub connects_b : Connects address (fresh_net link_b) met_b (Ok link_b)
connects_b = record {
  later = omega arith;
  failed = λ is. absurd (subst WentWell is tt);
  fresh = refl;
  limit = refl;
  listeners = record { given = refl; listeners = λ told. refl };
  still_told = λ told. told;
  asked = λ told. refl;
  gives = λ told. record { at_address = refl; waiting = refl; otherwise = refl; links = refl; back = refl };
  no_link = λ told. tt;
}

pub greets_a : Greets (ends_with run_a.ready.task (peer_at run_a.ready.task 0)) link_a greeted_a (Ok tt)
greets_a = record {
  later = omega arith;
  failed = λ is. absurd (subst WentWell is tt);
  ended = λ is. absurd (subst WentWell is tt);
  was_told = λ told. told;
  sent = λ told. refl;
  came = λ told. refl;
  fault = λ told. tt;
}

pub greets_b : Greets (ends_with run_b.ready.task (peer_at run_b.ready.task 0)) link_b greeted_b (Ok tt)
greets_b = record {
  later = omega arith;
  failed = λ is. absurd (subst WentWell is tt);
  ended = λ is. absurd (subst WentWell is tt);
  was_told = λ told. told;
  sent = λ told. refl;
  came = λ told. refl;
  fault = λ told. tt;
}

hangs_a : HangsUp later_a met_a (handed met_a later_a)
hangs_a = record {
  later = omega arith;
  link_failed = λ lt. absurd (omega (arith, lt));
  never_failed = λ is. refl;
  limit = refl;
  listeners = record { given = refl; listeners = λ told. refl };
  still_told = λ told. told;
  asked = λ told. refl;
  waiting = λ told. refl;
  otherwise = λ told. refl;
  links = λ told. refl;
  back = λ told. refl;
}

hangs_b : HangsUp later_b met_b (handed met_b later_b)
hangs_b = record {
  later = omega arith;
  link_failed = λ lt. absurd (omega (arith, lt));
  never_failed = λ is. refl;
  limit = refl;
  listeners = record { given = refl; listeners = λ told. refl };
  still_told = λ told. told;
  asked = λ told. refl;
  waiting = λ told. refl;
  otherwise = λ told. refl;
  links = λ told. refl;
  back = λ told. refl;
}

pub back_a : HandedBack (session_with 1 later_a 36) met_a 4 (handed met_a later_a)
back_a =
    NoSession 3 (handed met_a later_a) (NoSession 2 (handed met_a later_a)
    (OneBack 1 later_a 36 false met_a (handed met_a later_a) (NoSession 0 met_a NoneBack refl) refl hangs_a) refl) refl

pub back_b : HandedBack (session_with 0 later_b 42) met_b 4 (handed met_b later_b)
back_b =
    NoSession 3 (handed met_b later_b) (NoSession 2 (handed met_b later_b) (NoSession 1 (handed met_b later_b)
    (OneBack 0 later_b 42 false met_b (handed met_b later_b) NoneBack refl hangs_b) refl) refl) refl

-- ---- the outputs

pub writes_all : (bytes before : List ℕ) → WritesAll {E = Failed} bytes (output before) (output (before ++ bytes)) (Ok tt)
writes_all bytes before = record { later = omega arith; failed = tt; was_told = λ told. told; whole = λ told. refl; part = λ told. tt }

-- ---- the meetings

abbrev pub held_a : Held
held_a = record { peer = peer_at run_a.ready.task 0; given = link_a; greeted = greeted_a }

abbrev pub held_b : Held
held_b = record { peer = peer_at run_b.ready.task 0; given = link_b; greeted = greeted_b }

pub stands_a : (place : ℕ) → place < 1 → IsSome (session_with 1 greeted_a 36 (number_at 0 place))
stands_a zero lt = refl
stands_a (suc place) lt = absurd (omega (arith, lt))

pub stands_b : (place : ℕ) → place < 1 → IsSome (session_with 0 greeted_b 36 (number_at 1 place))
stands_b zero lt = refl
stands_b (suc place) lt = absurd (omega (arith, lt))

pub nobody_a : (place : ℕ) → 1 ≤ place → session_with 1 greeted_a 36 (number_at 0 place) ≡ None
nobody_a place le =
    let number = later_number 0 place (omega arith) in
    none_with 1 (number_at 0 place) greeted_a 36 (λ e. omega (arith, number, e, le))

pub nobody_b : (place : ℕ) → 1 ≤ place → session_with 0 greeted_b 36 (number_at 1 place) ≡ None
nobody_b place le =
    let number = later_number 1 place le in
    none_with 0 (number_at 1 place) greeted_b 36 (λ e. omega (arith, number, e))

abbrev pub meets_a : Meets run_a.ready.task run_a.net met_a run_a.out (output listening) 1 (session_with 1 greeted_a 36)
meets_a = record {
  net = listening_a;
  announced = record { listened = OneListener [] (peer_at run_a.ready.task 0) 0 run_a.net listening_a NoListener listens_a; written = writes_all listening [] };
  first = 0;
  first_is = λ lt. refl;
  met = record {
    all = held_a ∷ [];
    peers = refl;
    met = OneMet [] held_a listening_a met_a NoneMet (ByAccept (omega arith) accepts_a) greets_a;
    are = λ number. refl;
    stand = stands_a;
    later = nobody_a;
    own = refl;
  };
}

abbrev pub meets_b : Meets run_b.ready.task run_b.net met_b run_b.out (output listening) 1 (session_with 0 greeted_b 36)
meets_b = record {
  net = run_b.net;
  announced = record { listened = NoListener; written = writes_all listening [] };
  first = 0;
  first_is = λ lt. refl;
  met = record {
    all = held_b ∷ [];
    peers = refl;
    met = OneMet [] held_b run_b.net met_b NoneMet (ByConnect (omega arith) connects_b) greets_b;
    are = λ number. refl;
    stand = stands_b;
    later = nobody_b;
    own = refl;
  };
}

-- ---- the runs

pub tells_a : DrivesAndTells machine_a (session_with 1 greeted_a 36) (session_with 1 later_a 36) (output listening) run_a.out_now run_a.result
tells_a = Told (output listening) (record { printed = 0 }) drives_a (writes_all ended listening)

pub tells_b : DrivesAndTells machine_b (session_with 0 greeted_b 36) (session_with 0 later_b 42) (output listening) run_b.out_now run_b.result
tells_b = Told (output (codes "listening\n7\n")) (record { printed = 1 }) drives_b (writes_all ended (codes "listening\n7\n"))

abbrev pub plays_a : IsPlayed run_a
plays_a = Driven (session_with 1 greeted_a 36) (session_with 1 later_a 36) met_a (output listening) run_a.result meets_a tells_a back_a

abbrev pub plays_b : IsPlayed run_b
plays_b = Driven (session_with 0 greeted_b 36) (session_with 0 later_b 42) met_b (output listening) run_b.result meets_b tells_b back_b
