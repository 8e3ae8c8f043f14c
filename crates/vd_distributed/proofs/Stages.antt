-- How far one run came that nothing outside disturbed: it was refused by the end of a link in a greeting, or its machine was driven.
use Rattle.std.proofs.Common.{◌≡◌, ◌≢◌, ◌⊎◌, inl, inr, ◌+◌, ◌<◌, ◌≤◌, ℕ, zero, suc, nat_eq, nat_lt, if◌then◌else◌, Bool, true, false, true≢false, IsTrue, List, [], ◌∷◌, ◌++◌, length, map, Option, Some, None, Result, Ok, Err, refl, sym, ap, ◌∙◌, subst, append_assoc, arith}
use Rattle.std.proofs.lemmas.List.{append-nil}
use Rattle.std.proofs.lemmas.Bool.{eqb-true, eq-eqb, lt-ltb, ltb-true, ne_eqb}
use Rattle.std.specs.List.{AllByRecursion, range_with_len}
use Rattle.std.specs.Prelude.{IfSome, drop, slice_get}
use Rattle.vd_base.specs.declared.faults.CallFault.{CallFault}
use Rattle.vd_base.specs.declared.faults.CallFault.TheVariants as call_fault
use Rattle.vd_outside.specs.Link.{LinkView}
use Rattle.vd_outside.specs.Net.{NetView}
use Rattle.vd_outside.specs.Sink.{SinkView}
use Rattle.vd_execution.specs.Code.{Finished}
use Rattle.vd_execution.specs.Step.{Source, Inputs, OwnWords, Triples, BitTriples, Pairs, State, Cursors, Need, Nothing, Item, Packet, Unequal, Ended as NoNeed, need}
use Rattle.vd_execution.specs.World.{IsPrefixOf, IsShortAt}
use Rattle.vd_execution.proofs.Front.{same_or_not}
use Rattle.vd_machine.specs.Kept.{Kept, state_of}
use Rattle.vd_machine.specs.Machines.{item_or_none, items_of}
use Rattle.vd_machine.specs.Wants.{count_of, short, want_of}
use Rattle.vd_machine.specs.declared.lists.Lists.{Lists}
use Rattle.vd_machine.specs.declared.want.Want.{Want}
use Rattle.vd_machine.specs.declared.want.Want.TheVariants as want
use Rattle.vd_link.specs.Frames.{frames, greeting}
use Rattle.vd_link.specs.Sessions.{Greets, IsGreetFault, IsLinkFault, GoesOut, own_greeting}
use Rattle.vd_link.specs.declared.faults.GreetFault.{GreetFault}
use Rattle.vd_link.specs.declared.faults.GreetFault.TheVariants as greet_fault
use Rattle.vd_link.specs.declared.faults.LinkFault.TheVariants as link_fault
use Rattle.vd_engine.specs.Drives.{At, CarriesAll, CarriesAt, CarriesOthers, Drives, EndsAt, IsDriven, SessionView, Sessions}
use Rattle.vd_engine.specs.Enough.{AreTold}
use Rattle.vd_engine.specs.Events.{Event, Reached, received_from, sent_to}
use Rattle.vd_engine.specs.Hosts.{next_with, seen_at, wants_with}
use Rattle.vd_engine.specs.declared.engine.Ended.{Ended}
use Rattle.vd_engine.specs.declared.fault.EngineFault.{EngineFault}
use Rattle.vd_engine.specs.declared.fault.EngineFault.TheVariants as engine_fault
use Rattle.vd_host_session.specs.Histories.{AreOf, Held, call_status, engine_status, greet_status, sessions_with}
use Rattle.vd_host_session.specs.Peers.{Peer, first_peers, number_at, peer_at}
use Rattle.vd_host_session.specs.Plays.{Driven, DrivesAndTells, Meets, NoRoom, NotAnnounced, NotGiven, NotGreeted, NotListening, Plays, Stopped, Told, Untold}
use Rattle.vd_host_session.specs.declared.fault.HostFault.{HostFault}
use Rattle.vd_host_session.specs.declared.fault.HostFault.TheVariants as fault
use Rattle.vd_host_session.specs.declared.task.Task.{Task}
use Rattle.vd_host_session.proofs.Front.{numbers_differ}
use Rattle.vd_distributed.specs.Linked.{bytes_sent, bytes_to_come}
use Rattle.vd_distributed.proofs.Driven.{BothStand, Grown, WasTold, ended_pending, grown, takes_need, was_told}
use Rattle.vd_distributed.proofs.Fronts.{added, front_same}
use Rattle.vd_distributed.specs.Ending.{IsUndisturbed}
use Rattle.vd_distributed.specs.Links.{TellsBytes, Used, bytes_that_came, bytes_that_went, link_to, used_by, used_in, used_or}
use Rattle.vd_distributed.specs.Running.{BlamesNobody}
use Rattle.vd_distributed.proofs.Courses.{Agrees, HasGreeted, agrees, all_greeted, all_told, behind_sent, ends, or_itself, session_of, stands}

-- ---- lists that are short

none_past : {X : Type 0} (f : X → List ℕ) (xs : List X) (i : ℕ) → nat_lt i (length xs) ≡ false → item_or_none f (slice_get xs i) ≡ None
none_past f [] i e = refl
none_past f (x ∷ xs) zero e = absurd (true≢false (sym (lt-ltb 0 (length (x ∷ xs)) (omega arith)) ∙ e))
none_past f (x ∷ xs) (suc i) e = none_past f xs i (later (nat_lt i (length xs)) refl)
  where
    later : (b : Bool) → nat_lt i (length xs) ≡ b → nat_lt i (length xs) ≡ false
    later false is = is
    later true is = absurd (true≢false (sym (lt-ltb (suc i) (length (x ∷ xs)) (let lt = ltb-true i (length xs) is in omega (arith, lt))) ∙ e))

items_past : (l : Lists) (source : Source) (i : ℕ) → nat_lt i (count_of l source) ≡ false → items_of l source i ≡ None
items_past l Inputs i e = none_past _ _ i e
items_past l OwnWords i e = none_past _ _ i e
items_past l (Triples p) i e = none_past _ _ i e
items_past l (BitTriples p) i e = none_past _ _ i e
items_past l (Pairs p) i e = none_past _ _ i e

abbrev IsShortWant : Want → Type 0
IsShortWant (want.ShortInput i n) = Unit {0}
IsShortWant (want.ShortDeal kind i n) = Unit {0}
IsShortWant other = ⊥

item_short : (l : Lists) (c : Cursors) (source : Source) (b : Bool) → nat_lt (c source) (count_of l source) ≡ b
    → IsShortWant (if b then want.Nothing else short source (c source) (count_of l source)) → items_of l source (c source) ≡ None
item_short l c source true e h = absurd h
item_short l c source false e h = items_past l source (c source) e

-- what is short in a want is short in the lists
short_need : (l : Lists) (c : Cursors) (n : Need) → IsShortWant (want_of l c n) → IsShortAt (items_of l) c n
short_need l c Nothing h = h
short_need l c (Item source) h = item_short l c source (nat_lt (c source) (count_of l source)) refl h
short_need l c (Packet p n) h = h
short_need l c (Unequal x y) h = h
short_need l c NoNeed h = h

-- ---- what a machine that was driven came to

-- it ended, or its lists are short, or it waits for a packet of which a link ended before the last byte
abbrev pub Waits : Lists → List Event → State → (come : ℕ → List ℕ) → Result Ended EngineFault → Type 0
Waits l events m come (Ok done) = m.pending ≡ Finished
Waits l events m come (Err (engine_fault.ShortInput cursor count)) = IsShortAt (items_of l) m.cursors (need m)
Waits l events m come (Err (engine_fault.ShortDeal kind cursor count)) = IsShortAt (items_of l) m.cursors (need m)
Waits l events m come (Err (engine_fault.EndOfLink peer)) =
    (count : ℕ) × (need m ≡ Packet peer.0 count) × (rest : List ℕ) × (come peer.0 ≡ frames (received_from peer.0 events) ++ rest) × IsLinkFault count 0 rest link_fault.End
Waits l events m come (Err other) = ⊥

-- no link and no output failed, and nothing was wrong
abbrev IsCalm : Result Ended EngineFault → Type 0
IsCalm (Err (engine_fault.Peer peer)) = ⊥
IsCalm (Err engine_fault.Write) = ⊥
IsCalm (Err (engine_fault.BadFrame peer offset byte)) = ⊥
IsCalm (Err (engine_fault.Unequal left right)) = ⊥
IsCalm other = Unit {0}

pub record Progress (l : Lists) (start : State) (come went : ℕ → List ℕ) (result : Result Ended EngineFault) : Type 0 where
  pub steps : ℕ
  pub events : List Event
  pub state : State
  pub reached : Reached (wants_with l) (next_with l) seen_at start steps events state
  pub came : (p : ℕ) → IsPrefixOf (frames (received_from p events)) (come p)
  pub went_is : (p : ℕ) → went p ≡ frames (sent_to p events)
  pub waits : Waits l events state come result

-- one session, of which all that is told stands in packets
came_of : (p : ℕ) (events : List Event) (before now : Option SessionView) → IfSome now (λ session. IsTrue session.link.told) → CarriesAt p events before now
    → IsPrefixOf (frames (received_from p events)) (bytes_to_come before)
came_of p events None None told c = front_same _ _ (ap frames c.0)
came_of p events (Some before) (Some now) told c = (now.link.coming, sym (c.came told))
came_of p events None (Some now) told c = absurd c
came_of p events (Some before) None told c = absurd c

went_of : (p : ℕ) (events : List Event) (before now : Option SessionView) → IfSome now (λ session. IsTrue session.link.told) → CarriesAt p events before now
    → bytes_sent before now ≡ frames (sent_to p events)
went_of p events None None told c = sym (ap frames c.1)
went_of p events (Some before) (Some now) told c = added before.link.sent (frames (sent_to p events)) now.link.sent (c.went told)
went_of p events None (Some now) told c = absurd c
went_of p events (Some before) None told c = absurd c

-- the session whose link told its end
end_came : (p : ℕ) (events : List Event) (w : Want) (before now : Option SessionView) → IfSome now (λ session. IsTrue session.link.told) → At (EndsAt p events w) before now
    → IsPrefixOf (frames (received_from p events)) (bytes_to_come before)
end_came p events w (Some before) (Some now) told f = (f.breaks.rest, sym (f.breaks.came told))
end_came p events w None now told f = absurd f
end_came p events w (Some before) None told f = absurd f

end_went : (p : ℕ) (events : List Event) (w : Want) (before now : Option SessionView) → IfSome now (λ session. IsTrue session.link.told) → At (EndsAt p events w) before now
    → bytes_sent before now ≡ frames (sent_to p events)
end_went p events w (Some before) (Some now) told f =
    added before.link.sent (frames (sent_to p events) ++ f.breaks.more) now.link.sent (f.breaks.went told) ∙ ap (λ l. frames (sent_to p events) ++ l) f.nothing_more ∙ append-nil (frames (sent_to p events))
end_went p events w None now told f = absurd f
end_went p events w (Some before) None told f = absurd f

end_waits : (l : Lists) (p : ℕ) (events : List Event) (m : State) (before now : Option SessionView) → IfSome now (λ session. IsTrue session.link.told) → At (EndsAt p events (wants_with l m)) before now
    → (count : ℕ) × (need m ≡ Packet p count) × (rest : List ℕ) × (bytes_to_come before ≡ frames (received_from p events) ++ rest) × IsLinkFault count 0 rest link_fault.End
end_waits l p events m (Some before) (Some now) told f = (f.count, takes_need l m.cursors (need m) p f.count f.next, f.breaks.rest, f.breaks.came told, f.short told)
end_waits l p events m None now told f = absurd f
end_waits l p events m (Some before) None told f = absurd f

module _ (l : Lists) (start : State) (before now : Sessions) (ob on : SinkView) (told : AreTold now) where
  abbrev come : ℕ → List ℕ
  come p = bytes_to_come (before p)

  abbrev went : ℕ → List ℕ
  went p = bytes_sent (before p) (now p)

  others : {P : ℕ → Type 0} (peer : ℕ) → P peer → ((p : ℕ) → p ≢ peer → P p) → (p : ℕ) → P p
  others {P = P} peer here rest p = elim (same_or_not p peer) [ inl same ↦ subst P (sym same) here | inr other ↦ rest p other ]

  all_carried : (steps : ℕ) (events : List Event) (m : State) (result : Result Ended EngineFault) → Reached (wants_with l) (next_with l) seen_at start steps events m
      → CarriesAll events before now → Waits l events m come result → Progress l start come went result
  all_carried steps events m result r c w = record {
    steps = steps;
    events = events;
    state = m;
    reached = r;
    came = λ p. came_of p events (before p) (now p) (told p) (c p);
    went_is = λ p. went_of p events (before p) (now p) (told p) (c p);
    waits = w;
  }

  progressed : (steps : ℕ) (events : List Event) (m : State) (result : Result Ended EngineFault) → IsCalm result → Reached (wants_with l) (next_with l) seen_at start steps events m
      → IsDriven events (wants_with l m) (seen_at m) before now ob on result → Progress l start come went result
  progressed steps events m (Ok done) calm r d = all_carried steps events m (Ok done) r d.2 (ended_pending l m d.0)
  progressed steps events m (Err (engine_fault.Peer peer)) calm r d = absurd calm
  progressed steps events m (Err engine_fault.Write) calm r d = absurd calm
  progressed steps events m (Err (engine_fault.BadFrame peer offset byte)) calm r d = absurd calm
  progressed steps events m (Err (engine_fault.Unequal left right)) calm r d = absurd calm
  progressed steps events m (Err (engine_fault.ShortInput cursor count)) calm r d =
      all_carried steps events m (Err (engine_fault.ShortInput cursor count)) r d.1 (short_need l m.cursors (need m) (subst IsShortWant (sym d.0) tt))
  progressed steps events m (Err (engine_fault.ShortDeal kind cursor count)) calm r d =
      all_carried steps events m (Err (engine_fault.ShortDeal kind cursor count)) r d.1 (short_need l m.cursors (need m) (subst IsShortWant (sym d.0) tt))
  progressed steps events m (Err (engine_fault.EndOfLink peer)) calm r d = record {
    steps = steps;
    events = events;
    state = m;
    reached = r;
    came = others {P = λ p. IsPrefixOf (frames (received_from p events)) (come p)} peer.0 (end_came peer.0 events (wants_with l m) (before peer.0) (now peer.0) (told peer.0) d.0)
        (λ p other. came_of p events (before p) (now p) (told p) (d.1 p other));
    went_is = others {P = λ p. went p ≡ frames (sent_to p events)} peer.0 (end_went peer.0 events (wants_with l m) (before peer.0) (now peer.0) (told peer.0) d.0)
        (λ p other. went_of p events (before p) (now p) (told p) (d.1 p other));
    waits = end_waits l peer.0 events m (before peer.0) (now peer.0) (told peer.0) d.0;
  }

  progress : (result : Result Ended EngineFault) → IsCalm result → Drives (wants_with l) (next_with l) seen_at start before now ob on result → Progress l start come went result
  progress result calm d = progressed d.steps d.events d.machine result calm d.reached d.driven

-- the same over links that agree with the sessions
same_progress : (l : Lists) (start : State) (come went come' went' : ℕ → List ℕ) (result : Result Ended EngineFault) → ((p : ℕ) → come p ≡ come' p) → ((p : ℕ) → went p ≡ went' p)
    → Progress l start come went result → Progress l start come' went' result
same_progress l start come went come' went' result c w g = record {
  steps = g.steps;
  events = g.events;
  state = g.state;
  reached = g.reached;
  came = λ p. subst (IsPrefixOf (frames (received_from p g.events))) (c p) (g.came p);
  went_is = λ p. sym (w p) ∙ g.went_is p;
  waits = waits_so result g.waits;
}
  where
    waits_so : (r : Result Ended EngineFault) → Waits l g.events g.state come r → Waits l g.events g.state come' r
    waits_so (Ok done) h = h
    waits_so (Err (engine_fault.Peer peer)) h = h
    waits_so (Err engine_fault.Write) h = h
    waits_so (Err (engine_fault.BadFrame peer offset byte)) h = h
    waits_so (Err (engine_fault.Unequal left right)) h = h
    waits_so (Err (engine_fault.ShortInput cursor count)) h = h
    waits_so (Err (engine_fault.ShortDeal kind cursor count)) h = h
    waits_so (Err (engine_fault.EndOfLink peer)) h = (h.0, h.1, h.2, sym (c peer.0) ∙ h.3, h.4)

-- ---- greetings that went out whole

abbrev pub IsGreetedBy : (plan : List ℕ) (me p : ℕ) → Option Used → Type 0
IsGreetedBy plan me p u = (more : List ℕ) × (bytes_that_went u ≡ greeting plan me p ++ more)

-- the link of a session as it was greeted
greeted_went : (plan : List ℕ) (me p : ℕ) (given back : LinkView) (u : Option Used) → u ≡ Some (record { given = given; back = back }) → (more : List ℕ)
    → back.sent ≡ given.sent ++ (greeting plan me p ++ more) → IsGreetedBy plan me p u
greeted_went plan me p given back u is more sent = (more, ap bytes_that_went is ∙ added given.sent (greeting plan me p ++ more) back.sent sent)

with_nothing : (xs : List ℕ) → xs ≡ xs ++ []
with_nothing xs = sym (append-nil xs)

met_went : (plan : List ℕ) (me p : ℕ) (given greeted : LinkView) (u : Option Used) (o : Option SessionView) → Greets (ends plan me p) given greeted (Ok tt) → o ≡ Some (session_of greeted)
    → u ≡ used_by given o → TellsBytes u → IsGreetedBy plan me p u
met_went plan me p given greeted u o g stands is told =
    let e : u ≡ Some (record { given = given; back = greeted }) = is ∙ ap (used_by given) stands in
    let t : IsTrue greeted.told = subst TellsBytes e told in
    greeted_went plan me p given greeted u e [] (g.sent t ∙ ap (λ (l : List ℕ). given.sent ++ l) (with_nothing (greeting plan me p)))

driven_went : (plan : List ℕ) (me p : ℕ) (given greeted : LinkView) (u : Option Used) (l : Option SessionView) → Greets (ends plan me p) given greeted (Ok tt) → BothStand (Some (session_of greeted)) l
    → Grown (Some (session_of greeted)) l → WasTold (Some (session_of greeted)) l → u ≡ used_by given l → TellsBytes u → IsGreetedBy plan me p u
driven_went plan me p given greeted u None g stands more was is told = absurd stands
driven_went plan me p given greeted u (Some now) g stands more was is told =
    let t : IsTrue now.link.told = subst TellsBytes is told in
    greeted_went plan me p given now.link u is more.0 (behind_sent given.sent greeted.sent now.link.sent (greeting plan me p) more.0 (g.sent (was t)) more.1)

-- the link to a peer that was met
record IsMetAt (task : Task) (later : Sessions) (p : ℕ) (u : Option Used) (o : Option SessionView) : Type 0 where
  given : LinkView
  greeted : LinkView
  greets : Greets (ends task.plan task.me.0 p) given greeted (Ok tt)
  used : u ≡ used_by given (later p)
  session : o ≡ Some (session_of greeted)

-- the peer of this link, or one behind it
met_or : (task : Task) (later : Sessions) (p place : ℕ) → number_at task.me.0 place ≡ p → (held : Held) (all : List Held) (k : ℕ) → held.peer ≡ peer_at task k → HasGreeted task held
    → ((k ≡ place → ⊥) → IsMetAt task later p (used_in all later p) (sessions_with all p)) → (b : Bool) → nat_eq held.peer.number p ≡ b
    → IsMetAt task later p (if b then used_by held.given (later p) else used_in all later p) (if b then Some (session_of held.greeted) else sessions_with all p)
met_or task later p place number held all k first greets behind true e = record {
  given = held.given;
  greeted = held.greeted;
  greets = subst (λ (n : ℕ). Greets (ends task.plan task.me.0 n) held.given held.greeted (Ok tt)) (eqb-true held.peer.number p e) greets;
  used = refl;
  session = refl;
}
met_or task later p place number held all k first greets behind false e =
    behind (λ same. true≢false (sym (eq-eqb held.peer.number p (ap (λ (q : Peer). q.number) first ∙ ap (number_at task.me.0) same ∙ number)) ∙ e))

met_at : (task : Task) (later : Sessions) (p place : ℕ) → number_at task.me.0 place ≡ p → (all : List Held) (k count : ℕ) → k ≤ place → place < k + count
    → map (λ held. held.peer) all ≡ map (peer_at task) (range_with_len k count) → AllByRecursion (HasGreeted task) all → IsMetAt task later p (used_in all later p) (sessions_with all p)
met_at task later p place number [] k zero low high is g = absurd (omega (arith, low, high))
met_at task later p place number [] k (suc count) low high is g = absurd (cc is)
met_at task later p place number (held ∷ all) k zero low high is g = absurd (cc is)
met_at task later p place number (held ∷ all) k (suc count) low high is g =
    let first : held.peer ≡ peer_at task k = cc is in
    let rest : map (λ held. held.peer) all ≡ map (peer_at task) (range_with_len (k + 1) count) = cc is in
    met_or task later p place number held all k first g.0
    (λ other. met_at task later p place number all (k + 1) count (omega (arith, low, other)) (omega (arith, high)) rest g.1) (nat_eq held.peer.number p) refl

-- ---- the stages of a run

-- in the greeting of this peer its link ended, and all peers up to it were greeted
pub record Refused (plan : List ℕ) (me peers : ℕ) (link : ℕ → Option Used) : Type 0 where
  pub count : ℕ
  pub there : count < peers
  pub short : IsGreetFault (ends plan me (number_at me count)) (bytes_that_came (link (number_at me count))) greet_fault.End
  pub greeted : (place : ℕ) → place ≤ count → IsGreetedBy plan me (number_at me place) (link (number_at me place))

-- all peers were greeted, and the machine was driven
pub record WasDriven (l : Lists) (start : State) (plan : List ℕ) (me peers : ℕ) (link : ℕ → Option Used) (result : Result Ended HostFault) : Type 0 where
  pub engine : Result Ended EngineFault
  pub went_on : Progress l start (λ p. drop 36 (bytes_that_came (link p))) (λ p. drop 36 (bytes_that_went (link p))) engine
  pub well : (done : Ended) → engine ≡ Ok done → result ≡ Ok done
  pub greeted : (place : ℕ) → place < peers → IsGreetedBy plan me (number_at me place) (link (number_at me place))

abbrev pub Stage : Lists → State → List ℕ → (me peers : ℕ) → (ℕ → Option Used) → Result Ended HostFault → Type 0
Stage l start plan me peers link result = Refused plan me peers link ⊎ WasDriven l start plan me peers link result

call_disturbs : (peer : Peer) (cause : CallFault) → IsUndisturbed (Err (call_status peer cause)) → ⊥
call_disturbs peer call_fault.Failed h = h
call_disturbs peer call_fault.Memory h = h

only_end : (peer : Peer) (refusal : GreetFault) → IsUndisturbed (Err (greet_status peer refusal)) → BlamesNobody (Err (greet_status peer refusal)) → refusal ≡ greet_fault.End
only_end peer greet_fault.Peer calm blames = absurd calm
only_end peer (greet_fault.BadFrame offset byte) calm blames = absurd blames
only_end peer (greet_fault.WrongProgram ours theirs) calm blames = absurd blames
only_end peer (greet_fault.WrongHost wanted named) calm blames = absurd blames
only_end peer greet_fault.End calm blames = refl

calm_engine : (cause : EngineFault) → IsUndisturbed (Err (engine_status cause)) → BlamesNobody (Err (engine_status cause)) → IsCalm (Err cause)
calm_engine (engine_fault.Peer peer) calm blames = calm
calm_engine engine_fault.Write calm blames = calm
calm_engine (engine_fault.BadFrame peer offset byte) calm blames = blames
calm_engine (engine_fault.Unequal left right) calm blames = blames
calm_engine (engine_fault.ShortInput cursor count) calm blames = tt
calm_engine (engine_fault.ShortDeal kind cursor count) calm blames = tt
calm_engine (engine_fault.EndOfLink peer) calm blames = tt

not_ok : (cause : EngineFault) (result : Result Ended HostFault) (done : Ended) → ◌≡◌ {A = Result Ended EngineFault} (Err cause) (Ok done) → result ≡ Ok done
not_ok cause result done e = absurd (cc e)

well_told : (a b : Ended) → ◌≡◌ {A = Result Ended EngineFault} (Ok a) (Ok b) → ◌≡◌ {A = Result Ended HostFault} (Ok a) (Ok b)
well_told a b e = let same : a ≡ b = cc e in ap Ok same

module _ (machine : Kept) (task : Task) (start end : NetView) (ob on : SinkView) (long : length task.plan ≡ 32) where
  abbrev me : ℕ
  me = task.me.0

  abbrev StageOf : (ℕ → Option Used) → Result Ended HostFault → Type 0
  StageOf link result = Stage machine.lists (state_of machine) task.plan me (length task.addresses) link result

  -- peers that were met, where only greetings were exchanged
  met_greeted : (all : List Held) (sessions : Sessions) (count place : ℕ) → map (λ held. held.peer) all ≡ first_peers task count → AreOf all sessions → AllByRecursion (HasGreeted task) all
      → place < count → TellsBytes (used_in all sessions (number_at me place)) → IsGreetedBy task.plan me (number_at me place) (used_in all sessions (number_at me place))
  met_greeted all sessions count place peers are g there told =
      let p = number_at me place in
      let m = met_at task sessions p place refl all 0 count (omega arith) (omega (arith, there)) peers g in
      met_went task.plan me p m.given m.greeted (used_in all sessions p) (sessions p) m.greets (are p ∙ m.session) m.used told

  -- peers that were met, where the machine was driven over their links
  driven_greeted : (all : List Held) (sessions later : Sessions) (place : ℕ) → map (λ held. held.peer) all ≡ first_peers task (length task.addresses) → AreOf all sessions
      → AllByRecursion (HasGreeted task) all → ((p : ℕ) → BothStand (sessions p) (later p)) → ((p : ℕ) → Grown (sessions p) (later p)) → ((p : ℕ) → WasTold (sessions p) (later p))
      → place < length task.addresses → TellsBytes (used_in all later (number_at me place)) → IsGreetedBy task.plan me (number_at me place) (used_in all later (number_at me place))
  driven_greeted all sessions later place peers are g stand grow was there told =
      let p = number_at me place in
      let m = met_at task later p place refl all 0 (length task.addresses) (omega arith) (omega (arith, there)) peers g in
      let e : sessions p ≡ Some (session_of m.greeted) = are p ∙ m.session in
      driven_went task.plan me p m.given m.greeted (used_in all later p) (later p) m.greets (subst (λ (o : Option SessionView). BothStand o (later p)) e (stand p))
      (subst (λ (o : Option SessionView). Grown o (later p)) e (grow p)) (subst (λ (o : Option SessionView). WasTold o (later p)) e (was p)) m.used told

  -- a greeting in which the link ended
  refused : (count : ℕ) (sessions : Sessions) (met : NetView) (given link : LinkView) (refusal : GreetFault) (meets : Meets task start met ob on count sessions) → count < length task.addresses
      → Greets (ends task.plan me (number_at me count)) given link (Err refusal) → refusal ≡ greet_fault.End
      → ((p : ℕ) → TellsBytes (used_or (number_at me count) given link p (used_in meets.met.all sessions p)))
      → Refused task.plan me (length task.addresses) (λ p. used_or (number_at me count) given link p (used_in meets.met.all sessions p))
  refused count sessions met given link refusal meets there greets is told =
      let n = number_at me count in
      let links : ℕ → Option Used = λ p. used_or n given link p (used_in meets.met.all sessions p) in
      let itself : links n ≡ Some (record { given = given; back = link }) = or_itself n given link (used_in meets.met.all sessions n) in
      let tells : IsTrue link.told = subst TellsBytes itself (told n) in
      let g = all_greeted task meets.first meets.net meets.met.all met meets.met.met in
      let own : GoesOut (own_greeting (ends task.plan me n)) given link (Err greet_fault.End) =
      subst (λ (f : GreetFault). GoesOut (own_greeting (ends task.plan me n)) given link (Err f)) is (greets.sent tells) in
      record {
        count = count;
        there = there;
        short = subst (λ (u : Option Used). IsGreetFault (ends task.plan me n) (bytes_that_came u) greet_fault.End) (sym itself)
            (subst (IsGreetFault (ends task.plan me n) given.coming) is (greets.fault tells));
        greeted = λ place le.
            elim (same_or_not place count) [
              | inl same ↦
                  subst (λ (q : ℕ). IsGreetedBy task.plan me (number_at me q) (links (number_at me q))) (sym same)
                  (greeted_went task.plan me n given link (links n) itself [] (own ∙ ap (λ (l : List ℕ). given.sent ++ l) (with_nothing (greeting task.plan me n))))
              | inr other ↦
                  let p = number_at me place in
                  let apart : links p ≡ used_in meets.met.all sessions p =
                  ap (λ (b : Bool). if b then Some (record { given = given; back = link }) else used_in meets.met.all sessions p) (ne_eqb n p (λ e. numbers_differ me place count other (sym e))) in
                  subst (IsGreetedBy task.plan me p) (sym apart)
                  (met_greeted meets.met.all sessions count place meets.met.peers meets.met.are g (omega (arith, le, other)) (subst TellsBytes apart (told p)))
            ];
      }

  -- a machine that was driven, and what became of it
  driven : (sessions later : Sessions) (met : NetView) (out mid : SinkView) (meets : Meets task start met ob out (length task.addresses) sessions) (engine : Result Ended EngineFault)
      (result : Result Ended HostFault) → (d : Drives (wants_with machine.lists) (next_with machine.lists) seen_at (state_of machine) sessions later out mid engine) → IsCalm engine
      → ((done : Ended) → engine ≡ Ok done → result ≡ Ok done) → ((p : ℕ) → TellsBytes (used_in meets.met.all later p))
      → WasDriven machine.lists (state_of machine) task.plan me (length task.addresses) (λ p. used_in meets.met.all later p) result
  driven sessions later met out mid meets engine result d calm well told =
      let tells = all_told machine task start end ob on long sessions later met out meets mid engine d told in
      let agree = agrees machine task start end ob on long sessions later met out meets mid engine d told in
      let g = all_greeted task meets.first meets.net meets.met.all met meets.met.met in
      record {
        engine = engine;
        went_on = same_progress machine.lists (state_of machine) (λ p. bytes_to_come (sessions p)) (λ p. bytes_sent (sessions p) (later p))
            (λ p. drop 36 (bytes_that_came (used_in meets.met.all later p))) (λ p. drop 36 (bytes_that_went (used_in meets.met.all later p))) engine (λ p. (agree p).came) (λ p. (agree p).went)
            (progress machine.lists (state_of machine) sessions later out mid tells engine calm d);
        well = well;
        greeted = λ place there.
            driven_greeted meets.met.all sessions later place meets.met.peers meets.met.are g (stands machine task start end ob on long sessions later met out meets mid engine d told)
            (grown d.events (wants_with machine.lists d.machine) (seen_at d.machine) sessions later tells out mid engine d.driven)
            (was_told d.events (wants_with machine.lists d.machine) (seen_at d.machine) sessions later out mid engine d.driven) there (told (number_at me place));
      }

  drove : (sessions later : Sessions) (met : NetView) (out : SinkView) (meets : Meets task start met ob out (length task.addresses) sessions) (result : Result Ended HostFault)
      → DrivesAndTells machine sessions later out on result → IsUndisturbed result → BlamesNobody result → ((p : ℕ) → TellsBytes (used_in meets.met.all later p))
      → WasDriven machine.lists (state_of machine) task.plan me (length task.addresses) (λ p. used_in meets.met.all later p) result
  drove sessions later met out meets _ (Told mid done d w) calm blames told =
      driven sessions later met out mid meets (Ok done) (Ok done) d tt (λ other e. well_told done other e) told
  drove sessions later met out meets _ (Untold mid done failed d w) calm blames told = absurd calm
  drove sessions later met out meets _ (Stopped cause d) calm blames told =
      driven sessions later met out on meets (Err cause) (Err (engine_status cause)) d (calm_engine cause calm blames) (λ done e. not_ok cause (Err (engine_status cause)) done e) told

  pub stage : {result : Result Ended HostFault} (plays : Plays machine task start end ob on result) → ((p : ℕ) → TellsBytes (link_to plays p)) → IsUndisturbed result → BlamesNobody result
      → StageOf (λ p. link_to plays p) result
  stage (NotListening count net cause there listened call same) told calm blames = absurd (call_disturbs (peer_at task (me + count)) cause calm)
  stage (NotAnnounced failed announces) told calm blames = absurd calm
  stage (NotGiven count sessions met net cause meets there gets back) told calm blames = absurd (call_disturbs (peer_at task count) cause calm)
  stage (NoRoom count sessions met net back given meets there gets handed hung) told calm blames = absurd calm
  stage (NotGreeted count sessions met net back given link refusal meets there gets greets handed hung) told calm blames =
      inl (refused count sessions met given link refusal meets there greets (only_end (peer_at task count) refusal calm blames) told)
  stage (Driven sessions later met out result meets drives back) told calm blames = inr (drove sessions later met out meets result drives calm blames told)
