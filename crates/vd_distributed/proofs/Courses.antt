-- One run of a host, as steps that explain all that went over its links and into its output.
use Rattle.std.proofs.Common.{◌≡◌, ◌⊎◌, inl, inr, ◌+◌, ℕ, zero, suc, nat_eq, if◌then◌else◌, Bool, true, false, IsTrue, List, [], ◌∷◌, ◌++◌, length, Option, Some, None, Result, Ok, Err, refl, sym, ap, ◌∙◌, subst, append_assoc, length-append, arith}
use Rattle.std.proofs.lemmas.List.{append-nil}
use Rattle.std.proofs.lemmas.Bool.{eqb-true, eq-eqb}
use Rattle.std.proofs.Math.Seq.{drop-append_seam}
use Rattle.std.specs.List.{AllByRecursion}
use Rattle.std.specs.Prelude.{IfSome, drop, take}
use Rattle.vd_base.specs.declared.faults.CallFault.{CallFault}
use Rattle.vd_base.specs.declared.faults.CallFault.TheVariants as call_fault
use Rattle.vd_outside.specs.Link.{LinkView}
use Rattle.vd_outside.specs.Net.{NetView}
use Rattle.vd_outside.specs.Sink.{SinkView}
use Rattle.vd_execution.specs.Code.{Finished}
use Rattle.vd_execution.specs.Step.{State, Packet, Unequal, need}
use Rattle.vd_execution.specs.World.{IsPrefixOf}
use Rattle.vd_machine.specs.Kept.{Kept, state_of}
use Rattle.vd_machine.specs.declared.lists.Lists.{Lists}
use Rattle.vd_link.specs.Frames.{frames, greeting}
use Rattle.vd_link.specs.Receiving.{IsBadByte}
use Rattle.vd_link.specs.Sessions.{Ends, Greets, IsGreetFault, StopsIn, offset_after}
use Rattle.vd_link.specs.declared.faults.GreetFault.{GreetFault}
use Rattle.vd_link.specs.declared.faults.GreetFault.TheVariants as greet_fault
use Rattle.vd_engine.specs.Drives.{Drives, SessionView, Sessions, lines}
use Rattle.vd_engine.specs.Enough.{AreTold}
use Rattle.vd_engine.specs.Events.{Event, AtStart, received_from, sent_to, printed}
use Rattle.vd_engine.specs.Hosts.{next_with, seen_at, wants_with}
use Rattle.vd_engine.specs.declared.engine.Ended.{Ended}
use Rattle.vd_engine.specs.declared.fault.EngineFault.{EngineFault}
use Rattle.vd_engine.specs.declared.fault.EngineFault.TheVariants as engine_fault
use Rattle.vd_host_session.specs.Histories.{AreOf, Held, Met, NoneMet, OneMet, call_status, ended, ends_with, engine_status, greet_status, listening, sessions_with}
use Rattle.vd_host_session.specs.Peers.{Peer, number_at, peer_at}
use Rattle.vd_host_session.specs.Plays.{Driven, DrivesAndTells, Meets, NoRoom, NotAnnounced, NotGiven, NotGreeted, NotListening, Plays, Stopped, Told, Untold}
use Rattle.vd_host_session.specs.declared.fault.HostFault.{HostFault}
use Rattle.vd_host_session.specs.declared.fault.HostFault.TheVariants as fault
use Rattle.vd_host_session.specs.declared.task.Task.{Task}
use Rattle.vd_distributed.specs.Linked.{bytes_to_come, bytes_sent}
use Rattle.vd_distributed.proofs.Driven.{BothStand, EndsSo, Grown, Made, Ran, WasTold, driven_ran, grown, stand, was_told}
use Rattle.vd_distributed.proofs.Fronts.{added, front_both, front_same, front_trans, taken_front}
use Rattle.vd_distributed.specs.Links.{TellsBytes, Used, bytes_that_came, bytes_that_went, link_to, used_by, used_in, used_or}
use Rattle.vd_distributed.specs.Running.{text_of}

-- ---- greetings

pub drop_front : (n : ℕ) (xs ys : List ℕ) → IsPrefixOf xs ys → IsPrefixOf (drop n xs) (drop n ys)
drop_front zero xs ys p = p
drop_front (suc n) [] ys p = (drop (suc n) ys, refl)
drop_front (suc n) (x ∷ xs) [] p = let e = p.1 in absurd cc
drop_front (suc n) (x ∷ xs) (y ∷ ys) p = let e : xs ++ p.0 ≡ ys = (let f = p.1 in cc) in drop_front n xs ys (p.0, e)

greeting_size : (plan : List ℕ) (from to : ℕ) → length plan ≡ 32 → length (greeting plan from to) ≡ 36
greeting_size plan from to long = omega (arith, long, length-append plan (from ∷ to ∷ []))

behind_greeting : (plan : List ℕ) (from to : ℕ) (rest : List ℕ) → length plan ≡ 32 → drop 36 (greeting plan from to ++ rest) ≡ rest
behind_greeting plan from to rest long = ap (λ (n : ℕ). drop n (greeting plan from to ++ rest)) (sym (greeting_size plan from to long)) ∙ drop-append_seam (greeting plan from to) rest

nothing_behind : (plan : List ℕ) (from to : ℕ) (went : List ℕ) → length plan ≡ 32 → IsPrefixOf went (greeting plan from to) → IsPrefixOf (drop 36 went) []
nothing_behind plan from to went long p =
    subst (IsPrefixOf (drop 36 went)) (ap (drop 36) (sym (append-nil (greeting plan from to))) ∙ behind_greeting plan from to [] long) (drop_front 36 went (greeting plan from to) p)

-- ---- what is known of a run

abbrev pub ends : (plan : List ℕ) (me peer : ℕ) → Ends
ends plan me peer = record { me = me; peer = peer; plan = plan }

module _ (lists : Lists) (start : State) (plan : List ℕ) (me : ℕ) (link : ℕ → Option Used) (ob on : SinkView) where
  abbrev pub come : ℕ → List ℕ
  come p = drop 36 (bytes_that_came (link p))

  abbrev pub went : ℕ → List ℕ
  went p = drop 36 (bytes_that_went (link p))

  -- a greeting that is none of the peer's, or bytes that are no packet
  abbrev pub BadBytes : (offset byte : ℕ) → List Event → State → Type 0
  BadBytes offset byte events m =
      ((p : ℕ) × IsGreetFault (ends plan me p) (bytes_that_came (link p)) (greet_fault.BadFrame offset byte))
      ⊎ ((p : ℕ) × (count : ℕ) × (need m ≡ Packet p count) × (rest : List ℕ) × (come p ≡ frames (received_from p events) ++ rest)
      × (at : ℕ) × IsBadByte 0x56 count at (offset_after at 1) offset byte rest)

  abbrev pub EndsAs : List Event → State → Result Ended HostFault → Type 0
  EndsAs events m (Ok done) = (m.pending ≡ Finished) × (IsTrue on.told → on.taken ≡ ob.taken ++ text_of (printed events))
  EndsAs events m (Err (fault.BadFrame offset byte)) = BadBytes offset byte events m
  EndsAs events m (Err (fault.Unequal left right)) = need m ≡ Unequal left right
  EndsAs events m (Err (fault.WrongProgram peer ours theirs)) = (p : ℕ) × IsGreetFault (ends plan me p) (bytes_that_came (link p)) (greet_fault.WrongProgram ours theirs)
  EndsAs events m (Err (fault.WrongHost wanted named)) = (p : ℕ) × IsGreetFault (ends plan me p) (bytes_that_came (link p)) (greet_fault.WrongHost wanted named)
  EndsAs events m (Err other) = Unit {0}

  -- a prefix of `listening` and the lines of the words, or of all with `ended`
  abbrev pub Part : List Event → State → List ℕ → Type 0
  Part events m front = IsPrefixOf front (listening ++ lines (printed events)) ⊎ ((m.pending ≡ Finished) × IsPrefixOf front (text_of (printed events)))

  pub record Course (result : Result Ended HostFault) : Type 0 where
    pub made : Made lists start come went
    pub greets : (p : ℕ) → (more : List ℕ) × IsPrefixOf (bytes_that_went (link p)) (greeting plan me p ++ more)
    pub written : IsTrue on.told → (front : List ℕ) × (on.taken ≡ ob.taken ++ front) × Part made.events made.state front
    pub ends_as : EndsAs made.events made.state result

  -- no step was made: no more than greetings went out
  abbrev OnlyGreets : ℕ → Type 0
  OnlyGreets p = IsPrefixOf (bytes_that_went (link p)) (greeting plan me p)

  abbrev no_steps : length plan ≡ 32 → ((p : ℕ) → OnlyGreets p) → Made lists start come went
  no_steps long only = record {
    steps = 0;
    events = [];
    state = start;
    reached = AtStart;
    came = λ p. (come p, refl);
    sent = λ p. nothing_behind plan me p (bytes_that_went (link p)) long (only p);
  }

  unmade : (result : Result Ended HostFault) → length plan ≡ 32 → ((p : ℕ) → OnlyGreets p) → (IsTrue on.told → (front : List ℕ) × (on.taken ≡ ob.taken ++ front) × IsPrefixOf front listening)
      → EndsAs [] start result → Course result
  unmade result long only w e = record {
    made = no_steps long only;
    greets = λ p. ([], subst (IsPrefixOf (bytes_that_went (link p))) (sym (append-nil (greeting plan me p))) (only p));
    written = λ t. let x = w t in (x.0, x.1, inl (subst (IsPrefixOf x.0) (sym (append-nil listening)) x.2));
    ends_as = e;
  }

-- ---- the links of peers that were met

each_both : {X : Type 0} (P : X → Type 0) (xs : List X) (x : X) → AllByRecursion P xs → P x → AllByRecursion P (xs ++ x ∷ [])
each_both P [] x a p = (p, tt)
each_both P (y ∷ xs) x a p = (a.0, each_both P xs x a.1 p)

abbrev pub HasGreeted : Task → Held → Type 0
HasGreeted task held = Greets (ends_with task held.peer) held.given held.greeted (Ok tt)

pub all_greeted : (task : Task) (first : ℕ) (start : NetView) (all : List Held) (now : NetView) → Met task first start all now → AllByRecursion (HasGreeted task) all
all_greeted task first start _ _ NoneMet = tt
all_greeted task first start _ _ (OneMet all held net now met gets greets) = each_both (HasGreeted task) all held (all_greeted task first start all net met) greets

abbrev pub session_of : LinkView → SessionView
session_of greeted = record { link = greeted; received = 36; failed = false }

each_link : (task : Task) (later : Sessions) (p : ℕ) (P : Option SessionView → Option Used → Type 0) → P None None
    → ((given greeted : LinkView) → Greets (ends task.plan task.me.0 p) given greeted (Ok tt) → P (Some (session_of greeted)) (used_by given (later p)))
    → (all : List Held) → AllByRecursion (HasGreeted task) all → P (sessions_with all p) (used_in all later p)
each_link task later p P none some [] g = none
each_link task later p P none some (held ∷ all) g = at (nat_eq held.peer.number p) refl (each_link task later p P none some all g.1)
  where
    at : (b : Bool) → nat_eq held.peer.number p ≡ b → P (sessions_with all p) (used_in all later p) → P (if b then Some (session_of held.greeted) else sessions_with all p) (if b then used_by held.given (later p) else used_in all later p)
    at true e more = some held.given held.greeted (subst (λ (n : ℕ). Greets (ends task.plan task.me.0 n) held.given held.greeted (Ok tt)) (eqb-true held.peer.number p e) g.0)
    at false e more = more

-- a link on which only the greetings were exchanged
greeted_only : (plan : List ℕ) (me p : ℕ) (given greeted : LinkView) → IsTrue greeted.told → Greets (ends plan me p) given greeted (Ok tt) → IsPrefixOf (drop (length given.sent) greeted.sent) (greeting plan me p)
greeted_only plan me p given greeted told g = front_same _ _ (added given.sent (greeting plan me p) greeted.sent (g.sent told))

met_only : (task : Task) (all : List Held) (sessions : Sessions) (p : ℕ) → AreOf all sessions → AllByRecursion (HasGreeted task) all → TellsBytes (used_in all sessions p)
    → IsPrefixOf (bytes_that_went (used_in all sessions p)) (greeting task.plan task.me.0 p)
met_only task all sessions p are g told =
    each_link task sessions p (λ s u. sessions p ≡ s → TellsBytes u → IsPrefixOf (bytes_that_went u) (greeting task.plan task.me.0 p)) (λ e t. (greeting task.plan task.me.0 p, refl))
    (λ given greeted greets e t. here given greeted greets (sessions p) e t) all g (are p) told
  where
    here : (given greeted : LinkView) → Greets (ends task.plan task.me.0 p) given greeted (Ok tt) → (s : Option SessionView) → s ≡ Some (session_of greeted) → TellsBytes (used_by given s)
        → IsPrefixOf (bytes_that_went (used_by given s)) (greeting task.plan task.me.0 p)
    here given greeted greets s e t =
        subst (λ (o : Option SessionView). TellsBytes (used_by given o) → IsPrefixOf (bytes_that_went (used_by given o)) (greeting task.plan task.me.0 p)) (sym e)
        (λ told. greeted_only task.plan task.me.0 p given greeted told greets) t

-- ---- with one link more

or_only : (plan : List ℕ) (me peer : ℕ) (given back : LinkView) (p : ℕ) (others : Option Used) → TellsBytes (used_or peer given back p others)
    → (IsTrue back.told → IsPrefixOf (drop (length given.sent) back.sent) (greeting plan me peer))
    → (TellsBytes others → IsPrefixOf (bytes_that_went others) (greeting plan me p)) → IsPrefixOf (bytes_that_went (used_or peer given back p others)) (greeting plan me p)
or_only plan me peer given back p others told here rest = at (nat_eq peer p) refl told
  where
    at : (b : Bool) → nat_eq peer p ≡ b → TellsBytes (if b then Some (record { given = given; back = back }) else others)
        → IsPrefixOf (bytes_that_went (if b then Some (record { given = given; back = back }) else others)) (greeting plan me p)
    at true e t = subst (λ (n : ℕ). IsPrefixOf (drop (length given.sent) back.sent) (greeting plan me n)) (eqb-true peer p e) (here t)
    at false e t = rest t

pub or_itself : (peer : ℕ) (given back : LinkView) (others : Option Used) → used_or peer given back peer others ≡ Some (record { given = given; back = back })
or_itself peer given back others = ap (λ (b : Bool). if b then Some (record { given = given; back = back }) else others) (eq-eqb peer peer refl)

nothing_went : (xs ys : List ℕ) → IsPrefixOf (drop (length xs) xs) ys
nothing_went [] ys = (ys, refl)
nothing_went (x ∷ xs) ys = nothing_went xs ys

-- of a greeting that failed a front went out
cut_greeting : (plan : List ℕ) (me p : ℕ) (given link : LinkView) (refusal : GreetFault) → IsTrue link.told → Greets (ends plan me p) given link (Err refusal)
    → IsPrefixOf (drop (length given.sent) link.sent) (greeting plan me p)
cut_greeting plan me p given link greet_fault.Peer told g = at (g.sent told)
  where
    at : (link.sent ≡ given.sent ++ greeting plan me p) ⊎ StopsIn (greeting plan me p) given link → IsPrefixOf (drop (length given.sent) link.sent) (greeting plan me p)
    at (inl whole) = front_same _ _ (added given.sent (greeting plan me p) link.sent whole)
    at (inr stops) = front_trans _ _ _ (front_same _ _ (added given.sent (take stops.count (greeting plan me p)) link.sent stops.part)) (taken_front stops.count (greeting plan me p))
cut_greeting plan me p given link (greet_fault.BadFrame offset byte) told g = front_same _ _ (added given.sent (greeting plan me p) link.sent (g.sent told))
cut_greeting plan me p given link (greet_fault.WrongProgram ours theirs) told g = front_same _ _ (added given.sent (greeting plan me p) link.sent (g.sent told))
cut_greeting plan me p given link (greet_fault.WrongHost wanted named) told g = front_same _ _ (added given.sent (greeting plan me p) link.sent (g.sent told))
cut_greeting plan me p given link greet_fault.End told g = front_same _ _ (added given.sent (greeting plan me p) link.sent (g.sent told))

-- ---- peers that were met, and steps over their links

-- what a link is where its session was driven
pub record Agrees (plan : List ℕ) (me p : ℕ) (s l : Option SessionView) (u : Option Used) : Type 0 where
  pub came : bytes_to_come s ≡ drop 36 (bytes_that_came u)
  pub went : bytes_sent s l ≡ drop 36 (bytes_that_went u)
  pub greets : (more : List ℕ) × IsPrefixOf (bytes_that_went u) (greeting plan me p ++ more)

pub behind_sent : (given greeted back own more : List ℕ) → greeted ≡ given ++ own → back ≡ greeted ++ more → back ≡ given ++ (own ++ more)
behind_sent given greeted back own more e f = f ∙ ap (λ l. l ++ more) e ∙ append_assoc given own more

driven_link : (plan : List ℕ) (me p : ℕ) (given greeted : LinkView) (l : Option SessionView) → length plan ≡ 32 → Greets (ends plan me p) given greeted (Ok tt) → BothStand (Some (session_of greeted)) l
    → Grown (Some (session_of greeted)) l → (IfSome l (λ s. IsTrue s.link.told)) → (IsTrue greeted.told) → Agrees plan me p (Some (session_of greeted)) l (used_by given l)
driven_link plan me p given greeted None long g stands grown told was = absurd stands
driven_link plan me p given greeted (Some now) long g stands grown told was =
    let own = greeting plan me p in
    let all : now.link.sent ≡ given.sent ++ (own ++ grown.0) = behind_sent given.sent greeted.sent now.link.sent own grown.0 (g.sent was) grown.1 in
    let whole : drop (length given.sent) now.link.sent ≡ own ++ grown.0 = added given.sent (own ++ grown.0) now.link.sent all in
    record {
      came = sym (ap (drop 36) (g.came was) ∙ behind_greeting plan p me greeted.coming long);
      went = added greeted.sent grown.0 now.link.sent grown.1 ∙ sym (ap (drop 36) whole ∙ behind_greeting plan me p grown.0 long);
      greets = (grown.0, front_same _ _ whole);
    }

no_link : (plan : List ℕ) (me p : ℕ) (l : Option SessionView) → BothStand None l → Agrees plan me p None l None
no_link plan me p None stands = record { came = refl; went = refl; greets = ([], (greeting plan me p ++ [], refl)) }
no_link plan me p (Some now) stands = absurd stands

session_tells : (given : LinkView) (l : Option SessionView) → TellsBytes (used_by given l) → IfSome l (λ s. IsTrue s.link.told)
session_tells given None t = tt
session_tells given (Some s) t = t

told_before : (greeted : LinkView) (l : Option SessionView) → BothStand (Some (session_of greeted)) l → WasTold (Some (session_of greeted)) l → IfSome l (λ s. IsTrue s.link.told) → IsTrue greeted.told
told_before greeted None stands was t = absurd stands
told_before greeted (Some now) stands was t = was t

none_told : (l : Option SessionView) → BothStand None l → IfSome l (λ s. IsTrue s.link.told)
none_told None stands = tt
none_told (Some s) stands = absurd stands

module _ (task : Task) (all : List Held) (sessions later : Sessions) (are : AreOf all sessions) (g : AllByRecursion (HasGreeted task) all) (long : length task.plan ≡ 32)
    (stands : (p : ℕ) → BothStand (sessions p) (later p)) (told : (p : ℕ) → TellsBytes (used_in all later p)) where
  later_told : AreTold later
  later_told p =
      each_link task later p (λ s u. sessions p ≡ s → TellsBytes u → IfSome (later p) (λ s. IsTrue s.link.told))
      (λ e t. none_told (later p) (subst (λ (o : Option SessionView). BothStand o (later p)) e (stands p)))
      (λ given greeted greets e t. session_tells given (later p) t) all g (are p) (told p)

  agree : ((p : ℕ) → Grown (sessions p) (later p)) → ((p : ℕ) → WasTold (sessions p) (later p)) → (p : ℕ) → Agrees task.plan task.me.0 p (sessions p) (later p) (used_in all later p)
  agree grows was p =
      subst (λ (o : Option SessionView). Agrees task.plan task.me.0 p o (later p) (used_in all later p)) (sym (are p))
      (each_link task later p (λ s u. sessions p ≡ s → Agrees task.plan task.me.0 p s (later p) u)
      (λ e. no_link task.plan task.me.0 p (later p) (subst (λ (o : Option SessionView). BothStand o (later p)) e (stands p)))
      (λ given greeted greets e.
      let st = subst (λ (o : Option SessionView). BothStand o (later p)) e (stands p) in
      let gr = subst (λ (o : Option SessionView). Grown o (later p)) e (grows p) in
      let wa = subst (λ (o : Option SessionView). WasTold o (later p)) e (was p) in
      driven_link task.plan task.me.0 p given greeted (later p) long greets st gr (later_told p) (told_before greeted (later p) st wa (later_told p))) all g (are p))

-- ---- the whole run

module _ (machine : Kept) (task : Task) (start end : NetView) (ob on : SinkView) (long : length task.plan ≡ 32) where
  abbrev Is : (ℕ → Option Used) → Result Ended HostFault → Type 0
  Is link result = Course machine.lists (state_of machine) task.plan task.me.0 link ob on result

  -- nothing was written, or `listening` alone
  unwritten : on ≡ ob → IsTrue on.told → (front : List ℕ) × (on.taken ≡ ob.taken ++ front) × IsPrefixOf front listening
  unwritten same t = ([], ap (λ (v : SinkView). v.taken) same ∙ sym (append-nil ob.taken), (listening, refl))

  announced_alone : (count : ℕ) (met : NetView) (sessions : Sessions) → Meets task start met ob on count sessions → IsTrue on.told
      → (front : List ℕ) × (on.taken ≡ ob.taken ++ front) × IsPrefixOf front listening
  announced_alone count met sessions meets t = (listening, meets.announced.written.whole t, front_same _ _ refl)

  -- the fault of a call says nothing of bytes
  call_ends : (link : ℕ → Option Used) (events : List Event) (m : State) (peer : Peer) (cause : CallFault)
      → EndsAs machine.lists (state_of machine) task.plan task.me.0 link ob on events m (Err (call_status peer cause))
  call_ends link events m peer call_fault.Failed = tt
  call_ends link events m peer call_fault.Memory = tt

  greet_ends : (link : ℕ → Option Used) (events : List Event) (m : State) (peer : Peer) (refusal : GreetFault) → IsGreetFault (ends task.plan task.me.0 peer.number) (bytes_that_came (link peer.number)) refusal
      → EndsAs machine.lists (state_of machine) task.plan task.me.0 link ob on events m (Err (greet_status peer refusal))
  greet_ends link events m peer greet_fault.Peer f = tt
  greet_ends link events m peer (greet_fault.BadFrame offset byte) f = inl (peer.number, f)
  greet_ends link events m peer (greet_fault.WrongProgram ours theirs) f = (peer.number, f)
  greet_ends link events m peer (greet_fault.WrongHost wanted named) f = (peer.number, f)
  greet_ends link events m peer greet_fault.End f = tt

  engine_ends : (link : ℕ → Option Used) (events : List Event) (m : State) (out : SinkView) (cause : EngineFault)
      → EndsSo (λ p. drop 36 (bytes_that_came (link p))) machine.lists events m out on (Err cause)
      → EndsAs machine.lists (state_of machine) task.plan task.me.0 link ob on events m (Err (engine_status cause))
  engine_ends link events m out (engine_fault.Peer peer) e = tt
  engine_ends link events m out engine_fault.Write e = tt
  engine_ends link events m out (engine_fault.BadFrame peer offset byte) e = inr (peer.0, e.0, e.1, e.2, e.3, e.4, e.5)
  engine_ends link events m out (engine_fault.Unequal left right) e = e
  engine_ends link events m out (engine_fault.ShortInput cursor count) e = tt
  engine_ends link events m out (engine_fault.ShortDeal kind cursor count) e = tt
  engine_ends link events m out (engine_fault.EndOfLink peer) e = tt

  module _ (sessions later : Sessions) (met : NetView) (out : SinkView) (meets : Meets task start met ob out (length task.addresses) sessions) where
    abbrev links : ℕ → Option Used
    links p = used_in meets.met.all later p

    greeted_all : AllByRecursion (HasGreeted task) meets.met.all
    greeted_all = all_greeted task meets.first meets.net meets.met.all met meets.met.met

    -- the steps of the machine, as those of the links
    abbrev as_links : (mid : SinkView) (result : Result Ended EngineFault) (r : Ran machine.lists (state_of machine) (λ p. bytes_to_come (sessions p)) (λ p. bytes_sent (sessions p) (later p)) out mid result)
        → ((p : ℕ) → Agrees task.plan task.me.0 p (sessions p) (later p) (links p))
        → Made machine.lists (state_of machine) (λ p. drop 36 (bytes_that_came (links p))) (λ p. drop 36 (bytes_that_went (links p)))
    as_links mid result r a = record {
      steps = r.made.steps;
      events = r.made.events;
      state = r.made.state;
      reached = r.made.reached;
      came = λ p. subst (IsPrefixOf (frames (received_from p r.made.events))) (a p).came (r.made.came p);
      sent = λ p. subst (λ (l : List ℕ). IsPrefixOf l (frames (sent_to p r.made.events))) (a p).went (r.made.sent p);
    }

    ends_there : (mid : SinkView) (cause : EngineFault) → ((p : ℕ) → Agrees task.plan task.me.0 p (sessions p) (later p) (links p)) → (events : List Event) (m : State)
        → EndsSo (λ p. bytes_to_come (sessions p)) machine.lists events m out mid (Err cause) → EndsSo (λ p. drop 36 (bytes_that_came (links p))) machine.lists events m out mid (Err cause)
    ends_there mid (engine_fault.Peer peer) a events m e = tt
    ends_there mid engine_fault.Write a events m e = tt
    ends_there mid (engine_fault.BadFrame peer offset byte) a events m e = (e.0, e.1, e.2, sym (a peer.0).came ∙ e.3, e.4, e.5)
    ends_there mid (engine_fault.Unequal left right) a events m e = e
    ends_there mid (engine_fault.ShortInput cursor count) a events m e = tt
    ends_there mid (engine_fault.ShortDeal kind cursor count) a events m e = tt
    ends_there mid (engine_fault.EndOfLink peer) a events m e = tt

    module _ (mid : SinkView) (result : Result Ended EngineFault) (d : Drives (wants_with machine.lists) (next_with machine.lists) seen_at (state_of machine) sessions later out mid result)
        (told : (p : ℕ) → TellsBytes (links p)) where
      pub stands : (p : ℕ) → BothStand (sessions p) (later p)
      stands = stand d.events _ _ sessions later out mid result d.driven

      pub all_told : AreTold later
      all_told = later_told task meets.met.all sessions later meets.met.are greeted_all long stands told

      pub agrees : (p : ℕ) → Agrees task.plan task.me.0 p (sessions p) (later p) (links p)
      agrees = agree task meets.met.all sessions later meets.met.are greeted_all long stands told (grown d.events _ _ sessions later all_told out mid result d.driven)
          (was_told d.events _ _ sessions later out mid result d.driven)

      ran : Ran machine.lists (state_of machine) (λ p. bytes_to_come (sessions p)) (λ p. bytes_sent (sessions p) (later p)) out mid result
      ran = driven_ran machine.lists (state_of machine) sessions later out mid result all_told d

      abbrev made : Made machine.lists (state_of machine) (λ p. drop 36 (bytes_that_came (links p))) (λ p. drop 36 (bytes_that_went (links p)))
      made = as_links mid result ran agrees

      -- what was written until then
      before_end : IsTrue mid.told → (front : List ℕ) × (mid.taken ≡ ob.taken ++ (listening ++ front)) × IsPrefixOf front (lines (printed ran.made.events))
      before_end t =
          let w = ran.written t in
          let o = ran.was_told t in
          (w.0, w.2 ∙ ap (λ (l : List ℕ). l ++ w.0) (meets.announced.written.whole o) ∙ append_assoc ob.taken listening w.0, w.1)

      all_lines : IsTrue mid.told → mid.taken ≡ out.taken ++ lines (printed ran.made.events) → mid.taken ≡ ob.taken ++ (listening ++ lines (printed ran.made.events))
      all_lines t e =
          e ∙ ap (λ (l : List ℕ). l ++ lines (printed ran.made.events)) (meets.announced.written.whole (ran.was_told t)) ∙ append_assoc ob.taken listening (lines (printed ran.made.events))

  three : (a b c d : List ℕ) → (a ++ (b ++ c)) ++ d ≡ a ++ (b ++ (c ++ d))
  three a b c d = append_assoc a (b ++ c) d ∙ ap (λ (l : List ℕ). a ++ l) (append_assoc b c d)

  driven_course : (sessions later : Sessions) (met : NetView) (out : SinkView) (meets : Meets task start met ob out (length task.addresses) sessions) (result : Result Ended HostFault)
      → DrivesAndTells machine sessions later out on result → ((p : ℕ) → TellsBytes (used_in meets.met.all later p)) → Is (λ p. used_in meets.met.all later p) result
  driven_course sessions later met out meets _ (Told mid done d w) told =
      let r = ran sessions later met out meets mid (Ok done) d told in
      let text : IsTrue on.told → on.taken ≡ ob.taken ++ text_of (printed r.made.events) =
      λ t. w.whole t ∙ ap (λ (l : List ℕ). l ++ ended) (all_lines sessions later met out meets mid (Ok done) d told (w.was_told t) (r.ends.1 (w.was_told t)))
      ∙ three ob.taken listening (lines (printed r.made.events)) ended in
      record {
        made = made sessions later met out meets mid (Ok done) d told;
        greets = λ p. (agrees sessions later met out meets mid (Ok done) d told p).greets;
        written = λ t. (text_of (printed r.made.events), text t, inr (r.ends.0, front_same _ _ refl));
        ends_as = (r.ends.0, text);
      }
  driven_course sessions later met out meets _ (Untold mid done failed d w) told =
      let r = ran sessions later met out meets mid (Ok done) d told in
      record {
        made = made sessions later met out meets mid (Ok done) d told;
        greets = λ p. (agrees sessions later met out meets mid (Ok done) d told p).greets;
        written = λ t.
            let part = w.part t in
            let front = listening ++ (lines (printed r.made.events) ++ take part.0 ended) in (
              front,
              part.1 ∙ ap (λ (l : List ℕ). l ++ take part.0 ended) (all_lines sessions later met out meets mid (Ok done) d told (w.was_told t) (r.ends.1 (w.was_told t)))
                  ∙ three ob.taken listening (lines (printed r.made.events)) (take part.0 ended),
              inr (r.ends.0, front_both listening _ _ (front_both (lines (printed r.made.events)) _ _ (taken_front part.0 ended))),
            );
        ends_as = tt;
      }
  driven_course sessions later met out meets _ (Stopped cause d) told =
      let r = ran sessions later met out meets on (Err cause) d told in
      let a = agrees sessions later met out meets on (Err cause) d told in
      record {
        made = made sessions later met out meets on (Err cause) d told;
        greets = λ p. (a p).greets;
        written = λ t. let b = before_end sessions later met out meets on (Err cause) d told t in (listening ++ b.0, b.1, inl (front_both listening b.0 _ b.2));
        ends_as = engine_ends (λ p. used_in meets.met.all later p) r.made.events r.made.state out cause (ends_there sessions later met out meets on cause a r.made.events r.made.state r.ends);
      }

  pub course : {result : Result Ended HostFault} (plays : Plays machine task start end ob on result) → ((p : ℕ) → TellsBytes (link_to plays p)) → Is (λ p. link_to plays p) result
  course (NotListening count net cause there listened call same) told =
      unmade machine.lists (state_of machine) task.plan task.me.0 (λ p. None) ob on _ long (λ p. (greeting task.plan task.me.0 p, refl)) (unwritten same)
      (call_ends (λ p. None) [] (state_of machine) (peer_at task (task.me.0 + count)) cause)
  course (NotAnnounced failed announces) told =
      unmade machine.lists (state_of machine) task.plan task.me.0 (λ p. None) ob on _ long (λ p. (greeting task.plan task.me.0 p, refl))
      (λ t. let part = announces.written.part t in (take part.0 listening, part.1, taken_front part.0 listening)) tt
  course (NotGiven count sessions met net cause meets there gets back) told =
      let g = all_greeted task meets.first meets.net meets.met.all met meets.met.met in
      unmade machine.lists (state_of machine) task.plan task.me.0 (λ p. used_in meets.met.all sessions p) ob on _ long (λ p. met_only task meets.met.all sessions p meets.met.are g (told p))
      (announced_alone count met sessions meets) (call_ends (λ p. used_in meets.met.all sessions p) [] (state_of machine) (peer_at task count) cause)
  course (NoRoom count sessions met net back given meets there gets handed hung) told =
      let g = all_greeted task meets.first meets.net meets.met.all met meets.met.met in
      unmade machine.lists (state_of machine) task.plan task.me.0 (λ p. used_or (number_at task.me.0 count) given given p (used_in meets.met.all sessions p)) ob on _ long
      (λ p. or_only task.plan task.me.0 (number_at task.me.0 count) given given p (used_in meets.met.all sessions p) (told p) (λ t. nothing_went given.sent _)
      (λ t. met_only task meets.met.all sessions p meets.met.are g t)) (announced_alone count met sessions meets) tt
  course (NotGreeted count sessions met net back given link refusal meets there gets greets handed hung) told =
      let g = all_greeted task meets.first meets.net meets.met.all met meets.met.met in
      let n = number_at task.me.0 count in
      let links : ℕ → Option Used = λ p. used_or n given link p (used_in meets.met.all sessions p) in
      let itself : links n ≡ Some (record { given = given; back = link }) = or_itself n given link (used_in meets.met.all sessions n) in
      let tells : IsTrue link.told = subst TellsBytes itself (told n) in
      unmade machine.lists (state_of machine) task.plan task.me.0 links ob on _ long
      (λ p. or_only task.plan task.me.0 n given link p (used_in meets.met.all sessions p) (told p) (λ t. cut_greeting task.plan task.me.0 n given link refusal t greets)
      (λ t. met_only task meets.met.all sessions p meets.met.are g t)) (announced_alone count met sessions meets)
      (greet_ends links [] (state_of machine) (peer_at task count) refusal (subst (λ (u : Option Used). IsGreetFault (ends task.plan task.me.0 n) (bytes_that_came u) refusal) (sym itself) (greets.fault tells)))
  course (Driven sessions later met out result meets drives back) told = driven_course sessions later met out meets result drives told
