-- A host that is served, from its net to its end.
use Rattle.std.proofs.Common.{arith, ◌≡◌, ◌<◌, ◌≤◌, ◌+◌, ◌⊎◌, ⊎_elim, ℕ, Bool, true, false, IsTrue, List, [], ◌∷◌, ◌++◌, length, map, drop, Option, Some, None, Result, Ok, Err, IfSome, IfErr, refl, sym, ap, subst, ◌∙◌, length-append, append_assoc}
use Rattle.std.specs.List.{AllByRecursion}
use Rattle.std.proofs.Math.Seq.{drop-append_seam}
use Rattle.std.proofs.lemmas.List.FromFn.{length-map-range_with_len}
use Rattle.std.proofs.lemmas.List.{length-map}
use Rattle.vd_base.specs.declared.faults.CallFault.{CallFault}
use Rattle.vd_base.specs.declared.faults.CallFault.TheVariants as call_fault
use Rattle.vd_execution.specs.Step.{State}
use Rattle.vd_machine.specs.Kept.{Kept, state_of}
use Rattle.vd_machine.specs.declared.lists.Lists.{Lists}
use Rattle.vd_machine.specs.declared.want.Want.{Want}
use Rattle.vd_machine.specs.declared.want.Want.TheVariants as want
use Rattle.vd_outside.specs.Causes.{Rose}
use Rattle.vd_outside.specs.Link.{LinkView}
use Rattle.vd_outside.specs.Net.{HangsUp, NetView}
use Rattle.vd_outside.specs.Sink.{SinkView}
use Rattle.vd_link.specs.Frames.{frames, greeting}
use Rattle.vd_link.specs.Sessions.{Greets, IsGreetFault}
use Rattle.vd_link.specs.declared.faults.GreetFault.{GreetFault}
use Rattle.vd_link.specs.declared.faults.GreetFault.TheVariants as greet_fault
use Rattle.vd_link.proofs.Front.{no_greet_fault, front_same}
use Rattle.vd_engine.specs.Drives.{SessionView, Sessions}
use Rattle.vd_engine.specs.Enough.{HasCome, IsEnough, IsThere, NotRisen, PacketComes}
use Rattle.vd_engine.specs.Events.{Event, received_from}
use Rattle.vd_engine.specs.Hosts.{seen_at, wants_with}
use Rattle.vd_engine.specs.declared.engine.Ended.{Ended}
use Rattle.vd_engine.specs.declared.fault.EngineFault.{EngineFault}
use Rattle.vd_engine.proofs.Front.{enough}
use Rattle.vd_host_session.specs.Histories.{DrivesOver, Gets, HandedBack, call_status, ends_with, greet_status}
use Rattle.vd_host_session.specs.Laws.{HasCause}
use Rattle.vd_host_session.specs.Peers.{Peer, all_peers, number_at, peer_at}
use Rattle.vd_host_session.specs.Plays.{Driven, DrivesAndTells, Meets, NoRoom, NotAnnounced, NotGiven, NotGreeted, NotListening, Plays, Stopped, Told, Untold}
use Rattle.vd_host_session.specs.declared.fault.HostFault.{HostFault}
use Rattle.vd_host_session.specs.declared.fault.HostFault.TheVariants as fault
use Rattle.vd_host_session.specs.declared.task.Task.{Task}
use Rattle.vd_host_session.proofs.Front.{causes, all_four, count_at, earlier_number, later_number, less_or_least}
use Rattle.vd_cmd_host.specs.Serving.{AllServe, IsTold}
use Rattle.vd_cmd_host.proofs.Giving.{AllGiven, HasGiven, IsMet, listens, met_all, next_given, next_waits, peer_of, peers_front}
use Rattle.vd_cmd_host.proofs.Returning.{CameBack, come_back, keeps, last_tells, rose_within}
use Rattle.vd_cmd_host.proofs.Staying.{Stays, count_stays, driven_stays, stands_still, stood}

-- ---- sessions on which the same is still to come

abbrev Matches : Option SessionView → Option SessionView → Type 0
Matches None served = Unit {0}
Matches (Some session) None = ⊥
Matches (Some session) (Some served) = session.link.coming ≡ served.link.coming

comes_too : (host count : ℕ) (events : List Event) (session served : Option SessionView) → Matches session served → IfSome served (PacketComes host count events) → IfSome session (PacketComes host count events)
comes_too host count events None served same comes = tt
comes_too host count events (Some session) None same comes = absurd same
comes_too host count events (Some session) (Some served) same comes = record { words = comes.words; rest = comes.rest; counted = comes.counted; comes = same ∙ comes.comes }

there_too : (sessions served : Sessions) (events : List Event) (w : Want) → ((host : ℕ) → Matches (sessions host) (served host)) → IsThere served events w → IsThere sessions events w
there_too sessions served events want.Nothing same there = tt
there_too sessions served events (want.Words host count) same there = comes_too host.0 count events (sessions host.0) (served host.0) (same host.0) there
there_too sessions served events want.Ended same there = tt
there_too sessions served events (want.ShortInput i j) same there = there
there_too sessions served events (want.ShortDeal kind i j) same there = there
there_too sessions served events (want.Unequal x y) same there = there

-- what came on these sessions came on those
came_too : (packets : List (List ℕ)) (session served : Option SessionView) → Matches session served → HasCome packets session → HasCome packets served
came_too packets None None same none = none
came_too packets None (Some served) same none = (served.link.coming, ap (λ (l : List (List ℕ)). frames l ++ served.link.coming) (sym none))
came_too packets (Some session) None same came = absurd same
came_too packets (Some session) (Some served) same came = (came.0, sym same ∙ came.1)

enough_too : (lists : Lists) (start : State) (sessions served : Sessions) → ((host : ℕ) → Matches (sessions host) (served host)) → IsEnough lists start served → IsEnough lists start sessions
enough_too lists start sessions served same enough steps events state reached come =
    there_too sessions served events (wants_with lists state) same
    (enough steps events state reached (λ host. came_too (received_from host events) (sessions host) (served host) (same host) (come host)))

-- ---- a host and what is served to it

pub record IsServedAt (task : Task) (machine : Kept) (start : NetView) : Type 0 where
  pub plan : length task.plan ≡ 32
  pub listeners : length start.listeners ≡ start.given
  pub sessions : Sessions
  pub peers : AllServe task start sessions
  pub enough : IsEnough machine.lists (state_of machine) sessions

abbrev EndsWell : Result Ended HostFault → Type 0
EndsWell result = IfErr result (λ cause. cause ≡ fault.Memory)

below_four : (me place count : ℕ) → place < count → count ≤ 3 → number_at me place < 4
below_four me place count there few = ⊎_elim
    (λ (less : place < me). let is = earlier_number me place less in omega (arith, is, there, few))
    (λ (least : me ≤ place). let is = later_number me place least in omega (arith, is, there, few))
    (less_or_least place me)

-- what was handed back since the start tells its bytes
handed_tell : (start end : NetView) (handed : List LinkView) → end.back ≡ start.back ++ handed → AllByRecursion IsTold (drop (length start.back) end.back) → AllByRecursion IsTold handed
handed_tell start end handed back all = subst (AllByRecursion IsTold) (ap (drop (length start.back)) back ∙ drop-append_seam start.back handed) all

module _ (task : Task) (machine : Kept) (start end : NetView) (ob on : SinkView) (few : length task.addresses ≤ 3) (own : task.me.0 ≤ length task.addresses) (told : IsTrue start.told)
    (room : length start.back ≤ start.links) (served : IsServedAt task machine start) (no_peer : Rose start.faults end.faults → ⊥) (no_write : Rose ob.faults on.faults → ⊥)
    (all_tell : AllByRecursion IsTold (drop (length start.back) end.back)) where
  -- ---- faults of the outside

  quiet_call : (peer : Peer) (cause : CallFault) → HasCause start end ob on (Err (call_status peer cause)) → call_status peer cause ≡ fault.Memory
  quiet_call peer call_fault.Failed rose = absurd (no_peer rose)
  quiet_call peer call_fault.Memory rose = refl

  quiet_greeting : (peer : Peer) (refusal : GreetFault) → HasCause start end ob on (Err (greet_status peer refusal)) → refusal ≡ greet_fault.Peer → ⊥
  quiet_greeting peer greet_fault.Peer rose e = no_peer rose
  quiet_greeting peer (greet_fault.BadFrame offset byte) rose e = cc
  quiet_greeting peer (greet_fault.WrongProgram ours theirs) rose e = cc
  quiet_greeting peer (greet_fault.WrongHost wanted named) rose e = cc
  quiet_greeting peer greet_fault.End rose e = cc

  -- ---- meeting peers

  module _ (count : ℕ) (sessions : Sessions) (met : NetView) (out : SinkView) (meets : Meets task start met ob out count sessions) (there : count ≤ length task.addresses) where
    given_all : AllGiven task start met meets.met.all
    given_all =
        let rest = peers_front task count there in
        let all : map peer_of meets.met.all ++ rest.0 ≡ all_peers task = ap (λ (l : List Peer). l ++ rest.0) meets.met.peers ∙ rest.1 in
        met_all task meets.first start meets.net served.listeners meets.first_is (listens task start meets.net meets.announced.listened told) meets.met.met rest.0 all

    counted : length meets.met.all ≡ count
    counted = sym (length-map meets.met.all peer_of) ∙ ap (λ (l : List Peer). length l) meets.met.peers ∙ length-map-range_with_len (peer_at task) 0 count

    given_so : HasGiven task start met count
    given_so = subst (HasGiven task start met) counted given_all.given

    met_at : (host : ℕ) (session : SessionView) → sessions host ≡ Some session → IsMet task start host session
    met_at host session is = given_all.met host session (sym (meets.met.are host) ∙ is)

    small : (host : ℕ) (session : SessionView) → sessions host ≡ Some session → host < 4
    small host session is =
        let m = met_at host session is in
        subst (λ (n : ℕ). n < 4) m.number_is (below_four task.me.0 m.place (length task.addresses) m.there few)

    four : count_at sessions 4 ≡ count
    four = all_four task meets.first count meets.net met sessions (omega (arith, there, few)) (omega (arith, own, few)) meets.met

    -- a peer that was given its link greets as it should
    greeted : (net back : NetView) (given link : LinkView) (refusal : GreetFault) → count < length task.addresses → Gets meets.first task.me.0 (peer_at task count) met net (Ok given)
        → Greets (ends_with task (peer_at task count)) given link (Err refusal) → HandedBack sessions net 4 back → HangsUp link back end
        → HasCause start end ob on (Err (greet_status (peer_at task count) refusal)) → ⊥
    greeted net back given link refusal less gets greets handed hung cause =
        let now = next_given task meets.first start served.listeners meets.first_is count met net given less given_so gets in
        let waits = next_waits task meets.first start served.listeners meets.first_is count met net given less given_so gets in
        let serves = served.peers count less in
        let same : given ≡ serves.link = (let first = serves.waits in cc) in
        let links = now.links in
        let sizes = ap (λ (l : List LinkView). length l) now.back in
        let all = four in
        let came = come_back sessions net handed now.told (omega (arith, links, sizes, all, room)) in
        let returned = came.links in
        let size = ap (λ (l : List LinkView). length l) came.back ∙ length-append net.back came.handed in
        let amount = came.counted in
        let kept = keeps back end link came.told (omega (arith, returned, size, amount, links, sizes, all, room)) hung in
        let whole : end.back ≡ start.back ++ (came.handed ++ link ∷ []) =
        kept ∙ ap (λ (l : List LinkView). l ++ link ∷ []) (came.back ∙ ap (λ (l : List LinkView). l ++ came.handed) now.back) ∙ append_assoc start.back came.handed (link ∷ []) in
        let tells : IsTrue link.told = last_tells came.handed link (handed_tell start end (came.handed ++ link ∷ []) whole all_tell) in
        let wrong : IsGreetFault (ends_with task (peer_at task count)) given.coming refusal = greets.fault tells in
        let comes : given.coming ≡ greeting task.plan (number_at task.me.0 count) task.me.0 ++ serves.session.link.coming = ap (λ (l : LinkView). l.coming) same ∙ serves.comes in
        no_greet_fault (ends_with task (peer_at task count)) serves.session.link.coming refusal served.plan (quiet_greeting (peer_at task count) refusal cause)
        (subst (λ (l : List ℕ). IsGreetFault (ends_with task (peer_at task count)) l refusal) comes wrong)

  -- ---- the machine

  module _ (sessions later : Sessions) (met : NetView) (out : SinkView) (meets : Meets task start met ob out (length task.addresses) sessions) (cause : EngineFault)
      (drives : DrivesOver machine sessions later out on (Err cause)) (back : HandedBack later met 4 end) where
    stays : (host : ℕ) → Stays (sessions host) (later host)
    stays = driven_stays drives.events (wants_with machine.lists drives.machine) (seen_at drives.machine) sessions later out on (Err cause) drives.driven

    given_now : HasGiven task start met (length task.addresses)
    given_now = given_so (length task.addresses) sessions met out meets (omega arith)

    came : CameBack later 4 met end
    came =
        let links = given_now.links in
        let sizes = ap (λ (l : List LinkView). length l) given_now.back in
        let all = four (length task.addresses) sessions met out meets (omega arith) in
        let same = count_stays sessions later stays 4 in
        come_back later met back given_now.told (omega (arith, links, sizes, all, same, room))

    handed : AllByRecursion IsTold came.handed
    handed = handed_tell start end came.handed (came.back ∙ ap (λ (l : List LinkView). l ++ came.handed) given_now.back) all_tell

    -- each session tells its bytes afterwards, and so it did before
    tells : (host : ℕ) (session : SessionView) → later host ≡ Some session → IsTrue session.link.told
    tells host session is =
        let both = stood (sessions host) (later host) session (stays host) is in
        came.tell handed host session (small (length task.addresses) sessions met out meets (omega arith) host both.was both.was_there) is

    told_at : (host : ℕ) (o : Option SessionView) → later host ≡ o → IfSome o (λ session. IsTrue session.link.told)
    told_at host None is = tt
    told_at host (Some session) is = tells host session is

    quiet_at : (host : ℕ) (x y : Option SessionView) → sessions host ≡ x → later host ≡ y → NotRisen x y
    quiet_at host None y was is = tt
    quiet_at host (Some before) None was is = tt
    quiet_at host (Some before) (Some now) was is = λ rose.
        no_peer (rose_within start.faults met.faults end.faults end.faults given_now.later
        (came.rose host now (small (length task.addresses) sessions met out meets (omega arith) host before was) is (omega (arith, rose))) (omega arith))

    matches_at : (host : ℕ) (o : Option SessionView) → sessions host ≡ o → Matches o (served.sessions host)
    matches_at host None was = tt
    matches_at host (Some session) was =
        let both = stands_still (sessions host) (later host) session (stays host) was in
        let same : both.was ≡ session = (let first = both.was_there in cc) in
        let was_told : IsTrue session.link.told = subst (λ (s : SessionView). IsTrue s.link.told) same (both.was_told (tells host both.is both.is_there)) in
        let m = met_at (length task.addresses) sessions met out meets (omega arith) host session was in
        let serves = served.peers m.place m.there in
        let link : m.given ≡ serves.link = (let first = m.waits in let second = serves.waits in cc) in
        let front = greeting task.plan (number_at task.me.0 m.place) task.me.0 in
        let streams : front ++ session.link.coming ≡ front ++ serves.session.link.coming = sym (m.greets.came was_told) ∙ ap (λ (l : LinkView). l.coming) link ∙ serves.comes in
        let coming : session.link.coming ≡ serves.session.link.coming = (front_same front front session.link.coming serves.session.link.coming refl streams).1 in
        subst (λ (o : Option SessionView). Matches (Some session) o) (sym (ap served.sessions (sym m.number_is) ∙ serves.stands)) coming

    never_stopped : ⊥
    never_stopped =
        let there = enough_too machine.lists (state_of machine) sessions served.sessions (λ host. matches_at host (sessions host) refl) served.enough in
        let ok : ◌≡◌ {A = Bool} false true = enough machine.lists (state_of machine) sessions later out on (Err cause) drives there (λ host. told_at host (later host) refl) (λ host. quiet_at host (sessions host) (later host) refl refl)
        (λ rose. no_write (rose_within ob.faults out.faults on.faults on.faults meets.announced.written.later rose (omega arith))) in
        cc

  ends_driven : (sessions later : Sessions) (met : NetView) (out : SinkView) → Meets task start met ob out (length task.addresses) sessions → {result : Result Ended HostFault}
      → DrivesAndTells machine sessions later out on result → HandedBack later met 4 end → HasCause start end ob on result → EndsWell result
  ends_driven sessions later met out meets (Told mid done drives written) back has = tt
  ends_driven sessions later met out meets (Untold mid done failed drives written) back has = absurd (no_write has)
  ends_driven sessions later met out meets (Stopped cause drives) back has = absurd (never_stopped sessions later met out meets cause drives back)

  ends_well : {result : Result Ended HostFault} → Plays machine task start end ob on result → HasCause start end ob on result → EndsWell result
  ends_well (NotListening count net cause there listened call same) has = quiet_call (peer_at task (task.me.0 + count)) cause has
  ends_well (NotAnnounced failed announces) has = absurd (no_write has)
  ends_well (NotGiven count sessions met net cause meets there gets back) has = quiet_call (peer_at task count) cause has
  ends_well (NoRoom count sessions met net back given meets there gets handed hung) has = refl
  ends_well (NotGreeted count sessions met net back given link refusal meets there gets greets handed hung) has =
      absurd (greeted count sessions met on meets (omega (arith, there)) net back given link refusal there gets greets handed hung has)
  ends_well (Driven sessions later met out result meets drives back) has = ends_driven sessions later met out meets drives back has

-- with the causes that every such run has
pub served_plays : (task : Task) (machine : Kept) (start end : NetView) (ob on : SinkView) (result : Result Ended HostFault) → length task.addresses ≤ 3 → task.me.0 ≤ length task.addresses
    → IsTrue start.told → length start.back ≤ start.links → IsServedAt task machine start → (Rose start.faults end.faults → ⊥) → (Rose ob.faults on.faults → ⊥)
    → AllByRecursion IsTold (drop (length start.back) end.back) → Plays machine task start end ob on result → EndsWell result
served_plays task machine start end ob on result few own told room served no_peer no_write all_tell plays =
    ends_well task machine start end ob on few own told room served no_peer no_write all_tell plays (causes machine task start end ob on result few own plays)
