-- Each link that was given to a host comes back.
use Rattle.std.proofs.Common.{arith, ◌≡◌, ◌≢◌, ◌<◌, ◌≤◌, ◌+◌, ◌-◌, ◌⊎◌, ⊎_elim, ℕ, zero, suc, min, Bool, true, false, cond, IsTrue, List, [], ◌∷◌, ◌++◌, length, map, Option, Some, None, IsSome, Result, Ok, Err, nat_eq, nat_lt, if◌then◌else◌, refl, sym, ap, subst, ◌∙◌, append_assoc, append-nil, add-one, lt-ltb, length-append}
use Rattle.std.proofs.Math.Nat.{eq-or-lt_of_le}
use Rattle.std.proofs.lemmas.Bool.Decides.{eqb_tells, nat_tests}
use Rattle.std.proofs.lemmas.List.{length-map}
use Rattle.std.proofs.lemmas.List.FromFn.{length-map-range_with_len}
use Rattle.vd_base.specs.declared.faults.CallFault.{CallFault}
use Rattle.vd_execution.specs.Step.{Deed}
use Rattle.vd_machine.specs.Kept.{Kept}
use Rattle.vd_machine.specs.declared.want.Want.{Want}
use Rattle.vd_outside.specs.Link.{LinkView}
use Rattle.vd_outside.specs.Net.{NetView, HangsUp}
use Rattle.vd_outside.specs.Sink.{SinkView}
use Rattle.vd_engine.specs.Drives.{At, CarriesAll, CarriesAt, CarriesOthers, EndsAt, FailsAt, IsDriven, NoPacket, SessionView, Sessions}
use Rattle.vd_engine.specs.Events.{Event}
use Rattle.vd_engine.specs.Hosts.{seen_at, wants_with}
use Rattle.vd_engine.specs.declared.engine.Ended.{Ended}
use Rattle.vd_engine.specs.declared.fault.EngineFault.{EngineFault}
use Rattle.vd_engine.specs.declared.fault.EngineFault.TheVariants as engine_fault
use Rattle.vd_host_session.specs.Histories.{ByAccept, ByConnect, DrivesOver, Gets, HandedBack, Held, Listened, Met, NoListener, NoSession, NoneBack, NoneMet, OneBack, OneListener, OneMet}
use Rattle.vd_host_session.specs.Laws.{ComesBack, LinksComeBack}
use Rattle.vd_host_session.specs.Peers.{Peer, peer_at}
use Rattle.vd_host_session.specs.Plays.{Driven, DrivesAndTells, Meets, NoRoom, NotAnnounced, NotGiven, NotGreeted, NotListening, Plays, Stopped, Told, Untold}
use Rattle.vd_host_session.specs.Stages.{AreMet}
use Rattle.vd_host_session.specs.declared.fault.HostFault.{HostFault}
use Rattle.vd_host_session.specs.declared.task.Task.{Task}
use Rattle.vd_host_session.proofs.Numbers.{earlier_number, later_number, less_or_least}

-- how many of the hosts below a number have a session
abbrev pub one_at : Option SessionView → ℕ
one_at None = 0
one_at (Some session) = 1

abbrev pub count_at : Sessions → ℕ → ℕ
count_at sessions zero = 0
count_at sessions (suc n) = count_at sessions n + one_at (sessions n)

stands_one : (o : Option SessionView) → IsSome o → one_at o ≡ 1
stands_one (Some x) some = refl
stands_one None some = cc

none_zero : (o : Option SessionView) → o ≡ None → one_at o ≡ 0
none_zero o is = ap one_at is

-- how many peers have a number below this one
abbrev below : ℕ → ℕ → ℕ
below me n = if nat_lt me n then n - 1 else n

record Below (me n value : ℕ) : Type 0 where
  early : n ≤ me → value ≡ n
  late : me < n → value + 1 ≡ n

below_is : (me n : ℕ) → Below me n (below me n)
below_is me n = record { early = λ least. grind (arith, nat_tests); late = λ less. grind (arith, nat_tests) }

-- the peers that are met, of the hosts below a number
met_below : (task : Task) (first count : ℕ) (start now : NetView) (sessions : Sessions) → AreMet task first count start now sessions → (n : ℕ) → count_at sessions n ≡ min count (below task.me.0 n)
met_below task first count start now sessions m zero = let b = (below_is task.me.0 0).early in omega (arith, b)
met_below task first count start now sessions m (suc n) =
    ⊎_elim (λ (less : n < task.me.0). early less (met_below task first count start now sessions m n)) (λ (least : task.me.0 ≤ n). late n least (met_below task first count start now sessions m n)) (less_or_least n task.me.0)
  where
    early : n < task.me.0 → count_at sessions n ≡ min count (below task.me.0 n) → count_at sessions n + one_at (sessions n) ≡ min count (below task.me.0 (suc n))
    early less rest =
        let b = (below_is task.me.0 n).early (omega (arith, less)) in
        let c = (below_is task.me.0 (suc n)).early (omega (arith, less)) in
        ⊎_elim (λ (there : n < count). let one = stands_one (sessions n) (subst (λ (k : ℕ). IsSome (sessions k)) (earlier_number task.me.0 n less) (m.stand n there)) in omega (arith, rest, b, c, one, there))
        (λ (far : count ≤ n). let none = none_zero (sessions n) (subst (λ (k : ℕ). sessions k ≡ None) (earlier_number task.me.0 n less) (m.later n far)) in omega (arith, rest, b, c, none, far))
        (less_or_least n count)

    late : (n : ℕ) → task.me.0 ≤ n → count_at sessions n ≡ min count (below task.me.0 n) → count_at sessions n + one_at (sessions n) ≡ min count (below task.me.0 (suc n))
    late n least rest = ⊎_elim (λ (same : task.me.0 ≡ n). own n same rest) (λ (more : task.me.0 < n). others n more rest) (eq-or-lt_of_le least)
      where
        own : (n : ℕ) → task.me.0 ≡ n → count_at sessions n ≡ min count (below task.me.0 n) → count_at sessions n + one_at (sessions n) ≡ min count (below task.me.0 (suc n))
        own n same rest =
            let none = none_zero (sessions n) (subst (λ (k : ℕ). sessions k ≡ None) same m.own) in
            let b = (below_is task.me.0 n).early (omega (arith, same)) in
            let c = (below_is task.me.0 (suc n)).late (omega (arith, same)) in
            omega (arith, rest, b, c, none, same)

        others : (n : ℕ) → task.me.0 < n → count_at sessions n ≡ min count (below task.me.0 n) → count_at sessions n + one_at (sessions n) ≡ min count (below task.me.0 (suc n))
        others zero more rest = absurd (omega (arith, more))
        others (suc place) more rest =
            let number = later_number task.me.0 place (omega (arith, more)) in
            let b = (below_is task.me.0 (suc place)).late more in
            let c = (below_is task.me.0 (suc (suc place))).late (omega (arith, more)) in
            ⊎_elim (λ (there : place < count). let one = stands_one (sessions (suc place)) (subst (λ (k : ℕ). IsSome (sessions k)) number (m.stand place there)) in omega (arith, rest, b, c, one, there))
            (λ (far : count ≤ place). let none = none_zero (sessions (suc place)) (subst (λ (k : ℕ). sessions k ≡ None) number (m.later place far)) in omega (arith, rest, b, c, none, far))
            (less_or_least place count)

pub all_four : (task : Task) (first count : ℕ) (start now : NetView) (sessions : Sessions) → count ≤ 3 → task.me.0 ≤ 3 → AreMet task first count start now sessions → count_at sessions 4 ≡ count
all_four task first count start now sessions few own m =
    let is = met_below task first count start now sessions m 4 in
    let b = (below_is task.me.0 4).late (omega (arith, own)) in
    omega (arith, is, b, few)

-- ---- what a net gave, and what came back

record Gave (count : ℕ) (start now : NetView) : Type 0 where
  told : IsTrue now.told
  links : now.links ≡ start.links + count
  back : now.back ≡ start.back

listened_gave : (start : NetView) {peers : List Peer} {now : NetView} → Listened start peers now → IsTrue start.told → Gave 0 start now
listened_gave start NoListener told = record { told = told; links = omega arith; back = refl }
listened_gave start (OneListener peers peer number net now before call) told =
    let rest = listened_gave start before told in
    let links = rest.links in
    let same = (call.links rest.told).links in
    record { told = call.still_told rest.told; links = omega (arith, links, same); back = (call.links rest.told).back ∙ rest.back }

abbrev given_by : {T : Type 0} → Result T CallFault → ℕ
given_by (Ok link) = 1
given_by (Err cause) = 0

gets_gave : (first me : ℕ) (peer : Peer) (net now : NetView) (result : Result LinkView CallFault) → Gets first me peer net now result → IsTrue net.told → Gave (given_by result) net now
gets_gave first me peer net now (Ok link) (ByAccept later call) told =
    let g = (call.gives told).2 in record { told = call.still_told told; links = g.links; back = g.back }
gets_gave first me peer net now (Ok link) (ByConnect earlier call) told =
    let g = call.gives told in record { told = call.still_told told; links = g.links; back = g.back }
gets_gave first me peer net now (Err cause) (ByAccept later call) told =
    let links = (call.no_link told).links in record { told = call.still_told told; links = omega (arith, links); back = (call.no_link told).back }
gets_gave first me peer net now (Err cause) (ByConnect earlier call) told =
    let links = (call.no_link told).links in record { told = call.still_told told; links = omega (arith, links); back = (call.no_link told).back }

met_gave : (task : Task) (first : ℕ) (start : NetView) {all : List Held} {now : NetView} → Met task first start all now → IsTrue start.told → Gave (length all) start now
met_gave task first start NoneMet told = record { told = told; links = omega arith; back = refl }
met_gave task first start (OneMet all held net now before gets greets) told =
    let rest = met_gave task first start before told in
    let one = gets_gave first task.me.0 held.peer net now (Ok held.given) gets rest.told in
    let links = rest.links in
    let more = one.links in
    let long = length-append all (held ∷ []) in
    record { told = one.told; links = omega (arith, links, more, long); back = one.back ∙ rest.back }

-- so many links came back
record CameBack (count : ℕ) (start now : NetView) : Type 0 where
  told : IsTrue now.told
  links : now.links ≡ start.links
  handed : List LinkView
  back : now.back ≡ start.back ++ handed
  counted : length handed ≡ count

hangs_back : (start net now : NetView) (count : ℕ) (link : LinkView) → CameBack count start net → length start.back + count < start.links → HangsUp link net now → CameBack (count + 1) start now
hangs_back start net now count link rest room hangs =
    let links = rest.links in
    let counted = rest.counted in
    let long = ap length rest.back ∙ length-append start.back rest.handed in
    let fits : nat_lt (length net.back) net.links ≡ true = lt-ltb (length net.back) net.links (omega (arith, links, counted, long, room)) in
    record {
      told = hangs.still_told rest.told;
      links = hangs.links rest.told ∙ rest.links;
      handed = rest.handed ++ link ∷ [];
      back = hangs.back rest.told ∙ ap (λ (b : Bool). cond b (net.back ++ link ∷ []) net.back) fits ∙ ap (λ (l : List LinkView). l ++ link ∷ []) rest.back ∙ append_assoc start.back rest.handed (link ∷ []);
      counted = length-append rest.handed (link ∷ []) ∙ (let e : length rest.handed + 1 ≡ count + 1 = omega (arith, counted) in e);
    }

count_more : (sessions : Sessions) (n : ℕ) → count_at sessions (n + 1) ≡ count_at sessions n + one_at (sessions n)
count_more sessions n = ap (count_at sessions) (add-one n)

handed_back : (sessions : Sessions) (start : NetView) {n : ℕ} {now : NetView} → HandedBack sessions start n now → IsTrue start.told → length start.back + count_at sessions n ≤ start.links → CameBack (count_at sessions n) start now
handed_back sessions start NoneBack told room = record { told = told; links = refl; handed = []; back = sym (append-nil start.back); counted = refl }
handed_back sessions start (NoSession n now before none) told room =
    let zero = none_zero (sessions n) none in
    let more = count_more sessions n in
    let rest = handed_back sessions start before told (omega (arith, room, more)) in
    subst (λ (k : ℕ). CameBack k start now) (let e : count_at sessions n ≡ count_at sessions (n + 1) = omega (arith, zero, more) in e) rest
handed_back sessions start (OneBack n link received failed net now before some hangs) told room =
    let one = ap one_at some in
    let more = count_more sessions n in
    let rest = handed_back sessions start before told (omega (arith, room, more)) in
    subst (λ (k : ℕ). CameBack k start now) (let e : count_at sessions n + 1 ≡ count_at sessions (n + 1) = omega (arith, one, more) in e)
    (hangs_back start net now (count_at sessions n) link rest (omega (arith, room, one, more)) hangs)

-- ---- a machine that is driven opens no session and ends none

same_count : (before now : Sessions) → ((host : ℕ) → one_at (now host) ≡ one_at (before host)) → (n : ℕ) → count_at now n ≡ count_at before n
same_count before now same zero = refl
same_count before now same (suc n) = let rest = same_count before now same n in let one = same n in omega (arith, rest, one)

carried_one : (host : ℕ) (events : List Event) (before now : Option SessionView) → CarriesAt host events before now → one_at now ≡ one_at before
carried_one host events None None carries = refl
carried_one host events None (Some now) carries = absurd carries
carried_one host events (Some before) None carries = absurd carries
carried_one host events (Some before) (Some now) carries = refl

at_one : (holds : SessionView → SessionView → Type 0) (before now : Option SessionView) → At holds before now → one_at now ≡ one_at before
at_one holds None now at = absurd at
at_one holds (Some before) None at = absurd at
at_one holds (Some before) (Some now) at = refl

all_but_one : (failing : ℕ) (events : List Event) (before now : Sessions) → one_at (now failing) ≡ one_at (before failing) → CarriesOthers failing events before now → (host : ℕ) → one_at (now host) ≡ one_at (before host)
all_but_one failing events before now at others host = ⊎_elim
    (λ (h : (nat_eq host failing ≡ true) × (host ≡ failing)). subst (λ (k : ℕ). one_at (now k) ≡ one_at (before k)) (sym h.1) at)
    (λ (h : (nat_eq host failing ≡ false) × (host ≢ failing)). carried_one host events (before host) (now host) (others host h.1))
    (eqb_tells host failing)

all_carried : (events : List Event) (before now : Sessions) → CarriesAll events before now → (host : ℕ) → one_at (now host) ≡ one_at (before host)
all_carried events before now carries host = carried_one host events (before host) (now host) (carries host)

driven_ones : (events : List Event) (wants : Want) (does : Deed) (before now : Sessions) (ob on : SinkView) (result : Result Ended EngineFault) → IsDriven events wants does before now ob on result
    → (host : ℕ) → one_at (now host) ≡ one_at (before host)
driven_ones events wants does before now ob on (Ok done) driven = all_carried events before now driven.2
driven_ones events wants does before now ob on (Err (engine_fault.Peer host)) driven =
    all_but_one host.0 events before now (at_one (FailsAt host.0 events wants does) (before host.0) (now host.0) driven.0) driven.1
driven_ones events wants does before now ob on (Err engine_fault.Write) driven = all_carried events before now driven.3
driven_ones events wants does before now ob on (Err (engine_fault.BadFrame host offset byte)) driven =
    all_but_one host.0 events before now (at_one (NoPacket host.0 events wants offset byte) (before host.0) (now host.0) driven.0) driven.1
driven_ones events wants does before now ob on (Err (engine_fault.Unequal left right)) driven = all_carried events before now driven.1
driven_ones events wants does before now ob on (Err (engine_fault.ShortInput cursor count)) driven = all_carried events before now driven.1
driven_ones events wants does before now ob on (Err (engine_fault.ShortDeal kind cursor count)) driven = all_carried events before now driven.1
driven_ones events wants does before now ob on (Err (engine_fault.EndOfLink host)) driven =
    all_but_one host.0 events before now (at_one (EndsAt host.0 events wants) (before host.0) (now host.0) driven.0) driven.1

drives_count : (machine : Kept) (before now : Sessions) (ob on : SinkView) (result : Result Ended EngineFault) → DrivesOver machine before now ob on result → count_at now 4 ≡ count_at before 4
drives_count machine before now ob on result drives =
    same_count before now (driven_ones drives.events (wants_with machine.lists drives.machine) (seen_at drives.machine) before now ob on result drives.driven) 4

told_count : (machine : Kept) (before now : Sessions) (ob on : SinkView) {result : Result Ended HostFault} → DrivesAndTells machine before now ob on result → count_at now 4 ≡ count_at before 4
told_count machine before now ob on (Told mid done drives written) = drives_count machine before now ob mid (Ok done) drives
told_count machine before now ob on (Untold mid done failed drives written) = drives_count machine before now ob mid (Ok done) drives
told_count machine before now ob on (Stopped cause drives) = drives_count machine before now ob on (Err cause) drives

-- ---- all of them

-- so many links were given since the start, and so many came back
comes_back : (start mid end : NetView) (count : ℕ) → Gave count start mid → CameBack count mid end → ComesBack start end
comes_back start mid end count gave came =
    let links = gave.links in
    let kept = came.links in
    let counted = came.counted in
    record { handed = came.handed; back = came.back ∙ ap (λ (l : List LinkView). l ++ came.handed) gave.back; counted = omega (arith, links, kept, counted) }

none_given : (start end : NetView) → Gave 0 start end → ComesBack start end
none_given start end gave = let links = gave.links in record { handed = []; back = gave.back ∙ sym (append-nil start.back); counted = omega (arith, links) }

meets_gave : (task : Task) (start now : NetView) (ob on : SinkView) (count : ℕ) (sessions : Sessions) → Meets task start now ob on count sessions → IsTrue start.told → Gave count start now
meets_gave task start now ob on count sessions m told =
    let heard = listened_gave start m.announced.listened told in
    let met = met_gave task m.first m.net m.met.met heard.told in
    let none = heard.links in
    let links = met.links in
    let long : length m.met.all ≡ count = sym (length-map m.met.all (λ (h : Held). h.peer)) ∙ ap (λ (l : List Peer). length l) m.met.peers ∙ length-map-range_with_len (peer_at task) 0 count in
    record { told = met.told; links = omega (arith, none, links, long); back = met.back ∙ heard.back }

more_given : (first mid last : NetView) (count more : ℕ) → Gave count first mid → Gave more mid last → Gave (count + more) first last
more_given first mid last count more one two =
    let links = one.links in let later = two.links in record { told = two.told; links = omega (arith, links, later); back = two.back ∙ one.back }

pub links_come_back : LinksComeBack
links_come_back machine task start end ob on result few own plays told room = by plays
  where
    met_room : (count links back : ℕ) → back ≤ start.links → links ≡ start.links + count → back + count ≤ links
    met_room count links back less is = omega (arith, less, is)

    counts : (count : ℕ) (sessions : Sessions) (met : NetView) (out : SinkView) → count ≤ length task.addresses → Meets task start met ob out count sessions → count_at sessions 4 ≡ count
    counts count sessions met out least m = all_four task m.first count m.net met sessions (omega (arith, least, few)) (omega (arith, few, own)) m.met

    handed : (sessions : Sessions) (mid now : NetView) (count given : ℕ) → count_at sessions 4 ≡ count → count ≤ given → Gave given start mid → HandedBack sessions mid 4 now → CameBack count mid now
    handed sessions mid now count given is within gave back =
        let links = gave.links in
        let same = ap (λ (l : List LinkView). length l) gave.back in
        subst (λ (k : ℕ). CameBack k mid now) is (handed_back sessions mid back gave.told (omega (arith, is, within, links, same, room)))

    hung : (sessions : Sessions) (mid now last : NetView) (count : ℕ) (link : LinkView) → count_at sessions 4 ≡ count → Gave (count + 1) start mid → HandedBack sessions mid 4 now → HangsUp link now last → ComesBack start last
    hung sessions mid now last count link is gave back hangs =
        let links = gave.links in
        let same = ap (λ (l : List LinkView). length l) gave.back in
        comes_back start mid last (count + 1) gave (hangs_back mid now last count link (handed sessions mid now count (count + 1) is (omega arith) gave back) (omega (arith, links, same, room)) hangs)

    by : {result : Result Ended HostFault} → Plays machine task start end ob on result → ComesBack start end
    by (NotListening count net cause there listened call same) =
        let heard = listened_gave start listened told in
        let none = heard.links in
        let links = (call.links heard.told).links in
        none_given start end (record { told = call.still_told heard.told; links = omega (arith, none, links); back = (call.links heard.told).back ∙ heard.back })
    by (NotAnnounced failed announces) = none_given start end (listened_gave start announces.listened told)
    by (NotGiven count sessions met net cause meets there gets back) =
        let gave = more_given start met net count 0 (meets_gave task start met ob on count sessions meets told) (gets_gave meets.first task.me.0 (peer_at task count) met net (Err cause) gets (meets_gave task start met ob on count sessions meets told).told) in
        comes_back start net end (count + 0) gave
        (handed sessions net end (count + 0) (count + 0) (counts count sessions met on (omega (arith, there)) meets ∙ (let e : count ≡ count + 0 = omega arith in e)) (omega arith) gave back)
    by (NoRoom count sessions met net back given meets there gets handed hangs) =
        hung sessions net back end count given (counts count sessions met on (omega (arith, there)) meets)
        (more_given start met net count 1 (meets_gave task start met ob on count sessions meets told) (gets_gave meets.first task.me.0 (peer_at task count) met net (Ok given) gets (meets_gave task start met ob on count sessions meets told).told)) handed hangs
    by (NotGreeted count sessions met net back given link refusal meets there gets greets handed hangs) =
        hung sessions net back end count link (counts count sessions met on (omega (arith, there)) meets)
        (more_given start met net count 1 (meets_gave task start met ob on count sessions meets told) (gets_gave meets.first task.me.0 (peer_at task count) met net (Ok given) gets (meets_gave task start met ob on count sessions meets told).told)) handed hangs
    by (Driven sessions later met out result meets drives back) =
        let gave = meets_gave task start met ob out (length task.addresses) sessions meets told in
        comes_back start met end (length task.addresses) gave
        (handed later met end (length task.addresses) (length task.addresses) (told_count machine sessions later out on drives ∙ counts (length task.addresses) sessions met out (omega arith) meets) (omega arith) gave back)
