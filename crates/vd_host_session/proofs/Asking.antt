-- What a host asks of its net.
use Rattle.std.proofs.Common.{arith, ◌≡◌, ◌<◌, ◌≤◌, ◌+◌, ◌-◌, ⊎_elim, ℕ, zero, suc, Bool, cond, IsTrue, List, [], ◌∷◌, ◌++◌, length, map, Result, Ok, Err, OnOk, refl, sym, ap, ap₂, ◌∙◌, append_assoc, append-nil, lt-ltb, le-ltb}
use Rattle.std.specs.List.{range_with_len}
use Rattle.std.proofs.lemmas.List.FromFn.{map-range_with_len_more}
use Rattle.std.proofs.lemmas.List.{map-append}
use Rattle.vd_base.specs.declared.faults.CallFault.{CallFault}
use Rattle.vd_base.specs.declared.faults.CallFault.TheVariants as call_fault
use Rattle.vd_outside.specs.Causes.{asked_after}
use Rattle.vd_outside.specs.Link.{LinkView}
use Rattle.vd_outside.specs.Net.{NetView}
use Rattle.vd_outside.specs.Sink.{SinkView}
use Rattle.vd_outside.specs.declared.net.NetCall.{NetCall}
use Rattle.vd_outside.specs.declared.net.NetCall.TheVariants.{Accept, Connect}
use Rattle.vd_engine.specs.Drives.{Sessions}
use Rattle.vd_engine.specs.declared.engine.Ended.{Ended}
use Rattle.vd_host_session.specs.Histories.{ByAccept, ByConnect, Gets, HandedBack, Held, Listened, Met, NoListener, NoSession, NoneBack, NoneMet, OneBack, OneListener, OneMet}
use Rattle.vd_host_session.specs.Laws.{AsksFrontOf, HostsAskInOrder, calls_of, link_with, listen_for}
use Rattle.vd_host_session.specs.Peers.{Peer, address_of, all_later, all_peers, first_later, first_peers, number_at, peer_at}
use Rattle.vd_host_session.specs.Plays.{Driven, Meets, NoRoom, NotAnnounced, NotGiven, NotGreeted, NotListening, Plays}
use Rattle.vd_host_session.specs.declared.fault.HostFault.{HostFault}
use Rattle.vd_host_session.specs.declared.task.Task.{Task}
use Rattle.vd_host_session.proofs.Numbers.{earlier_number, less_or_least}

-- the net tells its calls, and these are more than before
record Asks (calls : List NetCall) (start now : NetView) : Type 0 where
  told : IsTrue now.told
  asked : now.asked ≡ start.asked ++ calls

more_asked : (start net now : NetView) (calls all : List NetCall) (call : NetCall) → Asks calls start net → all ≡ calls ++ call ∷ [] → IsTrue now.told → now.asked ≡ net.asked ++ call ∷ [] → Asks all start now
more_asked start net now calls all call before is told asked = record {
  told = told;
  asked = asked ∙ ap (λ (l : List NetCall). l ++ call ∷ []) before.asked ∙ append_assoc start.asked calls (call ∷ []) ∙ ap (λ (l : List NetCall). start.asked ++ l) (sym is);
}

nothing_asked : (start : NetView) → IsTrue start.told → Asks [] start start
nothing_asked start told = record { told = told; asked = sym (append-nil start.asked) }

listened_asks : (start : NetView) {peers : List Peer} {now : NetView} → Listened start peers now → IsTrue start.told → Asks (map listen_for peers) start now
listened_asks start NoListener told = nothing_asked start told
listened_asks start (OneListener peers peer number net now before call) told =
    let rest = listened_asks start before told in
    more_asked start net now (map listen_for peers) (map listen_for (peers ++ peer ∷ [])) (listen_for peer) rest (map-append listen_for peers (peer ∷ [])) (call.still_told rest.told) (call.asked rest.told)

-- a call that gets a link is asked, unless there was no memory
gets_asked : (first me : ℕ) (peer : Peer) (net now : NetView) (result : Result LinkView CallFault) → Gets first me peer net now result → IsTrue net.told
    → (IsTrue now.told) × (now.asked ≡ asked_after net.asked (link_with first me peer) result)
gets_asked first me peer net now result (ByAccept later call) told =
    (call.still_told told, call.asked told ∙ ap (λ (b : Bool). asked_after net.asked (cond b (Accept (first + (peer.number - suc me))) (Connect peer.address)) result) (sym (lt-ltb me peer.number later)))
gets_asked first me peer net now result (ByConnect earlier call) told =
    (call.still_told told, call.asked told ∙ ap (λ (b : Bool). asked_after net.asked (cond b (Accept (first + (peer.number - suc me))) (Connect peer.address)) result) (sym (le-ltb me peer.number (omega (arith, earlier)))))

met_asks : (task : Task) (first : ℕ) (start : NetView) {all : List Held} {now : NetView} → Met task first start all now → IsTrue start.told
    → Asks (map (link_with first task.me.0) (map (λ held. held.peer) all)) start now
met_asks task first start NoneMet told = nothing_asked start told
met_asks task first start (OneMet all held net now before gets greets) told =
    let rest = met_asks task first start before told in
    let one = gets_asked first task.me.0 held.peer net now (Ok held.given) gets rest.told in
    more_asked start net now (map (link_with first task.me.0) (map (λ held. held.peer) all)) (map (link_with first task.me.0) (map (λ held. held.peer) (all ++ held ∷ []))) (link_with first task.me.0 held.peer) rest
    (ap (map (link_with first task.me.0)) (map-append (λ (h : Held). h.peer) all (held ∷ [])) ∙ map-append (link_with first task.me.0) (map (λ held. held.peer) all) (held.peer ∷ [])) one.0 one.1

-- handing back asks nothing
back_asks : (sessions : Sessions) (start : NetView) {count : ℕ} {now : NetView} → HandedBack sessions start count now → IsTrue start.told → (IsTrue now.told) × (now.asked ≡ start.asked)
back_asks sessions start NoneBack told = (told, refl)
back_asks sessions start (NoSession count now before none) told = back_asks sessions start before told
back_asks sessions start (OneBack count link received failed net now before some hangs) told =
    let rest = back_asks sessions start before told in
    (hangs.still_told rest.0, hangs.asked rest.0 ∙ rest.1)

-- ---- fronts

abbrev IsFront : {A : Type 0} → List A → List A → Type 0
IsFront {A} front all = (rest : List A) × (all ≡ front ++ rest)

map_front : {A B : Type 0} (f : A → B) (front all : List A) → IsFront front all → IsFront (map f front) (map f all)
map_front f front all is = (map f is.0, ap (map f) is.1 ∙ map-append f front is.0)

before_front : {A : Type 0} (first front all : List A) → IsFront front all → IsFront (first ++ front) (first ++ all)
before_front {A} first front all is = (is.0, ap (λ (l : List A). first ++ l) is.1 ∙ sym (append_assoc first front is.0))

front_before : {A : Type 0} (front all last : List A) → IsFront front all → IsFront front (all ++ last)
front_before {A} front all last is = (is.0 ++ last, ap (λ (l : List A). l ++ last) is.1 ∙ append_assoc front is.0 last)

whole_front : {A : Type 0} (all : List A) → IsFront all all
whole_front all = ([], sym (append-nil all))

range_front : (a count n : ℕ) → count ≤ n → IsFront (range_with_len a count) (range_with_len a n)
range_front a zero n less = (range_with_len a n, refl)
range_front a (suc count) zero less = absurd (omega (arith, less))
range_front a (suc count) (suc n) less =
    let rest = range_front (a + 1) count n (omega (arith, less)) in
    (rest.0, ap (λ (l : List ℕ). a ∷ l) rest.1)

peers_front : (task : Task) (count : ℕ) → count ≤ length task.addresses → IsFront (first_peers task count) (all_peers task)
peers_front task count less = map_front (peer_at task) (range_with_len 0 count) (range_with_len 0 (length task.addresses)) (range_front 0 count (length task.addresses) less)

later_front : (task : Task) (count : ℕ) → count ≤ length task.addresses - task.me.0 → IsFront (first_later task count) (all_later task)
later_front task count less =
    map_front (peer_at task) (range_with_len task.me.0 count) (range_with_len task.me.0 (length task.addresses - task.me.0)) (range_front task.me.0 count (length task.addresses - task.me.0) less)

asks_front : (start now end : NetView) (calls all : List NetCall) → Asks calls start now → end.asked ≡ now.asked → IsFront calls all → AsksFrontOf all start end
asks_front start now end calls all asks same front =
    (front.0, ap (λ (l : List NetCall). l ++ front.0) (same ∙ asks.asked) ∙ append_assoc start.asked calls front.0 ∙ ap (λ (l : List NetCall). start.asked ++ l) (sym front.1))

-- ---- the number of the first listener is of no account where there is none

earlier_link : (task : Task) (first place : ℕ) → place < task.me.0 → link_with first task.me.0 (peer_at task place) ≡ Connect (address_of task place)
earlier_link task first place less =
    let is = earlier_number task.me.0 place less in
    ap (λ (b : Bool). cond b (Accept (first + (number_at task.me.0 place - suc task.me.0))) (Connect (address_of task place))) (le-ltb task.me.0 (number_at task.me.0 place) (omega (arith, less, is)))

earlier_links : (task : Task) (first given from count : ℕ) → from + count ≤ task.me.0
    → map (link_with first task.me.0) (map (peer_at task) (range_with_len from count)) ≡ map (link_with given task.me.0) (map (peer_at task) (range_with_len from count))
earlier_links task first given from zero less = refl
earlier_links task first given from (suc count) less =
    ap₂ (λ (call : NetCall) (calls : List NetCall). call ∷ calls) (earlier_link task first from (omega (arith, less)) ∙ sym (earlier_link task given from (omega (arith, less))))
    (earlier_links task first given (from + 1) count (omega (arith, less)))

same_links : (task : Task) (first given count : ℕ) → count ≤ length task.addresses → (task.me.0 < length task.addresses → first ≡ given)
    → map (link_with first task.me.0) (first_peers task count) ≡ map (link_with given task.me.0) (first_peers task count)
same_links task first given count few is =
    ⊎_elim (λ (less : task.me.0 < length task.addresses). ap (λ (n : ℕ). map (link_with n task.me.0) (first_peers task count)) (is less))
    (λ (least : length task.addresses ≤ task.me.0). earlier_links task first given 0 count (omega (arith, few, least)))
    (less_or_least task.me.0 (length task.addresses))

-- ---- the stages

abbrev calls_until : Task → ℕ → ℕ → List NetCall
calls_until task given count = map listen_for (all_later task) ++ map (link_with given task.me.0) (first_peers task count)

until_front : (task : Task) (given count : ℕ) → count ≤ length task.addresses → IsFront (calls_until task given count) (calls_of task given)
until_front task given count less =
    before_front (map listen_for (all_later task)) (map (link_with given task.me.0) (first_peers task count)) (map (link_with given task.me.0) (all_peers task))
    (map_front (link_with given task.me.0) (first_peers task count) (all_peers task) (peers_front task count less))

meets_asks : (task : Task) (start now : NetView) (ob on : SinkView) (count : ℕ) (sessions : Sessions) → count ≤ length task.addresses → Meets task start now ob on count sessions → IsTrue start.told
    → Asks (calls_until task start.given count) start now
meets_asks task start now ob on count sessions few m told =
    let heard = listened_asks start m.announced.listened told in
    let met = met_asks task m.first m.net m.met.met heard.told in
    record {
      told = met.told;
      asked = met.asked ∙ ap (λ (l : List NetCall). l ++ map (link_with m.first task.me.0) (map (λ held. held.peer) m.met.all)) heard.asked
          ∙ append_assoc start.asked (map listen_for (all_later task)) (map (link_with m.first task.me.0) (map (λ held. held.peer) m.met.all))
          ∙ ap (λ (l : List NetCall). start.asked ++ (map listen_for (all_later task) ++ l)) (ap (map (link_with m.first task.me.0)) m.met.peers ∙ same_links task m.first start.given count few m.first_is);
    }

-- one more peer, whose link was asked for
one_more : (task : Task) (given count : ℕ) → calls_until task given (count + 1) ≡ calls_until task given count ++ link_with given task.me.0 (peer_at task count) ∷ []
one_more task given count =
    ap (λ (peers : List Peer). map listen_for (all_later task) ++ map (link_with given task.me.0) peers) (map-range_with_len_more (peer_at task) 0 count count (omega arith))
    ∙ ap (λ (l : List NetCall). map listen_for (all_later task) ++ l) (map-append (link_with given task.me.0) (first_peers task count) (peer_at task count ∷ []))
    ∙ sym (append_assoc (map listen_for (all_later task)) (map (link_with given task.me.0) (first_peers task count)) (link_with given task.me.0 (peer_at task count) ∷ []))

same_link : (task : Task) (first given place : ℕ) → place < length task.addresses → (task.me.0 < length task.addresses → first ≡ given) → link_with first task.me.0 (peer_at task place) ≡ link_with given task.me.0 (peer_at task place)
same_link task first given place there is =
    ⊎_elim (λ (less : task.me.0 < length task.addresses). ap (λ (n : ℕ). link_with n task.me.0 (peer_at task place)) (is less))
    (λ (least : length task.addresses ≤ task.me.0).
    earlier_link task first place (omega (arith, there, least)) ∙ sym (earlier_link task given place (omega (arith, there, least))))
    (less_or_least task.me.0 (length task.addresses))

-- the peers so far, and a call for the next one
gets_front : (task : Task) (start now net end : NetView) (ob on : SinkView) (count : ℕ) (sessions : Sessions) (result : Result LinkView CallFault) → count < length task.addresses
    → (m : Meets task start now ob on count sessions) → Gets m.first task.me.0 (peer_at task count) now net result → (IsTrue net.told → end.asked ≡ net.asked) → IsTrue start.told
    → AsksFrontOf (calls_of task start.given) start end
gets_front task start now net end ob on count sessions result there m gets same told =
    by result gets
  where
    before : Asks (calls_until task start.given count) start now
    before = meets_asks task start now ob on count sessions (omega (arith, there)) m told

    whole : (net : NetView) → IsTrue net.told → net.asked ≡ now.asked ++ link_with m.first task.me.0 (peer_at task count) ∷ [] → end.asked ≡ net.asked → AsksFrontOf (calls_of task start.given) start end
    whole net told asked last =
        asks_front start net end (calls_until task start.given (count + 1)) (calls_of task start.given)
        (more_asked start now net (calls_until task start.given count) (calls_until task start.given (count + 1)) (link_with start.given task.me.0 (peer_at task count)) before (one_more task start.given count) told
        (asked ∙ ap (λ (call : NetCall). now.asked ++ call ∷ []) (same_link task m.first start.given count there m.first_is)))
        last (until_front task start.given (count + 1) (omega (arith, there)))

    by : (result : Result LinkView CallFault) → Gets m.first task.me.0 (peer_at task count) now net result → AsksFrontOf (calls_of task start.given) start end
    by (Ok link) gets = let one = gets_asked m.first task.me.0 (peer_at task count) now net (Ok link) gets before.told in whole net one.0 one.1 (same one.0)
    by (Err call_fault.Failed) gets = let one = gets_asked m.first task.me.0 (peer_at task count) now net (Err call_fault.Failed) gets before.told in whole net one.0 one.1 (same one.0)
    by (Err call_fault.Memory) gets =
        let one = gets_asked m.first task.me.0 (peer_at task count) now net (Err call_fault.Memory) gets before.told in
        asks_front start now end (calls_until task start.given count) (calls_of task start.given) before (same one.0 ∙ one.1) (until_front task start.given count (omega (arith, there)))

-- a later peer for whom the net does not listen
unheard_front : (task : Task) (start net end : NetView) (count : ℕ) (cause : CallFault) → task.me.0 + count < length task.addresses → Listened start (first_later task count) net
    → end.asked ≡ asked_after {T = ℕ} net.asked (listen_for (peer_at task (task.me.0 + count))) (Err cause) → IsTrue end.told → IsTrue start.told → AsksFrontOf (calls_of task start.given) start end
unheard_front task start net end count call_fault.Failed there listened asked told_end told =
    asks_front start end end (map listen_for (first_later task (count + 1))) (calls_of task start.given)
    (more_asked start net end (map listen_for (first_later task count)) (map listen_for (first_later task (count + 1))) (listen_for (peer_at task (task.me.0 + count))) (listened_asks start listened told)
    (ap (map listen_for) (map-range_with_len_more (peer_at task) task.me.0 count (task.me.0 + count) refl) ∙ map-append listen_for (first_later task count) (peer_at task (task.me.0 + count) ∷ [])) told_end asked)
    refl
    (front_before (map listen_for (first_later task (count + 1))) (map listen_for (all_later task)) (map (link_with start.given task.me.0) (all_peers task))
    (map_front listen_for (first_later task (count + 1)) (all_later task) (later_front task (count + 1) (omega (arith, there)))))
unheard_front task start net end count call_fault.Memory there listened asked told_end told =
    asks_front start net end (map listen_for (first_later task count)) (calls_of task start.given) (listened_asks start listened told) asked
    (front_before (map listen_for (first_later task count)) (map listen_for (all_later task)) (map (link_with start.given task.me.0) (all_peers task))
    (map_front listen_for (first_later task count) (all_later task) (later_front task count (omega (arith, there)))))

-- all were asked
all_asked : (task : Task) (start met end : NetView) (ob on : SinkView) (sessions later : Sessions) → Meets task start met ob on (length task.addresses) sessions → HandedBack later met 4 end → IsTrue start.told
    → end.asked ≡ start.asked ++ calls_of task start.given
all_asked task start met end ob on sessions later m back told =
    let asks = meets_asks task start met ob on (length task.addresses) sessions (omega arith) m told in
    (back_asks later met back asks.told).1 ∙ asks.asked

on_any : (result : Result Ended HostFault) (A : Type 0) → A → OnOk result A
on_any (Ok done) A a = a
on_any (Err cause) A a = tt

pub in_order : HostsAskInOrder
in_order machine task start end ob on result plays told = by plays
  where
    by : {result : Result Ended HostFault} → Plays machine task start end ob on result → AsksFrontOf (calls_of task start.given) start end × OnOk result (end.asked ≡ start.asked ++ calls_of task start.given)
    by (NotListening count net cause there listened call same) =
        (unheard_front task start net end count cause there listened (call.asked (listened_asks start listened told).told) (call.still_told (listened_asks start listened told).told) told, tt)
    by (NotAnnounced failed announces) = (
      asks_front start end end (map listen_for (all_later task)) (calls_of task start.given) (listened_asks start announces.listened told) refl
          (front_before (map listen_for (all_later task)) (map listen_for (all_later task)) (map (link_with start.given task.me.0) (all_peers task)) (whole_front (map listen_for (all_later task)))),
      tt,
    )
    by (NotGiven count sessions met net cause meets there gets back) =
        (gets_front task start met net end ob on count sessions (Err cause) there meets gets (λ still. (back_asks sessions net back still).1) told, tt)
    by (NoRoom count sessions met net back given meets there gets handed hung) =
        (gets_front task start met net end ob on count sessions (Ok given) there meets gets (λ still. (let rest = back_asks sessions net handed still in hung.asked rest.0 ∙ rest.1)) told, tt)
    by (NotGreeted count sessions met net back given link refusal meets there gets greets handed hung) =
        (gets_front task start met net end ob on count sessions (Ok given) there meets gets (λ still. (let rest = back_asks sessions net handed still in hung.asked rest.0 ∙ rest.1)) told, tt)
    by (Driven sessions later met out result meets drives back) =
        (let whole = all_asked task start met end ob out sessions later meets back told in (
          asks_front start end end (calls_of task start.given) (calls_of task start.given) (let t = back_asks later met back (meets_asks task start met ob out (length task.addresses) sessions (omega arith) meets told).told in let asks : Asks (calls_of task start.given) start end = record { told = t.0; asked = whole } in asks) refl (whole_front (calls_of task start.given)),
          on_any result (end.asked ≡ start.asked ++ calls_of task start.given) whole,
        ))
