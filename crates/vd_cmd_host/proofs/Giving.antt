-- The links that a net gives to a host.
use Rattle.std.proofs.Common.{arith, ◌≡◌, ◌<◌, ◌≤◌, ◌+◌, ◌-◌, ◌⊎◌, ⊎_elim, inl, inr, ℕ, zero, suc, Bool, true, false, cond, IsTrue, List, [], ◌∷◌, ◌++◌, length, map, Some, None, Ok, nat_eq, refl, sym, ap, ap₂, subst, ◌∙◌, append_assoc, append-nil, length-append}
use Rattle.std.specs.Prelude.{slice_get, ◌≢◌}
use Rattle.std.specs.List.{range_with_len}
use Rattle.std.proofs.lemmas.Bool.Decides.{eqb_tells}
use Rattle.std.proofs.lemmas.List.{length-map, map-append}
use Rattle.vd_outside.specs.Link.{LinkView}
use Rattle.vd_outside.specs.Net.{GivesLink, NetView, SameListeners, link_at, without_link_at}
use Rattle.vd_link.specs.Sessions.{Greets}
use Rattle.vd_engine.specs.Drives.{SessionView}
use Rattle.vd_host_session.specs.Histories.{ByAccept, ByConnect, Gets, Held, Listened, Met, NoListener, NoneMet, OneListener, OneMet, ends_with, sessions_with}
use Rattle.vd_host_session.specs.Peers.{Peer, address_of, all_later, all_peers, first_peers, number_at, peer_at}
use Rattle.vd_host_session.specs.declared.task.Task.{Task}
use Rattle.vd_host_session.proofs.Front.{earlier_number, later_number, less_or_least}
use Rattle.vd_cmd_host.specs.Serving.{link_for, waiting_behind}

-- ---- lists by place

-- what stands behind a prefix of a list that is made by place
stands_at : {A : Type 0} (f : ℕ → A) (a n : ℕ) (front rest : List A) (x : A) → front ++ x ∷ rest ≡ map f (range_with_len a n) → (x ≡ f (a + length front)) × (length front < n)
stands_at f a zero [] rest x e = absurd cc
stands_at f a zero (y ∷ front) rest x e = absurd cc
stands_at f a (suc n) [] rest x e =
    let same : x ≡ f a = cc in
    let at : a ≡ a + 0 = omega arith in
    (same ∙ ap f at, omega arith)
stands_at f a (suc n) (y ∷ front) rest x e =
    let tails : front ++ x ∷ rest ≡ map f (range_with_len (a + 1) n) = cc in
    let more = stands_at f (a + 1) n front rest x tails in
    let less = more.1 in
    let at : a + 1 + length front ≡ a + length (y ∷ front) = omega arith in
    (more.0 ∙ ap f at, omega (arith, less))

get_at : {A : Type 0} (f : ℕ → A) (a n k : ℕ) → k < n → slice_get (map f (range_with_len a n)) k ≡ Some (f (a + k))
get_at f a zero k less = absurd (omega (arith, less))
get_at f a (suc n) zero less = let at : a ≡ a + 0 = omega arith in ap (λ (i : ℕ). Some (f i)) at
get_at f a (suc n) (suc k) less = get_at f (a + 1) n k (omega (arith, less)) ∙ (let at : a + 1 + k ≡ a + suc k = omega arith in ap (λ (i : ℕ). Some (f i)) at)

get_behind : {A : Type 0} (earlier later : List A) (k : ℕ) → slice_get (earlier ++ later) (length earlier + k) ≡ slice_get later k
get_behind [] later k = let at : 0 + k ≡ k = omega arith in ap (slice_get later) at
get_behind (x ∷ earlier) later k =
    let at : length (x ∷ earlier) + k ≡ suc (length earlier + k) = omega arith in
    ap (slice_get (x ∷ (earlier ++ later))) at ∙ get_behind earlier later k

abbrev pub address : Peer → List ℕ
address peer = peer.address

addresses_are : (task : Task) (places : List ℕ) → map address (map (peer_at task) places) ≡ map (address_of task) places
addresses_are task [] = refl
addresses_are task (place ∷ places) = ap (λ (l : List (List ℕ)). address_of task place ∷ l) (addresses_are task places)

range_front : (a count n : ℕ) → count ≤ n → (rest : List ℕ) × (range_with_len a count ++ rest ≡ range_with_len a n)
range_front a zero n less = (range_with_len a n, refl)
range_front a (suc count) zero less = absurd (omega (arith, less))
range_front a (suc count) (suc n) less =
    let more = range_front (a + 1) count n (omega (arith, less)) in
    (more.0, ap (λ (l : List ℕ). a ∷ l) more.1)

pub peers_front : (task : Task) (count : ℕ) → count ≤ length task.addresses → (rest : List Peer) × (first_peers task count ++ rest ≡ all_peers task)
peers_front task count less =
    let front = range_front 0 count (length task.addresses) less in
    (map (peer_at task) front.0, sym (map-append (peer_at task) (range_with_len 0 count) front.0) ∙ ap (map (peer_at task)) front.1)

-- ---- what a net has given

-- since this start it listens for all later peers, and has given links to the first peers, so many
pub record HasGiven (task : Task) (start now : NetView) (count : ℕ) : Type 0 where
  pub told : IsTrue now.told
  pub later : start.faults ≤ now.faults
  pub listeners : now.listeners ≡ start.listeners ++ map address (all_later task)
  pub waiting : now.waiting ≡ waiting_behind task count start.waiting
  pub otherwise : now.otherwise ≡ start.otherwise
  pub links : now.links ≡ start.links + count
  pub back : now.back ≡ start.back

record Listening (start now : NetView) (peers : List Peer) : Type 0 where
  told : IsTrue now.told
  later : start.faults ≤ now.faults
  listeners : now.listeners ≡ start.listeners ++ map address peers
  waiting : now.waiting ≡ start.waiting
  otherwise : now.otherwise ≡ start.otherwise
  links : now.links ≡ start.links
  back : now.back ≡ start.back

listening : (start : NetView) {peers : List Peer} {now : NetView} → Listened start peers now → IsTrue start.told → Listening start now peers
listening start NoListener told = record { told = told; later = omega arith; listeners = sym (append-nil start.listeners); waiting = refl; otherwise = refl; links = refl; back = refl }
listening start (OneListener peers peer number net now before call) told =
    let rest = listening start before told in
    let same = call.links rest.told in
    let first = rest.later in
    let second = call.later in
    record {
      told = call.still_told rest.told;
      later = omega (arith, first, second);
      listeners = call.listeners rest.told ∙ ap (λ (l : List (List ℕ)). l ++ peer.address ∷ []) rest.listeners ∙ append_assoc start.listeners (map address peers) (peer.address ∷ [])
          ∙ ap (λ (l : List (List ℕ)). start.listeners ++ l) (sym (map-append address peers (peer ∷ [])));
      waiting = same.waiting ∙ rest.waiting;
      otherwise = same.otherwise ∙ rest.otherwise;
      links = same.links ∙ rest.links;
      back = same.back ∙ rest.back;
    }

pub listens : (task : Task) (start now : NetView) → Listened start (all_later task) now → IsTrue start.told → HasGiven task start now 0
listens task start now listened told =
    let all = listening start listened told in
    let links = all.links in
    record { told = all.told; later = all.later; listeners = all.listeners; waiting = all.waiting; otherwise = all.otherwise; links = omega (arith, links); back = all.back }

-- ---- one link

record GivesAt (address : List ℕ) (before now : NetView) (link : LinkView) : Type 0 where
  told : IsTrue now.told
  later : before.faults ≤ now.faults
  same : SameListeners before now
  gives : GivesLink address before now link

module _ (task : Task) (first : ℕ) (start : NetView) (listeners : length start.listeners ≡ start.given) (first_is : task.me.0 < length task.addresses → first ≡ start.given) where
  -- the listener that is asked is the one for this peer
  listener_for : (place : ℕ) (net : NetView) (heard : List ℕ) → place < length task.addresses → net.listeners ≡ start.listeners ++ map address (all_later task)
      → task.me.0 < number_at task.me.0 place → slice_get net.listeners (first + (number_at task.me.0 place - suc task.me.0)) ≡ Some heard → heard ≡ address_of task place
  listener_for place net heard there is later at = ⊎_elim
      (λ (less : place < task.me.0). absurd (let number = earlier_number task.me.0 place less in omega (arith, number, less, later)))
      (λ (least : task.me.0 ≤ place). found least)
      (less_or_least place task.me.0)
    where
      found : task.me.0 ≤ place → heard ≡ address_of task place
      found least =
          let number = later_number task.me.0 place least in
          let begins = first_is (omega (arith, least, there)) in
          let all = addresses_are task (range_with_len task.me.0 (length task.addresses - task.me.0)) in
          let asked : first + (number_at task.me.0 place - suc task.me.0) ≡ length start.listeners + (place - task.me.0) = omega (arith, number, begins, listeners, least) in
          let hears : slice_get net.listeners (length start.listeners + (place - task.me.0)) ≡ Some heard = subst (λ (i : ℕ). slice_get net.listeners i ≡ Some heard) asked at in
          let spot : task.me.0 + (place - task.me.0) ≡ place = omega (arith, least) in
          let stands : slice_get (start.listeners ++ map address (all_later task)) (length start.listeners + (place - task.me.0)) ≡ Some (address_of task place) =
          get_behind start.listeners (map address (all_later task)) (place - task.me.0)
          ∙ ap (λ (l : List (List ℕ)). slice_get l (place - task.me.0)) all
          ∙ get_at (address_of task) task.me.0 (length task.addresses - task.me.0) (place - task.me.0) (omega (arith, least, there))
          ∙ ap (λ (i : ℕ). Some (address_of task i)) spot in
          let both : Some heard ≡ Some (address_of task place) = sym hears ∙ ap (λ (l : List (List ℕ)). slice_get l (length start.listeners + (place - task.me.0))) is ∙ stands in
          cc

  gives_link : (place : ℕ) (net now : NetView) (link : LinkView) → place < length task.addresses → net.listeners ≡ start.listeners ++ map address (all_later task) → IsTrue net.told
      → Gets first task.me.0 (peer_at task place) net now (Ok link) → GivesAt (address_of task place) net now link
  gives_link place net now link there is told (ByAccept later call) =
      let given = call.gives told in
      record {
        told = call.still_told told;
        later = call.later;
        same = call.listeners;
        gives = subst (λ (a : List ℕ). GivesLink a net now link) (listener_for place net given.0 there is later given.1) given.2;
      }
  gives_link place net now link there is told (ByConnect earlier call) = record { told = call.still_told told; later = call.later; same = call.listeners; gives = call.gives told }

  -- the next peer is given the link that waits for it
  pub next_waits : (place : ℕ) (net now : NetView) (link : LinkView) → place < length task.addresses → HasGiven task start net place → Gets first task.me.0 (peer_at task place) net now (Ok link)
      → link_for task place start ≡ Some link
  next_waits place net now link there given gets =
      let one = gives_link place net now link there given.listeners given.told gets in
      ap₂ (λ w o. link_at (address_of task place) w o) (sym given.waiting) (sym given.otherwise) ∙ one.gives.at_address

  pub next_given : (place : ℕ) (net now : NetView) (link : LinkView) → place < length task.addresses → HasGiven task start net place → Gets first task.me.0 (peer_at task place) net now (Ok link)
      → HasGiven task start now (suc place)
  next_given place net now link there given gets =
      let one = gives_link place net now link there given.listeners given.told gets in
      let first_later = given.later in
      let second_later = one.later in
      let links = given.links in
      let more = one.gives.links in
      record {
        told = one.told;
        later = omega (arith, first_later, second_later);
        listeners = one.same.listeners given.told ∙ given.listeners;
        waiting = one.gives.waiting ∙ ap (without_link_at (address_of task place)) given.waiting;
        otherwise = one.gives.otherwise ∙ given.otherwise;
        links = omega (arith, links, more);
        back = one.gives.back ∙ given.back;
      }

-- ---- all links

-- the session with the host of this number goes over the link that waits for it, behind the greetings
pub record IsMet (task : Task) (start : NetView) (number : ℕ) (session : SessionView) : Type 0 where
  pub place : ℕ
  pub there : place < length task.addresses
  pub number_is : number_at task.me.0 place ≡ number
  pub given : LinkView
  pub waits : link_for task place start ≡ Some given
  pub greets : Greets (ends_with task (peer_at task place)) given session.link (Ok tt)

abbrev session_of : Held → SessionView
session_of held = record { link = held.greeted; received = 36; failed = false }

last_or_before : (all : List Held) (held : Held) (number : ℕ) (session : SessionView) → sessions_with (all ++ held ∷ []) number ≡ Some session
    → (sessions_with all number ≡ Some session) ⊎ ((held.peer.number ≡ number) × (session ≡ session_of held))
last_or_before [] held number session e = ⊎_elim
    (λ (h : (nat_eq held.peer.number number ≡ true) × (held.peer.number ≡ number)).
    let same : Some (session_of held) ≡ Some session = ap (λ (b : Bool). cond b (Some (session_of held)) None) (sym h.0) ∙ e in
    inr (h.1, cc))
    (λ (h : (nat_eq held.peer.number number ≡ false) × (held.peer.number ≢ number)).
    let none : None ≡ Some session = ap (λ (b : Bool). cond b (Some (session_of held)) None) (sym h.0) ∙ e in
    absurd cc)
    (eqb_tells held.peer.number number)
last_or_before (one ∷ all) held number session e = ⊎_elim
    (λ (h : (nat_eq one.peer.number number ≡ true) × (one.peer.number ≡ number)).
    inl (ap (λ (b : Bool). cond b (Some (session_of one)) (sessions_with all number)) h.0 ∙ (ap (λ (b : Bool). cond b (Some (session_of one)) (sessions_with (all ++ held ∷ []) number)) (sym h.0) ∙ e)))
    (λ (h : (nat_eq one.peer.number number ≡ false) × (one.peer.number ≢ number)).
    ⊎_elim (λ (before : sessions_with all number ≡ Some session). inl (ap (λ (b : Bool). cond b (Some (session_of one)) (sessions_with all number)) h.0 ∙ before))
    (λ (last : (held.peer.number ≡ number) × (session ≡ session_of held)). inr last)
    (last_or_before all held number session (ap (λ (b : Bool). cond b (Some (session_of one)) (sessions_with (all ++ held ∷ []) number)) (sym h.0) ∙ e)))
    (eqb_tells one.peer.number number)

abbrev pub peer_of : Held → Peer
peer_of held = held.peer

pub record AllGiven (task : Task) (start now : NetView) (all : List Held) : Type 0 where
  pub given : HasGiven task start now (length all)
  pub met : (number : ℕ) (session : SessionView) → sessions_with all number ≡ Some session → IsMet task start number session

module _ (task : Task) (first : ℕ) (start from : NetView) (listeners : length start.listeners ≡ start.given) (first_is : task.me.0 < length task.addresses → first ≡ start.given) (begun : HasGiven task start from 0) where
  pub met_all : {all : List Held} {now : NetView} → Met task first from all now → (rest : List Peer) → map peer_of all ++ rest ≡ all_peers task → AllGiven task start now all
  met_all NoneMet rest are = record { given = begun; met = λ number session e. absurd cc }
  met_all (OneMet all held net now before gets greets) rest are =
      let parts : map peer_of all ++ held.peer ∷ rest ≡ all_peers task =
      sym (ap (λ (l : List Peer). l ++ rest) (map-append peer_of all (held ∷ [])) ∙ append_assoc (map peer_of all) (held.peer ∷ []) rest) ∙ are in
      let earlier = met_all before (held.peer ∷ rest) parts in
      let at = stands_at (peer_at task) 0 (length task.addresses) (map peer_of all) rest held.peer parts in
      let long = length-map all peer_of in
      let less = at.1 in
      let place : 0 + length (map peer_of all) ≡ length all = omega (arith, long) in
      let peer_is : held.peer ≡ peer_at task (length all) = at.0 ∙ ap (peer_at task) place in
      let there : length all < length task.addresses = omega (arith, less, long) in
      let moved : Gets first task.me.0 (peer_at task (length all)) net now (Ok held.given) = subst (λ (p : Peer). Gets first task.me.0 p net now (Ok held.given)) peer_is gets in
      let waits = next_waits task first start listeners first_is (length all) net now held.given there earlier.given moved in
      let counted : suc (length all) ≡ length (all ++ held ∷ []) = (let e = length-append all (held ∷ []) in omega (arith, e)) in
      record {
        given = subst (HasGiven task start now) counted (next_given task first start listeners first_is (length all) net now held.given there earlier.given moved);
        met = λ number session e. ⊎_elim
            (λ (was : sessions_with all number ≡ Some session). earlier.met number session was)
            (λ (last : (held.peer.number ≡ number) × (session ≡ session_of held)). record {
              place = length all;
              there = there;
              number_is = ap (λ (p : Peer). p.number) (sym peer_is) ∙ last.0;
              given = held.given;
              waits = waits;
              greets = subst (λ (s : SessionView). Greets (ends_with task (peer_at task (length all))) held.given s.link (Ok tt)) (sym last.1)
                  (subst (λ (p : Peer). Greets (ends_with task p) held.given held.greeted (Ok tt)) peer_is greets);
            })
            (last_or_before all held number session e);
      }
