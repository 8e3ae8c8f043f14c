-- What goes out over links that are sealed.
use Rattle.std.proofs.Common.{◌≡◌, ◌∙◌, ◌≤◌, ℕ, zero, suc, Bool, true, false, IsTrue, List, [], ◌∷◌, ◌++◌, length, take, Option, Some, None, Result, Ok, Err, IfSome, IfOk, refl, sym, ap, subst, arith, append_assoc, if◌then◌else◌, nat_lt, option_map}
use Rattle.std.specs.List.{AllByRecursion}
use Rattle.std.specs.Prelude.{OnErr}
use Rattle.std.specs.Str.{bytes_eq}
use Rattle.std.proofs.Math.Seq.{take-length}
use Rattle.std.proofs.lemmas.List.{append-nil, length-take, take-append-le}
use Rattle.vd_base.specs.declared.faults.CallFault.{CallFault}
use Rattle.vd_base.specs.declared.faults.Failed.{Failed}
use Rattle.vd_outside.specs.Link.{LinkView}
use Rattle.vd_outside.specs.Net.{Accepts, Connects, HangsUp, Listens, NetView, SameLinks, Waiting, GivesLink, link_at, without_link_at}
use Rattle.vd_channel_crypto.specs.Hellos.{hello_bytes, nonce_of}
use Rattle.vd_channel_crypto.specs.Keys.{direction}
use Rattle.vd_channel_crypto.specs.Records.{Direction, sealed}
use Rattle.vd_channel_crypto.specs.declared.hellos.Hello.{Hello}
use Rattle.vd_channel_link.specs.Opened.{records}
use Rattle.vd_channel_link.specs.Session.{BeginsNone, FailsToSend, IsCarried, NoneBegun, OneCut, SendsRecord}
use Rattle.vd_channel_link.specs.declared.session.Session.{Session}
use Rattle.vd_channel_link.proofs.Sent.{carried_on}
use Rattle.vd_channel_link.specs.Meeting.{SaysNoMore}
use Rattle.vd_channel_link.specs.Outgoing.{AreUnused, Greeted, HasSealed, IsLinkSealed, IsSealing, SealsAll, SealsLinks, SealsSession, Sealer, first_words, sealer_of}
use Rattle.vd_channel_link.specs.Seals.{IsKeyFor, IsMet, StillSeals, Tries, listening, next_asked}
use Rattle.vd_channel_link.specs.declared.channel_net.seal.Seal.{Seal}

both : {X : Type 0} (P : X → Type 0) (xs ys : List X) → AllByRecursion P xs → AllByRecursion P ys → AllByRecursion P (xs ++ ys)
both P [] ys a b = b
both P (x ∷ xs) ys a b = (a.0, both P xs ys a.1 b)

-- ---- one call after the other

pub seals_none : (by : Sealer) (before now : NetView) → now ≡ before → SealsLinks by before now
seals_none by before now same = subst (λ (n : NetView). SealsLinks by before n) (sym same)
    (λ told unused. record { told = told; unused = unused; handed = []; back = sym (append-nil before.back); sealed = tt })

pub seals_then : (by : Sealer) (first mid last : NetView) → SealsLinks by first mid → SealsLinks by mid last → SealsLinks by first last
seals_then by first mid last a b told unused =
    let one = a told unused in
    let two = b one.told one.unused in
    record {
      told = two.told;
      unused = two.unused;
      handed = one.handed ++ two.handed;
      back = two.back ∙ ap (λ (l : List LinkView). l ++ two.handed) one.back ∙ append_assoc first.back one.handed two.handed;
      sealed = both (IsLinkSealed by) one.handed two.handed one.sealed two.sealed;
    }

-- no link came back
none_back : (by : Sealer) (before now : NetView) → (IsTrue before.told → IsTrue now.told) → (IsTrue before.told → AreUnused before → AreUnused now)
    → (IsTrue before.told → now.back ≡ before.back) → SealsLinks by before now
none_back by before now told unused back t u = record { told = told t; unused = unused t u; handed = []; back = back t ∙ sym (append-nil before.back); sealed = tt }

same_unused : (before now : NetView) → SameLinks before now → AreUnused before → AreUnused now
same_unused before now same unused = record {
  waiting = subst (λ (w : Waiting LinkView). AllByRecursion (λ (link : List ℕ × LinkView). link.1.sent ≡ []) w) (sym same.waiting) unused.waiting;
  otherwise = subst (λ (o : Option LinkView). IfSome o (λ (link : LinkView). link.sent ≡ [])) (sym same.otherwise) unused.otherwise;
}

abbrev Unsent : List ℕ × LinkView → Type 0
Unsent link = link.1.sent ≡ []

rest_unused : (address : List ℕ) (waiting : Waiting LinkView) → AllByRecursion Unsent waiting → AllByRecursion Unsent (without_link_at address waiting)
rest_unused address [] all = tt
rest_unused address (link ∷ links) all = by (bytes_eq link.0 address) (rest_unused address links all.1)
  where
    by : (is : Bool) → AllByRecursion Unsent (without_link_at address links) → AllByRecursion Unsent (if is then links else link ∷ without_link_at address links)
    by true rest = all.1
    by false rest = (all.0, rest)

found_unused : (address : List ℕ) (waiting : Waiting LinkView) (otherwise : Option LinkView) (link : LinkView) → AllByRecursion Unsent waiting
    → IfSome otherwise (λ (other : LinkView). other.sent ≡ []) → link_at address waiting otherwise ≡ Some link → link.sent ≡ []
found_unused address [] otherwise link all other is = subst (λ (o : Option LinkView). IfSome o (λ (l : LinkView). l.sent ≡ [])) is other
found_unused address (first ∷ more) otherwise link all other is = by (bytes_eq first.0 address) (found_unused address more otherwise link all.1 other) is
  where
    by : (there : Bool) → (link_at address more otherwise ≡ Some link → link.sent ≡ []) → (if there then Some first.1 else link_at address more otherwise) ≡ Some link → link.sent ≡ []
    by true later e = subst (λ (o : Option LinkView). IfSome o (λ (l : LinkView). l.sent ≡ [])) e all.0
    by false later e = later e

gives_unused : (address : List ℕ) (before now : NetView) (link : LinkView) → GivesLink address before now link → AreUnused before → AreUnused now
gives_unused address before now link gives unused = record {
  waiting = subst (λ (w : Waiting LinkView). AllByRecursion Unsent w) (sym gives.waiting) (rest_unused address before.waiting unused.waiting);
  otherwise = subst (λ (o : Option LinkView). IfSome o (λ (l : LinkView). l.sent ≡ [])) (sym gives.otherwise) unused.otherwise;
}

pub seals_listens : (by : Sealer) (address : List ℕ) (before now : NetView) (result : Result ℕ CallFault) → Listens address before now result → SealsLinks by before now
seals_listens by address before now result listens =
    none_back by before now listens.still_told (λ told. same_unused before now (listens.links told)) (λ told. (listens.links told).back)

pub seals_accepts : (by : Sealer) (listener : ℕ) (before now : NetView) (result : Result LinkView CallFault) → Accepts listener before now result → SealsLinks by before now
seals_accepts by listener before now (Ok link) accepts =
    none_back by before now accepts.still_told (λ told. gives_unused (accepts.gives told).0 before now link (accepts.gives told).2) (λ told. (accepts.gives told).2.back)
seals_accepts by listener before now (Err fault) accepts =
    none_back by before now accepts.still_told (λ told. same_unused before now (accepts.no_link told)) (λ told. (accepts.no_link told).back)

pub seals_connects : (by : Sealer) (address : List ℕ) (before now : NetView) (result : Result LinkView CallFault) → Connects address before now result → SealsLinks by before now
seals_connects by address before now (Ok link) connects =
    none_back by before now connects.still_told (λ told. gives_unused address before now link (connects.gives told)) (λ told. (connects.gives told).back)
seals_connects by address before now (Err fault) connects =
    none_back by before now connects.still_told (λ told. same_unused before now (connects.no_link told)) (λ told. (connects.no_link told).back)

-- the link that is given is an unused one
pub accepts_unused : (listener : ℕ) (before now : NetView) (link : LinkView) → Accepts listener before now (Ok link) → IsTrue before.told → AreUnused before → link.sent ≡ []
accepts_unused listener before now link accepts told unused =
    let gives = accepts.gives told in
    found_unused gives.0 before.waiting before.otherwise link unused.waiting unused.otherwise gives.2.at_address

pub connects_unused : (address : List ℕ) (before now : NetView) (link : LinkView) → Connects address before now (Ok link) → IsTrue before.told → AreUnused before → link.sent ≡ []
connects_unused address before now link connects told unused =
    found_unused address before.waiting before.otherwise link unused.waiting unused.otherwise (connects.gives told).at_address

-- a link that comes back
pub seals_hangs_up : (by : Sealer) (link : LinkView) (before now : NetView) → HangsUp link before now → (IsTrue before.told → AreUnused before → IsLinkSealed by link) → SealsLinks by before now
seals_hangs_up by link before now hangs sealed told unused = at (nat_lt (length before.back) before.links) (hangs.back told)
  where
    still : AreUnused now
    still = record {
      waiting = subst (λ (w : Waiting LinkView). AllByRecursion Unsent w) (sym (hangs.waiting told)) unused.waiting;
      otherwise = subst (λ (o : Option LinkView). IfSome o (λ (l : LinkView). l.sent ≡ [])) (sym (hangs.otherwise told)) unused.otherwise;
    }

    at : (room : Bool) → now.back ≡ (if room then before.back ++ link ∷ [] else before.back) → SealsAll by before now
    at true back = record { told = hangs.still_told told; unused = still; handed = link ∷ []; back = back; sealed = (sealed told unused, tt) }
    at false back = record { told = hangs.still_told told; unused = still; handed = []; back = back ∙ sym (append-nil before.back); sealed = tt }

-- ---- one link

-- who is met is greeted
abbrev pub greeted_by : (seal : Seal) (tried peer : ℕ) (session : Session) (came now : LinkView) → IsMet seal tried peer session came now → Greeted (sealer_of seal)
greeted_by seal tried peer session came now met = record {
  mine = met.mine;
  id = met.id;
  from = met.from;
  connection = met.connection;
  nonce = met.nonce ∙ ap (λ (p : ℕ). nonce_of seal.seed p met.connection) (sym met.to);
  key = met.key;
  is_key = subst (λ (p : ℕ). IsKeyFor seal.me.0 seal.secrets p met.key) (sym met.to) met.is_key;
  theirs = met.met.theirs;
}

whole_front : (sent all : List ℕ) → sent ≡ all → take (length sent) all ≡ sent
whole_front sent all is = ap (take (length sent)) (sym is) ∙ take-length sent

-- nothing went out behind the greeting
pub met_seals : (seal : Seal) (tried peer : ℕ) (session : Session) (came now : LinkView) → IsMet seal tried peer session came now → came.sent ≡ [] → IsSealing (sealer_of seal) session now
met_seals seal tried peer session came now met unsent =
    let greeted = greeted_by seal tried peer session came now met in
    let whole : IsTrue now.told → now.sent ≡ first_words greeted ++ [] =
    λ told. met.met.sent told
    ∙ ap (λ (l : List ℕ). (l ++ hello_bytes met.mine) ++ sealed (direction session.ours) 0 []) unsent
    ∙ ap (λ (d : Direction). hello_bytes met.mine ++ sealed d 0 []) met.met.own_key
    ∙ sym (append-nil (first_words greeted)) in
    record {
      greeted = greeted;
      own = met.met.own_key;
      carried = record {
        pieces = [];
        number = met.fresh.next_out;
        front = λ told. whole_front now.sent (first_words greeted ++ []) (whole told);
        whole = λ sends told. whole told;
        told = λ sends. met.fresh.sent;
      };
    }

-- what went out in a session is sealed
pub sealing_out : (by : Sealer) (session : Session) (below : LinkView) → IsSealing by session below → IsLinkSealed by below
sealing_out by session below so told = record {
  greeted = so.greeted;
  pieces = so.carried.pieces;
  front = ap (λ (d : Direction). take (length below.sent) (first_words so.greeted ++ records d 1 so.carried.pieces)) (sym so.own) ∙ so.carried.front told;
}

front_of_more : (count : ℕ) (sent all more : List ℕ) → sent ≡ take count all → take (length sent) (all ++ more) ≡ sent
front_of_more count sent all more is =
    let short : length sent ≤ length all = omega (arith, ap length is, length-take count all) in
    take-append-le (length sent) all more short ∙ front_again
  where
    again : (n : ℕ) (xs : List ℕ) → take (length (take n xs)) xs ≡ take n xs
    again zero xs = refl
    again (suc n) [] = refl
    again (suc n) (x ∷ xs) = ap (λ (l : List ℕ). x ∷ l) (again n xs)

    front_again : take (length sent) all ≡ sent
    front_again = ap (λ (l : List ℕ). take (length l) all) is ∙ again count all ∙ sym is

-- no more than a greeting went out to who was not met
pub greeting_out : (by : Sealer) (greeted : Greeted by) (came left : LinkView) → came.sent ≡ [] → (IsTrue left.told → SaysNoMore greeted.mine greeted.key came left) → IsLinkSealed by left
greeting_out by greeted came left unsent says told =
    let so = says told in
    let heard : Greeted by = record greeted { theirs = so.theirs } in
    record {
      greeted = heard;
      pieces = [];
      front = front_of_more so.count left.sent (first_words heard) [] (so.sent ∙ ap (λ (l : List ℕ). l ++ take so.count (first_words heard)) unsent);
    }

-- ---- the calls of a net that seals

pub same_sealer : (before now : Seal) → Tries before now → sealer_of now ≡ sealer_of before
same_sealer before now tries = ap sealer_of tries.same

-- a link came, and then its peer was met or it was hung up
pub came_over : (first later : Seal) (came : LinkView) (start net given now : NetView) → sealer_of later ≡ sealer_of first → SealsLinks (sealer_of first) start net
    → SealsLinks (sealer_of first) net given → (IsTrue net.told → AreUnused net → came.sent ≡ []) → (came.sent ≡ [] → SealsLinks (sealer_of later) given now)
    → SealsLinks (sealer_of first) start now
came_over first later came start net given now same before gives unused after told free =
    let one = before told free in
    let none = unused one.told one.unused in
    seals_then (sealer_of first) start given now (seals_then (sealer_of first) start net given before gives)
    (subst (λ (by : Sealer). SealsLinks by given now) same (after none)) told free

pub given_sealed : (first later : Seal) (tried peer : ℕ) (session : Session) (came below : LinkView) (start net : NetView) → sealer_of later ≡ sealer_of first
    → SealsLinks (sealer_of first) start net → (IsTrue net.told → AreUnused net → came.sent ≡ []) → IsMet later tried peer session came below
    → SealsSession (sealer_of first) start session below
given_sealed first later tried peer session came below start net same before unused met told free =
    let one = before told free in
    subst (λ (by : Sealer). IsSealing by session below) same (met_seals later tried peer session came below met (unused one.told one.unused))

-- a hello to a peer by the next nonce, and the key of the link to it
abbrev pub greeted_with : (seal : Seal) (mine : Hello) (peer : ℕ) (key : List ℕ) → mine.id ≡ seal.secrets.id → mine.from ≡ seal.me → mine.to.0 ≡ peer
    → mine.nonce ≡ nonce_of seal.seed peer seal.tried → IsKeyFor seal.me.0 seal.secrets peer key → Greeted (sealer_of seal)
greeted_with seal mine peer key id from to nonce is = record {
  mine = mine;
  id = id;
  from = from;
  connection = seal.tried;
  nonce = nonce ∙ ap (λ (p : ℕ). nonce_of seal.seed p seal.tried) (sym to);
  key = key;
  is_key = subst (λ (p : ℕ). IsKeyFor seal.me.0 seal.secrets p key) (sym to) is;
  theirs = mine;
}

-- ---- the links of a run

sealing_on : (by : Sealer) (session later : Session) (before now : LinkView) → IsSealing by session before → later.ours ≡ session.ours
    → ((start : List ℕ) → IsCarried start session before → IsCarried start later now) → IsSealing by later now
sealing_on by session later before now so keys on = record {
  greeted = so.greeted;
  own = ap direction keys ∙ so.own;
  carried = on (first_words so.greeted) so.carried;
}

pub sent_on : (by : Sealer) (start : NetView) (bytes : List ℕ) (session later : Session) (before now : LinkView) (count : ℕ) → SendsRecord bytes session later before now count
    → SealsSession by start session before → SealsSession by start later now
sent_on by start bytes session later before now count sends so told free =
    sealing_on by session later before now (so told free) sends.keys (λ first carried. carried_on.sent first bytes session later before now count carried sends)

failed_keys : (bytes : List ℕ) (session later : Session) (before now : LinkView) → FailsToSend bytes session later before now → later.ours ≡ session.ours
failed_keys bytes session later before now (NoneBegun none) = none.keys
failed_keys bytes session later before now (OneCut cut) = cut.keys

pub failed_on : (by : Sealer) (start : NetView) (bytes : List ℕ) (session later : Session) (before now : LinkView) → FailsToSend bytes session later before now
    → SealsSession by start session before → SealsSession by start later now
failed_on by start bytes session later before now fails so told free =
    sealing_on by session later before now (so told free) (failed_keys bytes session later before now fails)
    (λ first carried. carried_on.failed first bytes session later before now carried fails)

pub received_on : (by : Sealer) (start : NetView) (session later : Session) (before now : LinkView) → BeginsNone session later before now
    → SealsSession by start session before → SealsSession by start later now
received_on by start session later before now none so told free =
    sealing_on by session later before now (so told free) none.keys (λ first carried. carried_on.received first session later before now carried none)

pub send_on : (by : Sealer) (start : NetView) (bytes : List ℕ) (session later : Session) (before now : LinkView) (result : Result ℕ Failed)
    → IfOk result (SendsRecord bytes session later before now) → OnErr result (FailsToSend bytes session later before now)
    → SealsSession by start session before → SealsSession by start later now
send_on by start bytes session later before now (Ok count) out cut so = sent_on by start bytes session later before now count out so
send_on by start bytes session later before now (Err failed) out cut so = failed_on by start bytes session later before now cut so

-- ---- the net of a run

-- it goes on, by a seal that differs in what was tried and asked alone
pub goes_on : (by : Sealer) (start : NetView) (seal later : Option Seal) (before now : NetView) → HasSealed by start seal before
    → ((held : Seal) → seal ≡ Some held → (next : Seal) × (later ≡ Some next) × (sealer_of next ≡ sealer_of held))
    → ((held : Seal) → seal ≡ Some held → SealsLinks (sealer_of held) before now) → HasSealed by start later now
goes_on by start seal later before now has kept seals =
    let next = kept has.held has.is in
    record {
      held = next.0;
      is = next.1;
      by_it = next.2 ∙ has.by_it;
      seals = seals_then by start before now has.seals (subst (λ (b : Sealer). SealsLinks b before now) has.by_it (seals has.held has.is));
    }

pub same_held : (seal later : Option Seal) → later ≡ seal → (held : Seal) → seal ≡ Some held → (next : Seal) × (later ≡ Some next) × (sealer_of next ≡ sealer_of held)
same_held seal later same held is = (held, same ∙ is, refl)

pub still_held : (seal later : Option Seal) → StillSeals seal later → (held : Seal) → seal ≡ Some held → (next : Seal) × (later ≡ Some next) × (sealer_of next ≡ sealer_of held)
still_held None later still held is = absurd cc
still_held (Some seal) later still held is =
    let one : seal ≡ held = cc in
    (still.0, still.1, same_sealer seal still.0 still.2 ∙ ap sealer_of one)

pub asked_held : (seal later : Option Seal) → StillSeals (option_map next_asked seal) later → (held : Seal) → seal ≡ Some held → (next : Seal) × (later ≡ Some next) × (sealer_of next ≡ sealer_of held)
asked_held None later still held is = absurd cc
asked_held (Some seal) later still held is =
    let one : seal ≡ held = cc in
    (still.0, still.1, same_sealer (next_asked seal) still.0 still.2 ∙ ap sealer_of one)

pub listening_held : (listener : ℕ) (seal later : Option Seal) → later ≡ option_map (listening listener) seal → (held : Seal) → seal ≡ Some held
    → (next : Seal) × (later ≡ Some next) × (sealer_of next ≡ sealer_of held)
listening_held listener seal later first held is = (listening listener held, first ∙ ap (option_map (listening listener)) is, refl)

pub each_seal : (Holds : Seal → Type 0) (seal : Option Seal) → IfSome seal Holds → (held : Seal) → seal ≡ Some held → Holds held
each_seal Holds seal all held is = subst (λ (o : Option Seal). IfSome o Holds) is all

pub listen_on : (by : Sealer) (start : NetView) (seal later : Option Seal) (before now : NetView) (address : List ℕ) (result : Result ℕ CallFault) → HasSealed by start seal before
    → IfOk result (λ (listener : ℕ). later ≡ option_map (listening listener) seal) → OnErr result (later ≡ seal) → Listens address before now result → HasSealed by start later now
listen_on by start seal later before now address (Ok listener) has first none listens =
    goes_on by start seal later before now has (listening_held listener seal later first) (λ held is. seals_listens (sealer_of held) address before now (Ok listener) listens)
listen_on by start seal later before now address (Err fault) has first none listens =
    goes_on by start seal later before now has (same_held seal later none) (λ held is. seals_listens (sealer_of held) address before now (Err fault) listens)

limited : (by : Sealer) (before now : NetView) (seconds : Option ℕ) → now ≡ record before { limit = seconds } → SealsLinks by before now
limited by before now seconds is = subst (λ (n : NetView). SealsLinks by before n) (sym is)
    (none_back by before (record before { limit = seconds }) (λ told. told) (λ told unused. record { waiting = unused.waiting; otherwise = unused.otherwise }) (λ told. refl))

pub wait_on : (by : Sealer) (start : NetView) (seal later : Option Seal) (before now : NetView) (seconds : Option ℕ) → HasSealed by start seal before → later ≡ seal
    → now ≡ record before { limit = seconds } → HasSealed by start later now
wait_on by start seal later before now seconds has same is =
    goes_on by start seal later before now has (same_held seal later same) (λ held at. limited (sealer_of held) before now seconds is)

pub accept_on : (by : Sealer) (start : NetView) (seal later : Option Seal) (before now : NetView) → HasSealed by start seal before → StillSeals seal later
    → IfSome seal (λ (held : Seal). SealsLinks (sealer_of held) before now) → HasSealed by start later now
accept_on by start seal later before now has kept over =
    goes_on by start seal later before now has (still_held seal later kept) (each_seal (λ (held : Seal). SealsLinks (sealer_of held) before now) seal over)

pub connect_on : (by : Sealer) (start : NetView) (seal later : Option Seal) (before now : NetView) → HasSealed by start seal before → StillSeals (option_map next_asked seal) later
    → IfSome seal (λ (held : Seal). SealsLinks (sealer_of held) before now) → HasSealed by start later now
connect_on by start seal later before now has kept over =
    goes_on by start seal later before now has (asked_held seal later kept) (each_seal (λ (held : Seal). SealsLinks (sealer_of held) before now) seal over)

-- a link that is given
pub given_on : (by : Sealer) (start : NetView) (seal : Option Seal) (before : NetView) (session : Session) (below : LinkView) → HasSealed by start seal before
    → IfSome seal (λ (held : Seal). SealsSession (sealer_of held) before session below) → SealsSession by start session below
given_on by start seal before session below has gives told free =
    let one = has.seals told free in
    subst (λ (b : Sealer). IsSealing b session below) has.by_it (each_seal (λ (held : Seal). SealsSession (sealer_of held) before session below) seal gives has.held has.is one.told one.unused)

-- a link that comes back
pub hung_up : (by : Sealer) (start : NetView) (seal later : Option Seal) (before now : NetView) (session : Session) (below : LinkView) → HasSealed by start seal before → later ≡ seal
    → SealsSession by start session below → HangsUp below before now → HasSealed by start later now
hung_up by start seal later before now session below has same so hangs = record {
  held = has.held;
  is = same ∙ has.is;
  by_it = has.by_it;
  seals = λ told free. seals_then by start before now has.seals
      (seals_hangs_up by below before now hangs (λ t u. sealing_out by session below (so told free))) told free;
}
