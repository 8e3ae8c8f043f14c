-- Hosts of one dealing, over links that bring what the other sends.
use Rattle.std.proofs.Common.{arith, ◌≡◌, ◌+◌, ◌∙◌, ℕ, true, false, List, [], ◌++◌, length, ap, sym, refl, subst}
use Rattle.std.proofs.lemmas.List.{append-nil}
use Rattle.sha2.proofs.Facts256.{length-sha256}
use Rattle.vd_outside.specs.Link.{LinkView}
use Rattle.vd_channel_crypto.specs.Hellos.{digest_between, hello_bytes, link_direction, nonce_of}
use Rattle.vd_channel_crypto.specs.Keys.{direction}
use Rattle.vd_channel_crypto.specs.Records.{Direction, sealed}
use Rattle.vd_channel_crypto.specs.declared.hellos.Hello.{Hello}
use Rattle.vd_channel_crypto.specs.declared.records.Keys.{Keys}
use Rattle.vd_channel_crypto.proofs.Front.{both_ends}
use Rattle.vd_channel_link.specs.Ends.{said_by}
use Rattle.vd_channel_link.specs.Letting.{HonestHostsAreLetIn, HonestHostsAreReached, HostsOfADealingMeet}
use Rattle.vd_channel_link.specs.Meeting.{HaveMet, IsMeetFault, IsStranger, OfHello, OfProof, ProvedNothing, SaidNoHello}
use Rattle.vd_channel_link.specs.declared.channel_net.seal.Seal.{Seal}
use Rattle.vd_channel_link.specs.declared.fault.SealFault.{SealFault}
use Rattle.vd_channel_link.specs.declared.fault.SealFault.TheVariants as fault
use Rattle.vd_channel_link.specs.declared.session.Session.{Session}
use Rattle.vd_channel_link.proofs.Agreeing.{ends_meet}

-- ---- an honest host is let in

strange : (mine : Hello) (key : List ℕ) (came left : LinkView) (why : SealFault) → IsStranger mine key came left why → IsMeetFault mine key came.coming why
strange mine key came left why (SaidNoHello wrong unsent) = OfHello wrong
strange mine key came left why (ProvedNothing theirs rest heard wrong) = OfProof theirs rest heard wrong

pub let_in : HonestHostsAreLetIn
let_in seal peer came left why away theirs pieces rest told ends said =
    let fails : IsMeetFault away.mine away.key (said_by away.key theirs away.mine pieces ++ rest) why =
    subst (λ (l : List ℕ). IsMeetFault away.mine away.key l why) said (strange away.mine away.key came left why (away.stranger told)) in
    let failed : why ≡ fault.Peer = ends_meet.none_refused away.key away.mine theirs pieces rest why ends fails in
    (failed, away.counted failed)

pub reached : HonestHostsAreReached
reached seal peer came left why leaves theirs pieces rest told ends said =
    let fails : IsMeetFault leaves.mine leaves.key (said_by leaves.key theirs leaves.mine pieces ++ rest) why =
    subst (λ (l : List ℕ). IsMeetFault leaves.mine leaves.key l why) said (leaves.refused told) in
    let failed : why ≡ fault.Peer = ends_meet.none_refused leaves.key leaves.mine theirs pieces rest why ends fails in
    (failed, leaves.counted failed)

-- ---- two hosts of one dealing meet

abbrev link_with : (coming sent : List ℕ) → LinkView
link_with coming sent = record { told = true; coming = coming; sent = sent; ended = false; faults = 0 }

abbrev keys_of : Direction → Keys
keys_of way = record { cipher = way.cipher; code = way.code }

-- its hello and its first record
abbrev said_with : Hello → Keys → List ℕ
said_with hello keys = hello_bytes hello ++ sealed (direction keys) 0 []

have_met : (mine theirs : Hello) (key : List ℕ) (own others : Keys) (session : Session) → theirs.id ≡ mine.id → theirs.from ≡ mine.to
    → theirs.to ≡ mine.from → length theirs.nonce ≡ 32 → direction own ≡ link_direction key mine.from.0 (digest_between mine theirs)
    → direction others ≡ link_direction key theirs.from.0 (digest_between mine theirs) → session.ours ≡ own → session.theirs ≡ others
    → HaveMet mine key (link_with (said_with theirs others) []) (link_with [] (said_with mine own)) (session.ours, session.theirs)
have_met mine theirs key own others session id from to nonce own_key other_key ours comes = record {
  theirs = theirs;
  id_is = id;
  from_is = from;
  to_is = to;
  nonce = nonce;
  own_key = ap direction ours ∙ own_key;
  other_key = ap direction comes ∙ other_key;
  sent = λ told. ap (said_with mine) (sym ours);
  came = λ told.
      ap (said_with theirs) (sym comes)
      ∙ ap (λ (l : List ℕ). hello_bytes theirs ++ l) (sym (append-nil (sealed (direction session.theirs) 0 [])));
}

-- the hello that a host says next to another one
abbrev hello_to : (seal other : Seal) → Hello
hello_to seal other = record { id = seal.secrets.id; from = seal.me; to = other.me; nonce = nonce_of seal.seed other.me.0 seal.tried }

-- the keys of the direction in which this host sends
abbrev sent_by : (key : List ℕ) → (seal from to : Seal) → Keys
sent_by key seal from to = keys_of (link_direction key seal.me.0 (digest_between (hello_to from to) (hello_to to from)))

pub hosts_meet : HostsOfADealingMeet
hosts_meet seal other key dealing =
    let mine = hello_to seal other in
    let theirs = hello_to other seal in
    let own = sent_by key seal seal other in
    let others = sent_by key other seal other in
    let same : digest_between mine theirs ≡ digest_between theirs mine = both_ends mine theirs dealing.apart in
    record {
      came = link_with (said_with theirs others) [];
      given = link_with [] (said_with mine own);
      came_there = link_with (said_with mine own) [];
      given_there = link_with [] (said_with theirs others);
      told = refl;
      told_there = refl;
      comes = refl;
      comes_there = refl;
      own = own;
      others = others;
      meets = λ session fresh ours comes. record {
        mine = mine;
        id = refl;
        from = refl;
        to = refl;
        connection = seal.tried;
        is_new = omega arith;
        is_counted = omega arith;
        nonce = refl;
        key = key;
        is_key = dealing.is_key;
        met = have_met mine theirs key own others session dealing.id_is refl refl (length-sha256 _) refl refl ours comes;
        fresh = fresh;
      };
      meets_there = λ session fresh ours comes. record {
        mine = theirs;
        id = refl;
        from = refl;
        to = refl;
        connection = other.tried;
        is_new = omega arith;
        is_counted = omega arith;
        nonce = refl;
        key = key;
        is_key = dealing.is_key_there;
        met = have_met theirs mine key others own session (sym dealing.id_is) refl refl (length-sha256 _)
            (ap (link_direction key other.me.0) same) (ap (link_direction key seal.me.0) same) ours comes;
        fresh = fresh;
      };
    }
