-- Hosts that are answered, and those that are turned away.
use Rattle.std.proofs.Common.{arith, ◌≡◌, ◌∙◌, ◌<◌, ℕ, IsTrue, List, [], ◌++◌, take, Ok, ap, sym, refl, subst}
use Rattle.std.proofs.lemmas.List.{append-nil}
use Rattle.vd_base.specs.declared.ids.HostId.{HostId}
use Rattle.vd_outside.specs.Causes.{Rose}
use Rattle.vd_outside.specs.Link.{LinkView}
use Rattle.vd_outside.specs.Net.{HangsUp, NetView}
use Rattle.vd_channel_crypto.specs.Hellos.{digest_between, hello_bytes, link_direction, nonce_of}
use Rattle.vd_channel_crypto.specs.Keys.{direction}
use Rattle.vd_channel_crypto.specs.Records.{Direction, sealed}
use Rattle.vd_channel_crypto.specs.declared.hellos.Hello.{Hello}
use Rattle.vd_channel_crypto.specs.declared.records.Keys.{Keys}
use Rattle.vd_channel_link.specs.Courses.{IsHungUp}
use Rattle.vd_channel_link.specs.Meeting.{HaveMet, IsHeard, IsHelloFault, IsProofFault, SaidNoHello, ProvedNothing, SendsNoMore, TakesHello, head_of}
use Rattle.vd_channel_link.specs.Outgoing.{IsLinkSealed, sealer_of}
use Rattle.vd_channel_link.specs.Seals.{IsAnswered, IsKeyFor, IsMet, IsTurnedAway}
use Rattle.vd_channel_link.specs.Session.{IsFresh}
use Rattle.vd_channel_link.specs.declared.channel_net.seal.Seal.{Seal}
use Rattle.vd_channel_link.specs.declared.fault.SealFault.{SealFault}
use Rattle.vd_channel_link.specs.declared.fault.SealFault.TheVariants as fault
use Rattle.vd_channel_link.specs.declared.session.Session.{Session}
use Rattle.vd_channel_link.proofs.Saying.{hello_alone, then_proof}
use Rattle.vd_channel_link.proofs.Sealed.{greeted_with, greeting_out}

pub rose_some : (before now : ℕ) → Rose before now → 0 < now
rose_some before now rose = omega (arith, rose)

abbrev hello_to : Seal → HostId → Hello
hello_to seal peer = record { id = seal.secrets.id; from = seal.me; to = peer; nonce = nonce_of seal.seed peer.0 seal.tried }

-- who said no hello heard nothing
pub said_no_hello : (seal : Seal) (peer me : HostId) (id key : List ℕ) (came left : LinkView) (why : SealFault) → id ≡ seal.secrets.id → me ≡ seal.me
    → IsKeyFor seal.me.0 seal.secrets peer.0 key → (why ≡ fault.Peer → Rose came.faults left.faults)
    → (IsTrue left.told → IsHelloFault (head_of id peer.0 me.0) came.coming why) → (IsTrue left.told → left.sent ≡ came.sent) → IsTurnedAway seal peer.0 came left why
said_no_hello seal peer me id key came left why id_is me_is is_key failed refused same = record {
  mine = hello_to seal peer;
  id = refl;
  from = refl;
  to = refl;
  key = key;
  is_key = is_key;
  counted = λ is. rose_some came.faults left.faults (failed is);
  stranger = λ told. SaidNoHello
      (subst (λ (h : HostId). IsHelloFault (head_of seal.secrets.id peer.0 h.0) came.coming why) me_is
      (subst (λ (i : List ℕ). IsHelloFault (head_of i peer.0 me.0) came.coming why) id_is (refused told)))
      (same told);
}

pub nothing_out : (seal : Seal) (peer : HostId) (key : List ℕ) (came left : LinkView) → IsKeyFor seal.me.0 seal.secrets peer.0 key
    → (IsTrue left.told → left.sent ≡ came.sent) → came.sent ≡ [] → IsLinkSealed (sealer_of seal) left
nothing_out seal peer key came left is_key same unsent =
    let greeted = greeted_with seal (hello_to seal peer) peer.0 key refl refl refl refl is_key in
    greeting_out (sealer_of seal) greeted came left unsent
    (λ told. record { theirs = hello_to seal peer; count = 0; sent = same told ∙ sym (append-nil came.sent) })

-- the link of who said one failed
pub failed_behind_hello : (seal : Seal) (peer : HostId) (key : List ℕ) (mine theirs : Hello) (came heard left : LinkView) → IsKeyFor seal.me.0 seal.secrets peer.0 key
    → mine.id ≡ seal.secrets.id → mine.from ≡ seal.me → mine.to ≡ peer → 0 < left.faults
    → (IsTrue left.told → IsHeard mine theirs came.coming heard.coming) → IsTurnedAway seal peer.0 came left fault.Peer
failed_behind_hello seal peer key mine theirs came heard left is_key id from to failed hears = record {
  mine = mine;
  id = id;
  from = from;
  to = ap (λ (h : HostId). h.0) to;
  key = key;
  is_key = is_key;
  counted = λ is. failed;
  stranger = λ told. ProvedNothing theirs heard.coming (hears told) tt;
}

-- the hello of who said one
pub hears : (seal : Seal) (peer me : HostId) (id : List ℕ) (mine theirs : Hello) (came heard : LinkView) → id ≡ seal.secrets.id → me ≡ seal.me → mine.id ≡ seal.secrets.id
    → mine.from ≡ seal.me → mine.to ≡ peer → TakesHello id peer me came heard (Ok theirs) → IsTrue heard.told → IsHeard mine theirs came.coming heard.coming
hears seal peer me id mine theirs came heard id_is me_is mine_id from to takes told = record {
  id_is = takes.id_is ∙ id_is ∙ sym mine_id;
  from_is = takes.from_is ∙ sym to;
  to_is = takes.to_is ∙ me_is ∙ sym from;
  nonce = takes.nonce;
  came = takes.came told;
}

-- a part of the own hello went out to it, or the own hello and a part of the own proof
pub hello_out : (seal : Seal) (peer : HostId) (key : List ℕ) (mine : Hello) (came heard left : LinkView) → IsKeyFor seal.me.0 seal.secrets peer.0 key → mine.id ≡ seal.secrets.id
    → mine.from ≡ seal.me → mine.to ≡ peer → mine.nonce ≡ nonce_of seal.seed peer.0 seal.tried → (IsTrue heard.told → heard.sent ≡ came.sent)
    → (IsTrue left.told → IsTrue heard.told) → SendsNoMore (hello_bytes mine) heard left → came.sent ≡ [] → IsLinkSealed (sealer_of seal) left
hello_out seal peer key mine came heard left is_key id from to nonce same told out unsent =
    greeting_out (sealer_of seal) (greeted_with seal mine peer.0 key id from (ap (λ (h : HostId). h.0) to) nonce is_key) came left unsent
    (hello_alone mine key came left
    (λ t. let so = out t in (so.0, so.1 ∙ ap (λ (l : List ℕ). l ++ take so.0 (hello_bytes mine)) (same (told t)))))

pub proof_out : (seal : Seal) (peer : HostId) (key : List ℕ) (mine theirs : Hello) (own : Direction) (came heard mid left : LinkView) → IsKeyFor seal.me.0 seal.secrets peer.0 key
    → mine.id ≡ seal.secrets.id → mine.from ≡ seal.me → mine.to ≡ peer → mine.nonce ≡ nonce_of seal.seed peer.0 seal.tried → (IsTrue heard.told → heard.sent ≡ came.sent)
    → (IsTrue mid.told → IsTrue heard.told) → (IsTrue mid.told → mid.sent ≡ heard.sent ++ hello_bytes mine) → own ≡ link_direction key mine.from.0 (digest_between mine theirs)
    → (IsTrue left.told → IsTrue mid.told) → SendsNoMore (sealed own 0 []) mid left → came.sent ≡ [] → IsLinkSealed (sealer_of seal) left
proof_out seal peer key mine theirs own came heard mid left is_key id from to nonce same told hello keys was_told out unsent =
    greeting_out (sealer_of seal) (greeted_with seal mine peer.0 key id from (ap (λ (h : HostId). h.0) to) nonce is_key) came left unsent
    (then_proof mine theirs key own came mid left keys was_told (λ t. hello t ∙ ap (λ (l : List ℕ). l ++ hello_bytes mine) (same (told t))) out)

-- who was answered, and then proved that it has the key
pub meets_answered : (seal : Seal) (tried peer : ℕ) (keys : Keys × Keys) (session : Session) (came now given : LinkView) → IsAnswered seal tried peer keys came now
    → (session.ours, session.theirs) ≡ keys → IsFresh session → given.told ≡ now.told → (IsTrue given.told → given.sent ≡ now.sent)
    → (IsTrue given.told → now.coming ≡ sealed (direction keys.1) 0 [] ++ given.coming) → IsMet seal tried peer session came given
meets_answered seal tried peer keys session came now given is same fresh told sent coming =
    let before : IsTrue given.told → IsTrue now.told = λ t. subst IsTrue told t in
    record {
      mine = is.mine;
      id = is.id;
      from = is.from;
      to = is.to;
      connection = is.connection;
      is_new = is.is_new;
      is_counted = is.is_counted;
      nonce = is.nonce;
      key = is.key;
      is_key = is.is_key;
      met = subst (λ (k : Keys × Keys). HaveMet is.mine is.key came given k) (sym same) (record {
        theirs = is.theirs;
        id_is = is.answered.id_is;
        from_is = is.answered.from_is;
        to_is = is.answered.to_is;
        nonce = is.answered.nonce;
        own_key = is.answered.own_key;
        other_key = is.answered.other_key;
        sent = λ t. sent t ∙ is.answered.sent (before t);
        came = λ t. is.answered.came (before t) ∙ ap (λ (l : List ℕ). hello_bytes is.theirs ++ l) (coming t);
      });
      fresh = fresh;
    }

pub hung_up_answered : (seal : Seal) (tried peer : ℕ) (keys : Keys × Keys) (came now left : LinkView) (why : SealFault) (before after : NetView)
    → IsAnswered seal tried peer keys came now → left.told ≡ now.told → (why ≡ fault.Peer → Rose now.faults left.faults)
    → (IsTrue left.told → IsProofFault (direction keys.1) now.coming why) → HangsUp left before after → IsHungUp seal peer came why before after
hung_up_answered seal tried peer keys came now left why before after is told failed refused hangs =
    let back : IsTrue left.told → IsTrue now.told = λ t. subst IsTrue told t in
    record {
      left = left;
      turned_away = record {
        mine = is.mine;
        id = is.id;
        from = is.from;
        to = is.to;
        key = is.key;
        is_key = is.is_key;
        counted = λ peer_failed. rose_some now.faults left.faults (failed peer_failed);
        stranger = λ t. ProvedNothing is.theirs now.coming
            (record { id_is = is.answered.id_is; from_is = is.answered.from_is; to_is = is.answered.to_is; nonce = is.answered.nonce; came = is.answered.came (back t) })
            (subst (λ (d : Direction). IsProofFault d now.coming why) is.answered.other_key (refused t));
      };
      hangs_up = hangs;
    }
