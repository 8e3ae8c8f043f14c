-- What a host seals its links by.
use Rattle.std.specs.Prelude.{◌≡◌, ◌<◌, ◌≤◌, ℕ, ◌+◌, ◌-◌, min, IsTrue, List, Option, Some, None, slice_get, if◌then◌else◌, nat_lt}
use Rattle.std.specs.Option.{unwrap_or}
use Rattle.vd_base.specs.declared.ids.HostId.{HostId}
use Rattle.vd_outside.specs.Link.{LinkView}
use Rattle.vd_channel_crypto.specs.Hellos.{nonce_of}
use Rattle.vd_channel_crypto.specs.declared.hellos.Hello.{Hello}
use Rattle.vd_channel_link.specs.Session.{IsFresh}
use Rattle.vd_channel_link.specs.declared.session.Session.{Session}
use Rattle.vd_channel_crypto.specs.declared.deal_keys.secrets.LinkKey.{LinkKey}
use Rattle.vd_channel_crypto.specs.declared.deal_keys.secrets.Secrets.{Secrets}
use Rattle.vd_channel_crypto.specs.declared.records.Keys.{Keys}
use Rattle.vd_channel_link.specs.Meeting.{HasAnswered, HaveMet, IsCounted, IsMeetFault, IsStranger}
use Rattle.vd_channel_link.specs.declared.fault.SealFault.{SealFault}
use Rattle.vd_channel_link.specs.declared.channel_net.seal.Seal.{Seal}

-- by these, and nothing was tried so far
abbrev pub sealed_by : HostId → Secrets → (seed : List ℕ) → Seal
sealed_by me secrets seed = record { me = me; secrets = secrets; seed = seed; first = None; tried = 0; connected = 0 }

-- the later hosts are awaited at one listener each, in their order
abbrev pub awaited_at : Seal → (listener : ℕ) → ℕ
awaited_at seal listener = min (min (seal.me.0 + 1) 255 + min (listener - unwrap_or seal.first listener) 255) 255

abbrev pub first_of : Option ℕ → (listener : ℕ) → Option ℕ
first_of None listener = Some listener
first_of (Some first) listener = Some first

-- the first listener that was given is noted
abbrev pub listening : (listener : ℕ) → Seal → Seal
listening listener seal = record seal { first = first_of seal.first listener }

-- where the key of the link to a host stands among those of the peers
abbrev pub place_of : (me peer : ℕ) → ℕ
place_of me peer = if nat_lt peer me then peer else peer - 1

abbrev pub IsKeyFor : (me : ℕ) → Secrets → (peer : ℕ) → (key : List ℕ) → Type 0
IsKeyFor me secrets peer key = let link : LinkKey = record { 0 = key } in slice_get secrets.links (place_of me peer) ≡ Some link

-- a host without a key of a link to it is none of the dealing, or the own one
abbrev pub IsKeyless : Seal → (peer : ℕ) → Type 0
IsKeyless seal peer = slice_get seal.secrets.links (place_of seal.me.0 peer) ≡ None

-- one link more to an earlier host is asked for
abbrev pub next_asked : Seal → Seal
next_asked seal = record seal { connected = min (seal.connected + 1) 255 }

-- more connections were tried, and all else is as it was
pub record Tries (before now : Seal) : Type 0 where
  pub same : now ≡ record before { tried = now.tried }
  pub later : before.tried ≤ now.tried

-- what a net seals by, after more connections were tried
abbrev pub StillSeals : (before now : Option Seal) → Type 0
StillSeals None now = now ≡ None
StillSeals (Some seal) now = (later : Seal) × (now ≡ Some later) × Tries seal later

-- A session with a peer: both said hello in this dealing, the own one by the nonce of a connection of this run whose number was used by no
-- earlier one, and proved that they have the key of their link; the session's keys are those that the two hellos make of it, and nothing
-- went over it so far. So many connections were tried then; the link was this one when it came, and that one when it was given.
pub record IsMet (seal : Seal) (tried peer : ℕ) (session : Session) (came given : LinkView) : Type 0 where
  pub mine : Hello
  pub id : mine.id ≡ seal.secrets.id
  pub from : mine.from ≡ seal.me
  pub to : mine.to.0 ≡ peer
  pub connection : ℕ
  pub is_new : seal.tried ≤ connection
  pub is_counted : connection < tried
  pub nonce : mine.nonce ≡ nonce_of seal.seed peer connection
  pub key : List ℕ
  pub is_key : IsKeyFor seal.me.0 seal.secrets peer key
  pub met : HaveMet mine key came given (session.ours, session.theirs)
  pub fresh : IsFresh session

-- A peer that was answered, as it is with one that is met: its proof is still to come.
pub record IsAnswered (seal : Seal) (tried peer : ℕ) (keys : Keys × Keys) (came now : LinkView) : Type 0 where
  pub mine : Hello
  pub id : mine.id ≡ seal.secrets.id
  pub from : mine.from ≡ seal.me
  pub to : mine.to.0 ≡ peer
  pub connection : ℕ
  pub is_new : seal.tried ≤ connection
  pub is_counted : connection < tried
  pub nonce : mine.nonce ≡ nonce_of seal.seed peer connection
  pub key : List ℕ
  pub is_key : IsKeyFor seal.me.0 seal.secrets peer key
  pub theirs : Hello
  pub answered : HasAnswered mine theirs key came now keys

-- A host that came and is hung up for this reason. Where its link tells its bytes, it was a stranger to a hello to this peer, by the key of
-- the link to it; and where the link failed, that was counted.
pub record IsTurnedAway (seal : Seal) (peer : ℕ) (came left : LinkView) (why : SealFault) : Type 0 where
  pub mine : Hello
  pub id : mine.id ≡ seal.secrets.id
  pub from : mine.from ≡ seal.me
  pub to : mine.to.0 ≡ peer
  pub key : List ℕ
  pub is_key : IsKeyFor seal.me.0 seal.secrets peer key
  pub counted : IsCounted why left
  pub stranger : IsTrue left.told → IsStranger mine key came left why

-- An earlier host that is left for this reason. Where its link tells its bytes, what came over it was not the greeting of that host, by the
-- key of the link to it, to the next hello; and where the link failed, that was counted.
pub record IsLeft (seal : Seal) (peer : ℕ) (came left : LinkView) (why : SealFault) : Type 0 where
  pub mine : Hello
  pub id : mine.id ≡ seal.secrets.id
  pub from : mine.from ≡ seal.me
  pub to : mine.to.0 ≡ peer
  pub nonce : mine.nonce ≡ nonce_of seal.seed peer seal.tried
  pub key : List ℕ
  pub is_key : IsKeyFor seal.me.0 seal.secrets peer key
  pub counted : IsCounted why left
  pub refused : IsTrue left.told → IsMeetFault mine key came.coming why

-- a net that sealed by one seal met a peer, and seals by the other now
abbrev pub IsMetBy : (peer : Seal → ℕ) → (before now : Option Seal) → Session → (given : LinkView) → Type 0
IsMetBy peer (Some seal) (Some later) session given = (came : LinkView) × IsMet seal later.tried (peer seal) session came given
IsMetBy peer other now session given = ⊥
