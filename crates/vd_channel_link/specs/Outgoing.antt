-- What goes out over the links of a net below one that seals.
use Rattle.std.specs.Prelude.{◌≡◌, ℕ, IsTrue, List, [], ◌++◌, length, take, IfSome, Option, None, Some, false}
use Rattle.std.specs.List.{AllByRecursion}
use Rattle.vd_base.specs.declared.ids.HostId.{HostId}
use Rattle.vd_outside.specs.Link.{LinkView}
use Rattle.vd_outside.specs.Net.{NetView}
use Rattle.vd_channel_crypto.specs.Hellos.{digest_between, link_direction, nonce_of}
use Rattle.vd_channel_crypto.specs.Keys.{direction}
use Rattle.vd_channel_crypto.specs.Records.{Direction}
use Rattle.vd_channel_crypto.specs.declared.hellos.Hello.{Hello}
use Rattle.vd_channel_link.specs.Opened.{records}
use Rattle.vd_channel_link.specs.Session.{IsCarried}
use Rattle.vd_channel_link.specs.declared.session.Session.{Session}
use Rattle.vd_channel_link.specs.Meeting.{greeting}
use Rattle.vd_channel_crypto.specs.declared.deal_keys.secrets.Secrets.{Secrets}
use Rattle.vd_channel_link.specs.Seals.{IsKeyFor}
use Rattle.vd_channel_link.specs.declared.channel_net.seal.Seal.{Seal}

-- by what a host seals all links of a run: its number, what it knows of its dealing, and the bytes that were drawn for this run
pub record Sealer : Type 0 where
  pub me : HostId
  pub secrets : Secrets
  pub seed : List ℕ

-- where there is no run: nobody seals, and no net tells
abbrev pub nobody : Sealer
nobody = record { me = record { 0 = 0 }; secrets = record { id = []; links = [] }; seed = [] }

abbrev pub nothing : NetView
nothing = record { told = false; given = 0; limit = None; listeners = []; waiting = []; otherwise = None; links = 0; back = []; asked = []; faults = 0 }

abbrev pub sealer_of : Seal → Sealer
sealer_of seal = record { me = seal.me; secrets = seal.secrets; seed = seal.seed }

-- by what a net seals, where it does
abbrev pub sealer_in : Option Seal → Sealer
sealer_in None = nobody
sealer_in (Some seal) = sealer_of seal

-- A hello in this dealing to a peer, by the nonce of a connection of this run; the key of the link to that peer; and a hello that was
-- heard.
pub record Greeted (by : Sealer) : Type 0 where
  pub mine : Hello
  pub id : mine.id ≡ by.secrets.id
  pub from : mine.from ≡ by.me
  pub connection : ℕ
  pub nonce : mine.nonce ≡ nonce_of by.seed mine.to.0 connection
  pub key : List ℕ
  pub is_key : IsKeyFor by.me.0 by.secrets mine.to.0 key
  pub theirs : Hello

-- the hello and the first record, which both hellos make of the key of the link; and the keys of the own direction that they make of it
abbrev pub first_words : {by : Sealer} → Greeted by → List ℕ
first_words greeted = greeting greeted.key greeted.mine greeted.theirs

abbrev pub own_keys : {by : Sealer} → Greeted by → Direction
own_keys greeted = link_direction greeted.key greeted.mine.from.0 (digest_between greeted.mine greeted.theirs)

-- What was sent is a prefix of such a greeting and of records with numbers from 1 on, made with these keys.
pub record IsSealedOut (by : Sealer) (sent : List ℕ) : Type 0 where
  pub greeted : Greeted by
  pub pieces : List (List ℕ)
  pub front : take (length sent) (first_words greeted ++ records (own_keys greeted) 1 pieces) ≡ sent

-- a session with the keys of such a greeting, behind which its records go out over the link below
pub record IsSealing (by : Sealer) (session : Session) (below : LinkView) : Type 0 where
  pub greeted : Greeted by
  pub own : direction session.ours ≡ own_keys greeted
  pub carried : IsCarried (first_words greeted) session below

-- nothing was sent over the links that a net still has to give
pub record AreUnused (net : NetView) : Type 0 where
  pub waiting : AllByRecursion (λ link. link.1.sent ≡ []) net.waiting
  pub otherwise : IfSome net.otherwise (λ link. link.sent ≡ [])

abbrev pub IsLinkSealed : Sealer → LinkView → Type 0
IsLinkSealed by link = IsTrue link.told → IsSealedOut by link.sent

-- over each of the links that came back all that was sent was sealed
pub record SealsAll (by : Sealer) (before now : NetView) : Type 0 where
  pub told : IsTrue now.told
  pub unused : AreUnused now
  pub handed : List LinkView
  pub back : now.back ≡ before.back ++ handed
  pub sealed : AllByRecursion (IsLinkSealed by) handed

-- so it is over a net that tells, and over whose links nothing was sent before
abbrev pub SealsLinks : Sealer → (before now : NetView) → Type 0
SealsLinks by before now = IsTrue before.told → AreUnused before → SealsAll by before now

-- the same of a session, after whose greeting nothing was sent so far
abbrev pub SealsSession : Sealer → (before : NetView) → Session → LinkView → Type 0
SealsSession by before session below = IsTrue before.told → AreUnused before → IsSealing by session below

-- a net seals by this, and has done so from that net on
pub record HasSealed (by : Sealer) (start : NetView) (seal : Option Seal) (below : NetView) : Type 0 where
  pub held : Seal
  pub is : seal ≡ Some held
  pub by_it : sealer_of held ≡ by
  pub seals : SealsLinks by start below
