-- That hosts of one dealing are let in, and meet.
use Rattle.std.specs.Prelude.{◌≡◌, ◌≢◌, ◌<◌, ◌+◌, ℕ, IsTrue, List, ◌++◌}
use Rattle.vd_outside.specs.Link.{LinkView}
use Rattle.vd_channel_crypto.specs.declared.hellos.Hello.{Hello}
use Rattle.vd_channel_crypto.specs.declared.records.Keys.{Keys}
use Rattle.vd_channel_link.specs.Ends.{AreOfEnds, said_by}
use Rattle.vd_channel_link.specs.Seals.{IsKeyFor, IsLeft, IsMet, IsTurnedAway}
use Rattle.vd_channel_link.specs.Session.{IsFresh}
use Rattle.vd_channel_link.specs.declared.channel_net.seal.Seal.{Seal}
use Rattle.vd_channel_link.specs.declared.fault.SealFault.{SealFault}
use Rattle.vd_channel_link.specs.declared.fault.SealFault.TheVariants as fault
use Rattle.vd_channel_link.specs.declared.session.Session.{Session}

-- Who has the key of the link, and says what an honest end says, is turned away only where its link failed, which is counted.
abbrev pub HonestHostsAreLetIn : Type 0
HonestHostsAreLetIn = (seal : Seal) (peer : ℕ) (came left : LinkView) (why : SealFault) (away : IsTurnedAway seal peer came left why)
    (theirs : Hello) (pieces : List (List ℕ)) (rest : List ℕ) → IsTrue left.told → AreOfEnds away.mine theirs
    → came.coming ≡ said_by away.key theirs away.mine pieces ++ rest → (why ≡ fault.Peer) × (0 < left.faults)

-- So it is with an earlier host that was asked for and is left.
abbrev pub HonestHostsAreReached : Type 0
HonestHostsAreReached = (seal : Seal) (peer : ℕ) (came left : LinkView) (why : SealFault) (leaves : IsLeft seal peer came left why)
    (theirs : Hello) (pieces : List (List ℕ)) (rest : List ℕ) → IsTrue left.told → AreOfEnds leaves.mine theirs
    → came.coming ≡ said_by leaves.key theirs leaves.mine pieces ++ rest → (why ≡ fault.Peer) × (0 < left.faults)

-- two hosts of one dealing, which have one key of their link
pub record AreOfDealing (seal other : Seal) (key : List ℕ) : Type 0 where
  pub apart : seal.me.0 ≢ other.me.0
  pub id_is : other.secrets.id ≡ seal.secrets.id
  pub is_key : IsKeyFor seal.me.0 seal.secrets other.me.0 key
  pub is_key_there : IsKeyFor other.me.0 other.secrets seal.me.0 key

-- Two links, as they came and as they are given: on each comes what goes out over the other one, and over these the two hosts meet. What one
-- seals by the other opens by.
pub record CanMeet (seal other : Seal) : Type 0 where
  pub came : LinkView
  pub given : LinkView
  pub came_there : LinkView
  pub given_there : LinkView
  pub told : IsTrue given.told
  pub told_there : IsTrue given_there.told
  pub comes : came.coming ≡ given_there.sent
  pub comes_there : came_there.coming ≡ given.sent
  pub own : Keys
  pub others : Keys
  pub meets : (session : Session) → IsFresh session → session.ours ≡ own → session.theirs ≡ others
      → IsMet seal (seal.tried + 1) other.me.0 session came given
  pub meets_there : (session : Session) → IsFresh session → session.ours ≡ others → session.theirs ≡ own
      → IsMet other (other.tried + 1) seal.me.0 session came_there given_there

-- Two hosts of one dealing can meet, whatever each drew for its run.
abbrev pub HostsOfADealingMeet : Type 0
HostsOfADealingMeet = (seal other : Seal) (key : List ℕ) → AreOfDealing seal other key → CanMeet seal other
