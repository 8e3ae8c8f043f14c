-- That two honest ends of a link meet, and that each reads what the other wrote.
use Rattle.std.specs.Prelude.{◌≡◌, ◌≢◌, ◌+◌, ℕ, IsTrue, List, ◌++◌, length}
use Rattle.std.specs.List.{AllByRecursion}
use Rattle.vd_outside.specs.Link.{LinkView}
use Rattle.vd_channel_crypto.specs.Hellos.{digest_between, link_direction}
use Rattle.vd_channel_crypto.specs.Keys.{direction}
use Rattle.vd_channel_crypto.specs.declared.hellos.Hello.{Hello}
use Rattle.vd_channel_crypto.specs.declared.records.Keys.{Keys}
use Rattle.vd_channel_link.specs.Opened.{IsSmall, flat, plain_of, records}
use Rattle.vd_channel_link.specs.declared.fault.SealFault.{SealFault}
use Rattle.vd_channel_link.specs.declared.fault.SealFault.TheVariants as fault
use Rattle.vd_channel_link.specs.Meeting.{HaveMet, IsMeetFault, greeting}

-- the hellos of both ends of a link of one dealing: each is for the other, and they are two hosts
pub record AreOfEnds (mine theirs : Hello) : Type 0 where
  pub id_is : theirs.id ≡ mine.id
  pub from_is : theirs.from ≡ mine.to
  pub to_is : theirs.to ≡ mine.from
  pub apart : mine.from.0 ≢ theirs.from.0
  pub long : length mine.id ≡ 32
  pub nonce : length theirs.nonce ≡ 32

-- What an end says that heard this host's hello: its greeting, and then these pieces in records with its own keys.
abbrev pub said_by : (key : List ℕ) → (theirs mine : Hello) → (pieces : List (List ℕ)) → List ℕ
said_by key theirs mine pieces =
    greeting key theirs mine ++ records (link_direction key theirs.from.0 (digest_between theirs mine)) 1 pieces

-- Who has the key of the link is met, unless the link fails; and then what it puts into records is read. Where only a prefix of what it
-- said came, a prefix of that is read.
pub record HonestEndsMeet : Type 0 where
  pub none_refused : (key : List ℕ) (mine theirs : Hello) (pieces : List (List ℕ)) (rest : List ℕ) (why : SealFault)
      → AreOfEnds mine theirs → IsMeetFault mine key (said_by key theirs mine pieces ++ rest) why → why ≡ fault.Peer
  pub read : (key : List ℕ) (mine theirs : Hello) (before now : LinkView) (keys : Keys × Keys) (pieces : List (List ℕ)) (rest : List ℕ)
      → AreOfEnds mine theirs → HaveMet mine key before now keys → IsTrue now.told
      → before.coming ≡ said_by key theirs mine pieces ++ rest → AllByRecursion IsSmall pieces
      → plain_of (direction keys.1) 1 now.coming ≡ flat pieces ++ plain_of (direction keys.1) (1 + length pieces) rest
  pub read_front : (key : List ℕ) (mine theirs : Hello) (before now : LinkView) (keys : Keys × Keys) (pieces : List (List ℕ))
      (rest : List ℕ) → AreOfEnds mine theirs → HaveMet mine key before now keys → IsTrue now.told
      → before.coming ++ rest ≡ said_by key theirs mine pieces → AllByRecursion IsSmall pieces
      → (left : List ℕ) × (plain_of (direction keys.1) 1 now.coming ++ left ≡ flat pieces)
