-- That each key has one purpose, and that both ends of a link have one key. The laws are of what a host is given, and name what is hashed
-- for it, which are bytes.
use Rattle.std.specs.Prelude.{◌≡◌, ◌≢◌, ◌<◌, ◌-◌, ◌^◌, ◌⊎◌, ℕ, List, Some, slice_get}
use Rattle.vd_tape.specs.declared.deal_items.deal.Counts.{Counts}
use Rattle.vd_tape.specs.Validity.{peer_at}
use Rattle.vd_channel_crypto.specs.Codes.{hmac}
use Rattle.vd_channel_crypto.specs.Laws.{AreBytes}
use Rattle.vd_channel_crypto.specs.declared.deal_keys.secrets.LinkKey.{LinkKey}
use Rattle.vd_channel_crypto.specs.DealKeysKeys.{items_key, salt}
use Rattle.vd_channel_crypto.specs.Secrets.{secrets_of}

-- numbers of 32 bits
pub record AreWords (counts : Counts) : Type 0 where
  pub own : counts.own < 2 ^ 32
  pub muls : counts.muls < 2 ^ 32
  pub ands : counts.ands < 2 ^ 32
  pub pairs : counts.pairs < 2 ^ 32

pub record SameCounts (one other : Counts) : Type 0 where
  pub hosts : one.hosts ≡ other.hosts
  pub own : one.own ≡ other.own
  pub muls : one.muls ≡ other.muls
  pub ands : one.ands ≡ other.ands
  pub pairs : one.pairs ≡ other.pairs

-- the same two hosts, in whichever order
abbrev pub SameEnds : (a b x y : ℕ) → Type 0
SameEnds a b x y = ((a ≡ x) × (b ≡ y)) ⊎ ((a ≡ y) × (b ≡ x))

abbrev pub key_is : List ℕ → LinkKey
key_is bytes = record { 0 = bytes }

-- The public name of a dealing, the key of its items and that of each link are codes, under one key that is made of that of the dealing.
-- No two of these are codes of one message, and each message tells its counts, and that of a link its two hosts.
pub record PurposesAreApart : Type 0 where
  pub id : Counts → List ℕ
  pub items : Counts → List ℕ
  pub link : Counts → (me peer : ℕ) → List ℕ
  pub id_is : (c : Counts) (key : List ℕ) (me : ℕ) → (secrets_of c key me).id ≡ hmac (hmac salt key) (id c)
  pub items_are : (c : Counts) (key : List ℕ) → items_key c key ≡ hmac (hmac salt key) (items c)
  pub link_is : (c : Counts) (key : List ℕ) (me place : ℕ) → place < c.hosts - 1
      → slice_get (secrets_of c key me).links place ≡ Some (key_is (hmac (hmac salt key) (link c me (peer_at me place))))
  pub id_is_no_items : (c d : Counts) → id c ≢ items d
  pub id_is_no_link : (c d : Counts) (a b : ℕ) → id c ≢ link d a b
  pub items_are_no_link : (c d : Counts) (a b : ℕ) → items c ≢ link d a b
  pub ids : (c d : Counts) → AreWords c → AreWords d → id c ≡ id d → SameCounts c d
  pub each_items : (c d : Counts) → AreWords c → AreWords d → items c ≡ items d → SameCounts c d
  pub links : (c d : Counts) (a b x y : ℕ) → AreWords c → AreWords d → link c a b ≡ link d x y → SameCounts c d × SameEnds a b x y
  pub bytes : (c : Counts) (a b : ℕ) → c.hosts < 2 ^ 8 → a < 2 ^ 8 → b < 2 ^ 8
      → AreBytes (id c) × AreBytes (items c) × AreBytes (link c a b)

-- what two hosts are given for the link between them is one key
abbrev pub LinksHaveOneKey : Type 0
LinksHaveOneKey = (counts : Counts) (key : List ℕ) (one other place back : ℕ) → place < counts.hosts - 1 → back < counts.hosts - 1
    → peer_at one place ≡ other → peer_at other back ≡ one
    → slice_get (secrets_of counts key one).links place ≡ slice_get (secrets_of counts key other).links back
