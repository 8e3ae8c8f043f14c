-- What a net keeps of the links that it gave.
use Rattle.std.specs.Prelude.{◌≡◌, ◌<◌, ℕ, ◌+◌, ◌-◌, ◌^◌, min, Bool, false, ◌||◌, IsTrue, List, [], ◌∷◌, ◌++◌, length, nat_lt}
use Rattle.std.specs.List.{AllByRecursion}
use Rattle.vd_outside.specs.Link.{LinkView}
use Rattle.vd_channel_link.specs.Session.{IsCarried, IsFirstAlone}
use Rattle.vd_channel_link.specs.declared.session.Session.{Session}
use Rattle.vd_channel_link.specs.declared.channel_net.ledger.Ledger.{Ledger}

abbrev pub nothing_given : Ledger
nothing_given = record { out = 0; sent = false }

-- one link more is out
abbrev pub with_given : Ledger → Ledger
with_given ledger = record ledger { out = min (ledger.out + 1) (2 ^ 64 - 1) }

-- one link fewer is out
abbrev pub with_returned : (sent : Bool) → Ledger → Ledger
with_returned sent ledger = record { out = ledger.out - 1; sent = ledger.sent || sent }

-- a link is out, or one came back over which a record behind the greeting was begun
abbrev pub has_sent : Ledger → Bool
has_sent ledger = ledger.sent || nat_lt 0 ledger.out

-- a record behind the first was begun
abbrev pub has_begun : Session → Bool
has_begun session = nat_lt 2 session.next_out

-- So many links were given, and those with these sessions came back, not more of them at any time than were given.
pub data Happened : (given : ℕ) → (back : List Session) → Ledger → Type 0 where
  NoneGiven : Happened 0 [] nothing_given
  OneGiven : (given : ℕ) (back : List Session) (ledger : Ledger) → Happened given back ledger → Happened (given + 1) back (with_given ledger)
  OneBack : (given : ℕ) (back : List Session) (ledger : Ledger) (session : Session) → Happened given back ledger → length back < given
      → Happened given (back ++ session ∷ []) (with_returned (has_begun session) ledger)

-- what went out over the link below in a session is a prefix of its first record
abbrev pub GreetsAlone : Session → Type 0
GreetsAlone session = (start : List ℕ) (below : LinkView) → IsCarried start session below → IsTrue below.told → IsFirstAlone start session below

-- All links came back, and over each went a prefix of its first record alone.
pub record GreetAlone (given : ℕ) (back : List Session) : Type 0 where
  pub all_back : length back ≡ given
  pub alone : AllByRecursion GreetsAlone back

-- So it is where nothing was sent, of fewer than 2^64 links.
abbrev pub UnsentGreetAlone : Type 0
UnsentGreetAlone = (given : ℕ) (back : List Session) (ledger : Ledger) → given < 2 ^ 64 → Happened given back ledger → has_sent ledger ≡ false → GreetAlone given back
