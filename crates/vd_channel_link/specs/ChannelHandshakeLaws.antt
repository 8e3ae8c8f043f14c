-- That both ends of a link have the same keys, and what a fault says of the hello that came.
use Rattle.std.specs.Prelude.{◌≡◌, ◌≢◌, ℕ, List, ◌++◌, length}
use Rattle.vd_outside.specs.Link.{LinkView}
use Rattle.vd_channel_crypto.specs.Hellos.{hello_bytes}
use Rattle.vd_channel_crypto.specs.Keys.{direction}
use Rattle.vd_channel_crypto.specs.declared.hellos.Hello.{Hello}
use Rattle.vd_channel_crypto.specs.declared.records.Keys.{Keys}
use Rattle.vd_channel_link.specs.Meeting.{HaveMet, IsHelloFault, head_of}
use Rattle.vd_channel_link.specs.declared.fault.SealFault.{SealFault}
use Rattle.vd_channel_link.specs.declared.fault.SealFault.TheVariants as fault

-- the keys of each direction at one end are those of the other end, where it is the other direction
pub record AreCrossed (keys others : Keys × Keys) : Type 0 where
  pub sent : direction keys.0 ≡ direction others.1
  pub received : direction keys.1 ≡ direction others.0

-- Two hosts that have met by one key, each by the hello that the other said, have the same keys: what one sends by the other receives by.
abbrev pub EndsHaveTheSameKeys : Type 0
EndsHaveTheSameKeys = (mine theirs : Hello) (key : List ℕ) (before now before_there now_there : LinkView) (keys others : Keys × Keys)
    → mine.from.0 ≢ theirs.from.0
    → (here : HaveMet mine key before now keys) (there : HaveMet theirs key before_there now_there others)
    → here.theirs ≡ theirs → there.theirs ≡ mine → AreCrossed keys others

-- this is told of a hello that came, with more behind it
abbrev pub IsToldOf : (mine theirs : Hello) → (rest : List ℕ) → SealFault → Type 0
IsToldOf mine theirs rest why = IsHelloFault (head_of mine.id mine.to.0 mine.from.0) (hello_bytes theirs ++ rest) why

-- That a hello is of another dealing is told of no hello of the own one; that it is from another host, of no hello of another dealing.
abbrev pub HelloFaultsTell : Type 0
HelloFaultsTell = (mine theirs : Hello) (rest : List ℕ) → length mine.id ≡ 32 → length theirs.id ≡ 32
    → (IsToldOf mine theirs rest fault.Dealing → theirs.id ≢ mine.id) × (IsToldOf mine theirs rest fault.Host → theirs.id ≡ mine.id)
