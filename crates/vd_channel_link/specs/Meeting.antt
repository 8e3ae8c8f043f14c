-- How both ends of a sealed link begin.
use Rattle.std.specs.Prelude.{◌≡◌, ◌≢◌, ◌≤◌, ◌<◌, ℕ, IsTrue, List, [], ◌∷◌, ◌++◌, length, take, Result, IfOk, IfErr, OnOk, IsOk, IsErrOf}
use Rattle.vd_base.specs.declared.ids.HostId.{HostId}
use Rattle.vd_outside.specs.Causes.{Rose}
use Rattle.vd_outside.specs.Link.{LinkView}
use Rattle.vd_channel_crypto.specs.Hellos.{digest_between, hello_bytes, link_direction}
use Rattle.vd_channel_crypto.specs.Keys.{direction}
use Rattle.vd_channel_crypto.specs.Records.{Direction, sealed}
use Rattle.vd_channel_crypto.specs.declared.hellos.Hello.{Hello}
use Rattle.vd_channel_crypto.specs.declared.records.Keys.{Keys}
use Rattle.vd_channel_link.specs.Taking.{HasOtherCode, IsCut}
use Rattle.vd_channel_link.specs.declared.fault.SealFault.{SealFault}
use Rattle.vd_channel_link.specs.declared.fault.SealFault.TheVariants as fault

-- ---- what a fault says of the bytes that came

-- a hello from one host to another, but for its nonce
abbrev pub head_of : (id : List ℕ) → (from to : ℕ) → List ℕ
head_of id from to = 0x47 ∷ 2 ∷ [] ++ (id ++ (from ∷ to ∷ []))

-- these bytes are the wanted ones as far as one place, and are others before the next
pub record DifferBetween (start end : ℕ) (coming wanted : List ℕ) : Type 0 where
  pub long : end ≤ length coming
  pub same : take start coming ≡ take start wanted
  pub other : take end coming ≢ take end wanted

-- of a hello: it ends early, or has another version, or then another dealing, or then other hosts
abbrev pub IsHelloFault : (wanted coming : List ℕ) → SealFault → Type 0
IsHelloFault wanted coming fault.Peer = Unit {0}
IsHelloFault wanted coming fault.End = length coming < 68
IsHelloFault wanted coming fault.Version = DifferBetween 0 2 coming wanted
IsHelloFault wanted coming fault.Dealing = DifferBetween 2 34 coming wanted
IsHelloFault wanted coming fault.Host = DifferBetween 34 36 coming wanted
IsHelloFault wanted coming fault.Head = ⊥
IsHelloFault wanted coming fault.Code = ⊥

-- these bytes begin with no record, or with one that is not empty
pub record HasNoProof (coming : List ℕ) : Type 0 where
  pub long : 2 ≤ length coming
  pub other : take 2 coming ≢ 0x58 ∷ 0 ∷ []

-- of the record that proves who has the key: it ends early, or is none, or has another code than the first of its direction
abbrev pub IsProofFault : Direction → (coming : List ℕ) → SealFault → Type 0
IsProofFault theirs coming fault.Peer = Unit {0}
IsProofFault theirs coming fault.End = IsCut coming
IsProofFault theirs coming fault.Version = ⊥
IsProofFault theirs coming fault.Dealing = ⊥
IsProofFault theirs coming fault.Host = ⊥
IsProofFault theirs coming fault.Head = HasNoProof coming
IsProofFault theirs coming fault.Code = HasOtherCode theirs 0 coming

-- the hello of a peer came, and this is behind it
pub record IsHeard (mine theirs : Hello) (coming rest : List ℕ) : Type 0 where
  pub id_is : theirs.id ≡ mine.id
  pub from_is : theirs.from ≡ mine.to
  pub to_is : theirs.to ≡ mine.from
  pub nonce : length theirs.nonce ≡ 32
  pub came : coming ≡ hello_bytes theirs ++ rest

-- of both: of the hello, or of the record behind it, by the key that both hellos make
pub data IsMeetFault (mine : Hello) (key coming : List ℕ) (why : SealFault) : Type 0 where
  OfHello : IsHelloFault (head_of mine.id mine.to.0 mine.from.0) coming why → IsMeetFault mine key coming why
  OfProof : (theirs : Hello) (rest : List ℕ) → IsHeard mine theirs coming rest
      → IsProofFault (link_direction key theirs.from.0 (digest_between mine theirs)) rest why → IsMeetFault mine key coming why

-- what came is refused for what is wrong with it
abbrev pub RefusesFor : {T : Type 0} → (List ℕ → SealFault → Type 0) → (before now : LinkView) → Result T SealFault → Type 0
RefusesFor Fault before now result = IsTrue now.told → IfErr result (Fault before.coming)

abbrev pub RefusesHello : {T : Type 0} → (id : List ℕ) → (from to : HostId) → (before now : LinkView) → Result T SealFault → Type 0
RefusesHello id from to before now result = RefusesFor (IsHelloFault (head_of id from.0 to.0)) before now result

-- ---- what each call does

-- the hello of this dealing and these hosts came, and nothing was sent
pub record TakesHello (id : List ℕ) (from to : HostId) (before now : LinkView) (result : Result Hello SealFault) : Type 0 where
  pub later : before.faults ≤ now.faults
  pub failed : IsErrOf result fault.Peer → Rose before.faults now.faults
  pub ended : IsErrOf result fault.End → IsTrue now.ended
  pub still_told : now.told ≡ before.told
  pub sent : IsTrue now.told → now.sent ≡ before.sent
  pub id_is : IfOk result (λ hello. hello.id ≡ id)
  pub from_is : IfOk result (λ hello. hello.from ≡ from)
  pub to_is : IfOk result (λ hello. hello.to ≡ to)
  pub nonce : IfOk result (λ hello. length hello.nonce ≡ 32)
  pub came : IsTrue now.told → IfOk result (λ hello. before.coming ≡ hello_bytes hello ++ now.coming)

-- the own hello went out, and then one to this host from its peer came
pub record Says (mine : Hello) (before now : LinkView) (result : Result Hello SealFault) : Type 0 where
  pub later : before.faults ≤ now.faults
  pub failed : IsErrOf result fault.Peer → Rose before.faults now.faults
  pub ended : IsErrOf result fault.End → IsTrue now.ended
  pub was_told : IsTrue now.told → IsTrue before.told
  pub id_is : IfOk result (λ hello. hello.id ≡ mine.id)
  pub from_is : IfOk result (λ hello. hello.from ≡ mine.to)
  pub to_is : IfOk result (λ hello. hello.to ≡ mine.from)
  pub nonce : IfOk result (λ hello. length hello.nonce ≡ 32)
  pub sent : IsTrue now.told → IsOk result → now.sent ≡ before.sent ++ hello_bytes mine
  pub came : IsTrue now.told → IfOk result (λ hello. before.coming ≡ hello_bytes hello ++ now.coming)

-- the first record of each direction went over the link
pub record Proves (ours theirs : Direction) (before now : LinkView) (result : Result (Unit {0}) SealFault) : Type 0 where
  pub later : before.faults ≤ now.faults
  pub failed : IsErrOf result fault.Peer → Rose before.faults now.faults
  pub ended : IsErrOf result fault.End → IsTrue now.ended
  pub was_told : IsTrue now.told → IsTrue before.told
  pub sent : IsTrue now.told → OnOk result (now.sent ≡ before.sent ++ sealed ours 0 [])
  pub came : IsTrue now.told → OnOk result (before.coming ≡ sealed theirs 0 [] ++ now.coming)

-- the first record of the other direction came, which carries no bytes, and nothing was sent
pub record TakesProof (theirs : Direction) (before now : LinkView) (result : Result (Unit {0}) SealFault) : Type 0 where
  pub later : before.faults ≤ now.faults
  pub failed : IsErrOf result fault.Peer → Rose before.faults now.faults
  pub ended : IsErrOf result fault.End → IsTrue now.ended
  pub still_told : now.told ≡ before.told
  pub sent : IsTrue now.told → now.sent ≡ before.sent
  pub came : IsTrue now.told → OnOk result (before.coming ≡ sealed theirs 0 [] ++ now.coming)

-- what an end that heard this hello says before any other record: its own hello, and the first record of its direction
abbrev pub greeting : (key : List ℕ) → (mine theirs : Hello) → List ℕ
greeting key mine theirs = hello_bytes mine ++ sealed (link_direction key mine.from.0 (digest_between mine theirs)) 0 []

-- no more than a prefix of it went out
pub record SaysNoMore (mine : Hello) (key : List ℕ) (before now : LinkView) : Type 0 where
  pub theirs : Hello
  pub count : ℕ
  pub sent : now.sent ≡ before.sent ++ take count (greeting key mine theirs)

-- no more than a prefix of these bytes went out
abbrev pub SendsNoMore : (bytes : List ℕ) → (before now : LinkView) → Type 0
SendsNoMore bytes before now = IsTrue now.told → (count : ℕ) × (now.sent ≡ before.sent ++ take count bytes)

-- The hello of a peer was heard and answered by the own one and the first record of the own direction: these are the keys that the two
-- hellos make.
pub record HasAnswered (mine theirs : Hello) (key : List ℕ) (before now : LinkView) (keys : Keys × Keys) : Type 0 where
  pub id_is : theirs.id ≡ mine.id
  pub from_is : theirs.from ≡ mine.to
  pub to_is : theirs.to ≡ mine.from
  pub nonce : length theirs.nonce ≡ 32
  pub own_key : direction keys.0 ≡ link_direction key mine.from.0 (digest_between mine theirs)
  pub other_key : direction keys.1 ≡ link_direction key theirs.from.0 (digest_between mine theirs)
  pub was_told : IsTrue now.told → IsTrue before.told
  pub sent : IsTrue now.told → now.sent ≡ (before.sent ++ hello_bytes mine) ++ sealed (direction keys.0) 0 []
  pub came : IsTrue now.told → before.coming ≡ hello_bytes theirs ++ now.coming

-- a link that is hung up for this reason counts a fault where it failed
abbrev pub IsCounted : SealFault → LinkView → Type 0
IsCounted why left = why ≡ fault.Peer → 0 < left.faults

-- What is wrong with a host that came, whose link is then hung up for this reason: it said no hello of this dealing and these hosts, and
-- nothing was said to it; or it said one, and proved nothing by the keys that both hellos make.
pub data IsStranger (mine : Hello) (key : List ℕ) (came left : LinkView) (why : SealFault) : Type 0 where
  SaidNoHello : IsHelloFault (head_of mine.id mine.to.0 mine.from.0) came.coming why → left.sent ≡ came.sent
      → IsStranger mine key came left why
  ProvedNothing : (theirs : Hello) (rest : List ℕ) → IsHeard mine theirs came.coming rest
      → IsProofFault (link_direction key theirs.from.0 (digest_between mine theirs)) rest why → IsStranger mine key came left why

-- Both said hello and proved that they have the key: these are the keys that the two hellos make of it.
pub record HaveMet (mine : Hello) (key : List ℕ) (before now : LinkView) (keys : Keys × Keys) : Type 0 where
  pub theirs : Hello
  pub id_is : theirs.id ≡ mine.id
  pub from_is : theirs.from ≡ mine.to
  pub to_is : theirs.to ≡ mine.from
  pub nonce : length theirs.nonce ≡ 32
  pub own_key : direction keys.0 ≡ link_direction key mine.from.0 (digest_between mine theirs)
  pub other_key : direction keys.1 ≡ link_direction key theirs.from.0 (digest_between mine theirs)
  pub sent : IsTrue now.told → now.sent ≡ (before.sent ++ hello_bytes mine) ++ sealed (direction keys.0) 0 []
  pub came : IsTrue now.told → before.coming ≡ hello_bytes theirs ++ (sealed (direction keys.1) 0 [] ++ now.coming)

pub record Meets (mine : Hello) (key : List ℕ) (before now : LinkView) (result : Result (Keys × Keys) SealFault) : Type 0 where
  pub later : before.faults ≤ now.faults
  pub failed : IsErrOf result fault.Peer → Rose before.faults now.faults
  pub ended : IsErrOf result fault.End → IsTrue now.ended
  pub was_told : IsTrue now.told → IsTrue before.told
  pub met : IfOk result (HaveMet mine key before now)
