-- When the deals of all hosts keep the identities, and which item is the first that breaks one.
use Rattle.std.specs.Prelude.{◌≡◌, ◌≢◌, ◌⊎◌, ℕ, ◌+◌, ◌-◌, ◌<◌, ◌≤◌, List, [], Some, length, slice_get, unwrap_or, All, nat_lt, if◌then◌else◌}
use Rattle.vd_base.specs.Limits.{most_hosts, most_deal_items}
use Rattle.vd_base.specs.Words.{IsWord}
use Rattle.vd_tape.specs.declared.deal_items.items.Triple.{Triple}
use Rattle.vd_tape.specs.declared.deal_items.items.PairItem.{PairItem}
use Rattle.vd_tape.specs.declared.deal_items.deal.Deal.{Deal}
use Rattle.vd_tape.specs.declared.deal_items.deal.DealKind.{DealKind}
use Rattle.vd_tape.specs.declared.deal_items.deal.DealKind.TheVariants.{Own, Mul, And, Pair}
use Rattle.vd_tape.specs.declared.deal_items.deal.BadItem.{BadItem}
use Rattle.vd_tape.specs.Identities.{mul_sides, and_sides, pair_sides, triple_at, pair_at, AreEqual}

-- where a peer stands among the peers of a host, whose own number is left out
abbrev pub peer_place : (me peer : ℕ) → ℕ
peer_place me peer = if nat_lt peer me then peer else peer - 1

-- which peer stands there
abbrev pub peer_at : (me place : ℕ) → ℕ
peer_at me place = if nat_lt place me then place else place + 1

-- the list that a host shares with a peer
abbrev pub shared_with : {X : Type 0} → List (List X) → (me peer : ℕ) → List X
shared_with lists me peer = unwrap_or (slice_get lists (peer_place me peer)) []

-- the two sides of the identity of an item that two hosts share; own words have none
abbrev pub sides : Deal → Deal → DealKind → ℕ → ℕ × ℕ
sides p q Own i = (0, 0)
sides p q Mul i = mul_sides (triple_at (shared_with p.triples p.me.0 q.me.0) i) (triple_at (shared_with q.triples q.me.0 p.me.0) i)
sides p q And i = and_sides (triple_at (shared_with p.bits p.me.0 q.me.0) i) (triple_at (shared_with q.bits q.me.0 p.me.0) i)
sides p q Pair i = pair_sides (pair_at (shared_with p.pairs p.me.0 q.me.0) i) (pair_at (shared_with q.pairs q.me.0 p.me.0) i)

-- an item: the deals of its two hosts, its kind and its place
abbrev pub Meets : Deal → Deal → DealKind → ℕ → Type 0
Meets p q kind i = AreEqual (sides p q kind i)

-- ---- which deals there are

abbrev pub AreTripleWords : Triple → Type 0
AreTripleWords t = IsWord t.a × IsWord t.b × IsWord t.c

abbrev pub ArePairWords : PairItem → Type 0
ArePairWords p = IsWord p.s × IsWord p.x

-- the words of a deal, which every deal of a program has
pub record HasWords (deal : Deal) : Type 0 where
  pub own : All IsWord deal.own
  pub triples : All (All AreTripleWords) deal.triples
  pub bits : All (All AreTripleWords) deal.bits
  pub pairs : All (All ArePairWords) deal.pairs

-- no list is longer than the limit
abbrev pub AreWithin : {X : Type 0} → List (List X) → Type 0
AreWithin lists = All (λ items. length items ≤ most_deal_items) lists

-- the deal of one host: a list of each kind for each peer, none longer than the limit
pub record IsDeal (deal : Deal) : Type 0 where
  pub few : deal.hosts ≤ most_hosts
  pub own_number : deal.me.0 < deal.hosts
  pub own : length deal.own ≤ most_deal_items
  pub triples : length deal.triples + 1 ≡ deal.hosts
  pub bits : length deal.bits + 1 ≡ deal.hosts
  pub pairs : length deal.pairs + 1 ≡ deal.hosts
  pub triples_within : AreWithin deal.triples
  pub bits_within : AreWithin deal.bits
  pub pairs_within : AreWithin deal.pairs

-- the deals of all hosts, in order
pub record AreDeals (deals : List Deal) : Type 0 where
  pub few : length deals ≤ most_hosts
  pub each : (host : ℕ) (deal : Deal) → slice_get deals host ≡ Some deal →
      IsDeal deal × (deal.me.0 ≡ host) × (deal.hosts ≡ length deals)

-- ---- validity

-- each item of each two hosts meets its identity
abbrev pub IsConsistent : List Deal → Type 0
IsConsistent deals = (first second : ℕ) (p q : Deal) → first < second → slice_get deals first ≡ Some p → slice_get deals second ≡ Some q →
    (kind : DealKind) (i : ℕ) → Meets p q kind i

-- the order of kinds
abbrev pub rank : DealKind → ℕ
rank Own = 0
rank Mul = 1
rank And = 2
rank Pair = 3

-- an item by its numbers, which are compared from left to right: the first host, the second, the kind, the place
abbrev pub Place : Type 0
Place = ℕ × ℕ × ℕ × ℕ

abbrev pub IsBefore : Place → Place → Type 0
IsBefore x y =
    (x.0 < y.0) ⊎ ((x.0 ≡ y.0) × ((x.1 < y.1) ⊎ ((x.1 ≡ y.1) × ((x.2 < y.2) ⊎ ((x.2 ≡ y.2) × (x.3 < y.3))))))

abbrev pub place_of : BadItem → Place
place_of bad = (bad.first.0, bad.second.0, rank bad.kind, bad.index)

-- The item breaks its identity, with these sides, and each item before it meets its own.
pub record IsFirstBad (deals : List Deal) (bad : BadItem) : Type 0 where
  pub first : Deal
  pub second : Deal
  pub order : bad.first.0 < bad.second.0
  pub first_is : slice_get deals bad.first.0 ≡ Some first
  pub second_is : slice_get deals bad.second.0 ≡ Some second
  pub sides_are : sides first second bad.kind bad.index ≡ (bad.left, bad.right)
  pub differ : bad.left ≢ bad.right
  pub earlier : (f s : ℕ) (p q : Deal) → f < s → slice_get deals f ≡ Some p → slice_get deals s ≡ Some q →
      (kind : DealKind) (i : ℕ) → IsBefore (f, s, rank kind, i) (place_of bad) → Meets p q kind i
