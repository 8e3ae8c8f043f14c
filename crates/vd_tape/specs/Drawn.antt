-- Which word of ChaCha20 each word of a deal is, and that no two words of deals are one word of the cipher.
use Rattle.std.specs.Prelude.{◌≡◌, ◌<◌, ℕ, zero, suc, ◌+◌, ◌*◌, ◌/◌, ◌%◌, ◌^◌, List, Some, length, slice_get, slice_index}
use Rattle.rand_chacha.specs.Block.{add32, double_rounds, initial_state}
use Rattle.vd_base.specs.Limits.{most_hosts}
use Rattle.vd_tape.specs.declared.deal_items.items.Triple.{Triple}
use Rattle.vd_tape.specs.declared.deal_items.items.PairItem.{PairItem}
use Rattle.vd_tape.specs.declared.deal_items.deal.Counts.{Counts}
use Rattle.vd_tape.specs.declared.deal_items.deal.Deal.{Deal}
use Rattle.vd_tape.specs.Identities.{triple_at, pair_at}
use Rattle.vd_tape.specs.Validity.{shared_with}
use Rattle.vd_tape.specs.Made.{cipher_key, keyed_word, number_key, shared_stream, IsShared, keyed_deals, made_deals}

-- ---- the words of a key

-- 32 bytes
pub record IsKey (key : List ℕ) : Type 0 where
  pub bytes : length key ≡ 32
  pub each : (i : ℕ) → slice_index key i < 2 ^ 8

-- a block has 16 words; the state that it begins with has the key, the number of the block in its stream, and the number of the stream
abbrev pub block_begins : (key : List ℕ) → (stream place : ℕ) → List ℕ
block_begins key stream place = initial_state (cipher_key key) (place / 16) stream

-- the word at an index of the block that begins with a state: 20 rounds, and the state added
abbrev pub word_in : (state : List ℕ) → (index : ℕ) → ℕ
word_in state index = add32 (slice_index (double_rounds 10 state) index) (slice_index state index)

-- the word at a place of a stream is the word at its index of its block
abbrev pub WordsAreOfBlocks : Type 0
WordsAreOfBlocks = (key : List ℕ) (stream place : ℕ) → keyed_word key stream place ≡ word_in (block_begins key stream place) (place % 16)

-- words of two keys, of two streams or at two places are of blocks that begin with two states, or stand at two indexes
abbrev pub PlacesAreApart : Type 0
PlacesAreApart = (k l : List ℕ) (s t p q : ℕ) → IsKey k → IsKey l → block_begins k s p ≡ block_begins l t q → p % 16 ≡ q % 16
    → (k ≡ l) × (s ≡ t) × (p ≡ q)

-- ---- the words of deals

-- A word that is drawn for deals: an own word of a host, or a part of an item of two hosts, of which kind 0 are products, 1 products of
-- bits and 2 pairs.
pub data Drawn : Type 0 where
  Own : (host i : ℕ) → Drawn
  Part : (kind first second i part : ℕ) → Drawn

-- five are drawn for a product, and three for a pair
abbrev pub parts : (kind : ℕ) → ℕ
parts zero = 5
parts (suc zero) = 5
parts (suc (suc kind)) = 3

abbrev pub IsDrawn : Drawn → Type 0
IsDrawn (Own host i) = host < most_hosts
IsDrawn (Part kind first second i part) = IsShared first second kind × (part < parts kind)

-- a host has a stream, and so has each kind of items of two hosts
abbrev pub stream_of : Drawn → ℕ
stream_of (Own host i) = host
stream_of (Part kind first second i part) = shared_stream first second kind

abbrev pub place_of : Drawn → ℕ
place_of (Own host i) = i
place_of (Part kind first second i part) = parts kind * i + part

-- the state that its block begins with, its index in the block, and the word
abbrev pub state_of : (key : List ℕ) → Drawn → List ℕ
state_of key x = block_begins key (stream_of x) (place_of x)

abbrev pub index_of : Drawn → ℕ
index_of x = place_of x % 16

abbrev pub word_of : (key : List ℕ) → Drawn → ℕ
word_of key x = word_in (state_of key x) (index_of x)

-- two words that are drawn, of one key or of two, are of blocks that begin with two states, or stand at two indexes
abbrev pub EachIsDrawnOnce : Type 0
EachIsDrawnOnce = (k l : List ℕ) (x y : Drawn) → IsKey k → IsKey l → IsDrawn x → IsDrawn y
    → state_of k x ≡ state_of l y → index_of x ≡ index_of y → (k ≡ l) × (x ≡ y)

-- of a product three words of the first host's part are drawn, and two of the second's: the last follows from its identity
abbrev pub FiveAreDrawn : (key : List ℕ) → (kind first second i : ℕ) → Triple → Triple → Type 0
FiveAreDrawn key kind first second i p q =
    let word : ℕ → ℕ = λ part. word_of key (Part kind first second i part) in
    (p.a ≡ word 0) × (p.b ≡ word 1) × (p.c ≡ word 2) × (q.a ≡ word 3) × (q.b ≡ word 4)

-- of a pair the sums, and the first host's other word
abbrev pub ThreeAreDrawn : (key : List ℕ) → (first second i : ℕ) → PairItem → PairItem → Type 0
ThreeAreDrawn key first second i p q =
    let word : ℕ → ℕ = λ part. word_of key (Part 2 first second i part) in
    (p.s ≡ word 0) × (q.s ≡ word 1) × (p.x ≡ word 2)

-- what holds of the deals of each two hosts, in order
abbrev pub OfEachTwo : List Deal → ((first second : ℕ) → Deal → Deal → Type 0) → Type 0
OfEachTwo deals Holds = (first second : ℕ) (p q : Deal) → first < second → slice_get deals first ≡ Some p → slice_get deals second ≡ Some q
    → Holds first second p q

-- the deals of all hosts, word for word
pub record AreDrawn (counts : Counts) (key : List ℕ) (deals : List Deal) : Type 0 where
  pub hosts : length deals ≡ counts.hosts
  pub own : (host i : ℕ) (deal : Deal) → slice_get deals host ≡ Some deal → i < counts.own
      → slice_index deal.own i ≡ word_of key (Own host i)
  pub muls : OfEachTwo deals (λ a b p q. (i : ℕ) → i < counts.muls
      → FiveAreDrawn key 0 a b i (triple_at (shared_with p.triples a b) i) (triple_at (shared_with q.triples b a) i))
  pub ands : OfEachTwo deals (λ a b p q. (i : ℕ) → i < counts.ands
      → FiveAreDrawn key 1 a b i (triple_at (shared_with p.bits a b) i) (triple_at (shared_with q.bits b a) i))
  pub pairs : OfEachTwo deals (λ a b p q. (i : ℕ) → i < counts.pairs
      → ThreeAreDrawn key a b i (pair_at (shared_with p.pairs a b) i) (pair_at (shared_with q.pairs b a) i))

abbrev pub DealsAreDrawn : Type 0
DealsAreDrawn = (counts : Counts) (key : List ℕ) → AreDrawn counts key (keyed_deals counts key)

-- so are those of a number: it has a key, and no other number has that
pub record NumbersAreApart : Type 0 where
  pub keys : (number : ℕ) → IsKey (number_key number)
  pub apart : (m n : ℕ) → m < 2 ^ 64 → n < 2 ^ 64 → number_key m ≡ number_key n → m ≡ n
  pub dealt : (counts : Counts) (number : ℕ) → AreDrawn counts (number_key number) (made_deals counts number)
