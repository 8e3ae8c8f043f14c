-- The deal that a key of 32 bytes makes, and that of a number. Its words are those of ChaCha20, with one stream for each host and one for each
-- kind of each two hosts.
use Rattle.std.specs.Prelude.{◌≡◌, ◌≢◌, ◌<◌, ℕ, ◌+◌, ◌-◌, ◌*◌, ◌%◌, ◌^◌, ◌≤◌, min, max, nat_lt, bit_xor, List, ◌++◌, map, replicate, if◌then◌else◌}
use Rattle.std.specs.List.{range_with_len}
use Rattle.std.specs.Int.{w64, to_le_bytes}
use Rattle.rand_chacha.specs.ChaCha.{word_at, key_of}
use Rattle.vd_base.specs.Limits.{most_hosts, most_deal_items}
use Rattle.vd_tape.specs.declared.deal_items.items.Triple.{Triple}
use Rattle.vd_tape.specs.declared.deal_items.items.PairItem.{PairItem}
use Rattle.vd_tape.specs.declared.deal_items.deal.Deal.{Deal}
use Rattle.vd_tape.specs.declared.deal_items.deal.Counts.{Counts}
use Rattle.vd_base.specs.Identities.{mul_left, and_left, pair_left}
use Rattle.vd_tape.specs.Validity.{peer_at}

-- ---- the words

-- the cipher's key: the eight words of 32 bytes
unfoldable pub cipher_key : List ℕ → List ℕ
cipher_key key = key_of key

-- the word at a place of a stream, after 20 rounds
unfoldable pub keyed_word : (key : List ℕ) → (stream place : ℕ) → ℕ
keyed_word key stream place = word_at 10 (cipher_key key) stream place

-- the stream of one kind of items of two hosts: 0 for products, 1 for products of bits, 2 for pairs
abbrev pub shared_stream : (first second kind : ℕ) → ℕ
shared_stream first second kind = 64 + 16 * first + 4 * second + kind

-- ---- the items, by the words of a stream: the parts of the first host and of the second, whose last word the identity gives

abbrev pub mul_parts : (ℕ → ℕ) → Triple × Triple
mul_parts word = (
  record { a = word 0; b = word 1; c = word 2 },
  record { a = word 3; b = word 4; c = (mul_left (word 0) (word 3) (word 1) (word 4) + (2 ^ 32 - word 2)) % 2 ^ 32 },
)

abbrev pub and_parts : (ℕ → ℕ) → Triple × Triple
and_parts word = (
  record { a = word 0; b = word 1; c = word 2 },
  record { a = word 3; b = word 4; c = bit_xor (and_left (word 0) (word 3) (word 1) (word 4)) (word 2) },
)

abbrev pub pair_parts : (ℕ → ℕ) → PairItem × PairItem
pair_parts word = (
  record { s = word 0; x = word 2 },
  record { s = word 1; x = bit_xor (pair_left (word 0) (word 1)) (word 2) },
)

-- the words from a place of a stream on
abbrev pub words_from : (key : List ℕ) → (stream place : ℕ) → ℕ → ℕ
words_from key stream place k = keyed_word key stream (place + k)

-- of the parts of two hosts, that of `me`
abbrev pub part_of : {X : Type 0} → (me peer : ℕ) → X × X → X
part_of me peer parts = if nat_lt me peer then parts.0 else parts.1

-- an item: five words for each product, three for each pair
abbrev pub mul_item : (key : List ℕ) → (me peer : ℕ) → ℕ → Triple
mul_item key me peer i = part_of me peer (mul_parts (words_from key (shared_stream (min me peer) (max me peer) 0) (5 * i)))

abbrev pub and_item : (key : List ℕ) → (me peer : ℕ) → ℕ → Triple
and_item key me peer i = part_of me peer (and_parts (words_from key (shared_stream (min me peer) (max me peer) 1) (5 * i)))

abbrev pub pair_item : (key : List ℕ) → (me peer : ℕ) → ℕ → PairItem
pair_item key me peer i = part_of me peer (pair_parts (words_from key (shared_stream (min me peer) (max me peer) 2) (3 * i)))

-- ---- the deals

abbrev pub first_of : {X : Type 0} → ℕ → (ℕ → X) → List X
first_of n f = map f (range_with_len 0 n)

-- the deal of one host: its own words are the first of the stream of its number
abbrev pub keyed_deal : Counts → (key : List ℕ) → (me : ℕ) → Deal
keyed_deal counts key me = record {
  hosts = counts.hosts;
  me = record { 0 = me };
  own = first_of counts.own (keyed_word key me);
  triples = first_of (counts.hosts - 1) (λ place. first_of counts.muls (mul_item key me (peer_at me place)));
  bits = first_of (counts.hosts - 1) (λ place. first_of counts.ands (and_item key me (peer_at me place)));
  pairs = first_of (counts.hosts - 1) (λ place. first_of counts.pairs (pair_item key me (peer_at me place)));
}

-- the deals of all hosts
abbrev pub keyed_deals : Counts → (key : List ℕ) → List Deal
keyed_deals counts key = first_of counts.hosts (keyed_deal counts key)

-- the key of a number: its eight bytes, the lowest first, and 24 zero bytes
unfoldable pub number_key : ℕ → List ℕ
number_key number = to_le_bytes w64 number ++ replicate 24 0

-- the deals that a number makes
abbrev pub made_deals : Counts → (number : ℕ) → List Deal
made_deals counts number = keyed_deals counts (number_key number)

-- what may be asked for
pub record AreCounts (counts : Counts) : Type 0 where
  pub hosts : counts.hosts ≤ most_hosts
  pub own : counts.own ≤ most_deal_items
  pub muls : counts.muls ≤ most_deal_items
  pub ands : counts.ands ≤ most_deal_items
  pub pairs : counts.pairs ≤ most_deal_items

-- ---- what is dealt once

-- a kind of items of two hosts
pub record IsShared (first second kind : ℕ) : Type 0 where
  pub order : first < second
  pub known : second < most_hosts
  pub kinds : kind < 3

-- each kind of each two hosts has a stream of its own, which is no host's for its own words
pub record StreamsAreApart : Type 0 where
  pub shared : (a b k c d l : ℕ) → IsShared a b k → IsShared c d l → shared_stream a b k ≡ shared_stream c d l → (a ≡ c) × (b ≡ d) × (k ≡ l)
  pub own : (a b k me : ℕ) → IsShared a b k → me < most_hosts → shared_stream a b k ≢ me
