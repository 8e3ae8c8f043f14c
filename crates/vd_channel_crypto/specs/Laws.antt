-- That what is hashed, and what a stream begins with, tells all apart. Each law is of the key, code, digest or stream itself: it names what
-- this hashes or begins with. What is hashed are bytes, so that lists that differ are bytes that differ.
use Rattle.std.specs.Prelude.{◌≡◌, ◌≢◌, ◌<◌, ◌^◌, ℕ, List, ◌∷◌, ◌++◌, length, flat_map}
use Rattle.std.specs.List.{AllByRecursion, range_with_len}
use Rattle.std.specs.Int.{w32, to_le_bytes}
use Rattle.sha2.specs.Sha256.{sha256}
use Rattle.rand_chacha.specs.Block.{block_word, initial_state}
use Rattle.rand_chacha.specs.ChaCha.{key_of}
use Rattle.vd_channel_crypto.specs.declared.hellos.Hello.{Hello}
use Rattle.vd_channel_crypto.specs.Codes.{hmac}
use Rattle.vd_channel_crypto.specs.Hellos.{digest_between, link_direction, nonce_of}
use Rattle.vd_channel_crypto.specs.Records.{Direction, record_code, sealed}
use Rattle.vd_channel_crypto.specs.Streams.{key_stream, under}

abbrev pub AreBytes : List ℕ → Type 0
AreBytes bytes = AllByRecursion (λ b. b < 2 ^ 8) bytes

-- ---- codes

-- A code under a key is the digest of a message with the digest of another in it. Each of the two tells the key and what is behind it, and
-- under one key the one never is the other.
pub record CodesCoverTheirKeys : Type 0 where
  pub inner : (key message : List ℕ) → List ℕ
  pub outer : (key digest : List ℕ) → List ℕ
  pub hashed : (key message : List ℕ) → hmac key message ≡ sha256 (outer key (sha256 (inner key message)))
  pub tells : (j k m n : List ℕ) → length j ≡ length k → inner j m ≡ inner k n → (j ≡ k) × (m ≡ n)
  pub tells_again : (j k m n : List ℕ) → length j ≡ length k → outer j m ≡ outer k n → (j ≡ k) × (m ≡ n)
  pub apart : (key message digest : List ℕ) → inner key message ≢ outer key digest
  pub bytes : (key message digest : List ℕ) → AreBytes key → AreBytes message → AreBytes digest
      → AreBytes (inner key message) × AreBytes (outer key digest)

-- ---- records

-- a record is its head, bytes that give back those that were put into it, and the code of these bytes at this place
pub record IsRecordOf (keys : Direction) (number : ℕ) (bytes : List ℕ) : Type 0 where
  pub covered : List ℕ
  pub is : sealed keys number bytes ≡ 0x58 ∷ length bytes ∷ covered ++ record_code keys number covered
  pub opens : under covered (key_stream keys.cipher number) ≡ bytes

abbrev pub GivesBack : Type 0
GivesBack = (keys : Direction) (number : ℕ) (bytes : List ℕ) → IsRecordOf keys number bytes

-- the code of a record is that of a message which tells its number and its covered bytes
pub record CodesCoverAll : Type 0 where
  pub message : ℕ → List ℕ → List ℕ
  pub hashed : (keys : Direction) (number : ℕ) (covered : List ℕ)
      → record_code keys number covered ≡ hmac keys.code (message number covered)
  pub apart : (m n : ℕ) (one other : List ℕ) → m < 2 ^ 64 → n < 2 ^ 64 → message m one ≡ message n other → (m ≡ n) × (one ≡ other)
  pub bytes : (number : ℕ) (covered : List ℕ) → length covered < 2 ^ 8 → AreBytes covered → AreBytes (message number covered)

-- ---- streams

-- the 64 bytes of a block of ChaCha20, by its key, the number of its stream and its own number
abbrev pub block_bytes : (key : List ℕ) → (number block : ℕ) → List ℕ
block_bytes key number block = flat_map (λ i. to_le_bytes w32 (block_word 10 (key_of key) block number i)) (range_with_len 0 16)

-- 32 bytes
pub record IsKey (key : List ℕ) : Type 0 where
  pub long : length key ≡ 32
  pub each : AreBytes key

-- A stream is the first two blocks of its key and number. The state that a block begins with tells its key, its number and that of its
-- stream.
pub record StreamsAreApart : Type 0 where
  pub blocks : (key : List ℕ) (number : ℕ) → key_stream key number ≡ block_bytes key number 0 ++ block_bytes key number 1
  pub apart : (j k : List ℕ) (a b m n : ℕ) → IsKey j → IsKey k → initial_state (key_of j) a m ≡ initial_state (key_of k) b n
      → (j ≡ k) × (a ≡ b) × (m ≡ n)

-- ---- keys

-- The keys of a direction are codes, under the key of the link, of messages that tell the sender and the digest. No message is for both
-- purposes.
pub record KeysHaveOnePurpose : Type 0 where
  pub cipher : (sender : ℕ) → (digest : List ℕ) → List ℕ
  pub code : (sender : ℕ) → (digest : List ℕ) → List ℕ
  pub covers : (link digest : List ℕ) (sender : ℕ) → (link_direction link sender digest).cipher ≡ hmac link (cipher sender digest)
  pub proves : (link digest : List ℕ) (sender : ℕ) → (link_direction link sender digest).code ≡ hmac link (code sender digest)
  pub purposes : (x y : ℕ) (one other : List ℕ) → cipher x one ≢ code y other
  pub ciphers : (x y : ℕ) (one other : List ℕ) → cipher x one ≡ cipher y other → (x ≡ y) × (one ≡ other)
  pub codes : (x y : ℕ) (one other : List ℕ) → code x one ≡ code y other → (x ≡ y) × (one ≡ other)
  pub bytes : (sender : ℕ) (digest : List ℕ) → sender < 2 ^ 8 → AreBytes digest → AreBytes (cipher sender digest) × AreBytes (code sender digest)

-- ---- hellos

-- the nonce of a connection is the code, under the seed of its run, of a message that tells the peer and the number of the connection
pub record NoncesAreApart : Type 0 where
  pub message : (peer connection : ℕ) → List ℕ
  pub hashed : (seed : List ℕ) (peer connection : ℕ) → nonce_of seed peer connection ≡ hmac seed (message peer connection)
  pub apart : (p q m n : ℕ) → m < 2 ^ 32 → n < 2 ^ 32 → message p m ≡ message q n → (p ≡ q) × (m ≡ n)
  pub bytes : (peer connection : ℕ) → peer < 2 ^ 8 → AreBytes (message peer connection)

-- 32 bytes in each of both places
pub record IsHello (hello : Hello) : Type 0 where
  pub id : length hello.id ≡ 32
  pub nonce : length hello.nonce ≡ 32

pub record IsOfBytes (hello : Hello) : Type 0 where
  pub id : AreBytes hello.id
  pub from : hello.from.0 < 2 ^ 8
  pub to : hello.to.0 < 2 ^ 8
  pub nonce : AreBytes hello.nonce

pub record SameHello (a b : Hello) : Type 0 where
  pub id : a.id ≡ b.id
  pub from : a.from.0 ≡ b.from.0
  pub to : a.to.0 ≡ b.to.0
  pub nonce : a.nonce ≡ b.nonce

-- Both ends have one digest, of a message that tells each part of both hellos. Where one host hashes the same twice it said and heard the
-- same; where two hosts hash the same each heard what the other said.
pub record DigestsCoverBothHellos : Type 0 where
  pub message : (mine theirs : Hello) → List ℕ
  pub hashed : (mine theirs : Hello) → digest_between mine theirs ≡ sha256 (message mine theirs)
  pub both_ends : (a b : Hello) → a.from.0 ≢ b.from.0 → digest_between a b ≡ digest_between b a
  pub at_one_host : (a b c d : Hello) → IsHello a → IsHello b → IsHello c → IsHello d → a.from.0 ≡ c.from.0
      → message a b ≡ message c d → SameHello a c × SameHello b d
  pub at_two_hosts : (a b c d : Hello) → IsHello a → IsHello b → IsHello c → IsHello d → a.from.0 ≢ c.from.0
      → message a b ≡ message c d → SameHello a d × SameHello b c
  pub bytes : (mine theirs : Hello) → IsOfBytes mine → IsOfBytes theirs → AreBytes (message mine theirs)
