-- What the digest of a commitment tells.
use Rattle.std.specs.Prelude.{◌≡◌, ◌≢◌, ◌<◌, ◌^◌, ◌⊎◌, ℕ, List, [], ◌∷◌, ◌++◌, length, slice_index}
use Rattle.sha2.specs.Sha256.{sha256}
use Rattle.vd_base.specs.Words.{IsWord}
use Rattle.vd_execution.specs.Registers.{bytes_of_words, digest_of, words_of_bytes}

abbrev pub AreBytes : List ℕ → Type 0
AreBytes bytes = (i : ℕ) → slice_index bytes i < 2 ^ 8

-- two texts of bytes that differ, with one SHA-256
pub record Collide : Type 0 where
  pub one : List ℕ
  pub other : List ℕ
  pub bytes : AreBytes one
  pub other_bytes : AreBytes other
  pub differ : one ≢ other
  pub same : sha256 one ≡ sha256 other

-- eight words
pub record IsNonce (nonce : List ℕ) : Type 0 where
  pub eight : length nonce ≡ 8
  pub words : (i : ℕ) → IsWord (slice_index nonce i)

-- The digest is the SHA-256 of the nonce's bytes and the word's. Where two are the same, their nonces and words are, or two texts collide.
pub record DigestsTellTheirWords : Type 0 where
  pub hashed : (nonce : List ℕ) (word : ℕ) → digest_of nonce word ≡ words_of_bytes (sha256 (bytes_of_words (nonce ++ word ∷ []))) 0 8
  pub tells : (nonce other : List ℕ) (word x : ℕ) → IsNonce nonce → IsNonce other → IsWord word → IsWord x
      → digest_of nonce word ≡ digest_of other x → ((nonce ≡ other) × (word ≡ x)) ⊎ Collide
