-- HMAC-SHA256 (RFC 2104) under keys of at most a block, and HKDF-SHA256 (RFC 5869) where one digest is wanted.
use Rattle.std.specs.Prelude.{ℕ, ◌-◌, List, [], ◌∷◌, ◌++◌, length, map, replicate, bit_xor}
use Rattle.sha2.specs.Sha256.{sha256}

-- a key, followed by zeros up to a block of 64 bytes
abbrev pub block_of : List ℕ → List ℕ
block_of key = key ++ replicate (64 - length key) 0

abbrev pub padded : ℕ → List ℕ → List ℕ
padded pad key = map (λ b. bit_xor b pad) (block_of key)

abbrev pub hmac : (key message : List ℕ) → List ℕ
hmac key message = sha256 (padded 0x5c key ++ sha256 (padded 0x36 key ++ message))

-- the first block that HKDF expands a key into, for one purpose
abbrev pub expanded : (key info : List ℕ) → List ℕ
expanded key info = hmac key (info ++ 1 ∷ [])

abbrev pub derived : (salt input info : List ℕ) → List ℕ
derived salt input info = expanded (hmac salt input) info
