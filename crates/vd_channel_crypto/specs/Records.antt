-- Records: bytes under a stream, and a code over their number, their length and themselves.
use Rattle.std.specs.Prelude.{ℕ, List, [], ◌∷◌, ◌++◌, length}
use Rattle.std.specs.Int.{w64, to_be_bytes}
use Rattle.vd_channel_crypto.specs.Codes.{hmac}
use Rattle.vd_channel_crypto.specs.Streams.{key_stream, under}

-- the two keys of one direction of a link
pub record Direction : Type 0 where
  pub cipher : List ℕ
  pub code : List ℕ

-- what the code of a record is over: its number, its tag, its length and its covered bytes
abbrev pub coded : ℕ → List ℕ → List ℕ
coded number covered = to_be_bytes w64 number ++ (0x58 ∷ length covered ∷ [] ++ covered)

abbrev pub record_code : Direction → ℕ → List ℕ → List ℕ
record_code keys number covered = hmac keys.code (coded number covered)

-- a record with this number: its tag, its length, its bytes under the stream of its number, and its code
abbrev pub sealed : Direction → ℕ → List ℕ → List ℕ
sealed keys number bytes =
    let covered = under bytes (key_stream keys.cipher number) in
    0x58 ∷ length bytes ∷ covered ++ record_code keys number covered
