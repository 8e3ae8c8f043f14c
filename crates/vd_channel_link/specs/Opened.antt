-- What the records give that stand at the front of bytes.
use Rattle.std.specs.Prelude.{◌≡◌, ◌≤◌, ℕ, zero, suc, ◌+◌, Bool, false, ◌&&◌, List, [], ◌∷◌, ◌++◌, length, take, drop, slice_index, nat_le, if◌then◌else◌}
use Rattle.std.specs.List.{flat_map, AllByRecursion}
use Rattle.std.specs.Str.{bytes_eq}
use Rattle.vd_channel_crypto.specs.Records.{Direction, record_code, sealed}
use Rattle.vd_channel_crypto.specs.Streams.{key_stream, under}

-- records with numbers from this one on, one for each piece
abbrev pub records : Direction → (number : ℕ) → List (List ℕ) → List ℕ
records keys number [] = []
records keys number (piece ∷ pieces) = sealed keys number piece ++ records keys (number + 1) pieces

abbrev pub flat : List (List ℕ) → List ℕ
flat pieces = flat_map (λ piece. piece) pieces

-- what a record carries at most
abbrev pub IsSmall : List ℕ → Type 0
IsSmall piece = length piece ≤ 128

-- ---- the record at the front: its length, its covered bytes, its code, its bytes, and what is behind it

abbrev pub length_at : List ℕ → ℕ
length_at raw = slice_index raw 1

abbrev pub covered_at : List ℕ → List ℕ
covered_at raw = take (length_at raw) (drop 2 raw)

abbrev pub code_at : List ℕ → List ℕ
code_at raw = take 32 (drop (length_at raw) (drop 2 raw))

abbrev pub bytes_at : Direction → ℕ → List ℕ → List ℕ
bytes_at keys number raw = under (covered_at raw) (key_stream keys.cipher number)

abbrev pub behind : List ℕ → List ℕ
behind raw = drop 32 (drop (length_at raw) (drop 2 raw))

abbrev pub has_tag : List ℕ → Bool
has_tag raw = bytes_eq (take 1 raw) (0x58 ∷ [])

abbrev pub is_few : List ℕ → Bool
is_few raw = nat_le (length_at raw) 128

abbrev pub has_code : Direction → ℕ → List ℕ → Bool
has_code keys number raw = bytes_eq (code_at raw) (record_code keys number (covered_at raw))

-- it is there whole, with the code of this direction and number
abbrev pub begins : Direction → ℕ → List ℕ → Bool
begins keys number raw = has_tag raw && (is_few raw && has_code keys number raw)

-- ---- all of them: nothing behind the first that has not its code is looked at

unfoldable pub opened : Direction → (number fuel : ℕ) → List ℕ → List ℕ
opened keys number zero raw = []
opened keys number (suc fuel) raw =
    if begins keys number raw then bytes_at keys number raw ++ opened keys (number + 1) fuel (behind raw) else []

abbrev pub plain_of : Direction → (number : ℕ) → List ℕ → List ℕ
plain_of keys number raw = opened keys number (length raw) raw

-- ---- laws

-- what was sent in records is what is opened, and then what is behind them
abbrev pub OpenedIsSent : Type 0
OpenedIsSent = (keys : Direction) (number : ℕ) (pieces : List (List ℕ)) (rest : List ℕ) → AllByRecursion IsSmall pieces
    → plain_of keys number (records keys number pieces ++ rest) ≡ flat pieces ++ plain_of keys (number + length pieces) rest

-- what is opened of any bytes was sent: it is that of records which stand at their front, each with the code of its direction and
-- number, and the bytes behind these begin no such record
pub record IsCovered (keys : Direction) (number : ℕ) (raw : List ℕ) : Type 0 where
  pub pieces : List (List ℕ)
  pub rest : List ℕ
  pub are : raw ≡ records keys number pieces ++ rest
  pub small : AllByRecursion IsSmall pieces
  pub gives : plain_of keys number raw ≡ flat pieces
  pub ends : begins keys (number + length pieces) rest ≡ false

abbrev pub OpenedIsCovered : Type 0
OpenedIsCovered = (keys : Direction) (number : ℕ) (raw : List ℕ) → IsCovered keys number raw

-- what is opened of a prefix of records is a prefix of what they carry
abbrev pub OpenedIsFront : Type 0
OpenedIsFront = (keys : Direction) (number : ℕ) (pieces : List (List ℕ)) (front rest : List ℕ) → AllByRecursion IsSmall pieces
    → front ++ rest ≡ records keys number pieces → (left : List ℕ) × (plain_of keys number front ++ left ≡ flat pieces)
