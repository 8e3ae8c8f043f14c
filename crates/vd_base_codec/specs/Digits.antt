-- 32 bytes as 64 hexadecimal digits, the higher half of each byte first.
use Rattle.std.specs.Prelude.{◌≡◌, ◌<◌, ℕ, ◌+◌, ◌-◌, ◌*◌, ◌/◌, ◌%◌, ◌&&◌, List, [], ◌∷◌, length, Option, Some, None, Ok, Err, nat_le, nat_lt, if◌then◌else◌}
use Rattle.std.specs.List.{flat_map, AllByRecursion}
use Rattle.vd_base_codec.specs.Reading.{Reading, ◌>>=◌, each_at}

abbrev pub hex_digit : ℕ → ℕ
hex_digit d = if nat_lt d 10 then 48 + d else 87 + d

unfoldable pub hex_byte : ℕ → List ℕ
hex_byte b = hex_digit (b / 16) ∷ hex_digit (b % 16) ∷ []

abbrev pub key_text : List ℕ → List ℕ
key_text key = flat_map hex_byte key

abbrev pub hex_value : ℕ → Option ℕ
hex_value b = if nat_le 48 b && nat_le b 57 then Some (b - 48) else (if nat_le 97 b && nat_le b 102 then Some (b - 87) else None)

-- a digit, by what its byte stands for
abbrev pub with_digit : ℕ → List ℕ → Option ℕ → Reading ℕ
with_digit b bs None = Err (b ∷ bs)
with_digit b bs (Some d) = Ok (d, bs)

abbrev pub digit_at : List ℕ → Reading ℕ
digit_at [] = Err []
digit_at (b ∷ bs) = with_digit b bs (hex_value b)

unfoldable pub hex_at : List ℕ → Reading ℕ
hex_at bs = do
  high ← digit_at bs
  low ← digit_at high.1
  Ok (high.0 * 16 + low.0, low.1)

abbrev pub key_at : List ℕ → Reading (List ℕ)
key_at bs = each_at hex_at 32 bs

abbrev pub IsByte : ℕ → Type 0
IsByte b = b < 256

-- 32 bytes
abbrev pub IsKey : List ℕ → Type 0
IsKey key = (length key ≡ 32) × AllByRecursion IsByte key
