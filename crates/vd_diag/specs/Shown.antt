-- Bytes as a terminal shows them.
use Rattle.std.specs.Prelude.{ℕ, ◌+◌, ◌==◌, Bool, false, ◌||◌, ◌&&◌, nat_lt, if◌then◌else◌, List, [], ◌∷◌, chars}
use Rattle.std.specs.Str.Lossy.{utf8_lossy}
use Rattle.unicode_width.specs.Width.{str_width}

-- a control character of ASCII, which could move what stands behind it
abbrev pub is_control : ℕ → Bool
is_control b = nat_lt b 32 || b == 127

-- the first byte of a control character from U+0080 to U+009F
abbrev pub begins_control : ℕ → List ℕ → Bool
begins_control b [] = false
begins_control b (c ∷ cs) = b == 194 && nat_lt c 160

-- blanks in the place of control characters
abbrev pub visible : List ℕ → List ℕ
visible [] = []
visible (b ∷ bs) = (if is_control b || begins_control b bs then 32 else b) ∷ visible bs

-- as text, with U+FFFD for what is no UTF-8
abbrev pub shown : List ℕ → List ℕ
shown bytes = utf8_lossy (visible bytes)

-- the columns that this takes
abbrev pub width : List ℕ → ℕ
width bytes = str_width false (chars (shown bytes))
