-- Frames of the base protocol: a header with the length of the body in bytes, an empty line, and the body.
use Rattle.std.specs.Prelude.{ℕ, ◌<◌, ◌≤◌, ◌≡◌, List, [], ◌∷◌, ◌++◌, length, codes, Ok}
use Rattle.vd_base_codec.specs.Reading.{Reading, ◌>>=◌, literal_at, field_at, field}
use Rattle.vd_lsp_wire.specs.declared.framing.Framed.{Framed}
use Rattle.vd_lsp_wire.specs.declared.framing.Framed.TheVariants.{Short, Bad, Whole}

-- the most bytes of a body
abbrev pub most_body : ℕ
most_body = 1048576

unfoldable pub head : ℕ → List ℕ
head n = codes "Content-Length:" ++ (field n ++ codes "\r\n\r\n")

abbrev pub frame : List ℕ → List ℕ
frame body = head (length body) ++ body

-- a stream begins with the frame of this body
abbrev pub BeginsWith : List ℕ → List ℕ → Type 0
BeginsWith stream body = (rest : List ℕ) × (stream ≡ frame body ++ rest)

-- What a stream begins with: a frame, with the bytes behind it; no frame so far; or what no frame begins with, whatever comes behind it.
abbrev pub IsFramed : List ℕ → Framed → Type 0
IsFramed stream (Whole body rest) = (stream ≡ frame body.now ++ rest.now) × (length body.now ≤ most_body)
IsFramed stream Short = (body : List ℕ) → length body ≤ most_body → BeginsWith stream body → ⊥
IsFramed stream Bad = (body more : List ℕ) → length body ≤ most_body → BeginsWith (stream ++ more) body → ⊥

-- ---- how a head is read

-- the end of a head that writes this length
abbrev pub closed_at : ℕ → List ℕ → Reading ℕ
closed_at n bytes = literal_at (codes "\r\n\r\n") bytes >>= λ left. Ok (n, left.1)

abbrev pub length_at : List ℕ → Reading ℕ
length_at bytes = field_at most_body bytes >>= λ n. closed_at n.0 n.1

abbrev pub head_at : List ℕ → Reading ℕ
head_at bytes = literal_at (codes "Content-Length:") bytes >>= λ name. length_at name.1

-- a body of this length was cut off, or there are fewer bytes
abbrev pub IsCut : ℕ → List ℕ → Framed → Type 0
IsCut n left (Whole body rest) = (left ≡ body.now ++ rest.now) × (length body.now ≡ n)
IsCut n left Short = length left < n
IsCut n left Bad = ⊥

-- nothing was left, or something that no head goes on with
abbrev pub IsUnread : List ℕ → Framed → Type 0
IsUnread [] framed = framed ≡ Short
IsUnread (b ∷ bs) framed = framed ≡ Bad
