-- When a reading is exact: of a part of a file, whose values have one spelling each, and of a whole file.
use Rattle.std.specs.Prelude.{◌≡◌, ◌⊎◌, ℕ, ◌+◌, ◌-◌, ◌<◌, ◌≤◌, List, [], ◌∷◌, ◌++◌, take, length, Result, Ok, Err}
use Rattle.vd_base_codec.specs.Reading.{Reading, first, to_the_end}

-- ---- a file

-- some text begins with these bytes
abbrev pub Begins : (List ℕ → Type 0) → List ℕ → Type 0
Begins IsText front = (rest : List ℕ) × IsText (front ++ rest)

-- The bytes are no text, and this is the first place at which they go on as no text does: so many bytes begin some text, and with one
-- byte more they begin none. Where all bytes begin a text, it is their length.
pub record StopsAt (IsText : List ℕ → Type 0) (bytes : List ℕ) (at : ℕ) : Type 0 where
  pub within : at ≤ length bytes
  pub begins : Begins IsText (take at bytes)
  pub goes_no_further : at < length bytes → Begins IsText (take (at + 1) bytes) → ⊥
  pub no_text : IsText bytes → ⊥

-- ---- a part of a file: which values fit there, and the text of each

-- what may stand behind a number or a name: a space, a line end, or nothing. Behind other parts anything may stand.
abbrev pub IsBreak : List ℕ → Type 0
IsBreak [] = Unit {0}
IsBreak (b ∷ bs) = (b ≡ 32) ⊎ (b ≡ 10)

abbrev pub IsAnything : List ℕ → Type 0
IsAnything bs = Unit {0}

-- The bytes begin with the text of x; and whatever may stand behind it, no other value is spelled by what agrees with them as far as the byte behind.
pub record Spells {X : Type 0} (Behind : List ℕ → Type 0) (Fits : X → Type 0) (text : X → List ℕ) (bytes : List ℕ) (x : X) (left : List ℕ) : Type 0 where
  pub fits : Fits x
  pub split : bytes ≡ text x ++ left
  pub only : (y : X) (behind more : List ℕ) → Fits y → Behind behind → text y ++ behind ≡ text x ++ more → first more ≡ first left →
      (y ≡ x) × (behind ≡ more)

-- What was taken begins the text of a value; whatever may stand behind it, none goes on behind it with the next byte, or ends where the bytes end.
pub record Stops {X : Type 0} (Behind : List ℕ → Type 0) (Fits : X → Type 0) (text : X → List ℕ) (bytes left : List ℕ) : Type 0 where
  pub taken : List ℕ
  pub split : bytes ≡ taken ++ left
  pub begun : X
  pub fits : Fits begun
  pub rest : List ℕ
  pub begins : text begun ≡ taken ++ rest
  pub none : (y : X) (behind more : List ℕ) → Fits y → Behind behind → text y ++ behind ≡ taken ++ more → first more ≡ first left → ⊥

abbrev pub IsExact : {X : Type 0} → (List ℕ → Type 0) → (X → Type 0) → (X → List ℕ) → List ℕ → Reading X → Type 0
IsExact Behind Fits text bytes (Ok x) = Spells Behind Fits text bytes x.0 x.1
IsExact Behind Fits text bytes (Err left) = Stops Behind Fits text bytes left

-- ---- a whole file

-- the bytes are the text of a value
abbrev pub IsTextOf : {X : Type 0} → (X → Type 0) → (X → List ℕ) → List ℕ → Type 0
IsTextOf {X} Fits text bytes = (x : X) × (Fits x × (text x ≡ bytes))

-- What is read, where nothing stands behind it; else the offset of the first byte that cannot stand.
abbrev pub outcome : {X : Type 0} → List ℕ → Reading X → Result X ℕ
outcome bytes (Ok x) = Ok x.0
outcome bytes (Err left) = Err (length bytes - length left)

abbrev pub whole : {X : Type 0} → List ℕ → Reading X → Result X ℕ
whole bytes reading = outcome bytes (to_the_end reading)

-- A value exactly where the bytes are its text and no other's, else the first offset at which they go on as no text does.
abbrev pub IsExactWhole : {X : Type 0} → (X → Type 0) → (X → List ℕ) → List ℕ → Result X ℕ → Type 0
IsExactWhole {X} Fits text bytes (Ok x) = Fits x × (text x ≡ bytes) × ((y : X) → Fits y → text y ≡ bytes → y ≡ x)
IsExactWhole Fits text bytes (Err at) = StopsAt (IsTextOf Fits text) bytes at
