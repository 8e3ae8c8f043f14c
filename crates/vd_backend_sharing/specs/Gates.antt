-- Circuits as lists of gates. A gate makes one more word of words that are there, by their places: the operands come first, and
-- then what the gates before it made.
use Rattle.std.specs.Prelude.{◌≡◌, ℕ, suc, ◌+◌, ◌-◌, ◌<◌, ◌≤◌, bit_and, bit_xor, Bool, true, nat_lt, ◌&&◌, IsTrue, List, [], ◌∷◌, ◌++◌, length, slice_index}
use Rattle.std.specs.List.{list_all}
use Rattle.vd_base.specs.declared.operations.Op.{Op}
use Rattle.vd_base.specs.declared.operations.Op.TheVariants as op
use Rattle.vd_base.specs.Arity.{arity}
use Rattle.vd_backend_sharing.specs.Circuits.{shl, shr, not_of, flip_of, mask_of}
use Rattle.vd_backend_sharing.specs.Computing.{IsResult, HasCircuit, AreWords}

pub data Gate : Type 0 where
  And : (x y : ℕ) → Gate
  Xor : (x y : ℕ) → Gate
  Shl : (amount x : ℕ) → Gate
  Shr : (amount x : ℕ) → Gate
  Not : (x : ℕ) → Gate
  Flip : (x : ℕ) → Gate
  -- the lowest bit alone
  Lowest : (x : ℕ) → Gate
  -- all bits as the lowest
  Mask : (x : ℕ) → Gate

abbrev pub made_by : Gate → List ℕ → ℕ
made_by (And x y) words = bit_and (slice_index words x) (slice_index words y)
made_by (Xor x y) words = bit_xor (slice_index words x) (slice_index words y)
made_by (Shl amount x) words = shl (slice_index words x) amount
made_by (Shr amount x) words = shr (slice_index words x) amount
made_by (Not x) words = not_of (slice_index words x)
made_by (Flip x) words = flip_of (slice_index words x)
made_by (Lowest x) words = bit_and (slice_index words x) 1
made_by (Mask x) words = mask_of (slice_index words x)

-- the places of the words that it takes
abbrev pub taken_by : Gate → List ℕ
taken_by (And x y) = x ∷ y ∷ []
taken_by (Xor x y) = x ∷ y ∷ []
taken_by (Shl amount x) = x ∷ []
taken_by (Shr amount x) = x ∷ []
taken_by (Not x) = x ∷ []
taken_by (Flip x) = x ∷ []
taken_by (Lowest x) = x ∷ []
taken_by (Mask x) = x ∷ []

-- each takes words that are there, where so many are there before the first
abbrev pub are_in_order : ℕ → List Gate → Bool
are_in_order count [] = true
are_in_order count (g ∷ gates) = list_all (λ place. nat_lt place count) (taken_by g) && are_in_order (suc count) gates

-- all words, once these gates made theirs
abbrev pub after : List Gate → List ℕ → List ℕ
after [] words = words
after (g ∷ gates) words = after gates (words ++ (made_by g words ∷ []))

-- ---- the circuits: of the words at places x and y, where n words are there

-- groups of twice as many bits: where carries are generated stands at g, where they are propagated at p. The next ones stand at
-- n + 4 and n + 3
abbrev pub doubling : (bits g p n : ℕ) → List Gate
doubling bits g p n = Shl bits g ∷ And p n ∷ Shl bits p ∷ And p (n + 2) ∷ Xor g (n + 1) ∷ []

-- the carries stand at n + 24, x xor y at n + 1
abbrev pub carrying : (x y n : ℕ) → List Gate
carrying x y n =
    (And x y ∷ Xor x y ∷ []) ++ doubling 1 n (n + 1) (n + 2) ++ doubling 2 (n + 6) (n + 5) (n + 7)
    ++ doubling 4 (n + 11) (n + 10) (n + 12) ++ doubling 8 (n + 16) (n + 15) (n + 17)
    ++ (Shl 16 (n + 21) ∷ And (n + 20) (n + 22) ∷ Xor (n + 21) (n + 23) ∷ [])

-- the sum stands at n + 26
abbrev pub adding : (x y n : ℕ) → List Gate
adding x y n = carrying x y n ++ (Shl 1 (n + 24) ∷ Xor (n + 1) (n + 25) ∷ [])

-- the difference stands at n + 28
abbrev pub subtracting : (x y n : ℕ) → List Gate
subtracting x y n = (Not x ∷ []) ++ adding n y (n + 1) ++ (Not (n + 27) ∷ [])

-- 1 or 0 stands at n + 26
abbrev pub comparing : (x y n : ℕ) → List Gate
comparing x y n = (Not x ∷ []) ++ carrying n y (n + 1) ++ (Shr 31 (n + 25) ∷ [])

-- a word and itself shifted, which stand together at n + 1
abbrev pub narrowing : (amount x n : ℕ) → List Gate
narrowing amount x n = Shr amount x ∷ And x n ∷ []

-- 1 or 0 stands at n + 12
abbrev pub equating : (x y n : ℕ) → List Gate
equating x y n =
    (Xor x y ∷ Not n ∷ []) ++ narrowing 16 (n + 1) (n + 2) ++ narrowing 8 (n + 3) (n + 4) ++ narrowing 4 (n + 5) (n + 6)
    ++ narrowing 2 (n + 7) (n + 8) ++ narrowing 1 (n + 9) (n + 10) ++ (Lowest (n + 11) ∷ [])

-- what is chosen stands at n + 3
abbrev pub choosing : (c x y n : ℕ) → List Gate
choosing c x y n = Mask c ∷ Xor x y ∷ And n (n + 1) ∷ Xor y (n + 2) ∷ []

-- of operands at the first places; what the last gate makes is the result
unfoldable pub gates_of : Op → List Gate
gates_of op.Add = adding 0 1 2
gates_of op.Sub = subtracting 0 1 2
gates_of op.And = And 0 1 ∷ []
gates_of op.Or = And 0 1 ∷ Xor 2 0 ∷ Xor 3 1 ∷ []
gates_of op.Xor = Xor 0 1 ∷ []
gates_of op.Not = Not 0 ∷ []
gates_of op.Flip = Flip 0 ∷ []
gates_of (op.Shl amount) = Shl amount 0 ∷ []
gates_of (op.Shr amount) = Shr amount 0 ∷ []
gates_of op.Eq = equating 0 1 2
gates_of op.Ne = equating 0 1 2 ++ (Flip 14 ∷ [])
gates_of op.Lt = comparing 0 1 2
gates_of op.Le = comparing 1 0 2 ++ (Flip 28 ∷ [])
gates_of op.Min = comparing 0 1 2 ++ choosing 28 0 1 29
gates_of op.Max = comparing 0 1 2 ++ choosing 28 1 0 29
gates_of op.Mux = choosing 0 1 2 3
gates_of op.Mul = []
gates_of (op.Scale k) = []
gates_of op.Div = []
gates_of op.Rem = []

-- the word that was made last
abbrev pub newest : List ℕ → ℕ
newest words = slice_index words (length words - 1)

abbrev pub GatesCompute : Type 0
GatesCompute = (o : Op) (xs : List ℕ) → HasCircuit o → length xs ≡ arity o → AreWords xs
    → IsResult o xs (newest (after (gates_of o) xs))

abbrev pub GatesAreInOrder : Type 0
GatesAreInOrder = (o : Op) → IsTrue (are_in_order (arity o) (gates_of o))

abbrev pub GatesAreFew : Type 0
GatesAreFew = (o : Op) → HasCircuit o → (0 < length (gates_of o)) × (length (gates_of o) ≤ 31)
