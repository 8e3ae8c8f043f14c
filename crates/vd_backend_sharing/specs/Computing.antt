-- What it is for a circuit to compute an operation.
use Rattle.std.specs.Prelude.{◌≡◌, ℕ, bit_and, bit_xor, IsTrue, is_some, List, [], ◌∷◌, slice_index}
use Rattle.vd_base.specs.declared.operations.Op.{Op}
use Rattle.vd_base.specs.declared.operations.Op.TheVariants as op
use Rattle.vd_base.specs.Costs.{xored_cost}
use Rattle.vd_base.specs.Operations.{result_of}
use Rattle.vd_base.specs.Words.{IsWord}
use Rattle.vd_backend_sharing.specs.Circuits.{shl, shr, not_of, flip_of, or_of, add_of, sub_of, lt_of, le_of, eq_of, ne_of, mux_of, min_of, max_of}

-- the word that the operation gives of these words
abbrev pub IsResult : Op → List ℕ → ℕ → Type 0
IsResult o xs x = (x ≡ result_of o xs) × IsWord x

-- of one word, of two, of three
abbrev pub Computes : Op → (ℕ → ℕ) → Type 0
Computes o f = (x : ℕ) → IsWord x → IsResult o (x ∷ []) (f x)

abbrev pub ComputesOfTwo : Op → (ℕ → ℕ → ℕ) → Type 0
ComputesOfTwo o f = (x y : ℕ) → IsWord x → IsWord y → IsResult o (x ∷ y ∷ []) (f x y)

abbrev pub ComputesOfThree : Op → (ℕ → ℕ → ℕ → ℕ) → Type 0
ComputesOfThree o f = (x y z : ℕ) → IsWord x → IsWord y → IsWord z → IsResult o (x ∷ y ∷ z ∷ []) (f x y z)

-- ---- all operations

-- the circuit of each operation on words that two hosts share by exclusive or; the others have none
abbrev pub circuit_of : Op → (x y z : ℕ) → ℕ
circuit_of op.Add x y z = add_of x y
circuit_of op.Sub x y z = sub_of x y
circuit_of op.And x y z = bit_and x y
circuit_of op.Or x y z = or_of x y
circuit_of op.Xor x y z = bit_xor x y
circuit_of op.Not x y z = not_of x
circuit_of op.Flip x y z = flip_of x
circuit_of (op.Shl amount) x y z = shl x amount
circuit_of (op.Shr amount) x y z = shr x amount
circuit_of op.Eq x y z = eq_of x y
circuit_of op.Ne x y z = ne_of x y
circuit_of op.Lt x y z = lt_of x y
circuit_of op.Le x y z = le_of x y
circuit_of op.Min x y z = min_of x y
circuit_of op.Max x y z = max_of x y
circuit_of op.Mux x y z = mux_of x y z
circuit_of op.Mul x y z = 0
circuit_of (op.Scale k) x y z = 0
circuit_of op.Div x y z = 0
circuit_of op.Rem x y z = 0

abbrev pub circuit : Op → List ℕ → ℕ
circuit o xs = circuit_of o (slice_index xs 0) (slice_index xs 1) (slice_index xs 2)

-- the operation stands in the table of exclusive or
abbrev pub HasCircuit : Op → Type 0
HasCircuit o = IsTrue (is_some (xored_cost o))

-- an operand that is missing is 0
abbrev pub AreWords : List ℕ → Type 0
AreWords xs = (place : ℕ) → IsWord (slice_index xs place)

abbrev pub CircuitsCompute : Type 0
CircuitsCompute = (o : Op) (xs : List ℕ) → HasCircuit o → AreWords xs → IsResult o xs (circuit o xs)
