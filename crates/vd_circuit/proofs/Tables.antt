-- The gates of each operation.
use Rattle.std.proofs.Common.{◌≡◌, ℕ, ◌≤◌, IsTrue, List, [], ◌∷◌, ◌++◌, length, refl}
use Rattle.vd_base.specs.declared.operations.Op.{Op}
use Rattle.vd_base.specs.declared.operations.Op.TheVariants as op
use Rattle.vd_backend_sharing.specs.Gates.{Gate, Flip, adding, subtracting, comparing, equating, choosing, gates_of}
use Rattle.vd_bits.specs.declared.gates.Gate.{Gate as Written}
use Rattle.vd_bits.specs.BitCalls.{gates_in}
use Rattle.vd_bits.proofs.Front.{circuit_short}
use Rattle.vd_circuit.specs.CircuitCalls.{circuit_serves}

pub sum : gates_of op.Add ≡ adding 0 1 2
unfolding gates_of
sum = refl

pub difference : gates_of op.Sub ≡ subtracting 0 1 2
unfolding gates_of
difference = refl

pub equal : gates_of op.Eq ≡ equating 0 1 2
unfolding gates_of
equal = refl

pub differing : gates_of op.Ne ≡ equating 0 1 2 ++ Flip 14 ∷ []
unfolding gates_of
differing = refl

pub below : gates_of op.Lt ≡ comparing 0 1 2
unfolding gates_of
below = refl

pub at_most : gates_of op.Le ≡ comparing 1 0 2 ++ Flip 28 ∷ []
unfolding gates_of
at_most = refl

pub lesser : gates_of op.Min ≡ comparing 0 1 2 ++ choosing 28 0 1 29
unfolding gates_of
lesser = refl

pub greater : gates_of op.Max ≡ comparing 0 1 2 ++ choosing 28 1 0 29
unfolding gates_of
greater = refl

pub choice : gates_of op.Mux ≡ choosing 0 1 2 3
unfolding gates_of
choice = refl

pub short : (o : Op) (gates : List Written) → gates_in gates ≡ gates_of o → IsTrue (circuit_serves o) → length gates ≤ 31
short o gates e can = circuit_short o can gates e
