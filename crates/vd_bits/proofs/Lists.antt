-- Lists of gates in code.
use Rattle.std.proofs.Common.{◌≡◌, ℕ, ◌≤◌, IsTrue, List, [], ◌∷◌, ◌++◌, length, map, refl, sym, ap, subst, ◌∙◌, arith, append_assoc}
use Rattle.std.proofs.lemmas.List.{map-append, length-map}
use Rattle.vd_base.specs.declared.operations.Op.{Op}
use Rattle.vd_base.specs.declared.operations.Op.TheVariants as op
use Rattle.vd_backend_sharing.specs.Computing.{HasCircuit}
use Rattle.vd_backend_sharing.specs.Gates.{Gate, adding, subtracting, gates_of}
use Rattle.vd_backend_sharing.proofs.Front.{few}
use Rattle.vd_bits.specs.declared.gates.Gate.{Gate as Written}
use Rattle.vd_bits.specs.BitCalls.{gate_of, gates_in, bit_serves}

pub gates_append : (xs ys : List Written) → gates_in (xs ++ ys) ≡ gates_in xs ++ gates_in ys
gates_append xs ys = map-append gate_of xs ys

pub circuit_short : (o : Op) → HasCircuit o → (gates : List Written) → gates_in gates ≡ gates_of o → length gates ≤ 31
circuit_short o has gates e =
    let l = few o has in
    let m = l.1 in
    let k : length (gates_in gates) ≡ length gates = length-map gates gate_of in
    let n : length (gates_in gates) ≡ length (gates_of o) = ap length e in
    omega (arith, m, k, n)

-- each operation that goes bit by bit or moves bits has a circuit
pub bits_have : (o : Op) → IsTrue (bit_serves o) → HasCircuit o
bits_have op.Add can = cc
bits_have op.Sub can = cc
bits_have op.Mul can = cc
bits_have (op.Scale k) can = cc
bits_have op.Div can = cc
bits_have op.Rem can = cc
bits_have op.And can = refl
bits_have op.Or can = refl
bits_have op.Xor can = refl
bits_have op.Not can = refl
bits_have op.Flip can = refl
bits_have (op.Shl k) can = refl
bits_have (op.Shr k) can = refl
bits_have op.Eq can = cc
bits_have op.Ne can = cc
bits_have op.Lt can = cc
bits_have op.Le can = cc
bits_have op.Min can = cc
bits_have op.Max can = cc
bits_have op.Mux can = cc

pub bits_short : (o : Op) (gates : List Written) → IsTrue (bit_serves o) → gates_in gates ≡ gates_of o → length gates ≤ 31
bits_short o gates can e = circuit_short o (bits_have o can) gates e

pub sum_is : gates_of op.Add ≡ adding 0 1 2
unfolding gates_of
sum_is = refl

pub difference_is : gates_of op.Sub ≡ subtracting 0 1 2
unfolding gates_of
difference_is = refl

pub sum_short : (gates : List Written) → gates_in gates ≡ gates_of op.Add → length gates ≤ 31
sum_short gates e = circuit_short op.Add refl gates e

pub difference_short : (gates : List Written) → gates_in gates ≡ gates_of op.Sub → length gates ≤ 31
difference_short gates e = circuit_short op.Sub refl gates e

module _ (start : List Written) where
  pub on : (xs ys : List Written) (gs : List Gate) → gates_in xs ≡ gates_in start ++ gs → (lits : List Written) → ys ≡ xs ++ lits
      → gates_in ys ≡ gates_in start ++ (gs ++ gates_in lits)
  on xs ys gs e lits f =
      ap gates_in f ∙ gates_append xs lits ∙ ap (λ (l : List Gate). l ++ gates_in lits) e ∙ append_assoc (gates_in start) gs (gates_in lits)

  pub more : (xs ys : List Written) (gs hs : List Gate) → gates_in xs ≡ gates_in start ++ gs → gates_in ys ≡ gates_in xs ++ hs
      → gates_in ys ≡ gates_in start ++ (gs ++ hs)
  more xs ys gs hs e f = f ∙ ap (λ (l : List Gate). l ++ hs) e ∙ append_assoc (gates_in start) gs hs

  -- literal gates, then four groups, then literal gates
  pub six_pieces : (xs a b c d zs : List Written) (first last : List Written) (g1 g2 g3 g4 : List Gate) → xs ≡ start ++ first
      → gates_in a ≡ gates_in xs ++ g1 → gates_in b ≡ gates_in a ++ g2 → gates_in c ≡ gates_in b ++ g3 → gates_in d ≡ gates_in c ++ g4 → zs ≡ d ++ last
      → gates_in zs ≡ gates_in start ++ (((((gates_in first ++ g1) ++ g2) ++ g3) ++ g4) ++ gates_in last)
  six_pieces xs a b c d zs first last g1 g2 g3 g4 e f g h i j =
      on d zs ((((gates_in first ++ g1) ++ g2) ++ g3) ++ g4)
      (more c d (((gates_in first ++ g1) ++ g2) ++ g3) g4
      (more b c ((gates_in first ++ g1) ++ g2) g3
      (more a b (gates_in first ++ g1) g2
      (more xs a (gates_in first) g1 (ap gates_in e ∙ gates_append start first) f) g) h) i) last j

  -- literal gates, a group, literal gates
  pub three_pieces : (xs a zs : List Written) (first last : List Written) (g : List Gate) → xs ≡ start ++ first → gates_in a ≡ gates_in xs ++ g → zs ≡ a ++ last
      → gates_in zs ≡ gates_in start ++ ((gates_in first ++ g) ++ gates_in last)
  three_pieces xs a zs first last g e f h =
      on a zs (gates_in first ++ g) (more xs a (gates_in first) g (ap gates_in e ∙ gates_append start first) f) last h
