-- Gates on words that two hosts share by exclusive or, one after the other, and the calls of two such hosts.
use Rattle.std.specs.Prelude.{ℕ, ◌+◌, ◌-◌, Bool, true, false, List, [], ◌∷◌, ◌++◌, length, map, slice_index, slice_index_or}
use Rattle.vd_base.specs.declared.ids.HostId.{HostId}
use Rattle.vd_base.specs.declared.operations.Op.{Op}
use Rattle.vd_base.specs.declared.operations.Op.TheVariants as op
use Rattle.vd_execution.specs.declared.instructions.Reg.{Reg}
use Rattle.vd_execution.specs.declared.instructions.Binary.TheVariants as binary
use Rattle.vd_execution.specs.declared.instructions.Action.TheVariants as action
use Rattle.vd_execution.specs.Gadgets.{ByXors, Gadget, Alone}
use Rattle.vd_execution.specs.Text.{register}
use Rattle.vd_duet.specs.Builder.{next_at, taken}
use Rattle.vd_duet.specs.Calls.{Places, Made, Calls}
use Rattle.vd_backend_sharing.specs.Gates.{Gate, And, Xor, Shl, Shr, Not, Flip, Lowest, Mask, gates_of}
use Rattle.vd_backend_sharing.specs.declared.shares.PartRegisters.{PartRegisters}
use Rattle.vd_backend_sharing.specs.PairCalls.{AreUnder, two, fresh_at, applied_shares, numbered_shares, product_shares, shares_of, at_hosts, pair_calls}
use Rattle.vd_bits.specs.declared.gates.Gate.{Gate as Written}
use Rattle.vd_bits.specs.declared.gates.Gate.TheVariants as gate

-- a gate of the code as one of a circuit
abbrev pub gate_of : Written → Gate
gate_of (gate.And x y) = And x y
gate_of (gate.Xor x y) = Xor x y
gate_of (gate.Shl amount x) = Shl amount x
gate_of (gate.Shr amount x) = Shr amount x
gate_of (gate.Not x) = Not x
gate_of (gate.Flip x) = Flip x
gate_of (gate.Lowest x) = Lowest x
gate_of (gate.Mask x) = Mask x

abbrev pub gates_in : List Written → List Gate
gates_in gates = map gate_of gates

-- the parts of the word at a place; one that is missing has the registers 0
abbrev pub parts_at : List PartRegisters → ℕ → PartRegisters
parts_at words place = slice_index_or words place (two 0 0)

-- room for the registers of a circuit
abbrev pub HasCircuitRoom : List ℕ → Type 0
HasCircuitRoom next = AreUnder 3999990000 next

-- ---- one gate

-- each host shifts its part
abbrev pub shifted_left : ℕ → HostId → HostId → PartRegisters → List ℕ → Made PartRegisters
shifted_left k a b x =
    fresh_at a 1 b 1 (λ n m. two n m)
    (λ n m. Alone a (action.Shl (register n) x.first k) ∷ Alone b (action.Shl (register m) x.second k) ∷ [])

abbrev pub shifted_right : ℕ → HostId → HostId → PartRegisters → List ℕ → Made PartRegisters
shifted_right k a b x =
    fresh_at a 1 b 1 (λ n m. two n m)
    (λ n m. Alone a (action.Shr (register n) x.first k) ∷ Alone b (action.Shr (register m) x.second k) ∷ [])

-- the first host turns the bits of a number in its part; the second keeps its part
abbrev pub turned_first : ℕ → HostId → HostId → PartRegisters → List ℕ → Made PartRegisters
turned_first k a b x next =
    let n : Reg = next_at next a in
    let turned : Reg = register (n.0 + 1) in
    record {
      given = record { first = turned; second = x.second };
      gadgets = Alone a (action.Const n k) ∷ Alone a (action.Apply binary.Xor turned x.first n) ∷ [];
      next = taken a 2 next;
    }

-- a host makes all bits of its part as the lowest: 0 less that bit
abbrev pub mask_at : HostId → Reg → ℕ → List Gadget
mask_at h x n =
    Alone h (action.Const (register n) 1) ∷ Alone h (action.Apply binary.And (register (n + 1)) (register n) x)
    ∷ Alone h (action.Const (register (n + 2)) 0) ∷ Alone h (action.Apply binary.Sub (register (n + 3)) (register (n + 2)) (register (n + 1))) ∷ []

abbrev pub masked_shares : HostId → HostId → PartRegisters → List ℕ → Made PartRegisters
masked_shares a b x = fresh_at a 4 b 4 (λ n m. two (n + 3) (m + 3)) (λ n m. mask_at a x.first n ++ mask_at b x.second m)

-- what a gate makes of the words that are there
abbrev pub gate_shares : HostId → HostId → Gate → List PartRegisters → List ℕ → Made PartRegisters
gate_shares a b (And x y) words next = product_shares ByXors a b (parts_at words x) (parts_at words y) next
gate_shares a b (Xor x y) words next = applied_shares binary.Xor a b (parts_at words x) (parts_at words y) next
gate_shares a b (Shl k x) words next = shifted_left k a b (parts_at words x) next
gate_shares a b (Shr k x) words next = shifted_right k a b (parts_at words x) next
gate_shares a b (Not x) words next = turned_first 4294967295 a b (parts_at words x) next
gate_shares a b (Flip x) words next = turned_first 1 a b (parts_at words x) next
gate_shares a b (Lowest x) words next = numbered_shares binary.And 1 a b (parts_at words x) next
gate_shares a b (Mask x) words next = masked_shares a b (parts_at words x) next

-- ---- gates one after the other

abbrev pub newest_of : List PartRegisters → PartRegisters
newest_of words = parts_at words (length words - 1)

-- what the last gate makes
abbrev pub gates_shares : HostId → HostId → List Gate → List PartRegisters → List ℕ → Made PartRegisters
gates_shares a b [] words next = record { given = newest_of words; gadgets = []; next = next }
gates_shares a b (g ∷ gates) words next =
    let one : Made PartRegisters = gate_shares a b g words next in
    let rest : Made PartRegisters = gates_shares a b gates (words ++ one.given ∷ []) one.next in
    record { given = rest.given; gadgets = one.gadgets ++ rest.gadgets; next = rest.next }

abbrev pub circuit_made : HostId → HostId → List Gate → List Places → List ℕ → Made Places
circuit_made a b gates xs next = at_hosts a b (gates_shares a b gates (map shares_of xs) next)

-- ---- as calls of a back end

-- the gates of an operation, of operands at the first places
abbrev pub circuit_shares : HostId → HostId → Op → List Places → List ℕ → Made PartRegisters
circuit_shares a b o xs next = gates_shares a b (gates_of o) (map shares_of xs) next

abbrev pub computed : HostId → HostId → Op → List Places → List ℕ → Made Places
computed a b o xs next = circuit_made a b (gates_of o) xs next

-- what goes bit by bit, or moves bits
abbrev pub bit_serves : Op → Bool
bit_serves op.And = true
bit_serves op.Or = true
bit_serves op.Xor = true
bit_serves op.Not = true
bit_serves op.Flip = true
bit_serves (op.Shl k) = true
bit_serves (op.Shr k) = true
bit_serves o = false

abbrev pub bit_calls : HostId → HostId → Calls
bit_calls a b = pair_calls ByXors a b bit_serves (circuit_shares a b)
