-- Where circuits act.
use Rattle.std.proofs.Common.{◌≡◌, ℕ, nat_eq, Bool, true, false, ◌||◌, if◌then◌else◌, IsTrue, List, [], ◌∷◌, ◌++◌, map, refl, ap, ap₂, ◌∙◌}
use Rattle.std.specs.List.{list_any}
use Rattle.std.proofs.lemmas.List.Folds.{list_any-append}
use Rattle.vd_base.specs.declared.ids.HostId.{HostId}
use Rattle.vd_base.specs.declared.operations.Op.{Op}
use Rattle.vd_base.specs.declared.operations.Op.TheVariants as op
use Rattle.vd_base.specs.declared.protocols.Proto.TheVariants as proto
use Rattle.vd_execution.specs.declared.instructions.Binary.TheVariants as binary
use Rattle.vd_execution.specs.Gadgets.{ByXors}
use Rattle.vd_duet.specs.Calls.{Places}
use Rattle.vd_duet.specs.Acting.{is_either, acts_in, acts_at, is_negation, apply_at, ActsWhereItSays}
use Rattle.vd_backend_sharing.specs.Computing.{HasCircuit}
use Rattle.vd_backend_sharing.specs.Gates.{Gate, And, Xor, Shl, Shr, Not, Flip, Lowest, Mask, gates_of}
use Rattle.vd_backend_sharing.specs.declared.shares.PartRegisters.{PartRegisters}
use Rattle.vd_backend_sharing.specs.PairCalls.{shares_of, pair_calls}
use Rattle.vd_backend_sharing.proofs.Front.{applied_acts, numbered_acts, product_acts, pair_acts}
use Rattle.vd_bits.specs.BitCalls.{parts_at, gate_shares, gates_shares, circuit_shares, computed, bit_serves, bit_calls}
use Rattle.vd_bits.proofs.Lists.{bits_have}

-- by whether a host is the first, and whether it is the second
abbrev gate_at : Bool → Bool → Gate → Bool
gate_at p q (Not x) = p
gate_at p q (Flip x) = p
gate_at p q g = p || q

abbrev gates_at : Bool → Bool → List Gate → Bool
gates_at p q gates = list_any (gate_at p q) gates

both : (p q : Bool) → (p || (q || false)) ≡ (p || q)
both true q = refl
both false true = refl
both false false = refl

one : (p : Bool) → (p || (p || false)) ≡ p
one true = refl
one false = refl

four : (p q : Bool) → (p || (p || (p || (p || (q || (q || (q || (q || false)))))))) ≡ (p || q)
four true q = refl
four false true = refl
four false false = refl

module _ (a b : HostId) (h : ℕ) where
  gate_acts : (g : Gate) (words : List PartRegisters) (next : List ℕ) → acts_at (gate_shares a b g words next).gadgets h ≡ gate_at (nat_eq h a.0) (nat_eq h b.0) g
  gate_acts (And x y) words next = product_acts a b h ByXors (parts_at words x) (parts_at words y) next
  gate_acts (Xor x y) words next = applied_acts a b h binary.Xor (parts_at words x) (parts_at words y) next
  gate_acts (Shl k x) words next = both (nat_eq h a.0) (nat_eq h b.0)
  gate_acts (Shr k x) words next = both (nat_eq h a.0) (nat_eq h b.0)
  gate_acts (Not x) words next = one (nat_eq h a.0)
  gate_acts (Flip x) words next = one (nat_eq h a.0)
  gate_acts (Lowest x) words next = numbered_acts a b h binary.And 1 (parts_at words x) next
  gate_acts (Mask x) words next = four (nat_eq h a.0) (nat_eq h b.0)

  gates_act : (gates : List Gate) (words : List PartRegisters) (next : List ℕ)
      → acts_at (gates_shares a b gates words next).gadgets h ≡ gates_at (nat_eq h a.0) (nat_eq h b.0) gates
  gates_act [] words next = refl
  gates_act (g ∷ gates) words next =
      let made = gate_shares a b g words next in
      list_any-append (acts_in h) (gate_shares a b g words next).gadgets (gates_shares a b gates (words ++ (gate_shares a b g words next).given ∷ []) (gate_shares a b g words next).next).gadgets
      ∙ ap₂ (λ (x y : Bool). x || y) (gate_acts g words next)
      (gates_act gates (words ++ (gate_shares a b g words next).given ∷ []) (gate_shares a b g words next).next)

of_both : (gates : List Gate) → gates_at true true gates ≡ true → gates_at true false gates ≡ true → gates_at false true gates ≡ true → gates_at false false gates ≡ false
    → (p q : Bool) → gates_at p q gates ≡ (p || q)
of_both gates e f g k true true = e
of_both gates e f g k true false = f
of_both gates e f g k false true = g
of_both gates e f g k false false = k

of_first : (gates : List Gate) → gates_at true true gates ≡ true → gates_at true false gates ≡ true → gates_at false true gates ≡ false → gates_at false false gates ≡ false
    → (p q : Bool) → gates_at p q gates ≡ p
of_first gates e f g k true true = e
of_first gates e f g k true false = f
of_first gates e f g k false true = g
of_first gates e f g k false false = k

-- a negation is the first host's alone
circuit_at : (o : Op) → HasCircuit o → (p q : Bool) → gates_at p q (gates_of o) ≡ (if is_negation o then p else p || q)
unfolding gates_of
circuit_at op.Add has p q = of_both (gates_of op.Add) refl refl refl refl p q
circuit_at op.Sub has p q = of_both (gates_of op.Sub) refl refl refl refl p q
circuit_at op.Mul has p q = cc
circuit_at (op.Scale k) has p q = cc
circuit_at op.Div has p q = cc
circuit_at op.Rem has p q = cc
circuit_at op.And has p q = of_both (gates_of op.And) refl refl refl refl p q
circuit_at op.Or has p q = of_both (gates_of op.Or) refl refl refl refl p q
circuit_at op.Xor has p q = of_both (gates_of op.Xor) refl refl refl refl p q
circuit_at op.Not has p q = of_first (gates_of op.Not) refl refl refl refl p q
circuit_at op.Flip has p q = of_first (gates_of op.Flip) refl refl refl refl p q
circuit_at (op.Shl k) has p q = of_both (gates_of (op.Shl k)) refl refl refl refl p q
circuit_at (op.Shr k) has p q = of_both (gates_of (op.Shr k)) refl refl refl refl p q
circuit_at op.Eq has p q = of_both (gates_of op.Eq) refl refl refl refl p q
circuit_at op.Ne has p q = of_both (gates_of op.Ne) refl refl refl refl p q
circuit_at op.Lt has p q = of_both (gates_of op.Lt) refl refl refl refl p q
circuit_at op.Le has p q = of_both (gates_of op.Le) refl refl refl refl p q
circuit_at op.Min has p q = of_both (gates_of op.Min) refl refl refl refl p q
circuit_at op.Max has p q = of_both (gates_of op.Max) refl refl refl refl p q
circuit_at op.Mux has p q = of_both (gates_of op.Mux) refl refl refl refl p q

pub computed_acts : (a b : HostId) (o : Op) → HasCircuit o → (xs : List Places) (next : List ℕ) (h : ℕ)
    → acts_at (computed a b o xs next).gadgets h ≡ apply_at o (proto.Xor a b) h
computed_acts a b o has xs next h = gates_act a b h (gates_of o) (map shares_of xs) next ∙ circuit_at o has (nat_eq h a.0) (nat_eq h b.0)

-- of whatever operations with circuits are served
pub circuit_acts : (a b : HostId) (serves : Op → Bool) → ((o : Op) → IsTrue (serves o) → HasCircuit o)
    → ActsWhereItSays (pair_calls ByXors a b serves (circuit_shares a b))
circuit_acts a b serves have =
    pair_acts ByXors a b serves (circuit_shares a b)
    (λ o can xs next h. computed_acts a b o (have o can) xs next h)

pub bit_acts : (a b : HostId) → ActsWhereItSays (bit_calls a b)
bit_acts a b = circuit_acts a b bit_serves bits_have
