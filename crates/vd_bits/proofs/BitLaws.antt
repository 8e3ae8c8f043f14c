-- The circuit of each operation gives its result; the laws of the calls.
use Rattle.std.proofs.Common.{◌≡◌, ◌≢◌, ℕ, zero, suc, ◌+◌, ◌*◌, ◌^◌, ◌<◌, ◌≤◌, Bool, IsTrue, List, [], ◌∷◌, ◌⊎◌, inl, inr, length, map, refl, sym, subst, ap, ◌∙◌, arith, lit<, lit≤, bit_xor}
use Rattle.std.specs.Prelude.{slice_index, is_some}
use Rattle.std.proofs.lemmas.Nat.{xor_lt}
use Rattle.std.proofs.lemmas.List.{length-map}
use Rattle.vd_base.specs.declared.ids.HostId.{HostId}
use Rattle.vd_base.specs.declared.operations.Op.{Op}
use Rattle.vd_base.specs.declared.operations.Op.TheVariants as op
use Rattle.vd_base.specs.Arity.{arity}
use Rattle.vd_base.specs.Operations.{result_of}
use Rattle.vd_base.specs.Words.{IsWord}
use Rattle.vd_execution.specs.Joint.{Hosts}
use Rattle.vd_execution.specs.World.{Tape}
use Rattle.vd_execution.specs.Gadgets.{ByXors, IsSound}
use Rattle.vd_duet.specs.Builder.{most_taken}
use Rattle.vd_duet.specs.Calls.{Places, Made}
use Rattle.vd_duet.specs.Laws.{IsInOne, Gives, GivesWord, StandFor, Operands, IsReady, BackendLaws}
use Rattle.vd_duet.proofs.Front.{orderly_wider}
use Rattle.vd_backend_sharing.specs.Computing.{HasCircuit}
use Rattle.vd_backend_sharing.specs.Gates.{gates_of, after, newest}
use Rattle.vd_backend_sharing.proofs.Front.{gates_compute, in_order, few}
use Rattle.vd_backend_sharing.specs.declared.shares.PartRegisters.{PartRegisters}
use Rattle.vd_backend_sharing.specs.PairCalls.{shares_of, places_at, at_hosts, pair_calls}
use Rattle.vd_backend_sharing.proofs.Front.{parts_of, parts_named, pair_laws}
use Rattle.vd_bits.specs.BitCalls.{gates_shares, circuit_shares, bit_serves, bit_calls}
use Rattle.vd_bits.proofs.Places.{AreParts, AreFrom, same_count, from_wider}
use Rattle.vd_bits.proofs.Lists.{bits_have}
use Rattle.vd_bits.proofs.CircuitGives.{steps, steps_are, gates_give}

parts_are_words : (a b : HostId) (next : List ℕ) (w : Hosts) → IsSound w → (xs : List PartRegisters) (vs : List ℕ) → AreParts a b next w xs vs → (i : ℕ) → IsWord (slice_index vs i)
parts_are_words a b next w sound [] [] p i = lit< tt
parts_are_words a b next w sound (x ∷ xs) (v ∷ vs) p zero =
    subst (λ (z : ℕ). z < 2 ^ 32) p.0.word (xor_lt 32 ((w a.0).registers x.first.0) ((w b.0).registers x.second.0) (sound.words a.0 x.first.0) (sound.words b.0 x.second.0))
parts_are_words a b next w sound (x ∷ xs) (v ∷ vs) p (suc i) = parts_are_words a b next w sound xs vs p.1 i
parts_are_words a b next w sound [] (v ∷ vs) p i = absurd p
parts_are_words a b next w sound (x ∷ xs) [] p i = absurd p

module _ (a b : HostId) (serves : Op → Bool) (apply : Op → List Places → List ℕ → Made PartRegisters) (next : List ℕ) (w : Hosts) where
  operands_parts : (xs : List Places) (vs : List ℕ) → Operands (pair_calls ByXors a b serves apply) next w xs vs → AreParts a b next w (map shares_of xs) vs
  operands_parts [] [] o = tt
  operands_parts (x ∷ xs) (v ∷ vs) o = (parts_of a b serves apply ByXors next w x v o.0, operands_parts xs vs o.1)
  operands_parts [] (v ∷ vs) o = absurd o
  operands_parts (x ∷ xs) [] o = absurd o

  operands_from : (xs : List Places) (vs : List ℕ) → Operands (pair_calls ByXors a b serves apply) next w xs vs → AreFrom (IsInOne xs) a b (map shares_of xs)
  operands_from [] [] o = tt
  operands_from (x ∷ xs) (v ∷ vs) o =
      let named = parts_named a b serves apply ByXors next w x v o.0 in
      ((inl named.0, inl named.1), from_wider (IsInOne xs) (IsInOne (x ∷ xs)) a b (map shares_of xs) (λ h r i. inr i) (operands_from xs vs o.1))
  operands_from [] (v ∷ vs) o = absurd o
  operands_from (x ∷ xs) [] o = absurd o

pub gives_wider : {made : Made Places} (count count' : ℕ) (t : Tape) (next : List ℕ) (source : ℕ → ℕ → Type 0) (w : Hosts) (P : Hosts → Type 0)
    → count ≤ count' → Gives count t next source made w P → Gives count' t next source made w P
gives_wider {made = made} count count' t next source w P more g =
    record { orderly = orderly_wider count count' next source source made more (λ h r s. s) g.orderly; reached = g.reached; leads = g.leads; is = g.is }

-- whatever two hosts that share by exclusive or serve
module _ (a b : HostId) (apart : a.0 ≢ b.0) (serves : Op → Bool) (apply : Op → List Places → List ℕ → Made PartRegisters) (t : Tape) (next : List ℕ) (w : Hosts)
    (ready : IsReady (pair_calls ByXors a b serves apply) t next w) (o : Op) (has : HasCircuit o) (xs : List Places) (vs : List ℕ) (count : length xs ≡ arity o)
    (os : Operands (pair_calls ByXors a b serves apply) next w xs vs) where
  pub circuit_gives_few : Gives 1024 t next (IsInOne xs) (at_hosts a b (circuit_shares a b o xs next)) w
      (λ u. StandFor (pair_calls ByXors a b serves apply) u (places_at a b (circuit_shares a b o xs next).given) (result_of o vs))
  circuit_gives_few =
      let parts : AreParts a b next w (map shares_of xs) vs = operands_parts a b serves apply next w xs vs os in
      let short = few o has in
      let words : length (map shares_of xs) ≡ length xs = length-map xs shares_of in
      let all : length vs ≡ arity o = sym (same_count a b next w (map shares_of xs) vs parts) ∙ words ∙ count in
      let is : newest (after (gates_of o) vs) ≡ result_of o vs = (gates_compute o vs has all (parts_are_words a b next w ready.sound (map shares_of xs) vs parts)).0 in
      let taken : steps (gates_of o) ≡ 32 * length (gates_of o) = steps_are (gates_of o) in
      subst (λ (v : ℕ). Gives 1024 t next (IsInOne xs) (at_hosts a b (circuit_shares a b o xs next)) w
      (λ u. StandFor (pair_calls ByXors a b serves apply) u (places_at a b (circuit_shares a b o xs next).given) v)) is
      (gives_wider (steps (gates_of o)) 1024 t next (IsInOne xs) w
      (λ u. StandFor (pair_calls ByXors a b serves apply) u (places_at a b (circuit_shares a b o xs next).given) (newest (after (gates_of o) vs)))
      (let k = short.1 in omega (arith, k, taken))
      (gates_give a b apart serves apply t (gates_of o) next w ready (IsInOne xs) (map shares_of xs) vs parts (operands_from a b serves apply next w xs vs os)
      (let k = short.0 in omega (arith, k)) (arity o) (sym (words ∙ count)) (in_order o)))

  pub circuit_gives : GivesWord (pair_calls ByXors a b serves apply) t next (IsInOne xs) (at_hosts a b (circuit_shares a b o xs next)) w (result_of o vs)
  circuit_gives =
      gives_wider 1024 most_taken t next (IsInOne xs) w
      (λ u. StandFor (pair_calls ByXors a b serves apply) u (places_at a b (circuit_shares a b o xs next).given) (result_of o vs)) (lit≤ tt) circuit_gives_few

-- the laws, of whatever operations with circuits are served
pub circuit_laws : (a b : HostId) → a.0 ≢ b.0 → (serves : Op → Bool) → ((o : Op) → IsTrue (serves o) → HasCircuit o)
    → BackendLaws (pair_calls ByXors a b serves (circuit_shares a b))
circuit_laws a b apart serves have =
    pair_laws ByXors a b apart serves (circuit_shares a b)
    (λ t next w ready o can fits xs vs count os. circuit_gives a b apart serves (circuit_shares a b) t next w ready o (have o can) xs vs count os)

pub bit_laws : (a b : HostId) → a.0 ≢ b.0 → BackendLaws (bit_calls a b)
bit_laws a b apart = circuit_laws a b apart bit_serves bits_have
