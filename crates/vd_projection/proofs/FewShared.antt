-- What two hosts do for words that they share is few gadgets.
use Rattle.std.proofs.Common.{◌≡◌, ℕ, ◌+◌, ◌≤◌, nat_eq, nat_lt, Bool, true, false, if◌then◌else◌, List, [], ◌∷◌, ◌++◌, map, refl, lit≤}
use Rattle.std.specs.List.{list_all}
use Rattle.vd_base.specs.declared.ids.HostId.{HostId}
use Rattle.vd_base.specs.declared.operations.Op.{Op}
use Rattle.vd_base.specs.declared.operations.Op.TheVariants as op
use Rattle.vd_core.specs.Facts.{amount_fits}
use Rattle.vd_execution.specs.declared.instructions.Reg.{Reg}
use Rattle.vd_execution.specs.declared.instructions.Binary.TheVariants as binary
use Rattle.vd_execution.specs.Gadgets.{Sharing, BySums, ByXors}
use Rattle.vd_duet.specs.Calls.{Places, Made}
use Rattle.vd_backend_sharing.specs.Gates.{Gate, And, Xor, Shl, Shr, Not, Flip, Lowest, Mask, gates_of}
use Rattle.vd_backend_sharing.specs.declared.shares.PartRegisters.{PartRegisters}
use Rattle.vd_backend_sharing.specs.PairCalls.{split_off, exchanged, shared_from, opened_by, shown_at, applied_shares, product_shares, shares_of, places_at, operand, pair_calls}
use Rattle.vd_words.specs.AddCalls.{add_serves, add_apply, add_calls}
use Rattle.vd_bits.specs.BitCalls.{parts_at, turned_first, gate_shares, gates_shares, circuit_shares, computed}
use Rattle.vd_circuit.specs.CircuitCalls.{circuit_serves, circuit_calls}
use Rattle.vd_convert.specs.Convert.{masked_parts, to_xor_made, drawn, finished, to_add_made}
use Rattle.vd_split.proofs.Front.{and_left, and_right}
use Rattle.vd_projection.proofs.Numbers.{below, is_below, both, shift_below}
use Rattle.vd_projection.proofs.Few.{AreFew, few_none, few_more, few_both}
use Rattle.vd_projection.proofs.FewClear.{most_gadgets, WordFew, CallsAreFew}

-- ---- gates

-- a gate shifts by less than 32 bits
abbrev gate_fits : Gate → Bool
gate_fits (And x y) = true
gate_fits (Xor x y) = true
gate_fits (Shl k x) = nat_lt k 32
gate_fits (Shr k x) = nat_lt k 32
gate_fits (Not x) = true
gate_fits (Flip x) = true
gate_fits (Lowest x) = true
gate_fits (Mask x) = true

gates_fit : (o : Op) → amount_fits o ≡ true → list_all gate_fits (gates_of o) ≡ true
unfolding gates_of
gates_fit op.Add e = refl
gates_fit op.Sub e = refl
gates_fit op.Mul e = refl
gates_fit (op.Scale k) e = refl
gates_fit op.Div e = refl
gates_fit op.Rem e = refl
gates_fit op.And e = refl
gates_fit op.Or e = refl
gates_fit op.Xor e = refl
gates_fit op.Not e = refl
gates_fit op.Flip e = refl
gates_fit (op.Shl k) e = both (nat_lt k 32) true (is_below k 32 (shift_below k e)) refl
gates_fit (op.Shr k) e = both (nat_lt k 32) true (is_below k 32 (shift_below k e)) refl
gates_fit op.Eq e = refl
gates_fit op.Ne e = refl
gates_fit op.Lt e = refl
gates_fit op.Le e = refl
gates_fit op.Min e = refl
gates_fit op.Max e = refl
gates_fit op.Mux e = refl

-- the lines of a gate, at most
abbrev gate_bulk : Gate → ℕ
gate_bulk (And x y) = 24
gate_bulk (Xor x y) = 2
gate_bulk (Shl k x) = 2
gate_bulk (Shr k x) = 2
gate_bulk (Not x) = 2
gate_bulk (Flip x) = 2
gate_bulk (Lowest x) = 4
gate_bulk (Mask x) = 8

abbrev gates_bulk : List Gate → ℕ
gates_bulk [] = 0
gates_bulk (g ∷ gates) = gate_bulk g + gates_bulk gates

few_gates : (o : Op) → gates_bulk (gates_of o) ≤ 320
unfolding gates_of
few_gates op.Add = lit≤ tt
few_gates op.Sub = lit≤ tt
few_gates op.Mul = lit≤ tt
few_gates (op.Scale k) = lit≤ tt
few_gates op.Div = lit≤ tt
few_gates op.Rem = lit≤ tt
few_gates op.And = lit≤ tt
few_gates op.Or = lit≤ tt
few_gates op.Xor = lit≤ tt
few_gates op.Not = lit≤ tt
few_gates op.Flip = lit≤ tt
few_gates (op.Shl k) = lit≤ tt
few_gates (op.Shr k) = lit≤ tt
few_gates op.Eq = lit≤ tt
few_gates op.Ne = lit≤ tt
few_gates op.Lt = lit≤ tt
few_gates op.Le = lit≤ tt
few_gates op.Min = lit≤ tt
few_gates op.Max = lit≤ tt
few_gates op.Mux = lit≤ tt

module _ (a b : HostId) where
  product_few : (s : Sharing) (x y : PartRegisters) (next : List ℕ) → AreFew 24 (product_shares s a b x y next).gadgets
  unfolding product_shares
  product_few s x y next = record { small = (tt, (tt, (tt, (tt, (tt, (tt, (tt, (tt, (tt, (tt, (tt, (tt, (tt, (tt, (tt, tt))))))))))))))); few = lit≤ tt; lines = lit≤ tt }

  applied_few : (x y : PartRegisters) (next : List ℕ) → AreFew 2 (applied_shares binary.Xor a b x y next).gadgets
  applied_few x y next = record { small = (tt, (tt, tt)); few = lit≤ tt; lines = lit≤ tt }

  turned_few : (k : ℕ) (x : PartRegisters) (next : List ℕ) → AreFew 2 (turned_first k a b x next).gadgets
  turned_few k x next = record { small = (tt, (tt, tt)); few = lit≤ tt; lines = lit≤ tt }

  gate_few : (g : Gate) → gate_fits g ≡ true → (words : List PartRegisters) (next : List ℕ) → AreFew (gate_bulk g) (gate_shares a b g words next).gadgets
  gate_few (And x y) e words next = product_few ByXors (parts_at words x) (parts_at words y) next
  gate_few (Xor x y) e words next = applied_few (parts_at words x) (parts_at words y) next
  gate_few (Shl k x) e words next = let lt = below k 32 e in record { small = (lt, (lt, tt)); few = lit≤ tt; lines = lit≤ tt }
  gate_few (Shr k x) e words next = let lt = below k 32 e in record { small = (lt, (lt, tt)); few = lit≤ tt; lines = lit≤ tt }
  gate_few (Not x) e words next = turned_few 4294967295 (parts_at words x) next
  gate_few (Flip x) e words next = turned_few 1 (parts_at words x) next
  gate_few (Lowest x) e words next = record { small = (tt, (tt, (tt, (tt, tt)))); few = lit≤ tt; lines = lit≤ tt }
  gate_few (Mask x) e words next = record { small = (tt, (tt, (tt, (tt, (tt, (tt, (tt, (tt, tt)))))))); few = lit≤ tt; lines = lit≤ tt }

  gates_few : (gates : List Gate) → list_all gate_fits gates ≡ true → (words : List PartRegisters) (next : List ℕ) → AreFew (gates_bulk gates) (gates_shares a b gates words next).gadgets
  gates_few [] e words next = few_none 0
  gates_few (g ∷ gates) e words next =
      let one : Made PartRegisters = gate_shares a b g words next in
      let rest : Made PartRegisters = gates_shares a b gates (words ++ one.given ∷ []) one.next in
      few_both (gate_bulk g) (gates_bulk gates) one.gadgets rest.gadgets (gate_few g (and_left (gate_fits g) (list_all gate_fits gates) e) words next)
      (gates_few gates (and_right (gate_fits g) (list_all gate_fits gates) e) (words ++ one.given ∷ []) one.next)

  circuit_few : (o : Op) → amount_fits o ≡ true → (words : List PartRegisters) (next : List ℕ) → AreFew 320 (gates_shares a b (gates_of o) words next).gadgets
  circuit_few o e words next = few_more (gates_bulk (gates_of o)) 320 (gates_shares a b (gates_of o) words next).gadgets (few_gates o) (gates_few (gates_of o) (gates_fit o e) words next)

  -- ---- the other calls

  shared_few : (s : Sharing) (from : HostId) (x : Reg) (next : List ℕ) → AreFew 4 (shared_from s a b from x next).gadgets
  shared_few s from x next = at (nat_eq from.0 a.0)
    where
      at : (z : Bool) → (let made : Made PartRegisters = if z then split_off s a b x next else exchanged (split_off s b a x next) in AreFew 4 made.gadgets)
      at true = record { small = (tt, (tt, tt)); few = lit≤ tt; lines = lit≤ tt }
      at false = record { small = (tt, (tt, tt)); few = lit≤ tt; lines = lit≤ tt }

  shown_few : (s : Sharing) (x : PartRegisters) (to : HostId) (next : List ℕ) → AreFew 4 (shown_at s a b x to next).gadgets
  shown_few s x to next = at (nat_eq to.0 a.0)
    where
      at : (z : Bool) → (let made : Made Reg = if z then opened_by s b x.second a x.first next else opened_by s a x.first b x.second next in AreFew 4 made.gadgets)
      at true = record { small = (tt, (tt, tt)); few = lit≤ tt; lines = lit≤ tt }
      at false = record { small = (tt, (tt, tt)); few = lit≤ tt; lines = lit≤ tt }

  pair_few : (s : Sharing) (serves : Op → Bool) (apply : Op → List Places → List ℕ → Made PartRegisters)
      → ((o : Op) → amount_fits o ≡ true → (xs : List Places) (next : List ℕ) → AreFew 320 (apply o xs next).gadgets) → CallsAreFew (pair_calls s a b serves apply)
  pair_few s serves apply law = record {
    literal = λ v next. record { gadgets = record { small = (tt, (tt, tt)); few = lit≤ tt; lines = lit≤ tt }; given = lit≤ tt };
    share = λ from x next. record { gadgets = few_more 4 most_gadgets (shared_from s a b from x next).gadgets (lit≤ tt) (shared_few s from x next); given = lit≤ tt };
    adopt = λ x next. record { gadgets = record { small = (tt, tt); few = lit≤ tt; lines = lit≤ tt }; given = lit≤ tt };
    show = λ x some to next. few_more 4 most_gadgets (shown_at s a b (shares_of x) to next).gadgets (lit≤ tt) (shown_few s (shares_of x) to next);
    show_all = λ x some next. record { gadgets = record { small = (tt, (tt, (tt, (tt, tt)))); few = lit≤ tt; lines = lit≤ tt }; given = lit≤ tt };
    keep = λ x next. record { gadgets = record { small = (tt, (tt, tt)); few = lit≤ tt; lines = lit≤ tt }; given = lit≤ tt };
    renew = λ kept x some. record { small = (tt, (tt, tt)); few = lit≤ tt; lines = lit≤ tt };
    apply = λ o e xs next. record { gadgets = few_more 320 most_gadgets (apply o xs next).gadgets (lit≤ tt) (law o e xs next); given = lit≤ tt };
  }

  added_few : (o : Op) → amount_fits o ≡ true → (xs : List Places) (next : List ℕ) → AreFew 320 (add_apply a b o xs next).gadgets
  added_few op.Add e xs next = record { small = (tt, (tt, tt)); few = lit≤ tt; lines = lit≤ tt }
  added_few op.Sub e xs next = record { small = (tt, (tt, tt)); few = lit≤ tt; lines = lit≤ tt }
  added_few (op.Scale k) e xs next = record { small = (tt, (tt, (tt, (tt, tt)))); few = lit≤ tt; lines = lit≤ tt }
  added_few op.Mul e xs next = few_more 24 320 (product_shares BySums a b (operand xs 0) (operand xs 1) next).gadgets (lit≤ tt) (product_few BySums (operand xs 0) (operand xs 1) next)
  added_few o e xs next = few_none 320

  pub sums_few : CallsAreFew (add_calls a b)
  sums_few = pair_few BySums add_serves (add_apply a b) added_few

  pub circuits_few : CallsAreFew (circuit_calls a b)
  circuits_few = pair_few ByXors circuit_serves (circuit_shares a b) (λ o e xs next. circuit_few o e (map shares_of xs) next)

  -- ---- conversions

  pub to_bits_few : (x : Places) (next : List ℕ) → WordFew (to_xor_made a b x next)
  to_bits_few x next =
      let words : Made (PartRegisters × PartRegisters) = masked_parts a b (shares_of x) next in
      let parts : List Places = places_at a b words.given.0 ∷ places_at a b words.given.1 ∷ [] in
      let sum : Made Places = computed a b op.Add parts words.next in
      let one : AreFew 6 words.gadgets = record { small = (tt, (tt, (tt, tt))); few = lit≤ tt; lines = lit≤ tt } in
      record {
        gadgets = few_more 326 most_gadgets (words.gadgets ++ sum.gadgets) (lit≤ tt) (few_both 6 320 words.gadgets sum.gadgets one (circuit_few op.Add refl (map shares_of parts) words.next));
        given = lit≤ tt;
      }

  pub to_sums_few : (x : Places) (next : List ℕ) → WordFew (to_add_made a b x next)
  to_sums_few x next =
      let pair : Made (PartRegisters × PartRegisters) = drawn a b (shares_of x) next in
      let parts : List Places = x ∷ places_at a b pair.given.1 ∷ [] in
      let rest : Made Places = computed a b op.Sub parts pair.next in
      let end : Made PartRegisters = finished a b (shares_of rest.given) pair.given.0 rest.next in
      let one : AreFew 2 pair.gadgets = record { small = (tt, tt); few = lit≤ tt; lines = lit≤ tt } in
      let last : AreFew 7 end.gadgets = record { small = (tt, (tt, (tt, (tt, (tt, tt))))); few = lit≤ tt; lines = lit≤ tt } in
      record {
        gadgets = few_more 329 most_gadgets (pair.gadgets ++ (rest.gadgets ++ end.gadgets)) (lit≤ tt)
            (few_both 2 327 pair.gadgets (rest.gadgets ++ end.gadgets) one
            (few_both 320 7 rest.gadgets end.gadgets (circuit_few op.Sub refl (map shares_of parts) pair.next) last));
        given = lit≤ tt;
      }
