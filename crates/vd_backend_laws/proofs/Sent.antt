-- How many words calls send.
use Rattle.std.proofs.Common.{◌≡◌, ℕ, ◌+◌, ◌*◌, nat_eq, Bool, true, false, if◌then◌else◌, List, [], ◌∷◌, ◌++◌, map, refl, ◌∙◌, arith}
use Rattle.vd_base.specs.declared.ids.HostId.{HostId}
use Rattle.vd_base.specs.declared.operations.Op.{Op}
use Rattle.vd_base.specs.declared.operations.Op.TheVariants as op
use Rattle.vd_execution.specs.declared.instructions.Reg.{Reg}
use Rattle.vd_execution.specs.Gadgets.{Sharing, BySums, ByXors, Gadget}
use Rattle.vd_duet.specs.Calls.{Places, Made}
use Rattle.vd_backend_sharing.specs.Gates.{Gate, And, Xor, Shl, Shr, Not, Flip, Lowest, Mask, gates_of}
use Rattle.vd_backend_sharing.specs.declared.shares.PartRegisters.{PartRegisters}
use Rattle.vd_backend_sharing.specs.PairCalls.{split_off, exchanged, shared_from, opened_by, shown_at, product_shares, shares_of, places_at, pair_calls}
use Rattle.vd_words.specs.AddCalls.{add_serves, add_apply}
use Rattle.vd_bits.specs.BitCalls.{gate_shares, gates_shares, circuit_shares, computed}
use Rattle.vd_circuit.specs.CircuitCalls.{circuit_serves}
use Rattle.vd_convert.specs.Convert.{masked_parts, drawn, finished}
use Rattle.vd_backend_laws.specs.Sent.{words_sent, PairSends, sum_words, products, bit_words, WordsAreSent}

sent_append : (gs hs : List Gadget) → words_sent (gs ++ hs) ≡ words_sent gs + words_sent hs
sent_append [] hs = omega arith
sent_append (g ∷ gs) hs = let e = sent_append gs hs in omega (arith, e)

product_sends : (s : Sharing) (a b : HostId) (x y : PartRegisters) (next : List ℕ) → words_sent (product_shares s a b x y next).gadgets ≡ 4
unfolding product_shares
product_sends s a b x y next = refl

gate_sends : (a b : HostId) (g : Gate) (words : List PartRegisters) (next : List ℕ) → words_sent (gate_shares a b g words next).gadgets ≡ 4 * products (g ∷ [])
gate_sends a b (And x y) words next = product_sends ByXors a b _ _ next
gate_sends a b (Xor x y) words next = refl
gate_sends a b (Shl k x) words next = refl
gate_sends a b (Shr k x) words next = refl
gate_sends a b (Not x) words next = refl
gate_sends a b (Flip x) words next = refl
gate_sends a b (Lowest x) words next = refl
gate_sends a b (Mask x) words next = refl

one_more : (g : Gate) (gates : List Gate) → products (g ∷ gates) ≡ products (g ∷ []) + products gates
one_more (And x y) gates = omega arith
one_more (Xor x y) gates = omega arith
one_more (Shl k x) gates = omega arith
one_more (Shr k x) gates = omega arith
one_more (Not x) gates = omega arith
one_more (Flip x) gates = omega arith
one_more (Lowest x) gates = omega arith
one_more (Mask x) gates = omega arith

gates_send : (a b : HostId) (gates : List Gate) (words : List PartRegisters) (next : List ℕ) → words_sent (gates_shares a b gates words next).gadgets ≡ 4 * products gates
gates_send a b [] words next = refl
gates_send a b (g ∷ gates) words next =
    let one : Made PartRegisters = gate_shares a b g words next in
    let rest : Made PartRegisters = gates_shares a b gates (words ++ one.given ∷ []) one.next in
    let e = sent_append one.gadgets rest.gadgets in
    let f = gate_sends a b g words next in
    let k = gates_send a b gates (words ++ one.given ∷ []) one.next in
    let n = one_more g gates in
    omega (arith, e, f, k, n)

-- the products of each circuit
many : (o : Op) → 4 * products (gates_of o) ≡ bit_words o
unfolding gates_of
many op.Add = refl
many op.Sub = refl
many op.And = refl
many op.Or = refl
many op.Xor = refl
many op.Not = refl
many op.Flip = refl
many (op.Shl k) = refl
many (op.Shr k) = refl
many op.Eq = refl
many op.Ne = refl
many op.Lt = refl
many op.Le = refl
many op.Min = refl
many op.Max = refl
many op.Mux = refl
many op.Mul = refl
many (op.Scale k) = refl
many op.Div = refl
many op.Rem = refl

circuit_sends : (a b : HostId) (o : Op) (xs : List Places) (next : List ℕ) → words_sent (circuit_shares a b o xs next).gadgets ≡ bit_words o
circuit_sends a b o xs next = gates_send a b (gates_of o) (map shares_of xs) next ∙ many o

share_sends : (s : Sharing) (a b from : HostId) (x : Reg) (next : List ℕ) → words_sent (shared_from s a b from x next).gadgets ≡ 1
share_sends s a b from x next = at (nat_eq from.0 a.0)
  where
    at : (same : Bool) → let made : Made PartRegisters = if same then split_off s a b x next else exchanged (split_off s b a x next) in words_sent made.gadgets ≡ 1
    at true = refl
    at false = refl

show_sends : (s : Sharing) (a b : HostId) (x : PartRegisters) (to : HostId) (next : List ℕ) → words_sent (shown_at s a b x to next).gadgets ≡ 1
show_sends s a b x to next = at (nat_eq to.0 a.0)
  where
    at : (same : Bool) → let made : Made Reg = if same then opened_by s b x.second a x.first next else opened_by s a x.first b x.second next in words_sent made.gadgets ≡ 1
    at true = refl
    at false = refl

pair_sends : (s : Sharing) (a b : HostId) (serves : Op → Bool) (apply : Op → List Places → List ℕ → Made PartRegisters) (applied : Op → ℕ)
    → ((o : Op) (xs : List Places) (next : List ℕ) → words_sent (apply o xs next).gadgets ≡ applied o) → PairSends (pair_calls s a b serves apply) applied
pair_sends s a b serves apply applied sends = record {
  literal = λ v next. refl;
  share = λ from x next. share_sends s a b from x next;
  adopt = λ x next. refl;
  keep = λ x next. refl;
  renew = λ kept x. refl;
  show = λ x to next. show_sends s a b (shares_of x) to next;
  show_all = λ x next. refl;
  apply = λ o xs next. sends o xs next;
}

add_sends : (a b : HostId) (o : Op) (xs : List Places) (next : List ℕ) → words_sent (add_apply a b o xs next).gadgets ≡ sum_words o
add_sends a b op.Add xs next = refl
add_sends a b op.Sub xs next = refl
add_sends a b op.Mul xs next = product_sends BySums a b _ _ next
add_sends a b (op.Scale k) xs next = refl
add_sends a b op.Div xs next = refl
add_sends a b op.Rem xs next = refl
add_sends a b op.And xs next = refl
add_sends a b op.Or xs next = refl
add_sends a b op.Xor xs next = refl
add_sends a b op.Not xs next = refl
add_sends a b op.Flip xs next = refl
add_sends a b (op.Shl k) xs next = refl
add_sends a b (op.Shr k) xs next = refl
add_sends a b op.Eq xs next = refl
add_sends a b op.Ne xs next = refl
add_sends a b op.Lt xs next = refl
add_sends a b op.Le xs next = refl
add_sends a b op.Min xs next = refl
add_sends a b op.Max xs next = refl
add_sends a b op.Mux xs next = refl

pub words_are_sent : WordsAreSent
words_are_sent = record {
  sums = λ a b. pair_sends BySums a b add_serves (add_apply a b) sum_words (add_sends a b);
  bits = λ a b. pair_sends ByXors a b circuit_serves (circuit_shares a b) bit_words (circuit_sends a b);
  to_bits = λ a b x next.
      let words = masked_parts a b (shares_of x) next in
      let xs : List Places = places_at a b words.given.0 ∷ places_at a b words.given.1 ∷ [] in
      let e = sent_append words.gadgets (computed a b op.Add xs words.next).gadgets in
      let first : words_sent words.gadgets ≡ 2 = refl in
      let last : words_sent (computed a b op.Add xs words.next).gadgets ≡ 40 = circuit_sends a b op.Add xs words.next in
      omega (arith, e, first, last);
  to_sums = λ a b x next.
      let pair = drawn a b (shares_of x) next in
      let xs : List Places = x ∷ places_at a b pair.given.1 ∷ [] in
      let rest : Made Places = computed a b op.Sub xs pair.next in
      let end : Made PartRegisters = finished a b (shares_of rest.given) pair.given.0 rest.next in
      let e = sent_append pair.gadgets (rest.gadgets ++ end.gadgets) in
      let f = sent_append rest.gadgets end.gadgets in
      let first : words_sent pair.gadgets ≡ 0 = refl in
      let middle : words_sent rest.gadgets ≡ 40 = circuit_sends a b op.Sub xs pair.next in
      let last : words_sent end.gadgets ≡ 2 = refl in
      omega (arith, e, f, first, middle, last);
  commit = λ p v x next. refl;
  reveal = λ p v held seen next. refl;
}
