-- What two hosts do for words that they share, and for commitments.
use Rattle.std.proofs.Common.{ℕ, ◌≤◌, nat_eq, Bool, true, false, if◌then◌else◌, List, [], ◌∷◌, ◌++◌, map, lit≤}
use Rattle.vd_base.specs.declared.ids.HostId.{HostId}
use Rattle.vd_base.specs.declared.operations.Op.{Op}
use Rattle.vd_base.specs.declared.operations.Op.TheVariants as op
use Rattle.vd_execution.specs.declared.instructions.Reg.{Reg}
use Rattle.vd_execution.specs.declared.instructions.Binary.{Binary}
use Rattle.vd_execution.specs.declared.instructions.Binary.TheVariants as binary
use Rattle.vd_execution.specs.Gadgets.{Sharing, BySums, ByXors}
use Rattle.vd_duet.specs.Calls.{Places, Made}
use Rattle.vd_backend_sharing.specs.Gates.{Gate, And, Xor, Shl, Shr, Not, Flip, Lowest, Mask, gates_of}
use Rattle.vd_backend_sharing.specs.declared.shares.PartRegisters.{PartRegisters}
use Rattle.vd_backend_sharing.specs.PairCalls.{split_off, exchanged, shared_from, opened_by, shown_at, applied_shares, numbered_shares, product_shares, shares_of, places_at, operand, pair_calls}
use Rattle.vd_words.specs.AddCalls.{add_serves, add_apply, add_calls}
use Rattle.vd_bits.specs.BitCalls.{parts_at, turned_first, gate_shares, gates_shares, circuit_shares, computed}
use Rattle.vd_circuit.specs.CircuitCalls.{circuit_serves, circuit_calls}
use Rattle.vd_convert.specs.Convert.{masked_parts, to_xor_made, drawn, finished, to_add_made}
use Rattle.vd_commit.specs.Commit.{revealed}
use Rattle.vd_backend_laws.specs.Commits.{place, held_of, seen_of, taken_over, bound, shown_bound, commit_calls}
use Rattle.vd_projection.proofs.Gates.{gate_cost, gates_cost}
use Rattle.vd_projection.proofs.Counts.{one_grows, both_grow, Takes, takes_none, takes_more, takes_both, WordTakes, CallsTake, most_plain, most_applied, most_moved}

-- the gates of an operation
circuit_cost : (o : Op) → gates_cost (gates_of o) ≤ most_applied o
unfolding gates_of
circuit_cost op.Add = lit≤ tt
circuit_cost op.Sub = lit≤ tt
circuit_cost op.Mul = lit≤ tt
circuit_cost (op.Scale k) = lit≤ tt
circuit_cost op.Div = lit≤ tt
circuit_cost op.Rem = lit≤ tt
circuit_cost op.And = lit≤ tt
circuit_cost op.Or = lit≤ tt
circuit_cost op.Xor = lit≤ tt
circuit_cost op.Not = lit≤ tt
circuit_cost op.Flip = lit≤ tt
circuit_cost (op.Shl k) = lit≤ tt
circuit_cost (op.Shr k) = lit≤ tt
circuit_cost op.Eq = lit≤ tt
circuit_cost op.Ne = lit≤ tt
circuit_cost op.Lt = lit≤ tt
circuit_cost op.Le = lit≤ tt
circuit_cost op.Min = lit≤ tt
circuit_cost op.Max = lit≤ tt
circuit_cost op.Mux = lit≤ tt

sum_cost : gates_cost (gates_of op.Add) ≤ 314
unfolding gates_of
sum_cost = lit≤ tt

difference_cost : gates_cost (gates_of op.Sub) ≤ 318
unfolding gates_of
difference_cost = lit≤ tt

module _ (a b : HostId) where
  -- ---- gates

  product_takes : (s : Sharing) (x y : PartRegisters) (next : List ℕ) → let made = product_shares s a b x y next in Takes 28 next made.gadgets made.next
  unfolding product_shares
  product_takes s x y next = record { acts = lit≤ tt; registers = both_grow a b 15 13 next }

  applied_takes : (o : Binary) (x y : PartRegisters) (next : List ℕ) → let made = applied_shares o a b x y next in Takes 2 next made.gadgets made.next
  applied_takes o x y next = record { acts = lit≤ tt; registers = both_grow a b 1 1 next }

  numbered_takes : (o : Binary) (k : ℕ) (x : PartRegisters) (next : List ℕ) → let made = numbered_shares o k a b x next in Takes 4 next made.gadgets made.next
  numbered_takes o k x next = record { acts = lit≤ tt; registers = both_grow a b 2 2 next }

  turned_takes : (k : ℕ) (x : PartRegisters) (next : List ℕ) → let made = turned_first k a b x next in Takes 2 next made.gadgets made.next
  turned_takes k x next = record { acts = lit≤ tt; registers = one_grows a 2 next }

  gate_takes : (g : Gate) (words : List PartRegisters) (next : List ℕ) → let made = gate_shares a b g words next in Takes (gate_cost g) next made.gadgets made.next
  gate_takes (And x y) words next = product_takes ByXors (parts_at words x) (parts_at words y) next
  gate_takes (Xor x y) words next = applied_takes binary.Xor (parts_at words x) (parts_at words y) next
  gate_takes (Shl k x) words next = record { acts = lit≤ tt; registers = both_grow a b 1 1 next }
  gate_takes (Shr k x) words next = record { acts = lit≤ tt; registers = both_grow a b 1 1 next }
  gate_takes (Not x) words next = turned_takes 4294967295 (parts_at words x) next
  gate_takes (Flip x) words next = turned_takes 1 (parts_at words x) next
  gate_takes (Lowest x) words next = numbered_takes binary.And 1 (parts_at words x) next
  gate_takes (Mask x) words next = record { acts = lit≤ tt; registers = both_grow a b 4 4 next }

  gates_take : (gates : List Gate) (words : List PartRegisters) (next : List ℕ) → let made = gates_shares a b gates words next in Takes (gates_cost gates) next made.gadgets made.next
  gates_take [] words next = takes_none 0 next
  gates_take (g ∷ gates) words next =
      let one : Made PartRegisters = gate_shares a b g words next in
      let rest : Made PartRegisters = gates_shares a b gates (words ++ one.given ∷ []) one.next in
      takes_both (gate_cost g) (gates_cost gates) next one.gadgets one.next rest.gadgets rest.next (gate_takes g words next) (gates_take gates (words ++ one.given ∷ []) one.next)

  circuit_takes : (o : Op) (n : ℕ) → gates_cost (gates_of o) ≤ n → (words : List PartRegisters) (next : List ℕ)
      → let made = gates_shares a b (gates_of o) words next in Takes n next made.gadgets made.next
  circuit_takes o n few words next =
      let made : Made PartRegisters = gates_shares a b (gates_of o) words next in
      takes_more (gates_cost (gates_of o)) n next made.gadgets made.next few (gates_take (gates_of o) words next)

  -- ---- the other calls of a pair

  shared_takes : (s : Sharing) (from : HostId) (x : Reg) (next : List ℕ) → let made = shared_from s a b from x next in Takes 3 next made.gadgets made.next
  shared_takes s from x next = at (nat_eq from.0 a.0)
    where
      at : (z : Bool) → (let made : Made PartRegisters = if z then split_off s a b x next else exchanged (split_off s b a x next) in Takes 3 next made.gadgets made.next)
      at true = record { acts = lit≤ tt; registers = both_grow a b 2 1 next }
      at false = record { acts = lit≤ tt; registers = both_grow b a 2 1 next }

  shown_takes : (s : Sharing) (x : PartRegisters) (to : HostId) (next : List ℕ) → let made = shown_at s a b x to next in Takes 2 next made.gadgets made.next
  shown_takes s x to next = at (nat_eq to.0 a.0)
    where
      at : (z : Bool) → (let made : Made Reg = if z then opened_by s b x.second a x.first next else opened_by s a x.first b x.second next in Takes 2 next made.gadgets made.next)
      at true = record { acts = lit≤ tt; registers = one_grows a 2 next }
      at false = record { acts = lit≤ tt; registers = one_grows b 2 next }

  -- two parts, by a call that takes less than is allowed
  pair_word : (n most : ℕ) → n ≤ most → (made : Made PartRegisters) (next : List ℕ) → Takes n next made.gadgets made.next
      → WordTakes most next (record { given = places_at a b made.given; gadgets = made.gadgets; next = made.next })
  pair_word n most le made next f = record { takes = takes_more n most next made.gadgets made.next le f; given = lit≤ tt }

  pair_takes : (s : Sharing) (serves : Op → Bool) (apply : Op → List Places → List ℕ → Made PartRegisters)
      → ((o : Op) (xs : List Places) (next : List ℕ) → Takes (most_applied o) next (apply o xs next).gadgets (apply o xs next).next) → CallsTake (pair_calls s a b serves apply)
  pair_takes s serves apply law = record {
    literal = λ v next. record { takes = takes_more 2 most_plain next _ _ (lit≤ tt) (record { acts = lit≤ tt; registers = both_grow a b 1 1 next }); given = lit≤ tt };
    share = λ from x next. pair_word 3 most_plain (lit≤ tt) (shared_from s a b from x next) next (shared_takes s from x next);
    adopt = λ x next. record { takes = takes_more 1 most_plain next _ _ (lit≤ tt) (record { acts = lit≤ tt; registers = one_grows b 1 next }); given = lit≤ tt };
    show = λ x some to next.
        takes_more 2 most_plain next (shown_at s a b (shares_of x) to next).gadgets (shown_at s a b (shares_of x) to next).next (lit≤ tt) (shown_takes s (shares_of x) to next);
    show_all = λ x some next. record { takes = takes_more 4 most_plain next _ _ (lit≤ tt) (record { acts = lit≤ tt; registers = both_grow a b 2 2 next }); given = lit≤ tt };
    keep = λ x next. record { takes = takes_more 2 most_plain next _ _ (lit≤ tt) (record { acts = lit≤ tt; registers = both_grow a b 1 1 next }); given = lit≤ tt };
    renew = λ kept x some. lit≤ tt;
    apply = λ o xs next. record { takes = law o xs next; given = lit≤ tt };
  }

  added_takes : (o : Op) (xs : List Places) (next : List ℕ) → Takes (most_applied o) next (add_apply a b o xs next).gadgets (add_apply a b o xs next).next
  added_takes op.Add xs next = takes_more 2 360 next _ _ (lit≤ tt) (applied_takes binary.Add (operand xs 0) (operand xs 1) next)
  added_takes op.Sub xs next = takes_more 2 360 next _ _ (lit≤ tt) (applied_takes binary.Sub (operand xs 0) (operand xs 1) next)
  added_takes (op.Scale k) xs next = takes_more 4 360 next _ _ (lit≤ tt) (numbered_takes binary.Mul k (operand xs 0) next)
  added_takes op.Mul xs next = takes_more 28 360 next _ _ (lit≤ tt) (product_takes BySums (operand xs 0) (operand xs 1) next)
  added_takes o xs next = takes_none (most_applied o) next

  pub sums_take : CallsTake (add_calls a b)
  sums_take = pair_takes BySums add_serves (add_apply a b) added_takes

  pub circuits_take : CallsTake (circuit_calls a b)
  circuits_take = pair_takes ByXors circuit_serves (circuit_shares a b) (λ o xs next. circuit_takes o (most_applied o) (circuit_cost o) (map shares_of xs) next)

  -- ---- conversions

  pub to_bits_take : (x : Places) (next : List ℕ) → WordTakes most_moved next (to_xor_made a b x next)
  to_bits_take x next =
      let words : Made (PartRegisters × PartRegisters) = masked_parts a b (shares_of x) next in
      let parts : List Places = places_at a b words.given.0 ∷ places_at a b words.given.1 ∷ [] in
      let sum : Made Places = computed a b op.Add parts words.next in
      let one : Takes 6 next words.gadgets words.next = record { acts = lit≤ tt; registers = both_grow a b 3 3 next } in
      let two : Takes 314 words.next sum.gadgets sum.next = circuit_takes op.Add 314 sum_cost (map shares_of parts) words.next in
      record {
        takes = takes_more 320 most_moved next (words.gadgets ++ sum.gadgets) sum.next (lit≤ tt) (takes_both 6 314 next words.gadgets words.next sum.gadgets sum.next one two);
        given = lit≤ tt;
      }

  pub to_sums_take : (x : Places) (next : List ℕ) → WordTakes most_moved next (to_add_made a b x next)
  to_sums_take x next =
      let pair : Made (PartRegisters × PartRegisters) = drawn a b (shares_of x) next in
      let parts : List Places = x ∷ places_at a b pair.given.1 ∷ [] in
      let rest : Made Places = computed a b op.Sub parts pair.next in
      let end : Made PartRegisters = finished a b (shares_of rest.given) pair.given.0 rest.next in
      let one : Takes 4 next pair.gadgets pair.next = record { acts = lit≤ tt; registers = both_grow a b 2 2 next } in
      let two : Takes 318 pair.next rest.gadgets rest.next = circuit_takes op.Sub 318 difference_cost (map shares_of parts) pair.next in
      let three : Takes 5 rest.next end.gadgets end.next = record { acts = lit≤ tt; registers = both_grow a b 3 2 rest.next } in
      record {
        takes = takes_both 4 323 next pair.gadgets pair.next (rest.gadgets ++ end.gadgets) end.next one (takes_both 318 5 pair.next rest.gadgets rest.next end.gadgets end.next two three);
        given = lit≤ tt;
      }

  -- ---- commitments, the first host bound and the other told

  -- eight own words, their digest and a packet
  bound_takes : (x : Reg) (next : List ℕ) → WordTakes most_plain next (bound a b x next)
  bound_takes x next = record { takes = takes_more 24 most_plain next _ _ (lit≤ tt) (record { acts = lit≤ tt; registers = both_grow a b 16 8 next }); given = lit≤ tt }

  -- a packet, its digest and eight comparisons
  revealed_takes : (x : Places) (next : List ℕ) → let made = revealed a b (held_of x) (seen_of x) next in Takes most_plain next made.gadgets made.next
  revealed_takes x next = takes_more 17 most_plain next _ _ (lit≤ tt) (record { acts = lit≤ tt; registers = one_grows b 17 next })

  shown_bound_takes : (x : Places) (to : HostId) (next : List ℕ) → let made = shown_bound a b x to next in Takes most_plain next made.gadgets made.next
  shown_bound_takes x to next = at (nat_eq to.0 a.0)
    where
      at : (z : Bool) → (let made : Made Reg = if z then taken_over (place x 0) next else revealed a b (held_of x) (seen_of x) next in Takes most_plain next made.gadgets made.next)
      at true = takes_none most_plain next
      at false = revealed_takes x next

  pub commits_take : CallsTake (commit_calls a b)
  commits_take = record {
    literal = λ n next. record { takes = takes_none most_plain next; given = lit≤ tt };
    share = λ from x next. bound_takes x next;
    adopt = λ x next. record { takes = takes_none most_plain next; given = lit≤ tt };
    show = λ x some to next. shown_bound_takes x to next;
    show_all = λ x some next. record { takes = revealed_takes x next; given = lit≤ tt };
    keep = λ x next. record { takes = takes_none most_plain next; given = lit≤ tt };
    renew = λ kept x some. lit≤ tt;
    apply = λ o xs next. record { takes = takes_none (most_applied o) next; given = lit≤ tt };
  }
