-- What the shifts that come to amounts take from arcs.
use Rattle.std.proofs.Common.{◌≡◌, ℕ, zero, suc, ◌+◌, add-one, ◌<◌, Bool, true, false, ◌&&◌, List, get_or, inl, inr, refl, sym, ap, ◌∙◌, arith, ℤ, pos, negsuc, ◌+ℤ◌}
use Rattle.std.specs.Prelude.{◌==◌, ◌≢◌, if◌then◌else◌}
use Rattle.std.specs.List.{flat_map, range_with_len}
use Rattle.std.proofs.lemmas.Bool.{and_from, cases_eq, cond-true, cond-false, eq-eqb, ne_eqb}
use Rattle.std.proofs.lemmas.Int.{ints}
use Rattle.vd_search_tree.specs.declared.shift.Shift.{Shift}
use Rattle.vd_space.specs.Bounds.{use_shift}
use Rattle.vd_space.specs.Costs.{total}
use Rattle.vd_space.proofs.Front.{total_append}
use Rattle.vd_cost_network_ascent.specs.Shifts.{arc_shifts, net_shifts, row_shifts, shift_to}
use Rattle.vd_cost_network_ascent.proofs.Making.{flat_more}

-- ---- of lists by number one alone counts

more : (P : Shift → ℤ) (f : ℕ → List Shift) (n : ℕ) → total P (flat_map f (range_with_len 0 (suc n))) ≡ total P (flat_map f (range_with_len 0 n)) +ℤ total P (f n)
more P f n = ap (λ k. total P (flat_map f (range_with_len 0 k))) (sym (add-one n)) ∙ ap (total P) (flat_more f n) ∙ total_append P (flat_map f (range_with_len 0 n)) (f n)

none : (P : Shift → ℤ) (f : ℕ → List Shift) (n : ℕ) → ((k : ℕ) → k < n → total P (f k) ≡ pos 0) → total P (flat_map f (range_with_len 0 n)) ≡ pos 0
none P f zero all = refl
none P f (suc n) all =
    let rest = none P f n (λ k low. all k (omega arith)) in
    let here = all n (omega arith) in
    let both = more P f n in
    omega (arith, ints, rest, here, both)

alone : (P : Shift → ℤ) (f : ℕ → List Shift) (at n : ℕ) → ((k : ℕ) → k ≢ at → total P (f k) ≡ pos 0) → at < n → total P (flat_map f (range_with_len 0 n)) ≡ total P (f at)
alone P f at zero others low = absurd (omega arith)
alone P f at (suc n) others low = elim (cases_eq n at) [
  | inl same ↦
      let rest = none P f n (λ k less. others k (λ is. absurd (omega (arith, is, same, less)))) in
      let here = ap (λ k. total P (f k)) same in
      let both = more P f n in
      omega (arith, ints, rest, here, both)
  | inr other ↦
      let rest = alone P f at n others (omega (arith, other)) in
      let here = others n other in
      let both = more P f n in
      omega (arith, ints, rest, here, both)
]

-- ---- one amount

and_false : (b : Bool) → (b && false) ≡ false
and_false true = refl
and_false false = refl

module _ (at v w : ℕ) where
  hit : (k side place : ℕ) (amount : ℤ) → (k == at && place == (if side == 0 then v else w)) ≡ true → total (use_shift at v w) (shift_to k side place amount) ≡ amount
  hit k side place (pos zero) is = refl
  hit k side place (pos (suc n)) is = let here = cond-true (k == at && place == (if side == 0 then v else w)) (pos (suc n)) (pos 0) is in omega (arith, ints, here)
  hit k side place (negsuc n) is = let here = cond-true (k == at && place == (if side == 0 then v else w)) (negsuc n) (pos 0) is in omega (arith, ints, here)

  miss : (k side place : ℕ) (amount : ℤ) → (k == at && place == (if side == 0 then v else w)) ≡ false → total (use_shift at v w) (shift_to k side place amount) ≡ pos 0
  miss k side place (pos zero) is = refl
  miss k side place (pos (suc n)) is = let here = cond-false (k == at && place == (if side == 0 then v else w)) (pos (suc n)) (pos 0) is in omega (arith, ints, here)
  miss k side place (negsuc n) is = let here = cond-false (k == at && place == (if side == 0 then v else w)) (negsuc n) (pos 0) is in omega (arith, ints, here)

  -- ---- a row

  this_row : (side : ℕ) (row : List ℤ) (places setting : ℕ) → setting ≡ (if side == 0 then v else w) → setting < places → total (use_shift at v w) (row_shifts at side row places) ≡ get_or row setting (pos 0)
  this_row side row places setting is low =
      alone (use_shift at v w) (λ place. shift_to at side place (get_or row place (pos 0))) setting places
      (λ k other. miss at side k (get_or row k (pos 0)) (ap (λ b. at == at && b) (ne_eqb k (if side == 0 then v else w) (λ same. other (same ∙ sym is))) ∙ and_false (at == at))) low
      ∙ hit at side setting (get_or row setting (pos 0)) (and_from (at == at) (setting == (if side == 0 then v else w)) (eq-eqb at at refl) (eq-eqb setting (if side == 0 then v else w) is))

  other_row : (k side : ℕ) (row : List ℤ) (places : ℕ) → k ≢ at → total (use_shift at v w) (row_shifts k side row places) ≡ pos 0
  other_row k side row places other =
      none (use_shift at v w) (λ place. shift_to k side place (get_or row place (pos 0))) places
      (λ place low. miss k side place (get_or row place (pos 0)) (ap (λ b. b && place == (if side == 0 then v else w)) (ne_eqb k at other)))

  -- ---- all arcs

  pub taken : (firsts seconds : ℕ → List ℤ) (places arcs : ℕ) → at < arcs → v < places → w < places
      → total (use_shift at v w) (net_shifts firsts seconds places arcs) ≡ get_or (firsts at) v (pos 0) +ℤ get_or (seconds at) w (pos 0)
  taken firsts seconds places arcs low first second =
      let all = alone (use_shift at v w) (arc_shifts firsts seconds places) at arcs others low in
      let both = total_append (use_shift at v w) (row_shifts at 0 (firsts at) places) (row_shifts at 1 (seconds at) places) in
      let one = this_row 0 (firsts at) places v refl first in
      let two = this_row 1 (seconds at) places w refl second in
      omega (arith, ints, all, both, one, two)
    where
      others : (k : ℕ) → k ≢ at → total (use_shift at v w) (arc_shifts firsts seconds places k) ≡ pos 0
      others k other =
          let both = total_append (use_shift at v w) (row_shifts k 0 (firsts k) places) (row_shifts k 1 (seconds k) places) in
          let one = other_row k 0 (firsts k) places other in
          let two = other_row k 1 (seconds k) places other in
          omega (arith, ints, both, one, two)
