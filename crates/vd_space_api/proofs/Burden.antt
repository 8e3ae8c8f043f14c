-- What there is to hand on: no step adds to it.
use Rattle.std.proofs.Common.{◌≡◌, ℕ, zero, suc, ◌+◌, ◌-◌, ◌<◌, ◌≤◌, Option, Some, None, List, [], ◌∷◌, length, get_or, set, refl, sym, subst, arith, inl, inr}
use Rattle.std.specs.Prelude.{option_map, unwrap_or}
use Rattle.std.proofs.lemmas.List.{get_or_past}
use Rattle.std.proofs.lemmas.List.FromFn.{length-map-range_with_len, get_or-map-range_with_len}
use Rattle.vd_space.specs.Sizes.{heft}
use Rattle.vd_space.proofs.Front.{listed_or_not}
use Rattle.vd_space_api.specs.Rows.{amounts_of, emptied_of, raised_of, by_place}
use Rattle.vd_space_api.specs.Terms.{row_at, greatest}
use Rattle.vd_space_api.proofs.Numbers.{more_low}

-- ---- a list with one item changed

pub heft_set : {X : Type 0} (f : X → ℕ) (xs : List X) (i : ℕ) (x d : X) → i < length xs → heft f (set xs i x) + f (get_or xs i d) ≡ heft f xs + f x
heft_set f [] i x d low = absurd (omega arith)
heft_set f (y ∷ ys) zero x d low = omega arith
heft_set f (y ∷ ys) (suc i) x d low = let rest = heft_set f ys i x d (omega arith) in omega (arith, rest)

heft_at : {X : Type 0} (f : X → ℕ) (xs : List X) (i : ℕ) (d : X) → i < length xs → f (get_or xs i d) ≤ heft f xs
heft_at f [] i d low = absurd (omega arith)
heft_at f (y ∷ ys) zero d low = omega arith
heft_at f (y ∷ ys) (suc i) d low = let rest = heft_at f ys i d (omega arith) in omega (arith, rest)

-- ---- the greatest of a row

pub greatest_at : (row : List (Option ℕ)) (p : ℕ) → unwrap_or (get_or row p None) 0 ≤ greatest row
greatest_at [] p = omega arith
greatest_at (o ∷ row) zero = omega arith
greatest_at (o ∷ row) (suc p) = let rest = greatest_at row p in omega (arith, rest)

greatest_low : (row : List (Option ℕ)) (most : ℕ) → ((p : ℕ) → p < length row → unwrap_or (get_or row p None) 0 ≤ most) → greatest row ≤ most
greatest_low [] most each = omega arith
greatest_low (o ∷ row) most each =
    let here = each 0 (omega arith) in
    let rest = greatest_low row most (λ p low. each (suc p) (omega (arith, low))) in
    omega (arith, here, rest)

pub size_by : {X : Type 0} (n : ℕ) (f : ℕ → X) → length (by_place n f) ≡ n
size_by n f = length-map-range_with_len f 0 n

pub at_by : {X : Type 0} (n : ℕ) (f : ℕ → X) (k : ℕ) (default : X) → k < n → get_or (by_place n f) k default ≡ f k
at_by n f k default low = get_or-map-range_with_len f 0 n k k default low (omega arith)

pub by_low : (n : ℕ) (f : ℕ → Option ℕ) (most : ℕ) → ((p : ℕ) → p < n → unwrap_or (f p) 0 ≤ most) → greatest (by_place n f) ≤ most
by_low n f most each = greatest_low (by_place n f) most (λ p low.
    let within : p < n = subst (λ k. p < k) (size_by n f) low in
    subst (λ o. unwrap_or o 0 ≤ most) (sym (at_by n f p None within)) (each p within))

-- ---- a row that is emptied

pub amount_at_is : (row : List (Option ℕ)) (q : ℕ) → get_or (amounts_of row) q 0 ≡ unwrap_or (get_or row q None) 0
amount_at_is [] q = refl
amount_at_is (o ∷ row) zero = refl
amount_at_is (o ∷ row) (suc q) = amount_at_is row q

pub emptied_at : (row : List (Option ℕ)) (q : ℕ) → get_or (emptied_of row) q None ≡ option_map (λ v. 0) (get_or row q None)
emptied_at [] q = refl
emptied_at (o ∷ row) zero = refl
emptied_at (o ∷ row) (suc q) = emptied_at row q

nothing_left : (o : Option ℕ) → unwrap_or (option_map (λ v. 0) o) 0 ≤ 0
nothing_left None = omega arith
nothing_left (Some v) = omega arith

emptied_none : (row : List (Option ℕ)) → greatest (emptied_of row) ≤ 0
emptied_none row = greatest_low (emptied_of row) 0 (λ p low. subst (λ o. unwrap_or o 0 ≤ 0) (sym (emptied_at row p)) (nothing_left (get_or row p None)))

pub taken_burden : (terms : List (List (Option ℕ))) (slot q : ℕ) → slot < length terms → heft greatest (set terms slot (emptied_of (row_at terms slot))) + get_or (amounts_of (row_at terms slot)) q 0 ≤ heft greatest terms
taken_burden terms slot q low =
    let change = heft_set greatest terms slot (emptied_of (row_at terms slot)) [] low in
    let none = emptied_none (row_at terms slot) in
    let here = greatest_at (row_at terms slot) q in
    let amount = amount_at_is (row_at terms slot) q in
    omega (arith, change, none, here, amount)

-- ---- a row that is raised

pub raised_at : (row : List (Option ℕ)) (amounts : List ℕ) (p : ℕ) → p < length row → get_or (raised_of row amounts) p None ≡ option_map (λ v. v + get_or amounts p 0) (get_or row p None)
raised_at row amounts p low = at_by (length row) (λ k. option_map (λ v. v + get_or amounts k 0) (get_or row k None)) p None low

pub given_burden : (terms : List (List (Option ℕ))) (slot : ℕ) (amounts : List ℕ) (most : ℕ) → slot < length terms → ((p : ℕ) → heft greatest terms + get_or amounts p 0 ≤ most)
    → heft greatest (set terms slot (raised_of (row_at terms slot) amounts)) ≤ most
given_burden terms slot amounts most low each =
    let row = row_at terms slot in
    let change = heft_set greatest terms slot (raised_of row amounts) [] low in
    let first = each 0 in
    let room = most - heft greatest terms in
    let raised : greatest (raised_of row amounts) ≤ greatest row + room =
    by_low (length row) (λ p. option_map (λ v. v + get_or amounts p 0) (get_or row p None)) (greatest row + room) (λ p within.
    let grows = more_low (get_or row p None) (get_or amounts p 0) (greatest row) (greatest_at row p) in
    let amount = each p in
    omega (arith, grows, amount)) in
    omega (arith, change, first, raised)

-- no term is greater than all there is
pub small_terms : (terms : List (List (Option ℕ))) (most : ℕ) → heft greatest terms ≤ most → (slot p : ℕ) → unwrap_or (get_or (row_at terms slot) p None) 0 ≤ most
small_terms terms most light slot p = elim (listed_or_not (length terms) slot) [
  | inl low ↦ let here = greatest_at (row_at terms slot) p in let all = heft_at greatest terms slot [] low in omega (arith, here, all, light)
  | inr past ↦ subst (λ row. unwrap_or (get_or row p None) 0 ≤ most) (sym (get_or_past terms slot [] past)) (omega arith)
]
