-- A stable sort by rank gives the lines in order.
use Rattle.std.proofs.Common.{◌≡◌, ℕ, zero, suc, ◌<◌, ◌≤◌, nat_eq, nat_lt, Bool, true, false, cond, if◌then◌else◌, List, [], ◌∷◌, length, get_or, filter, nat_cmp, is_lt, refl, sym, ap, ◌∙◌, arith, inl, inr, suc-le-suc, zero-le}
use Rattle.std.proofs.lemmas.Bool.{cond-true, cond-false, cases_Bool, eqb-true, ltb-true, ltb-false}
use Rattle.std.proofs.lemmas.Bool.Decides.{nat_tests}
use Rattle.std.specs.List.Sorted.{ties, IsNonDecreasingBy, IsStableByKey}
use Rattle.vd_choreography_reorder.specs.declared.ranks.Ranked.{Ranked}
use Rattle.vd_choreography_reorder.specs.Sorting.{placed, in_order, RankAtLeast, Ascend, LinesStandByRank}

-- ---- the lines of a rank

kept : (p : Ranked → Bool) (y : Ranked) (ys : List Ranked) → p y ≡ true → filter p (y ∷ ys) ≡ y ∷ filter p ys
kept p y ys h = cond-true _ _ _ h

dropped : (p : Ranked → Bool) (y : Ranked) (ys : List Ranked) → p y ≡ false → filter p (y ∷ ys) ≡ filter p ys
dropped p y ys h = cond-false _ _ _ h

-- a test that holds of one rank alone
module _ (p : Ranked → Bool) (one : (x y : Ranked) → p x ≡ true → p y ≡ true → x.rank ≡ y.rank) where
  placed_by : (c d : Ranked) (ds : List Ranked) (b : Bool) → nat_lt d.rank c.rank ≡ b → filter p (placed c ds) ≡ filter p (c ∷ ds)
      → filter p (if b then d ∷ placed c ds else c ∷ d ∷ ds) ≡ filter p (c ∷ d ∷ ds)
  placed_by c d ds false is same = refl
  placed_by c d ds true is same =
      elim (cases_Bool (p d)) [
        | inr without ↦
            dropped p d (placed c ds) without ∙ same
            ∙ ap (λ l. cond (p c) (c ∷ l) l) (sym (dropped p d ds without))
        | inl with ↦
            elim (cases_Bool (p c)) [
              | inl both ↦ let alike = one c d both with in let lower = ltb-true d.rank c.rank is in absurd (omega (arith, alike, lower))
              | inr only ↦
                  kept p d (placed c ds) with ∙ ap (λ l. d ∷ l) (same ∙ dropped p c ds only)
                  ∙ sym (dropped p c (d ∷ ds) only ∙ kept p d ds with)
            ]
      ]

  same_placed : (c : Ranked) (ds : List Ranked) → filter p (placed c ds) ≡ filter p (c ∷ ds)
  same_placed c [] = refl
  same_placed c (d ∷ ds) = placed_by c d ds (nat_lt d.rank c.rank) refl (same_placed c ds)

  same_in_order : (xs : List Ranked) → filter p (in_order xs) ≡ filter p xs
  same_in_order [] = refl
  same_in_order (x ∷ xs) = same_placed x (in_order xs) ∙ ap (λ l. cond (p x) (x ∷ l) l) (same_in_order xs)

-- ---- ranks ascend

less_at_least : (n m : ℕ) (ys : List Ranked) → n ≤ m → RankAtLeast m ys → RankAtLeast n ys
less_at_least n m [] le h = tt
less_at_least n m (y ∷ ys) le h = let first = h.0 in (omega (arith, le, first), less_at_least n m ys le h.1)

at_least_by : (n : ℕ) (c d : Ranked) (ds : List Ranked) (b : Bool) → n ≤ c.rank → RankAtLeast n (d ∷ ds) → RankAtLeast n (placed c ds)
    → RankAtLeast n (if b then d ∷ placed c ds else c ∷ d ∷ ds)
at_least_by n c d ds true le h more = (h.0, more)
at_least_by n c d ds false le h more = (le, h)

at_least_placed : (n : ℕ) (c : Ranked) (ds : List Ranked) → n ≤ c.rank → RankAtLeast n ds → RankAtLeast n (placed c ds)
at_least_placed n c [] le h = (le, tt)
at_least_placed n c (d ∷ ds) le h = at_least_by n c d ds (nat_lt d.rank c.rank) le h (at_least_placed n c ds le h.1)

ascend_by : (c d : Ranked) (ds : List Ranked) (b : Bool) → nat_lt d.rank c.rank ≡ b → Ascend (d ∷ ds) → Ascend (placed c ds)
    → Ascend (if b then d ∷ placed c ds else c ∷ d ∷ ds)
ascend_by c d ds true is up more =
    let lower = ltb-true d.rank c.rank is in (at_least_placed d.rank c ds (omega (arith, lower)) up.0, more)
ascend_by c d ds false is up more =
    let le = ltb-false d.rank c.rank is in ((le, less_at_least c.rank d.rank ds le up.0), up)

ascend_placed : (c : Ranked) (ds : List Ranked) → Ascend ds → Ascend (placed c ds)
ascend_placed c [] up = (tt, tt)
ascend_placed c (d ∷ ds) up = ascend_by c d ds (nat_lt d.rank c.rank) refl up (ascend_placed c ds up.1)

ascends : (xs : List Ranked) → Ascend (in_order xs)
ascends [] = tt
ascends (x ∷ xs) = ascend_placed x (in_order xs) (ascends xs)

one_rank : (n : ℕ) (x y : Ranked) → nat_eq x.rank n ≡ true → nat_eq y.rank n ≡ true → x.rank ≡ y.rank
one_rank n x y e f = eqb-true x.rank n e ∙ sym (eqb-true y.rank n f)

pub stand_by_rank : LinesStandByRank
stand_by_rank xs = (ascends xs, λ n. same_in_order (λ x. nat_eq x.rank n) (one_rank n) xs)

-- ---- what a stable sort gives

abbrev ranks_alike : Ranked → Ranked → Bool
ranks_alike = ties (λ x y. is_lt (nat_cmp x.rank y.rank))

ties_at : (m n : ℕ) → (ties (λ x y. is_lt (nat_cmp x y)) m n ≡ true → m ≡ n) × (m ≡ n → ties (λ x y. is_lt (nat_cmp x y)) m n ≡ true)
ties_at m n = (λ h. grind (arith, nat_tests), λ h. grind (arith, nat_tests))

alike-true : (x y : Ranked) → ranks_alike x y ≡ true → x.rank ≡ y.rank
alike-true x y = (ties_at x.rank y.rank).0

alike_from : (x y : Ranked) → x.rank ≡ y.rank → ranks_alike x y ≡ true
alike_from x y = (ties_at x.rank y.rank).1

one_alike : (z x y : Ranked) → ranks_alike z x ≡ true → ranks_alike z y ≡ true → x.rank ≡ y.rank
one_alike z x y e f = sym (alike-true z x e) ∙ alike-true z y f

at_least_at : (n : ℕ) (ys : List Ranked) → ((j : ℕ) (d : Ranked) → j < length ys → n ≤ (get_or ys j d).rank) → RankAtLeast n ys
at_least_at n [] h = tt
at_least_at n (y ∷ ys) h = (h zero y (suc-le-suc zero-le), at_least_at n ys (λ j d lt. h (suc j) d (suc-le-suc lt)))

ascend_from_sort : (ys : List Ranked) → IsNonDecreasingBy (λ x. x.rank) ys → Ascend ys
ascend_from_sort [] h = tt
ascend_from_sort (y ∷ ys) h = (
  at_least_at y.rank ys (λ j d lt. h zero (suc j) d zero-le (suc-le-suc lt)),
  ascend_from_sort ys (λ i j d le lt. h (suc i) (suc j) d (suc-le-suc le) (suc-le-suc lt)),
)

-- the rank of x occurs among them
found : (n : ℕ) (x : Ranked) (ys : List Ranked) (w : Ranked) (ws : List Ranked) → RankAtLeast n ys → filter (ranks_alike x) ys ≡ w ∷ ws → n ≤ x.rank
found n x [] w ws h e = cc
found n x (y ∷ ys) w ws h e =
    elim (cases_Bool (ranks_alike x y)) [
      | inl with ↦ let first = h.0 in let alike = alike-true x y with in omega (arith, first, alike)
      | inr without ↦ found n x ys w ws h.1 (sym (dropped (ranks_alike x) y ys without) ∙ e)
    ]

same_lists : (ys zs : List Ranked) → Ascend ys → Ascend zs → ((x : Ranked) → filter (ranks_alike x) ys ≡ filter (ranks_alike x) zs) → ys ≡ zs
same_lists [] [] left right same = refl
same_lists [] (z ∷ zs) left right same =
    let clash = same z ∙ kept (ranks_alike z) z zs (alike_from z z refl) in cc
same_lists (y ∷ ys) [] left right same =
    let clash = sym (same y) ∙ kept (ranks_alike y) y ys (alike_from y y refl) in cc
same_lists (y ∷ ys) (z ∷ zs) left right same =
    let at_y = kept (ranks_alike y) y ys (alike_from y y refl) in
    let at_z = kept (ranks_alike z) z zs (alike_from z z refl) in
    let up : z.rank ≤ y.rank = found z.rank y (z ∷ zs) y _ (omega arith, right.0) (sym (same y) ∙ at_y) in
    let down : y.rank ≤ z.rank = found y.rank z (y ∷ ys) z _ (omega arith, left.0) (same z ∙ at_z) in
    let heads = sym at_y ∙ same y ∙ kept (ranks_alike y) z zs (alike_from y z (omega (arith, up, down))) in
    let head : y ≡ z = cc in
    let tails : (x : Ranked) → filter (ranks_alike x) ys ≡ filter (ranks_alike x) zs =
    λ x. elim (cases_Bool (ranks_alike x y)) [
      | inl with ↦
          let both = sym (kept (ranks_alike x) y ys with) ∙ same x ∙ kept (ranks_alike x) z zs (ap (ranks_alike x) (sym head) ∙ with) in cc
      | inr without ↦
          sym (dropped (ranks_alike x) y ys without) ∙ same x ∙ dropped (ranks_alike x) z zs (ap (ranks_alike x) (sym head) ∙ without)
    ] in
    ap (λ w. w ∷ ys) head ∙ ap (λ l. z ∷ l) (same_lists ys zs left.1 right.1 tails)

pub in_order_from_sort : (xs ys : List Ranked) → IsNonDecreasingBy (λ x. x.rank) ys → IsStableByKey (λ x. x.rank) nat_cmp xs ys → ys ≡ in_order xs
in_order_from_sort xs ys sorted stable =
    same_lists ys (in_order xs) (ascend_from_sort ys sorted) (ascends xs) (λ x. stable x ∙ sym (same_in_order (ranks_alike x) (one_alike x) xs))
