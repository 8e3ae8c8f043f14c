-- What shifts come to, one shift after the other.
use Rattle.std.proofs.Common.{◌≡◌, ◌≢◌, ℕ, zero, suc, ◌+◌, ◌*◌, ◌<◌, ◌≤◌, Bool, true, false, cond, ◌&&◌, Option, Some, None, List, [], ◌∷◌, ◌++◌, length, take, get_or, set, replicate, refl, sym, ap, ap₂, ◌∙◌, arith, ℤ, pos, ◌+ℤ◌, slice_get, option_map}
use Rattle.std.specs.Prelude.{All, ◌==◌}
use Rattle.std.specs.Option.{option_map_or}
use Rattle.std.proofs.lemmas.Int.{ints}
use Rattle.std.proofs.lemmas.Bool.{cond-true, cond-false, eq-eqb, ne_eqb}
use Rattle.std.proofs.lemmas.List.{take_more}
use Rattle.vd_search_tree.specs.declared.shift.Shift.{Shift}
use Rattle.vd_space.specs.declared.problem.Problem.{Problem}
use Rattle.vd_space.specs.declared.problem.Use.{Use}
use Rattle.vd_space.specs.Costs.{total}
use Rattle.vd_space.specs.Bounds.{side_of, signed, slot_shift, use_shift}
use Rattle.vd_space.proofs.Front.{total_ext, total_plus}
use Rattle.vd_space_prefix.specs.Transfers.{IsWithin, by_place}
use Rattle.vd_space_prefix.proofs.Front.{at_place, total_more}
use Rattle.vd_space_tables.specs.declared.space_terms.sums.Rows.{Rows}
use Rattle.vd_space_tables.specs.declared.space_terms.sums.Rows.TheVariants.{Firsts, Seconds, Ends}
use Rattle.vd_space_tables.specs.Sums.{row_of, part, sums_of}
use Rattle.vd_space_tables.proofs.SpaceTermsMade.{same_by_place, same_everywhere, set_by_place}

both_true : (a b : Bool) → a ≡ true → b ≡ true → (a && b) ≡ true
both_true a b first second = ap₂ (λ x y. x && y) first second

first_false : (a b : Bool) → a ≡ false → (a && b) ≡ false
first_false a b first = ap (λ x. x && b) first

second_false : (a b : Bool) → b ≡ false → (a && b) ≡ false
second_false true b second = second
second_false false b second = refl

-- ---- small sums

pub total_within : {X : Type 0} (f : X → ℤ) (xs : List X) → All (λ x. IsWithin 4294967296 (f x)) xs → IsWithin (4294967296 * length xs) (total f xs)
total_within f [] each = record { low = omega (arith, ints); high = omega (arith, ints) }
total_within f (x ∷ xs) each =
    let here : IsWithin 4294967296 (f x) = each 0 x (omega arith) in
    let rest = total_within f xs (λ k d low. each (suc k) d (omega arith)) in
    let here_low = here.low in
    let here_high = here.high in
    let rest_low = rest.low in
    let rest_high = rest.high in
    record { low = omega (arith, ints, here_low, rest_low); high = omega (arith, ints, here_high, rest_high) }

pub no_longer : {X : Type 0} (n : ℕ) (xs : List X) → length (take n xs) ≤ length xs
no_longer zero xs = omega arith
no_longer (suc n) [] = omega arith
no_longer (suc n) (x ∷ xs) = let rest = no_longer n xs in omega (arith, rest)

pub if_within : (test : Bool) (z : ℤ) → IsWithin 4294967296 z → IsWithin 4294967296 (cond test z (pos 0))
if_within true z is = is
if_within false z is = record { low = omega (arith, ints); high = omega (arith, ints) }

-- ---- one shift more

module _ {X : Type 0} (ends : X → ℕ → ℕ) (items : List X) (rows : Rows) where
  pub part_within : (row place : ℕ) (shift : Shift) → IsWithin 4294967296 (signed shift) → IsWithin 4294967296 (part ends items rows row place shift)
  part_within row place shift low = if_within (option_map_or (λ r. r == row) (row_of ends items rows shift) false && shift.proto == place) (signed shift) low

  -- what the first i shifts come to
  abbrev so_far : List Shift → ℕ → ℕ → ℕ → ℤ
  so_far shifts i row place = total (part ends items rows row place) (take i shifts)

  part_of : (row place : ℕ) (shift : Shift) (o : Option ℕ) → row_of ends items rows shift ≡ o → part ends items rows row place shift ≡ cond (option_map_or (λ r. r == row) o false && shift.proto == place) (signed shift) (pos 0)
  part_of row place shift o is = ap (λ found. cond (option_map_or (λ r. r == row) found false && shift.proto == place) (signed shift) (pos 0)) is

  pub no_row : (row place : ℕ) (shift : Shift) → row_of ends items rows shift ≡ None → part ends items rows row place shift ≡ pos 0
  no_row row place shift is = part_of row place shift None is

  counted : (row : ℕ) (shift : Shift) → row_of ends items rows shift ≡ Some row → part ends items rows row shift.proto shift ≡ signed shift
  counted row shift is =
      part_of row shift.proto shift (Some row) is
      ∙ cond-true (row == row && shift.proto == shift.proto) (signed shift) (pos 0) (both_true (row == row) (shift.proto == shift.proto) (eq-eqb row row refl) (eq-eqb shift.proto shift.proto refl))

  pub other_row : (row other place : ℕ) (shift : Shift) → row_of ends items rows shift ≡ Some row → other ≢ row → part ends items rows other place shift ≡ pos 0
  other_row row other place shift is differs =
      part_of other place shift (Some row) is
      ∙ cond-false (row == other && shift.proto == place) (signed shift) (pos 0) (first_false (row == other) (shift.proto == place) (ne_eqb row other (λ same. differs (sym same))))

  pub other_place : (row place : ℕ) (shift : Shift) → place ≢ shift.proto → part ends items rows row place shift ≡ pos 0
  other_place row place shift differs =
      cond-false (option_map_or (λ r. r == row) (row_of ends items rows shift) false && shift.proto == place) (signed shift) (pos 0)
      (second_false (option_map_or (λ r. r == row) (row_of ends items rows shift) false) (shift.proto == place) (ne_eqb shift.proto place (λ same. differs (sym same))))

  module _ (count places : ℕ) (shifts : List Shift) where
    pub none_yet : replicate count (replicate places (pos 0)) ≡ sums_of ends items rows count places (take 0 shifts)
    none_yet = same_everywhere count (replicate places (pos 0)) ∙ same_by_place count (λ row. replicate places (pos 0)) (λ row. by_place places (so_far shifts 0 row)) (λ row low. same_everywhere places (pos 0))

    module _ (i : ℕ) (shift : Shift) (low : i < length shifts) (is : shift ≡ get_or shifts i shift) where
      more : (row place : ℕ) → so_far shifts (i + 1) row place ≡ so_far shifts i row place +ℤ part ends items rows row place shift
      more row place = total_more (part ends items rows row place) shifts i shift (take_more shifts i shift low ∙ ap (λ s. take i shifts ++ s ∷ []) (sym is))

      same_more : (row place : ℕ) → part ends items rows row place shift ≡ pos 0 → so_far shifts i row place ≡ so_far shifts (i + 1) row place
      same_more row place none = let step = more row place in omega (arith, ints, step, none)

      pub unchanged : (sums : List (List ℤ)) → sums ≡ sums_of ends items rows count places (take i shifts) → ((row place : ℕ) → row < count → place < places → part ends items rows row place shift ≡ pos 0) → sums ≡ sums_of ends items rows count places (take (i + 1) shifts)
      unchanged sums are none =
          are ∙ same_by_place count (λ row. by_place places (so_far shifts i row)) (λ row. by_place places (so_far shifts (i + 1) row))
          (λ row low_row. same_by_place places (so_far shifts i row) (so_far shifts (i + 1) row) (λ place low_place. same_more row place (none row place low_row low_place)))

      line_at : (sums : List (List ℤ)) (row : ℕ) (line : List ℤ) → sums ≡ sums_of ends items rows count places (take i shifts) → row < count → line ≡ get_or sums row line → line ≡ by_place places (so_far shifts i row)
      line_at sums row line are low_row at = at ∙ ap (λ xs. get_or xs row line) are ∙ at_place count (λ r. by_place places (so_far shifts i r)) row line low_row

      pub added : (sums grown : List (List ℤ)) (row : ℕ) (line changed : List ℤ) → sums ≡ sums_of ends items rows count places (take i shifts) → row_of ends items rows shift ≡ Some row → row < count → shift.proto < places
          → line ≡ get_or sums row line → changed ≡ set line shift.proto (get_or line shift.proto (pos 0) +ℤ signed shift) → grown ≡ set sums row changed → grown ≡ sums_of ends items rows count places (take (i + 1) shifts)
      added sums grown row line changed are is_row low_row low_place at changes grows =
          let line_is = line_at sums row line are low_row at in
          let here : get_or line shift.proto (pos 0) +ℤ signed shift ≡ so_far shifts (i + 1) row shift.proto =
          let old = ap (λ xs. get_or xs shift.proto (pos 0)) line_is ∙ at_place places (so_far shifts i row) shift.proto (pos 0) low_place in
          let step = more row shift.proto in
          let one = counted row shift is_row in
          omega (arith, ints, old, step, one) in
          let changed_is : changed ≡ by_place places (so_far shifts (i + 1) row) =
          changes
          ∙ ap (λ xs. set xs shift.proto (get_or line shift.proto (pos 0) +ℤ signed shift)) line_is
          ∙ set_by_place places (so_far shifts i row) (so_far shifts (i + 1) row) shift.proto (get_or line shift.proto (pos 0) +ℤ signed shift) low_place here
          (λ place low_other differs. same_more row place (other_place row place shift differs)) in
          grows
          ∙ ap (λ xs. set xs row changed) are
          ∙ set_by_place count (λ r. by_place places (so_far shifts i r)) (λ r. by_place places (so_far shifts (i + 1) r)) row changed low_row changed_is
          (λ r low_r differs. same_by_place places (so_far shifts i r) (so_far shifts (i + 1) r) (λ place low_other. same_more r place (other_row row r place shift is_row differs)))

-- ---- what the sums are

sides_of : (source : Bool) (at k proto p q : ℕ) (z : ℤ)
    → cond (option_map_or (λ r. r == k) (cond source (Some at) None) false && proto == p) z (pos 0) +ℤ cond (option_map_or (λ r. r == k) (cond source None (Some at)) false && proto == q) z (pos 0) ≡ cond (at == k && proto == cond source p q) z (pos 0)
sides_of true at k proto p q z = omega (arith, ints)
sides_of false at k proto p q z = omega (arith, ints)

pub sides_together : {X : Type 0} (ends : X → ℕ → ℕ) (items : List X) (k p q : ℕ) (shifts : List Shift) → total (part ends items Firsts k p) shifts +ℤ total (part ends items Seconds k q) shifts ≡ total (use_shift k p q) shifts
sides_together ends items k p q shifts =
    sym (total_plus (part ends items Firsts k p) (part ends items Seconds k q) shifts)
    ∙ total_ext (λ shift. part ends items Firsts k p shift +ℤ part ends items Seconds k q shift) (use_shift k p q) (λ shift. sides_of (shift.side == 0) shift.at k shift.proto p q (signed shift)) shifts

slot_of : (slot p : ℕ) (shift : Shift) (item : Option Use)
    → cond (option_map_or (λ r. r == slot) (option_map (λ (u : Use). side_of u shift.side) item) false && shift.proto == p) (signed shift) (pos 0)
    ≡ option_map_or (λ (u : Use). cond (side_of u shift.side == slot && shift.proto == p) (signed shift) (pos 0)) item (pos 0)
slot_of slot p shift None = refl
slot_of slot p shift (Some u) = refl

pub slots_shifted : (problem : Problem) (slot p : ℕ) (shifts : List Shift) → total (part side_of problem.uses Ends slot p) shifts ≡ total (slot_shift problem slot p) shifts
slots_shifted problem slot p shifts = total_ext (part side_of problem.uses Ends slot p) (slot_shift problem slot p) (λ shift. slot_of slot p shift (slice_get problem.uses shift.at)) shifts
