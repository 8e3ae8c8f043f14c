-- Arcs are made of small numbers.
use Rattle.std.proofs.Common.{ℕ, zero, suc, ◌*◌, ◌<◌, ◌≤◌, Bool, true, false, Option, Some, None, List, length, get_or, sym, subst, arith, mul-le-mul, ℤ, pos, ◌-ℤ◌, option_map, inl, inr}
use Rattle.std.specs.Prelude.{unwrap_or, IfSome}
use Rattle.std.proofs.lemmas.Int.{ints, int_min_is}
use Rattle.std.proofs.lemmas.List.{get_or_past}
use Rattle.vd_space.specs.Costs.{weigh}
use Rattle.vd_space.specs.Bounds.{lesser, least_below, only_if, nothing_left}
use Rattle.vd_space.proofs.Front.{listed_or_not}
use Rattle.vd_space_prefix.specs.declared.transfers.Transfer.{Transfer}
use Rattle.vd_space_prefix.specs.Transfers.{IsWithin, IsTransfer, ArePrices, by_place, cell, priced, taken, least_where, row_of, column_of, square_of, arc_of}
use Rattle.vd_space_prefix.specs.Steps.{IsArc}
use Rattle.vd_space_prefix.proofs.Front.{size_by_place, at_place}

abbrev IsSmall : Option ℤ → Type 0
IsSmall o = IfSome o (IsWithin 1125899906842624)

lesser_small : (a b : Option ℤ) → IsSmall a → IsSmall b → IsSmall (lesser a b)
lesser_small None b first second = second
lesser_small (Some a) None first second = first
lesser_small (Some a) (Some b) first second =
    let least = int_min_is a b in
    record { low = omega (arith, ints, least, first.low, second.low); high = omega (arith, ints, least, first.high, second.high) }

least_small : (n : ℕ) (f : ℕ → Option ℤ) → ((k : ℕ) → IsSmall (f k)) → IsSmall (least_below n f)
least_small zero f each = tt
least_small (suc n) f each = lesser_small (least_below n f) (f n) (least_small n f each) (each n)

only_small : (test : Bool) (o : Option ℤ) → IsSmall o → IsSmall (only_if test o)
only_small true o is = is
only_small false o is = tt

where_small : (tests : List Bool) (f : ℕ → Option ℤ) → ((k : ℕ) → IsSmall (f k)) → IsSmall (least_where tests f)
where_small tests f each = least_small (length tests) (λ k. only_if (get_or tests k false) (f k)) (λ k. only_small (get_or tests k false) (f k) (each k))

cell_of : (weight : ℕ) (price : Option ℕ) (less : ℤ) → weight ≤ 65536 → unwrap_or price 0 ≤ 848 → IsWithin 562949953421312 less → IsSmall (option_map (λ v. v -ℤ less) (weigh weight price))
cell_of weight None less light cheap small = tt
cell_of weight (Some c) less light cheap small =
    let product : weight * c ≤ 65536 * 848 = mul-le-mul light cheap in
    let low = small.low in
    let high = small.high in
    record { low = omega (arith, ints, high); high = omega (arith, ints, product, low) }

number_small : (o : Option ℤ) → IsSmall o → IsWithin 1125899906842624 (unwrap_or o nothing_left)
number_small None is = record { low = omega (arith, ints); high = omega (arith, ints) }
number_small (Some v) is = is

zero_small : (most : ℕ) → IsWithin most (pos 0)
zero_small most = record { low = omega (arith, ints); high = omega (arith, ints) }

pub place_within : (most n : ℕ) (f : ℕ → ℤ) (k : ℕ) → ((j : ℕ) → j < n → IsWithin most (f j)) → IsWithin most (get_or (by_place n f) k (pos 0))
place_within most n f k each = elim (listed_or_not n k) [
  | inl low ↦ subst (IsWithin most) (sym (at_place n f k (pos 0) low)) (each k (omega arith))
  | inr past ↦ subst (IsWithin most) (sym (get_or_past (by_place n f) k (pos 0) (subst (λ m. m ≤ k) (sym (size_by_place n f)) past))) (zero_small most)
]

pub arc_small : (prices : List (List (Option ℕ))) (t : Transfer) (firsts seconds : List Bool) → ArePrices prices → IsTransfer t → IsArc (arc_of prices t firsts seconds)
arc_small prices t firsts seconds cheap is =
    let each : (p q : ℕ) → IsSmall (cell prices t p q) = λ p q. cell_of t.weight (priced prices p q) (taken t p q) is.weight (cheap.few p q) (is.taken p q) in
    let row : (p : ℕ) → IsSmall (row_of prices t seconds p) = λ p. where_small seconds (cell prices t p) (each p) in
    let column : (q : ℕ) → IsSmall (column_of prices t firsts q) = λ q. where_small firsts (λ p. cell prices t p q) (λ p. each p q) in
    let square : IsSmall (square_of prices t firsts seconds) = where_small firsts (row_of prices t seconds) row in
    record {
      transfer = is;
      rows = λ p. place_within 1125899906842624 (length firsts) (λ r. unwrap_or (row_of prices t seconds r) nothing_left) p (λ r low. number_small (row_of prices t seconds r) (row r));
      columns = λ q. place_within 1125899906842624 (length seconds) (λ r. unwrap_or (column_of prices t firsts r) nothing_left) q (λ r low. number_small (column_of prices t firsts r) (column r));
      both = number_small (square_of prices t firsts seconds) square;
    }
