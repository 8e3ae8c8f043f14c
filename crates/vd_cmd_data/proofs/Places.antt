-- Cells by their places, and what stands behind a place.
use Rattle.std.proofs.Common.{◌≡◌, ℕ, zero, suc, ◌+◌, ◌-◌, ◌<◌, ◌≤◌, Bool, true, false, List, [], ◌∷◌, length, drop, take, Option, Some, None, refl, sym, ap, ◌∙◌, arith, add-one, length-drop, if◌then◌else◌}
use Rattle.std.proofs.Math.ListN.{drop_of_length-le}
use Rattle.std.proofs.Math.Seq.{take-length}
use Rattle.std.specs.List.{prefix_len}
use Rattle.std.specs.Str.{bytes_eq}
use Rattle.std.proofs.lemmas.List.Sums.{prefix_len-le-length}
use Rattle.vd_base.specs.Lexical.{is_digit}
use Rattle.vd_cmd_data.specs.Cells.{is_zero}
use Rattle.csv.specs.Records.{field_at}
use Rattle.vd_cmd_data.specs.Tables.{cell_of, is_plain, place_from}

-- the value of `&xs[i..]`
pub behind_is : (xs : List ℕ) (i : ℕ) → take (length xs - i) (drop i xs) ≡ drop i xs
behind_is xs i = ap (λ n. take n (drop i xs)) (sym (length-drop i xs)) ∙ take-length (drop i xs)

pub digits_fit : (n : ℕ) (xs : List ℕ) → n ≡ prefix_len is_digit xs → n ≤ length xs
digits_fit n xs is = let fit = prefix_len-le-length is_digit xs in omega (arith, fit, is)

pub zeros_fit : (n : ℕ) (xs : List ℕ) → n ≡ prefix_len is_zero xs → n ≤ length xs
zeros_fit n xs is = let fit = prefix_len-le-length is_zero xs in omega (arith, fit, is)

pub plain_fit : (n : ℕ) (xs : List ℕ) → n ≡ prefix_len is_plain xs → n ≤ length xs
plain_fit n xs is = let fit = prefix_len-le-length is_plain xs in omega (arith, fit, is)

first_is : (cells : List (List ℕ)) (place : ℕ) → place < length cells → drop place cells ≡ cell_of cells place ∷ drop (suc place) cells
unfolding field_at
first_is [] place lt = absurd (omega arith)
first_is (cell ∷ more) zero lt = refl
first_is (cell ∷ more) (suc place) lt = first_is more place (omega arith)

here : (name : List ℕ) (place : ℕ) (cell : List ℕ) (more : List (List ℕ)) → place_from name place (cell ∷ more) ≡ (if bytes_eq name cell then Some place else place_from name (place + 1) more)
unfolding place_from
here name place cell more = refl

nowhere : (name : List ℕ) (place : ℕ) → place_from name place [] ≡ None
unfolding place_from
nowhere name place = refl

module _ (name : List ℕ) (cells : List (List ℕ)) (place : ℕ) where
  at_place : place < length cells → place_from name place (drop place cells) ≡ (if bytes_eq name (cell_of cells place) then Some place else place_from name (place + 1) (drop (place + 1) cells))
  at_place lt = ap (place_from name place) (rw (add-one place) (first_is cells place lt)) ∙ here name place (cell_of cells place) (drop (place + 1) cells)

  by_test : (t : Bool) → bytes_eq name (cell_of cells place) ≡ t → place < length cells → place_from name place (drop place cells) ≡ (if t then Some place else place_from name (place + 1) (drop (place + 1) cells))
  by_test t e lt = at_place lt ∙ ap (λ (b : Bool). if b then Some place else place_from name (place + 1) (drop (place + 1) cells)) e

  pub next_place : place < length cells → bytes_eq name (cell_of cells place) ≡ false → place_from name place (drop place cells) ≡ place_from name (place + 1) (drop (place + 1) cells)
  next_place lt e = by_test false e lt

  pub found_place : place < length cells → bytes_eq name (cell_of cells place) ≡ true → place_from name place (drop place cells) ≡ Some place
  found_place lt e = by_test true e lt

  pub no_place : length cells ≤ place → place_from name place (drop place cells) ≡ None
  no_place le = ap (place_from name place) (drop_of_length-le cells le) ∙ nowhere name place
