-- Tables of lists of values are those of terms.
use Rattle.std.proofs.Common.{◌≡◌, ℕ, ◌<◌, Bool, Option, None, List, length, map, get_or, ap, ◌∙◌, ℤ}
use Rattle.std.specs.Prelude.{unwrap_or}
use Rattle.std.specs.List.{range_with_len}
use Rattle.vd_space_prefix.specs.Transfers.{by_place, least_where}
use Rattle.vd_space_prefix.proofs.Front.{at_place}
use Rattle.vd_space_tables.proofs.Front.{same_by_place}
use Rattle.vd_space.specs.Network.{no_parts_left}
use Rattle.vd_cost_network_tables.specs.Tables.{least_column, least_row, arc_table_of, point_table_of, table_of_cells, table_of_values}
use Rattle.vd_cost_network_tables.proofs.Placed.{least_where_same}
use Rattle.vd_cost_network_tables.proofs.Costs.{map_map}

map_by_place : {X Y : Type 0} (f : X → Y) (n : ℕ) (g : ℕ → X) → map f (by_place n g) ≡ by_place n (λ k. f (g k))
map_by_place f n g = map_map f g (range_with_len 0 n)

at_map : {X Y : Type 0} (f : X → Y) (n : ℕ) (g : ℕ → X) (k : ℕ) (d : Y) → k < n → get_or (map f (by_place n g)) k d ≡ f (g k)
at_map f n g k d low = ap (λ list. get_or list k d) (map_by_place f n g) ∙ at_place n (λ j. f (g j)) k d low

abbrev number : Option ℤ → ℤ
number value = unwrap_or value no_parts_left

module _ (firsts seconds : List Bool) (value : ℕ → ℕ → Option ℤ) where
  abbrev row : ℕ → List (Option ℤ)
  row v = by_place (length seconds) (value v)

  abbrev cells : List (List (Option ℤ))
  cells = by_place (length firsts) row

  row_is : (v : ℕ) → least_row seconds (row v) ≡ least_where seconds (value v)
  row_is v = least_where_same seconds (λ w. get_or (row v) w None) (value v) (λ w low. at_place (length seconds) (value v) w None low)

  column_is : (w : ℕ) → w < length seconds → least_column firsts cells w ≡ least_where firsts (λ v. value v w)
  column_is w low =
      least_where_same firsts (λ v. get_or (map (λ (list : List (Option ℤ)). get_or list w None) cells) v None) (λ v. value v w)
      (λ v low_v. at_map (λ (list : List (Option ℤ)). get_or list w None) (length firsts) row v None low_v ∙ at_place (length seconds) (value v) w None low)

  rows : map number (map (least_row seconds) cells) ≡ by_place (length firsts) (λ v. number (least_where seconds (value v)))
  rows =
      ap (map number) (map_by_place (least_row seconds) (length firsts) row)
      ∙ map_by_place number (length firsts) (λ v. least_row seconds (row v))
      ∙ same_by_place (length firsts) (λ v. number (least_row seconds (row v))) (λ v. number (least_where seconds (value v))) (λ v low. ap number (row_is v))

  columns : map number (by_place (length seconds) (least_column firsts cells)) ≡ by_place (length seconds) (λ w. number (least_where firsts (λ v. value v w)))
  columns =
      map_by_place number (length seconds) (least_column firsts cells)
      ∙ same_by_place (length seconds) (λ w. number (least_column firsts cells w)) (λ w. number (least_where firsts (λ v. value v w))) (λ w low. ap number (column_is w low))

  both : number (least_row firsts (map (least_row seconds) cells)) ≡ number (least_where firsts (λ v. least_where seconds (value v)))
  both =
      ap number (least_where_same firsts (λ v. get_or (map (least_row seconds) cells) v None) (λ v. least_where seconds (value v))
      (λ v low. at_map (least_row seconds) (length firsts) row v None low ∙ row_is v))

  pub cells_table : (first second : ℕ) → table_of_cells first second firsts seconds cells ≡ arc_table_of first second firsts seconds value
  cells_table first second = λ i. record {
    first = first;
    second = second;
    cells = cells;
    rows = rows i;
    columns = columns i;
    both = both i;
  }

pub values_table : (tests : List Bool) (value : ℕ → Option ℤ) → table_of_values tests (by_place (length tests) value) ≡ point_table_of tests value
values_table tests value = λ i. record { costs = map_by_place number (length tests) value i; free = free i }
  where
    free : number (least_row tests (by_place (length tests) value)) ≡ number (least_where tests value)
    free = ap number (least_where_same tests (λ v. get_or (by_place (length tests) value) v None) value (λ v low. at_place (length tests) value v None low))
