-- The parts of network tables, as plain lists.
use Rattle.std.specs.Prelude.{ℕ, ◌+◌, ◌&&◌, Bool, true, false, Option, None, option_map, unwrap_or, List, [], ◌∷◌, ◌++◌, map, length, slice_index_or, ℤ, pos, ◌+ℤ◌, ◌-ℤ◌}
use Rattle.std.specs.List.{list_all}
use Rattle.vd_base.specs.declared.ids.HostId.{HostId}
use Rattle.vd_base.specs.declared.protocols.Proto.{Proto}
use Rattle.vd_base.specs.Holders.{is_holder, proto_in}
use Rattle.vd_search_tree.specs.declared.shift.Shift.{Shift}
use Rattle.vd_space.specs.declared.problem.Problem.{Problem}
use Rattle.vd_space.specs.declared.problem.Guard.{Guard}
use Rattle.vd_space.specs.Validity.{protocols, all_hosts, is_candidate}
use Rattle.vd_space.specs.Costs.{One, Pair}
use Rattle.vd_space.specs.Bounds.{only_if}
use Rattle.vd_space_prefix.specs.Tables.{gain_at}
use Rattle.vd_space_prefix.specs.Transfers.{by_place, least_where}
use Rattle.vd_space.specs.Points.{Switch, at_point, members, points, switch_of}
use Rattle.vd_space.specs.Arcs.{index_readable, arcs, parts, point_value, switch_value}
use Rattle.vd_space.specs.Network.{network_one, network_pairs, no_parts_left}
use Rattle.vd_cost_network_prefix.specs.declared.made.ArcTable.{ArcTable}
use Rattle.vd_cost_network_prefix.specs.declared.made.PointTable.{PointTable}
use Rattle.vd_cost_network_prefix.specs.declared.made.SwitchTable.{SwitchTable}
use Rattle.vd_cost_network_prefix.specs.States.{settings}
use Rattle.vd_cost_network_tables.specs.declared.raw.RawArc.{RawArc}

-- ---- switches

-- the place of a list passes, and is kept at the host
abbrev pub is_kept : List Proto → List Bool → HostId → ℕ → Bool
is_kept list tests h p = slice_index_or tests p false && is_holder (proto_in list p) h

-- by the number of its guard
abbrev pub switch_table : Problem → ℕ → Guard → HostId → SwitchTable
switch_table problem number guard h = record { guard = number; host = h; members = members problem (switch_of guard h) }

abbrev pub switch_tables_at : Problem → ℕ → Guard → List SwitchTable
switch_tables_at problem number guard = map (switch_table problem number guard) (all_hosts problem)

-- of guards, of which the first has this number
abbrev pub switch_tables_from : Problem → ℕ → List Guard → List SwitchTable
switch_tables_from problem number [] = []
switch_tables_from problem number (guard ∷ rest) = switch_tables_at problem number guard ++ switch_tables_from problem (number + 1) rest

-- ---- arcs without shifts, and points

-- what an arc costs at the settings of its points
abbrev pub cells_of : Problem → Pair → List (List (Option ℤ))
cells_of problem arc = by_place (settings problem arc.first) (λ v. by_place (settings problem arc.second) (arc.value v))

abbrev pub raw_arc : Problem → Pair → RawArc
raw_arc problem arc = record { first = arc.first; second = arc.second; cells = cells_of problem arc }

-- less what shifts take at the settings of either side
abbrev pub shifted_row : List (Option ℤ) → ℤ → List ℤ → List (Option ℤ)
shifted_row row from to = by_place (length row) (λ w. option_map (λ c. c -ℤ (from +ℤ slice_index_or to w (pos 0))) (slice_index_or row w None))

abbrev pub shifted_cells : List (List (Option ℤ)) → List ℤ → List ℤ → List (List (Option ℤ))
shifted_cells cells from to = by_place (length cells) (λ v. shifted_row (slice_index_or cells v []) (slice_index_or from v (pos 0)) to)

-- what a slot alone costs at a place, in parts: where its indexes can be read, with what shifts put on it
abbrev pub own_value : Problem → ℕ → List (Option ℤ) → List ℤ → ℕ → Option ℤ
own_value problem slot values amounts p =
    option_map (λ c. c +ℤ slice_index_or amounts p (pos 0)) (only_if (list_all (index_readable problem slot p) problem.indexes) (parts (slice_index_or values p None)))

-- what a switch costs off and on, with what shifts put on it
abbrev pub switch_values : Problem → Switch → List ℤ → List (Option ℤ)
switch_values problem switch amounts = by_place 2 (λ v. option_map (λ c. c +ℤ slice_index_or amounts v (pos 0)) (switch_value problem v switch))

-- ---- tables of lists of values

abbrev pub least_row : List Bool → List (Option ℤ) → Option ℤ
least_row seconds row = least_where seconds (λ w. slice_index_or row w None)

abbrev pub least_column : List Bool → List (List (Option ℤ)) → ℕ → Option ℤ
least_column firsts cells w = least_row firsts (map (λ row. slice_index_or row w None) cells)

abbrev pub table_of_cells : ℕ → ℕ → List Bool → List Bool → List (List (Option ℤ)) → ArcTable
table_of_cells first second firsts seconds cells = record {
  first = first;
  second = second;
  cells = cells;
  rows = map (λ value. unwrap_or value no_parts_left) (map (least_row seconds) cells);
  columns = map (λ value. unwrap_or value no_parts_left) (by_place (length seconds) (least_column firsts cells));
  both = unwrap_or (least_row firsts (map (least_row seconds) cells)) no_parts_left;
}

abbrev pub table_of_values : List Bool → List (Option ℤ) → PointTable
table_of_values tests values = record {
  costs = map (λ value. unwrap_or value no_parts_left) values;
  free = unwrap_or (least_row tests values) no_parts_left;
}

-- ---- tables of terms

-- at which settings a point may stand
abbrev pub tests_of : Problem → ℕ → List Bool
tests_of problem point = at_point problem (λ slot. by_place (length (protocols problem)) (is_candidate problem slot)) (λ switch. true ∷ true ∷ []) [] point

-- over the settings that pass
abbrev pub arc_table_of : ℕ → ℕ → List Bool → List Bool → (ℕ → ℕ → Option ℤ) → ArcTable
arc_table_of first second firsts seconds value = record {
  first = first;
  second = second;
  cells = by_place (length firsts) (λ v. by_place (length seconds) (value v));
  rows = by_place (length firsts) (λ v. unwrap_or (least_where seconds (value v)) no_parts_left);
  columns = by_place (length seconds) (λ w. unwrap_or (least_where firsts (λ v. value v w)) no_parts_left);
  both = unwrap_or (least_where firsts (λ v. least_where seconds (value v))) no_parts_left;
}

abbrev pub point_table_of : List Bool → (ℕ → Option ℤ) → PointTable
point_table_of tests value = record {
  costs = by_place (length tests) (λ v. unwrap_or (value v) no_parts_left);
  free = unwrap_or (least_where tests value) no_parts_left;
}

-- of a problem's arcs and points under shifts, by number
abbrev pub arc_table : Problem → Pair → ArcTable
arc_table problem arc = arc_table_of arc.first arc.second (tests_of problem arc.first) (tests_of problem arc.second) arc.value

abbrev pub arc_tables_of : Problem → List Shift → List ArcTable
arc_tables_of problem shifts = map (arc_table problem) (network_pairs shifts 0 (arcs problem))

abbrev pub point_table : Problem → One → PointTable
point_table problem one = point_table_of (tests_of problem one.slot) one.value

abbrev pub point_tables_of : Problem → List Shift → List PointTable
point_tables_of problem shifts = map (point_table problem) (map (network_one problem shifts) (points problem))

-- by what shifts put on each point, by setting
abbrev pub table_by : Problem → List (List ℤ) → ℕ → PointTable
table_by problem sums point =
    table_of_values (tests_of problem point) (by_place (settings problem point) (λ v. option_map (λ c. c +ℤ gain_at sums point v) (point_value problem point v)))

abbrev pub table_at : Problem → List Shift → ℕ → PointTable
table_at problem shifts point = point_table problem (network_one problem shifts point)
