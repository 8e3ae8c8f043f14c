-- What shifts come to, all together, by row and setting.
use Rattle.std.specs.Prelude.{ℕ, ◌==◌, if◌then◌else◌, List, ℤ}
use Rattle.vd_search_tree.specs.declared.shift.Shift.{Shift}
use Rattle.vd_space_tables.specs.declared.space_terms.sums.Rows.{Rows}
use Rattle.vd_space_tables.specs.Sums as all
use Rattle.vd_cost_network_tables.specs.declared.raw.RawArc.{RawArc}

abbrev pub side_of : RawArc → ℕ → ℕ
side_of arc side = if side == 0 then arc.first else arc.second

-- what a shift puts there at a setting
abbrev pub part : List RawArc → Rows → ℕ → ℕ → Shift → ℤ
part arcs rows row place shift = all.part side_of arcs rows row place shift

-- of so many rows and settings
abbrev pub sums_of : List RawArc → Rows → ℕ → ℕ → List Shift → List (List ℤ)
sums_of arcs rows count places shifts = all.sums_of side_of arcs rows count places shifts
