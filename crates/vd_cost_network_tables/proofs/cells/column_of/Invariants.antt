use Rattle.std.proofs.Common.{◌≡◌, None, Option, List, ℤ, map, take}
use Rattle.std.specs.Prelude.{slice_index_or}
use Rattle.vd_cost_network_tables.proofs.cells.column_of.Given as goal

abbrev pub invariant-loop-row : goal.invariant-loop-row
invariant-loop-row l = l.column ≡ map (λ (row : List (Option ℤ)). slice_index_or row l.second None) (take l.row-index l.cells)
