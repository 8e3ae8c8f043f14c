-- Registers in rows.
use Rattle.std.specs.Prelude.{List, ◌++◌}
use Rattle.vd_execution.specs.declared.instructions.Reg.{Reg}
use Rattle.vd_reorder.specs.ReorderLawsTesting.{row}
use Rattle.vd_reorder.specs.declared.registers.Row.{Row}
use Rattle.vd_reorder.specs.declared.registers.Rows.{Rows}

abbrev pub in_row : Row → List Reg
in_row r = row r.first.0 r.count

abbrev pub in_rows : Rows → List Reg
in_rows rows = in_row rows.first ++ (in_row rows.second ++ in_row rows.third)
