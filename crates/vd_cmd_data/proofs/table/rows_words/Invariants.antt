use Rattle.std.proofs.Common.{map}
use Rattle.csv.specs.Records.{fields_of}
use Rattle.vd_cmd_data.specs.Tables.{row_words}
use Rattle.vd_cmd_data.proofs.Turns.{Done}
use Rattle.vd_cmd_data.proofs.table.rows_words.Given as goal

abbrev pub invariant-loop-index : goal.invariant-loop-index
invariant-loop-index l = Done (row_words l.fn.file l.fn.columns l.fn.width) 2 (map fields_of l.fn.rows) l.index l.list
