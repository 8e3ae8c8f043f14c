use Rattle.csv.specs.Records.{fields_of}
use Rattle.vd_cmd_data.specs.Tables.{column_of}
use Rattle.vd_cmd_data.proofs.Turns.{Done}
use Rattle.vd_cmd_data.proofs.asked.columns_of.Given as goal

abbrev pub invariant-loop-index : goal.invariant-loop-index
invariant-loop-index l = Done (column_of l.fn.file (fields_of l.fn.header)) 1 l.fn.words l.index l.columns
