use Rattle.csv.specs.Records.{fields_of}
use Rattle.vd_cmd_data.specs.Tables.{word_at}
use Rattle.vd_cmd_data.proofs.Turns.{Done}
use Rattle.vd_cmd_data.proofs.table.words_at.Given as goal

abbrev pub invariant-loop-column : goal.invariant-loop-column
invariant-loop-column l = Done (λ _ column. word_at l.fn.file l.fn.number (fields_of l.fn.row) column) 1 l.fn.columns l.column-index l.words
