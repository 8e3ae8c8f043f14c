use Rattle.std.proofs.Common.{map}
use Rattle.csv.specs.Reading.{strip_bom}
use Rattle.csv.specs.Records.{fields_of}
use Rattle.vd_cmd_data.proofs.Records.{are_records}
use Rattle.vd_cmd_data.proofs.table.records_of.Goals as goal

pub returns-in-Ok-clause-ok : goal.returns-in-Ok-clause-ok
returns-in-Ok-clause-ok c = are_records (map fields_of c.in-Ok.rows.items) (strip_bom c.args.text.now) c.in-Ok.ensures
