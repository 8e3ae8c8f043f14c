use Rattle.std.proofs.Common.{◌≡◌, drop}
use Rattle.csv.specs.Records.{fields_of}
use Rattle.vd_cmd_data.specs.Tables.{place_from}
use Rattle.vd_cmd_data.proofs.asked.place_of.Given as goal

abbrev pub invariant-loop-place : goal.invariant-loop-place
invariant-loop-place l = place_from l.fn.name 0 (fields_of l.fn.header) ≡ place_from l.fn.name l.place (drop l.place (fields_of l.fn.header))
