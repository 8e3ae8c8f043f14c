use Rattle.std.proofs.Common.{◌≡◌, [], length}
use Rattle.std.specs.List.{fold}
use Rattle.vd_cmd_data.specs.Printed.{after_byte}
use Rattle.vd_cmd_data.proofs.printed.words_of.Given as goal

abbrev pub invariant-bytes : goal.invariant-bytes
invariant-bytes l = fold after_byte l.split l.rest ≡ fold after_byte (record { words = []; begun = [] }) l.text

abbrev pub decreases-bytes : goal.decreases-bytes
decreases-bytes l = length l.rest
