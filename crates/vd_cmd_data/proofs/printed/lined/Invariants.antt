use Rattle.std.proofs.Common.{◌≡◌, length}
use Rattle.vd_cmd_data.specs.Printed.{lined}
use Rattle.vd_cmd_data.proofs.printed.lined.Given as goal

abbrev pub invariant-words : goal.invariant-words
invariant-words l = lined l.file l.host l.fault l.rest ≡ lined l.file l.host l.fault l.words

abbrev pub decreases-words : goal.decreases-words
decreases-words l = length l.rest
