use Rattle.std.proofs.Common.{◌≡◌, ◌+◌, length}
use Rattle.vd_cmd_data.specs.Names.{value_len}
use Rattle.vd_cmd_data.proofs.names.value_len.Given as goal

abbrev pub invariant-bytes : goal.invariant-bytes
invariant-bytes l = (l.len + value_len l.rest ≡ value_len l.text) × (l.len + length l.rest ≡ length l.text)

abbrev pub decreases-bytes : goal.decreases-bytes
decreases-bytes l = length l.rest
