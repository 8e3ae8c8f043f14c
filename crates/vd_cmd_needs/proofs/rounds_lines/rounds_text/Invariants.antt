use Rattle.std.proofs.Common.{◌≡◌, ◌≤◌, ◌-◌, length}
use Rattle.vd_cmd_needs.specs.RoundsLines.{rounds_below}
use Rattle.vd_cmd_needs.proofs.rounds_lines.rounds_text.Given as goal

abbrev pub invariant-hosts : goal.invariant-hosts
invariant-hosts l = (l.from ≤ length l.codes) × (l.text ≡ rounds_below l.names l.codes l.from)

abbrev pub decreases-hosts : goal.decreases-hosts
decreases-hosts l = length l.codes - l.from
