use Rattle.std.proofs.Common.{◌≤◌, length}
use Rattle.vd_noninter_protocols.proofs.Differences.{GoesOn}
use Rattle.vd_noninter_protocols.proofs.noninter_difference.difference.first_difference.Given as goal

abbrev pub invariant-loop-at : goal.invariant-loop-at
invariant-loop-at l = (l.at ≤ length l.second) × GoesOn l.first l.second l.at
