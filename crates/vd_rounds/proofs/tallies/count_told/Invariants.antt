use Rattle.std.proofs.Common.{◌≤◌, length}
use Rattle.vd_rounds.proofs.TallyText.{SoFar}
use Rattle.vd_rounds.proofs.tallies.count_told.Given as goal

abbrev pub invariant-instructions : goal.invariant-instructions
invariant-instructions l = (l.left ≤ length l.code) × SoFar l.tally l.code l.left l.told l.blocks

abbrev pub decreases-instructions : goal.decreases-instructions
decreases-instructions l = l.left
