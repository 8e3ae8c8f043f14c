use Rattle.std.proofs.Common.{◌≤◌, length}
use Rattle.vd_deal_needs.specs.Lists.{source_in}
use Rattle.vd_deal_needs.proofs.Taken.{SoFar}
use Rattle.vd_deal_needs.proofs.counting.count.Given as goal

abbrev pub invariant-instructions : goal.invariant-instructions
invariant-instructions l = (l.left ≤ length l.code) × SoFar (source_in l.list) l.code l.left l.taken l.blocks

abbrev pub decreases-instructions : goal.decreases-instructions
decreases-instructions l = l.left
