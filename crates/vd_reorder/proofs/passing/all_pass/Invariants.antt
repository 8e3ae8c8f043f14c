use Rattle.std.proofs.Common.{◌≡◌, length}
use Rattle.vd_reorder.specs.Careful.{careful}
use Rattle.vd_reorder.specs.Packets.{stays_by}
use Rattle.vd_reorder.specs.Passing.{all_pass}
use Rattle.vd_reorder.proofs.passing.all_pass.Given as goal

abbrev pub invariant-instructions : goal.invariant-instructions
invariant-instructions l = all_pass (careful (stays_by l.opened)) l.rest l.second ≡ all_pass (careful (stays_by l.opened)) l.block l.second

abbrev pub decreases-instructions : goal.decreases-instructions
decreases-instructions l = length l.rest
