use Rattle.vd_flow.proofs.Walking.{IsUnderWay}
use Rattle.vd_flow.proofs.ways.walk.Given as goal

abbrev pub invariant-steps : goal.invariant-steps
invariant-steps l = IsUnderWay l.rules l.fn.end l.state l.steps

abbrev pub decreases-steps : goal.decreases-steps
decreases-steps l = l.round
