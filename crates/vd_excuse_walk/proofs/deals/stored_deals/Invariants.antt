use Rattle.std.proofs.Common.{◌≡◌, ◌++◌, drop}
use Rattle.vd_excuse_walk.specs.Claims.{stored_deals}
use Rattle.vd_excuse_walk.proofs.deals.stored_deals.Given as goal

abbrev pub invariant-loop-host : goal.invariant-loop-host
invariant-loop-host l = l.stored ++ stored_deals l.host l.sides (drop l.host l.deals) ≡ stored_deals 0 l.sides l.deals
