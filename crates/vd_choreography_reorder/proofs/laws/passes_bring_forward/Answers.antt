use Rattle.vd_choreography_reorder.proofs.Brought.{brought_forward, runs_on}
use Rattle.vd_choreography_reorder.proofs.Sorted.{order_brings_forward}
use Rattle.vd_choreography_reorder.proofs.laws.passes_bring_forward.Goals as goal

pub returns-clause-forward : goal.returns-clause-forward
returns-clause-forward c = brought_forward

pub returns-clause-order : goal.returns-clause-order
returns-clause-order c = order_brings_forward

pub returns-clause-runs : goal.returns-clause-runs
returns-clause-runs c = runs_on
