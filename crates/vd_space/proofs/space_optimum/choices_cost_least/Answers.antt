use Rattle.vd_space.proofs.Cheapest.{back, cheapest}
use Rattle.vd_space.proofs.space_optimum.choices_cost_least.Goals as goal

pub returns : goal.returns
returns c = record { cheapest = cheapest; back = back }
