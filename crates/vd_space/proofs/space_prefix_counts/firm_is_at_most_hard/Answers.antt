use Rattle.vd_space.proofs.Firm.{at_most}
use Rattle.vd_space.proofs.space_prefix_counts.firm_is_at_most_hard.Goals as goal

pub returns : goal.returns
returns c = at_most
