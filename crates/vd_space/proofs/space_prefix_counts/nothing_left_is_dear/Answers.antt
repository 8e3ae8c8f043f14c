use Rattle.vd_space.proofs.SpacePrefixCountsCounted.{high_dear, network_dear, low_dear}
use Rattle.vd_space.proofs.space_prefix_counts.nothing_left_is_dear.Goals as goal

pub returns : goal.returns
returns c = record { low = low_dear; high = high_dear; by_arcs = network_dear }
