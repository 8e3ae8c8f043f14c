use Rattle.vd_space.proofs.SpacePrefixCountsCounted.{firm_at, firm_below, hard_at, hard_below, high_is, low_is}
use Rattle.vd_space.proofs.space_prefix_counts.counts_are_worked.Goals as goal

pub returns : goal.returns
returns c = record {
  low = low_is;
  high = high_is;
  hard_below = hard_below;
  firm_below = firm_below;
  hard_at = hard_at;
  firm_at = firm_at;
}
