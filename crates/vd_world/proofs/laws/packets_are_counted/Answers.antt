use Rattle.vd_world.proofs.Counting.{each_counts, none_counts}
use Rattle.vd_world.proofs.laws.packets_are_counted.Goals as goal

pub returns : goal.returns
returns c = record { none = none_counts; each = each_counts }
