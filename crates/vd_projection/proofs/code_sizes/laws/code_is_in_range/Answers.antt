use Rattle.vd_projection.proofs.Programs.{code_is_in_range, code_has_short_packets}
use Rattle.vd_projection.proofs.code_sizes.laws.code_is_in_range.Goals as goal

pub returns-clause-range : goal.returns-clause-range
returns-clause-range c = code_is_in_range

pub returns-clause-packets : goal.returns-clause-packets
returns-clause-packets c = code_has_short_packets
