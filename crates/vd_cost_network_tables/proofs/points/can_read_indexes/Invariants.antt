use Rattle.std.proofs.Common.{◌≡◌, drop}
use Rattle.std.specs.List.{list_all}
use Rattle.vd_space.specs.Arcs.{index_readable}
use Rattle.vd_cost_network_tables.proofs.points.can_read_indexes.Given as goal

abbrev pub invariant-loop-index : goal.invariant-loop-index
invariant-loop-index l = list_all (index_readable l.problem l.slot l.place) (drop l.index-index l.problem.indexes) ≡ list_all (index_readable l.problem l.slot l.place) l.problem.indexes
