use Rattle.std.proofs.Common.{◌≡◌}
use Rattle.std.specs.Prelude.{slice_index}
use Rattle.vd_choreography_reorder.specs.Testing.{opened_at}
use Rattle.vd_choreography_reorder.specs.Ranks.{nothing_left, ranked}
use Rattle.vd_choreography_reorder.proofs.Tables.{behind_all}
use Rattle.vd_choreography_reorder.proofs.ranks.rank_lines.Given as goal

abbrev pub invariant-loop-line : goal.invariant-loop-line
invariant-loop-line l = (slice_index l.ranks ≡ behind_all (opened_at l.opened) nothing_left l.yielded) × (l.list ≡ ranked (opened_at l.opened) nothing_left l.yielded)
