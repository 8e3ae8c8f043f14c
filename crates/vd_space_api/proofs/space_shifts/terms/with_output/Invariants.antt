use Rattle.std.proofs.Common.{◌≡◌, None}
use Rattle.std.specs.Prelude.{slice_index_or}
use Rattle.vd_base.specs.declared.protocols.Proto.TheVariants.{Local}
use Rattle.vd_base.specs.Moves.{move_at}
use Rattle.vd_base.specs.Holders.{proto_in}
use Rattle.vd_space.specs.Costs.{plus}
use Rattle.vd_space_api.specs.Rows.{by_place, weighed}
use Rattle.vd_space_api.proofs.space_shifts.terms.with_output.Given as goal

abbrev pub invariant-loop-place : goal.invariant-loop-place
invariant-loop-place l = l.sums ≡ by_place l.place (λ p. plus (weighed l.output.weight (move_at (proto_in l.list p) (Local l.output.host))) (slice_index_or l.row p None))
