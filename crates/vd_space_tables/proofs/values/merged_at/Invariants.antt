use Rattle.std.proofs.Common.{◌≡◌, ◌+◌, drop}
use Rattle.vd_space.specs.Bounds.{add, outputs_value}
use Rattle.vd_space.specs.Costs.{operation_value}
use Rattle.vd_space_tables.specs.Values.{HasRoom}
use Rattle.vd_space_tables.proofs.values.merged_at.Given as goal

abbrev pub invariant-loop-output : goal.invariant-loop-output
invariant-loop-output l = record {
  left : add l.sum (outputs_value l.problem l.slot l.place (drop l.output-index l.problem.outputs)) ≡ add (operation_value l.problem l.slot l.place) (outputs_value l.problem l.slot l.place l.problem.outputs);
  room : HasRoom (1 + l.output-index) l.sum;
}
