use Rattle.std.proofs.Common.{◌≡◌, ◌+◌, ◌-◌, length}
use Rattle.vd_excuse_runs.specs.declared.side.Side.{Side}
use Rattle.vd_excuse_runs.specs.Runs.{put_side, side_at}
use Rattle.vd_excuse_runs.proofs.run.reach.Given as goal

abbrev pub invariant-loop-alloc : goal.invariant-loop-alloc
invariant-loop-alloc l = record {
  same : (side : Side) → put_side l.sides.items l.at side ≡ put_side l.initial.sides.items l.at side;
  side : side_at l.sides.items l.at ≡ side_at l.initial.sides.items l.at;
}

abbrev pub decreases-loop-alloc : goal.decreases-loop-alloc
decreases-loop-alloc l = l.at + 1 - length l.sides.items
