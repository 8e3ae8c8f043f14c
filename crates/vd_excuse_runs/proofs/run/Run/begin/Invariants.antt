use Rattle.std.proofs.Common.{◌≡◌, ◌≤◌, ◌-◌, drop, take, length}
use Rattle.vd_excuse_runs.specs.Runs.{begun, begun_behind}
use Rattle.vd_excuse_runs.proofs.run.Run.begin.Given as goal

abbrev pub invariant-loop-i : goal.invariant-loop-i
invariant-loop-i l = record {
  within : l.i ≤ length l.parts;
  same : begun_behind (take l.i l.parts) (drop l.i l.parts) l.turn l.self ≡ begun l.parts l.turn l.initial.self;
}

abbrev pub decreases-loop-i : goal.decreases-loop-i
decreases-loop-i l = length l.parts - l.i
