use Rattle.std.proofs.Common.{◌≡◌}
use Rattle.vd_host_children.specs.Reading.{Printed}
use Rattle.vd_host_children.proofs.Outputs.{lines_left}
use Rattle.vd_host_children.proofs.reading.read.Given as goal

abbrev pub invariant-lines : goal.invariant-lines
invariant-lines g l = record {
  given : (g.S.Spawner.view l.spawner).given ≡ (g.S.Spawner.view l.initial.spawner).given;
  printed : Printed l.child (g.S.Spawner.view l.initial.spawner) (g.S.Spawner.view l.spawner) l.output.words l.output.over;
}

abbrev pub decreases-lines : goal.decreases-lines
decreases-lines g l = lines_left l.output
