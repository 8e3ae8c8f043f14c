use Rattle.std.proofs.Common.{◌≡◌}
use Rattle.vd_test_rows.proofs.system.children.child_lines.Given as goal

abbrev pub invariant-loop : goal.invariant-loop
invariant-loop g l = (g.S.Spawner.view l.spawner).given ≡ (g.S.Spawner.view l.initial.spawner).given
