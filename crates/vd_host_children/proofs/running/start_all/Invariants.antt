use Rattle.std.proofs.Common.{◌≡◌, ◌<◌, ◌+◌, All, length, take}
use Rattle.vd_host_children.specs.Runs.{Started}
use Rattle.vd_host_children.proofs.running.start_all.Given as goal

abbrev pub invariant-loop-number : goal.invariant-loop-number
invariant-loop-number g l = record {
  started : Started l.program (g.S.Spawner.view l.initial.spawner) (take l.number l.hosts) l.children (g.S.Spawner.view l.spawner);
  count : length l.children ≡ l.number;
  known : All (λ child. child < (g.S.Spawner.view l.spawner).given) l.children;
  given : (g.S.Spawner.view l.spawner).given ≡ (g.S.Spawner.view l.initial.spawner).given + l.number;
}
