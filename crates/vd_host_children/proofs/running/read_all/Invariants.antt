use Rattle.std.proofs.Common.{◌≡◌, length, take}
use Rattle.vd_host_children.specs.Runs.{ReadToEnd}
use Rattle.vd_host_children.proofs.running.read_all.Given as goal

abbrev pub invariant-loop-number : goal.invariant-loop-number
invariant-loop-number g l = record {
  read : ReadToEnd (g.S.Spawner.view l.initial.spawner) (take l.number l.children) l.printed (g.S.Spawner.view l.spawner);
  count : length l.printed ≡ l.number;
  given : (g.S.Spawner.view l.spawner).given ≡ (g.S.Spawner.view l.initial.spawner).given;
}
