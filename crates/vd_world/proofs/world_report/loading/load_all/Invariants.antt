use Rattle.vd_world.proofs.Loaded.{AllLoaded}
use Rattle.vd_world.proofs.world_report.loading.load_all.Given as goal

-- each machine so far was loaded with what came so far
abbrev pub invariant-loop-code : goal.invariant-loop-code
invariant-loop-code l = AllLoaded l.yielded l.machines.items
