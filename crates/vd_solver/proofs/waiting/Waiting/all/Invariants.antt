use Rattle.std.proofs.Common.{ℕ, ◌<◌}
use Rattle.std.specs.Prelude.{All, Contains}
use Rattle.vd_solver.proofs.waiting.Waiting.all.Given as goal

abbrev pub invariant-loop-rule : goal.invariant-loop-rule
invariant-loop-rule l = All (λ rule. rule < l.count) l.queue.items × ((rule : ℕ) → rule < l.rule → Contains l.queue.items rule)
