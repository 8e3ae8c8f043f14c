use Rattle.std.proofs.Common.{take}
use Rattle.vd_solver.specs.Visits.{AddsRules}
use Rattle.vd_solver.proofs.waiting.Waiting.add.Given as goal

abbrev pub invariant-loop-rule : goal.invariant-loop-rule
invariant-loop-rule l = AddsRules l.initial.self (take l.rule-index l.rules) l.self
