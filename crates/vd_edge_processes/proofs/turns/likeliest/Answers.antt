use Rattle.std.proofs.Common.{◌+◌, ◌<◌, IfSome, sym, subst, arith, rules, slice_set}
use Rattle.vd_edge_processes.specs.Turns.{EndedAs}
use Rattle.vd_edge_processes.proofs.Ended.{found_more}
use Rattle.vd_edge_processes.proofs.turns.likeliest.Goals as goal

pub loop-number-preserved : goal.loop-number-preserved
loop-number-preserved g c = (
  search rules,
  subst (λ now. IfSome now (λ found. (found.0 < c.loop-number.number + 1)
      × EndedAs g.P.Player.ended (slice_set c.loop-number.children c.loop-number.number c.failure-status.new.self) found.0 found.1)) (sym c.likelier-found.ensures)
      (found_more g.P.Player.ended c.loop-number.children c.loop-number.number c.failure-status.new.self c.loop-number.found c.failure-status.result
      (omega (arith, c.loop-number-test.true, c.loop-number.invariant.0)) c.loop-number.invariant.1 c.failure-status.ensures.ended),
)
