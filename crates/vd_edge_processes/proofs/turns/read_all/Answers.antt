use Rattle.std.proofs.Common.{get_or, rules}
use Rattle.std.proofs.lemmas.Option.{slice_get-get_or}
use Rattle.vd_edge_processes.proofs.ByTurns.{kept_first, kept_more}
use Rattle.vd_edge_processes.proofs.turns.read_all.Goals as goal

pub loop-place-init : goal.loop-place-init
loop-place-init g c = kept_first g.P.Player.broken g.P.Player.left c.args.children.now

pub loop-place-preserved : goal.loop-place-preserved
loop-place-preserved g c =
    kept_more g.P.Player.broken g.P.Player.left c.args.children.now c.loop-place.children c.loop-place.place
    (get_or c.loop-place.children c.loop-place.place c.index-children-place.result) c.turn.new.self c.loop-place.invariant
    (slice_get-get_or c.loop-place.children c.loop-place.place c.index-children-place.result (search rules)) c.in_ok-turn.ensures
