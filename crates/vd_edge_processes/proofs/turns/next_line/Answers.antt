use Rattle.std.proofs.Common.{Some, None, length, refl, slice_set, rules}
use Rattle.std.proofs.lemmas.Option.{slice_get_read}
use Rattle.vd_edge_processes.proofs.ByTurns.{kept_first, kept_more, kept_since, line_of, still_asked}
use Rattle.vd_edge_processes.proofs.turns.next_line.Goals as goal

pub loop-init : goal.loop-init
loop-init g c = kept_first g.P.Player.broken g.P.Player.left c.args.children.now

pub returns-in-Line : goal.returns-in-Line
returns-in-Line g c =
    line_of g.P.Player.broken g.P.Player.left c.args.children.now c.loop.children c.args.number c.index-children-number.result c.next.new.self (Some c.in-Line.line)
    c.loop.invariant (slice_get_read c.loop.children (length c.loop.children) c.args.number c.index-children-number.result refl (search rules) c.index-children-number.is) (search rules) (search rules)

pub returns-in-End : goal.returns-in-End
returns-in-End g c =
    line_of g.P.Player.broken g.P.Player.left c.args.children.now c.loop.children c.args.number c.index-children-number.result c.next.new.self None
    c.loop.invariant (slice_get_read c.loop.children (length c.loop.children) c.args.number c.index-children-number.result refl (search rules) c.index-children-number.is) (search rules) (search rules)

pub loop-preserved : goal.loop-preserved
loop-preserved g c =
    kept_since g.P.Player.broken g.P.Player.left c.args.children.now (slice_set c.loop.children c.args.number c.next.new.self) c.turn_all.new.children
    (kept_more g.P.Player.broken g.P.Player.left c.args.children.now c.loop.children c.args.number c.index-children-number.result c.next.new.self
    c.loop.invariant (slice_get_read c.loop.children (length c.loop.children) c.args.number c.index-children-number.result refl (search rules) c.index-children-number.is) (still_asked g.P.Player.broken g.P.Player.left c.index-children-number.result c.next.new.self (search rules) (search rules)))
    (search rules)
