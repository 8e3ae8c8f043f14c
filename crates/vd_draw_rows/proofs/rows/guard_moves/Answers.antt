use Rattle.std.proofs.Common.{◌||◌, map}
use Rattle.vd_draw_rows.specs.Parts.{part_of_all}
use Rattle.vd_draw_rows.specs.Rows.{drawn}
use Rattle.vd_draw_rows.proofs.Taking.{told_next}
use Rattle.vd_draw_rows.proofs.rows.guard_moves.Goals as goal

pub loop-host-preserved : goal.loop-host-preserved
loop-host-preserved c =
    let source = c.args.placed.source.now in
    let form = c.args.placed.form.now in
    let list = c.args.placed.list.now in
    told_next source form list c.args.guard (λ h. part_of_all list h (map (drawn source form list) c.args.first.now) || part_of_all list h (map (drawn source form list) c.args.other.now)) c.loop-host.host
    c.loop-host.moves c.tell.new.moves c.takes_part_in_either-is_part.result c.loop-host.invariant (c.takes_part_in_either-is_part.ensures source form) c.in_ok-tell.ensures
