use Rattle.std.proofs.Common.{arith}
use Rattle.vd_lsp_wire.proofs.Heads.{framed, left_within, unframed}
use Rattle.vd_lsp_wire.proofs.framing.next_frame.Goals as goal

pub behind-requires : goal.behind-requires
behind-requires c =
    omega (arith, c.len.ensures, left_within _ c.args.stream.now c.new-cursor.result c.read_head.new.cursor c.new-cursor.ensures c.in-Ok.ensures)

pub returns-in-Ok : goal.returns-in-Ok
returns-in-Ok c =
    framed _ c.len.result c.args.stream.now c.new-cursor.result c.read_head.new.cursor c.behind.result.now c.body_of.result c.new-cursor.ensures c.in-Ok.ensures c.len.ensures c.behind.ensures
    c.body_of.ensures

pub returns-in-Err : goal.returns-in-Err
returns-in-Err c =
    unframed c.args.stream.now c.new-cursor.result c.read_head.new.cursor c.as_slice.result.now c.unread.result c.new-cursor.ensures c.in-Err.ensures c.as_slice.ensures c.unread.ensures
