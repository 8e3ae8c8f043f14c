use Rattle.std.proofs.Common.{sym, ap, ◌∙◌}
use Rattle.vd_reorder.specs.Careful.{careful}
use Rattle.vd_reorder.specs.Packets.{stays_by}
use Rattle.vd_reorder.specs.Passing.{room_behind, window}
use Rattle.vd_reorder.proofs.Sinking.{begun, last, step, stopped}
use Rattle.vd_reorder.proofs.passing.sink.Goals as goal

pub instructions-init : goal.instructions-init
instructions-init c = begun (careful (stays_by c.args.opened.now)) c.args.code.now c.args.start c.end_of-behind.result window c.requires c.end_of-behind.ensures

pub instructions-preserved : goal.instructions-preserved
instructions-preserved c =
    step (careful (stays_by c.args.opened.now)) _ _ c.instructions.code c.instructions.first c.instructions.behind c.instructions.room c.instructions.invariant c.index-code-behind.result
    c.rise.new.code c.room_behind-room.result c.instructions-test.true c.index-code-behind.is (sym c.if-goes_behind.ensures)
    (c.room_behind-room.ensures ∙ ap (room_behind c.instructions.room) (sym c.index-code-behind.is)) c.rise.auto.code c.rise.ensures

pub returns-else-goes_behind : goal.returns-else-goes_behind
returns-else-goes_behind c =
    stopped (careful (stays_by c.args.opened.now)) _ _ c.instructions.code c.instructions.first c.instructions.behind c.instructions.room c.instructions.invariant c.instructions-test.true
    (sym c.if-goes_behind.ensures)

pub returns-after-instructions : goal.returns-after-instructions
returns-after-instructions c =
    last (careful (stays_by c.args.opened.now)) _ _ c.instructions.code c.instructions.first c.instructions.behind c.instructions.room c.instructions.invariant c.instructions-test.false

pub shape_of-code-else-goes_behind : goal.shape_of-code-else-goes_behind
shape_of-code-else-goes_behind c = c.instructions.invariant.size_is

pub shape_of-code-after-instructions : goal.shape_of-code-after-instructions
shape_of-code-after-instructions c = c.instructions.invariant.size_is
