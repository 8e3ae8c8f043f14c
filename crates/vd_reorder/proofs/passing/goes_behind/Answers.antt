use Rattle.std.proofs.Common.{◌&&◌, ◌-◌, drop, take, get_or, sym, ap, ◌∙◌}
use Rattle.std.proofs.lemmas.List.{get_or_default}
use Rattle.vd_execution.specs.declared.instructions.Instr.TheVariants as instr
use Rattle.vd_reorder.specs.Careful.{careful}
use Rattle.vd_reorder.specs.Packets.{stays_by}
use Rattle.vd_reorder.specs.Passing.{has_room, stretch_passes}
use Rattle.vd_reorder.proofs.passing.goes_behind.Goals as goal

pub returns-then-stretch_passes : goal.returns-then-stretch_passes
returns-then-stretch_passes c =
    let code = c.args.code.now in
    let behind = c.args.behind in
    let x = get_or code behind instr.Else in
    let tested = c.index-code-behind in
    let asked = c.index-code-behind-then-stretch_passes in
    let one = tested.is ∙ get_or_default code behind tested.result instr.Else c.requires.there in
    let two = asked.is ∙ get_or_default code behind asked.result instr.Else c.requires.there in
    let passes = sym c.if-stretch_passes.true ∙ c.stretch_passes.ensures ∙ ap (stretch_passes (careful (stays_by c.args.opened.now)) (take (behind - c.args.first) (drop c.args.first code))) one in
    c.has_room.ensures ∙ ap (has_room c.args.room) two ∙ ap (λ b. b && has_room c.args.room x) passes

pub returns-else-stretch_passes : goal.returns-else-stretch_passes
returns-else-stretch_passes c =
    let code = c.args.code.now in
    let behind = c.args.behind in
    let x = get_or code behind instr.Else in
    let tested = c.index-code-behind in
    let one = tested.is ∙ get_or_default code behind tested.result instr.Else c.requires.there in
    let passes = sym c.if-stretch_passes.false ∙ c.stretch_passes.ensures ∙ ap (stretch_passes (careful (stays_by c.args.opened.now)) (take (behind - c.args.first) (drop c.args.first code))) one in
    c.if-stretch_passes.false ∙ ap (λ b. b && has_room c.args.room x) passes
