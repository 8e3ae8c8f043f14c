use Rattle.std.proofs.Common.{◌+◌, ◌||◌, map, drop, sym, ap, ◌∙◌, arith}
use Rattle.std.proofs.lemmas.List.{drop_all}
use Rattle.vd_constraints.proofs.Front.{stmt_fits}
use Rattle.vd_draw_rows.specs.Rows.{drawn}
use Rattle.vd_draw_rows.specs.Parts.{part_of_all}
use Rattle.vd_draw_rows.proofs.Taking.{part_for, part_if_first, part_if_other, part_next}
use Rattle.vd_draw_rows.proofs.parts.+parts.Goals as goal

pub takes_part-is_part-requires : goal.takes_part-is_part-requires
takes_part-is_part-requires t c = (omega (arith, stmt_fits c.args.body.now c.loop-stmt.stmt-index c.stmt-item.result c.loop-stmt-test.true c.stmt-item.is), tt)

pub takes_part-loop-stmt-preserved : goal.takes_part-loop-stmt-preserved
takes_part-loop-stmt-preserved t c = λ source p.
    let rest = part_of_all c.args.list.now c.args.host (map (drawn source p c.args.list.now) (drop (c.loop-stmt.stmt-index + 1) c.args.body.now)) in
    sym (part_next source p c.args.list.now c.args.host c.args.body.now c.loop-stmt.stmt-index c.stmt-item.result c.loop-stmt-test.true c.stmt-item.is
    ∙ ap (λ b. b || rest) (sym (c.is_part.ensures source p) ∙ c.if-is_part.false)) ∙ c.loop-stmt.invariant source p

pub takes_part-returns-then-is_part : goal.takes_part-returns-then-is_part
takes_part-returns-then-is_part t c = λ source p.
    let rest = part_of_all c.args.list.now c.args.host (map (drawn source p c.args.list.now) (drop (c.loop-stmt.stmt-index + 1) c.args.body.now)) in
    sym (part_next source p c.args.list.now c.args.host c.args.body.now c.loop-stmt.stmt-index c.stmt-item.result c.loop-stmt-test.true c.stmt-item.is
    ∙ ap (λ b. b || rest) (sym (c.is_part.ensures source p) ∙ c.if-is_part.true)) ∙ c.loop-stmt.invariant source p

pub takes_part-returns : goal.takes_part-returns
takes_part-returns t c = λ source p.
    sym (ap (λ body. part_of_all c.args.list.now c.args.host (map (drawn source p c.args.list.now) body)) (drop_all c.loop-stmt.stmt-index c.args.body.now c.loop-stmt-test.false)) ∙ c.loop-stmt.invariant source p

pub is_part-returns-then-takes_part : goal.is_part-returns-then-takes_part
is_part-returns-then-takes_part t c = λ source p.
    rw c.in-If.is
    (part_if_first source p c.args.list.now c.args.host c.in-If.guard c.in-If.then_block c.in-If.else_block c.in-If.field-3 c.as_slice.result.now c.is_kept-in-If.result c.takes_part.result c.is_kept-in-If.ensures
    c.if-is_kept.false c.as_slice.ensures (c.takes_part.ensures source p) c.if-takes_part.true)

pub is_part-returns-else-takes_part : goal.is_part-returns-else-takes_part
is_part-returns-else-takes_part t c = λ source p.
    rw c.in-If.is
    (part_if_other source p c.args.list.now c.args.host c.in-If.guard c.in-If.then_block c.in-If.else_block c.in-If.field-3 c.as_slice.result.now c.as_slice-in-If.result.now c.is_kept-in-If.result c.takes_part.result
    c.takes_part-in-If.result c.is_kept-in-If.ensures c.if-is_kept.false c.as_slice.ensures (c.takes_part.ensures source p) c.if-takes_part.false c.as_slice-in-If.ensures (c.takes_part-in-If.ensures source p))

pub is_part-returns-in-For : goal.is_part-returns-in-For
is_part-returns-in-For t c = λ source p.
    rw c.in-For.is
    (c.takes_part-in-For.ensures source p ∙ ap (λ body. part_of_all c.args.list.now c.args.host (map (drawn source p c.args.list.now) body)) c.as_slice-in-For.ensures
    ∙ sym (part_for source p c.args.list.now c.args.host c.in-For.field-0 c.in-For.body))
