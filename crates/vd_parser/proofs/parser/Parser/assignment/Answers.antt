use Rattle.std.proofs.Common.{◌∙◌}
use Rattle.std.proofs.lemmas.Result.{err_from_is_err_and}
use Rattle.vd_parser.proofs.Steps.{last, next, refused_first, refused_last, start}
use Rattle.vd_parser.proofs.Meanings.{assign_is}
use Rattle.vd_parser.proofs.parser.Parser.assignment.Goals as goal

pub returns-in_err-name : goal.returns-in_err-name
returns-in_err-name c =
    let w0 = start in
    let p = err_from_is_err_and c.from_residual.result c.from_residual.ensures.1 in
    rw (p.1, p.2) (refused_first w0 c.in_err-name.ensures.tree)

pub returns-in_err-index : goal.returns-in_err-index
returns-in_err-index c =
    let w0 = start in
    let w1 = next w0 c.in_ok-name.ensures.tree in
    let p = err_from_is_err_and c.from_residual-in_err-index.result c.from_residual-in_err-index.ensures.1 in
    rw (p.1, p.2) (refused_first w1 c.in_err-index.ensures)

pub returns-in_err-value : goal.returns-in_err-value
returns-in_err-value c =
    let w0 = start in
    let w1 = next w0 c.in_ok-name.ensures.tree in
    let w2 = next w1 c.in_ok-index.ensures in
    let p = err_from_is_err_and c.from_residual-in_err-value.result c.from_residual-in_err-value.ensures.1 in
    rw (p.1, p.2) (refused_last w2 c.in_err-value.ensures)

pub returns : goal.returns
returns c =
    let w0 = start in
    let w1 = next w0 c.in_ok-name.ensures.tree in
    let w2 = next w1 c.in_ok-index.ensures in
    last w2 c.in_ok-value.ensures (c.assigned.ensures ∙ assign_is _ _ _ _ _ _ _ c.in_ok-name.ensures.tree.value c.in_ok-index.ensures.value c.in_ok-value.ensures.value)
