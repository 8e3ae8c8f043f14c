use Rattle.std.proofs.lemmas.Result.{err_from_is_err_and}
use Rattle.vd_parser.proofs.Steps.{last, next, refused_first, refused_last, start}
use Rattle.vd_parser.proofs.Meanings.{typed_is}
use Rattle.vd_parser.proofs.parser.Parser.typed.Goals as goal

pub returns-in_err-name : goal.returns-in_err-name
returns-in_err-name c =
    let w0 = start in
    let p = err_from_is_err_and c.from_residual.result c.from_residual.ensures.1 in
    rw (p.1, p.2) (refused_first w0 c.in_err-name.ensures.tree)

pub returns-in_err-expect : goal.returns-in_err-expect
returns-in_err-expect c =
    let w0 = start in
    let w1 = next w0 c.in_ok-name.ensures.tree in
    let p = err_from_is_err_and c.from_residual-in_err-expect.result c.from_residual-in_err-expect.ensures.1 in
    rw (p.1, p.2) (refused_first w1 c.in_err-expect.ensures.token)

pub returns-in_err-kind : goal.returns-in_err-kind
returns-in_err-kind c =
    let w0 = start in
    let w1 = next w0 c.in_ok-name.ensures.tree in
    let w2 = next w1 c.in_ok-expect.ensures.token in
    let p = err_from_is_err_and c.from_residual-in_err-kind.result c.from_residual-in_err-kind.ensures.1 in
    rw (p.1, p.2) (refused_last w2 c.in_err-kind.ensures)

pub returns : goal.returns
returns c =
    let w0 = start in
    let w1 = next w0 c.in_ok-name.ensures.tree in
    let w2 = next w1 c.in_ok-expect.ensures.token in
    last w2 c.in_ok-kind.ensures (typed_is _ _ _ _ _ _ c.in_ok-name.ensures.tree.value c.in_ok-kind.ensures.value)
