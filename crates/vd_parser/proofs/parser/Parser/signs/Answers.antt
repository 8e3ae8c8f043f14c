use Rattle.std.proofs.lemmas.Result.{err_from_is_err_and}
use Rattle.vd_parser.proofs.Signs.{turned}
use Rattle.vd_parser.proofs.parser.Parser.signs.Goals as goal

pub returns-in_err-prefixes : goal.returns-in_err-prefixes
returns-in_err-prefixes c =
    let p = err_from_is_err_and c.from_residual.result c.from_residual.ensures.1 in
    rw (p.1, p.2) c.in_err-prefixes.ensures

pub returns : goal.returns
returns c = rw (c.from_vec.ensures, c.reverse.ensures.items, c.into_vec-signs.ensures) (turned c.in_ok-prefixes.ensures)
