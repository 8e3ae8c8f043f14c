use Rattle.std.proofs.lemmas.Result.{err_from_is_err_and}
use Rattle.vd_parser.proofs.Steps.{refused_last, start}
use Rattle.vd_parser.proofs.parser.Parser.ident.Goals as goal

pub returns-in_err-token-clause-tree : goal.returns-in_err-token-clause-tree
returns-in_err-token-clause-tree c =
    let p = err_from_is_err_and c.from_residual.result c.from_residual.ensures.1 in
    rw (p.1, p.2) (refused_last start c.in_err-token.ensures.token)
