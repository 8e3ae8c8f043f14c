-- The operators before an operand, turned round.
use Rattle.std.proofs.Common.{List, ap}
use mathlib.Core.List.{reverse}
use Rattle.vd_source_lexer.specs.Grammar.{Star}
use Rattle.vd_source_lexer.specs.Reading.{Gives}
use Rattle.vd_core.specs.declared.source.Sign.{Sign}
use Rattle.vd_source_lexer.specs.declared.token.Token.{Token}
use Rattle.vd_parser.specs.Language.{prefix_ops}
use Rattle.vd_parser.specs.Parsing.{language}
use Rattle.vd_parser.specs.Syntax.{prefixes_of, signs_of}

pub turned : {ts us : List Token} {ps : List Sign} → Gives language (Star prefix_ops) prefixes_of ts us ps → Gives language (Star prefix_ops) signs_of ts us (reverse ps)
turned r = record { tree = r.tree; read = r.read; value = ap reverse r.value }
