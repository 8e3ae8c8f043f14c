use Rattle.std.proofs.Common.{◌≡◌, refl}
use Rattle.vd_source_lexer.specs.Kinds.{code_of}
use Rattle.vd_source_lexer.specs.declared.token.TokenKind.{TokenKind}
use Rattle.vd_source_lexer.specs.declared.token.TokenKind.TheVariants as kind
use Rattle.vd_source_lexer.specs.contracts.token.TokenKind as declared
use denote.Enum.Declared.{tag_of}
use Rattle.vd_source_lexer.proofs.token.TokenKind.code.Goals as goal

tag : (k : TokenKind) → tag_of declared.the_type k ≡ code_of k
tag kind.End = refl
tag _ = refl

pub returns : goal.returns
returns c = tag c.args.self
