-- A text that has tokens of given kinds.
use Rattle.std.specs.Prelude.{◌≡◌, ◌≢◌, ℕ, List, [], ◌∷◌, ◌++◌, map}
use Rattle.vd_source_lexer.specs.Kinds.{code_of}
use Rattle.vd_source_lexer.specs.Tokens.{Lexes, kinds}
use Rattle.vd_source_lexer.specs.declared.token.Token.{Token}
use Rattle.vd_source_lexer.specs.declared.token.TokenKind.{TokenKind}
use Rattle.vd_source_lexer.specs.declared.token.TokenKind.TheVariants as kind
use Rattle.vd_source_lexer.specs.Texts.{text_of_kind}

-- none of them is the end
abbrev pub HasNoEnd : List TokenKind → Type 0
HasNoEnd [] = Unit {0}
HasNoEnd (k ∷ ks) = (code_of k ≢ 0) × HasNoEnd ks

-- the text of a token of each kind, with a blank behind it
abbrev pub spelled : List TokenKind → List ℕ
spelled [] = []
spelled (k ∷ ks) = text_of_kind k ++ 32 ∷ spelled ks

-- The text has tokens of these kinds, and then the end.
pub record HasKinds (text : List ℕ) (ks : List TokenKind) : Type 0 where
  pub tokens : List Token
  pub lexes : Lexes text 0 tokens
  pub are : kinds tokens ≡ map code_of ks ++ 0 ∷ []
