-- What is said of a text that is no source.
use Rattle.std.specs.Prelude.{◌≡◌, ◌⊎◌, ℕ, List, [], ◌∷◌, ◌++◌, length, slice_index, Option, Some, None, Err}
use Rattle.vd_source_lexer.specs.Tokens.{Lexes}
use Rattle.vd_source_lexer.specs.declared.token.Token.{Token}
use Rattle.vd_source_lexer.specs.declared.token.TokenKind.{TokenKind}
use Rattle.vd_parser.specs.Outcomes.{IsParse}
use Rattle.vd_parser.specs.declared.fault.ParseFault.{ParseFault}
use Rattle.vd_parser.specs.declared.fault.ParseFault.TheVariants as fault
use Rattle.vd_diag_source.specs.Following.{following, IsTooLong}
use Rattle.vd_diag.specs.declared.remark.Remark.{Remark}
use Rattle.vd_diag.specs.Remarks.{at, of_file}
use Rattle.vd_diag_source.specs.Syntax.{unexpected_sentence, refused_sentence, bad_byte_sentence, nesting_sentence, long_sentence}

-- Of a token that is refused behind those before it: what it is, and each kind of token with which a source goes on there,
-- and no other. Only where the tokens before are too long to be tried the kinds are left out.
abbrev pub Tells : List ℕ → List Token → Token → List ℕ → Type 0
Tells bytes before token sentence =
    (sentence ≡ unexpected_sentence bytes token (following before))
    ⊎ (((k : TokenKind) × IsTooLong before k) × (sentence ≡ refused_sentence bytes token))

-- the same of the token with this number among those of the text
abbrev pub TellsNumber : List ℕ → ℕ → List ℕ → Type 0
TellsNumber bytes number sentence =
    (before : List Token) (token : Token) (behind : List Token) → Lexes bytes 0 (before ++ token ∷ behind) → number ≡ length before → Tells bytes before token sentence

-- a sentence at the offset
pub record IsUnexpectedRemark (bytes : List ℕ) (number offset : ℕ) (remark : Remark) : Type 0 where
  pub place : remark.offset ≡ Some offset
  pub tells : TellsNumber bytes number remark.sentence

-- what is said of a fault in these bytes; running out of memory is no fault of theirs
abbrev pub IsSyntaxRemark : List ℕ → ParseFault → Remark → Type 0
IsSyntaxRemark bytes (fault.BadByte offset) remark = remark ≡ at offset (bad_byte_sentence (slice_index bytes offset))
IsSyntaxRemark bytes (fault.Unexpected number offset) remark = IsUnexpectedRemark bytes number offset remark
IsSyntaxRemark bytes (fault.TooDeep offset) remark = remark ≡ at offset nesting_sentence
IsSyntaxRemark bytes (fault.TooLong len) remark = remark ≡ of_file (long_sentence len)
IsSyntaxRemark bytes fault.Memory remark = ⊥

-- What is said of a fault where the bytes have it. Nothing is said only where they do not.
abbrev pub SaysOfSyntax : List ℕ → ParseFault → Option Remark → Type 0
SaysOfSyntax bytes fault None = IsParse bytes (Err fault) → ⊥
SaysOfSyntax bytes fault (Some remark) = IsParse bytes (Err fault) → IsSyntaxRemark bytes fault remark
