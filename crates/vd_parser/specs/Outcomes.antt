-- What parsing some bytes gives: the one tree of the bytes, or the one refusal.
use Rattle.std.specs.Prelude.{◌≡◌, ℕ, ◌<◌, ◌≤◌, List, [], ◌∷◌, ◌++◌, length, Result, Ok, Err}
use Rattle.vd_base.specs.Limits.{most_source_bytes}
use Rattle.vd_source_lexer.specs.Grammar.{Ebnf, Sym, Starts, ◌▸◌}
use Rattle.vd_source_lexer.specs.Trees.{Tree, Both, Makes}
use Rattle.vd_core.specs.declared.source.Source.{Source}
use Rattle.vd_source_lexer.specs.Kinds.{code_of}
use Rattle.vd_source_lexer.specs.Tokens.{Lexes, FirstBad, kinds}
use Rattle.vd_source_lexer.specs.declared.token.TokenKind.TheVariants as kind
use Rattle.vd_source_lexer.specs.declared.token.Token.{Token}
use Rattle.vd_parser.specs.declared.fault.ParseFault.{ParseFault}
use Rattle.vd_parser.specs.declared.fault.ParseFault.TheVariants as fault
use Rattle.vd_parser.specs.Language.{Symbol, rule, tok, SOURCE}
use Rattle.vd_parser.specs.Syntax.{source_of}
use Rattle.vd_parser.specs.Nesting.{OpensTooDeep, NoneTooDeep}

-- a source, and the end of the text
abbrev pub sentence : Ebnf Symbol
sentence = Sym SOURCE ▸ tok kind.End

-- the tokens begin a source; the end of the text is one of them
abbrev pub BeginSource : List Token → Type 0
BeginSource ts = Starts Symbol rule (sentence ∷ []) (kinds ts)

-- The tokens are those of a source, and it stands for its tree. text is the bytes, in which names stand.
pub record IsSource (text : List ℕ) (ts : List Token) (source : Source) : Type 0 where
  pub tree : Tree Token
  pub end : Tree Token
  pub makes : Makes Symbol Token rule (λ t. code_of t.kind) sentence ts [] (Both tree end)
  pub stands : source ≡ source_of text tree

-- The tokens before number k begin a source, and those through it begin none; it stands at the offset. None before it opens
-- a 65th bracket.
pub record IsUnexpected (ts : List Token) (k offset : ℕ) : Type 0 where
  pub before : List Token
  pub token : Token
  pub behind : List Token
  pub all : ts ≡ before ++ token ∷ behind
  pub number : k ≡ length before
  pub at : offset ≡ token.span.start
  pub begins : BeginSource before
  pub ends : BeginSource (before ++ token ∷ []) → ⊥
  pub shallow : NoneTooDeep before

-- The token at the offset is the first that opens a 65th bracket, and the tokens through it begin a source.
pub record IsTooDeep (ts : List Token) (offset : ℕ) : Type 0 where
  pub before : List Token
  pub token : Token
  pub behind : List Token
  pub all : ts ≡ before ++ token ∷ behind
  pub at : offset ≡ token.span.start
  pub begins : BeginSource (before ++ token ∷ [])
  pub deep : OpensTooDeep before token
  pub shallow : NoneTooDeep before

-- a source in which no token opens a 65th bracket
pub record IsShallow (text : List ℕ) (ts : List Token) (v : Source) : Type 0 where
  pub source : IsSource text ts v
  pub shallow : NoneTooDeep ts

-- the bytes are not too many, and have tokens of which P holds
pub record HasTokens (bytes : List ℕ) (P : List Token → Type 0) : Type 0 where
  pub short : length bytes ≤ most_source_bytes
  pub tokens : List Token
  pub lexes : Lexes bytes 0 tokens
  pub holds : P tokens

-- The one outcome of these bytes. Running out of memory is none.
abbrev pub IsParse : List ℕ → Result Source ParseFault → Type 0
IsParse bytes (Ok source) = HasTokens bytes (λ ts. IsShallow bytes ts source)
IsParse bytes (Err (fault.BadByte offset)) = (length bytes ≤ most_source_bytes) × FirstBad bytes 0 offset
IsParse bytes (Err (fault.Unexpected k offset)) = HasTokens bytes (λ ts. IsUnexpected ts k offset)
IsParse bytes (Err (fault.TooDeep offset)) = HasTokens bytes (λ ts. IsTooDeep ts offset)
IsParse bytes (Err (fault.TooLong len)) = (most_source_bytes < length bytes) × (len ≡ length bytes)
IsParse bytes (Err fault.Memory) = ⊥

-- Some bytes have one outcome, and no second one.
abbrev pub ParsesOnce : List ℕ → Type 0
ParsesOnce bytes = (r s : Result Source ParseFault) → IsParse bytes r → IsParse bytes s → r ≡ s

abbrev pub ParsesSomehow : List ℕ → Type 0
ParsesSomehow bytes = (r : Result Source ParseFault) × IsParse bytes r
