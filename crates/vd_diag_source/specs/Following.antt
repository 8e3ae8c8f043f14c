-- The kinds of tokens with which a source goes on.
use Rattle.std.specs.Prelude.{ℕ, ◌<◌, Bool, is_ok, nat_eq, if◌then◌else◌, List, [], ◌∷◌, ◌++◌, filter, length, map}
use Rattle.vd_base.specs.Limits.{most_source_bytes}
use Rattle.vd_source_lexer.specs.Grammar.{Starts}
use Rattle.vd_source_lexer.specs.Machine.{firsts, run}
use Rattle.vd_source_lexer.specs.Kinds.{code_of}
use Rattle.vd_source_lexer.specs.Tokens.{kinds}
use Rattle.vd_source_lexer.specs.declared.token.Token.{Token}
use Rattle.vd_source_lexer.specs.declared.token.TokenKind.{TokenKind}
use Rattle.vd_source_lexer.specs.SourceSpellingKinds.{all_kinds}
use Rattle.vd_source_lexer.specs.Spelled.{spelled}
use Rattle.vd_parser.specs.Language.{Symbol, rule}
use Rattle.vd_parser.specs.Outcomes.{sentence}

-- behind these tokens a source goes on with a token of this kind, the end being one
abbrev pub GoesOn : List Token → TokenKind → Type 0
GoesOn before k = Starts Symbol rule (sentence ∷ []) (kinds before ++ code_of k ∷ [])

-- the same by the machine of the grammar
abbrev pub goes_on : List Token → TokenKind → Bool
goes_on before k = is_ok (run rule (λ s. firsts rule 10 s) 10 (sentence ∷ []) (kinds before ++ code_of k ∷ []))

-- each kind with which a source goes on, and no other, in the order of kinds
abbrev pub following : List Token → List TokenKind
following before = filter (goes_on before) all_kinds

-- the kinds of these tokens, and one more unless it is the end
abbrev pub through : List Token → TokenKind → List TokenKind
through before k = if nat_eq (code_of k) 0 then map (λ t. t.kind) before else map (λ t. t.kind) before ++ k ∷ []

-- with a blank behind each token, and one of this kind behind them, the text is longer than a source may be
abbrev pub IsTooLong : List Token → TokenKind → Type 0
IsTooLong before k = most_source_bytes < length (spelled (through before k))
