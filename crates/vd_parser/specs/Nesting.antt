-- Open brackets. Round, curly and square ones all count.
use Rattle.std.specs.Prelude.{◌≡◌, ℕ, ◌+◌, ◌-◌, ◌≤◌, Bool, true, ◌||◌, List, ◌∷◌, ◌++◌, length, Option, Some, None, if◌then◌else◌}
use Rattle.std.specs.List.{fold}
use Rattle.vd_base.specs.Limits.{most_open_brackets}
use Rattle.vd_source_lexer.specs.declared.token.TokenKind.{TokenKind}
use Rattle.vd_source_lexer.specs.declared.token.TokenKind.TheVariants as kind
use Rattle.vd_source_lexer.specs.declared.token.Token.{Token}
use Rattle.vd_parser.specs.Levels.{is_kind}

abbrev pub opens : TokenKind → Bool
opens k = (is_kind k kind.OpenBrace || is_kind k kind.OpenParen) || is_kind k kind.OpenBracket

abbrev pub closes : TokenKind → Bool
closes k = (is_kind k kind.CloseBrace || is_kind k kind.CloseParen) || is_kind k kind.CloseBracket

-- how many are open behind a token of this kind, where n are open before it
abbrev pub open_behind : TokenKind → ℕ → ℕ
open_behind k n = if opens k then n + 1 else if closes k then n - 1 else n

-- how many are open behind all of these tokens
abbrev pub open_behind_all : List Token → ℕ
open_behind_all = fold (λ n t. open_behind t.kind n) 0

-- behind the tokens before, the token opens a bracket beyond the limit
abbrev pub OpensTooDeep : List Token → Token → Type 0
OpensTooDeep before token = (opens token.kind ≡ true) × (most_open_brackets ≤ open_behind_all before)

-- none of the tokens opens a bracket beyond the limit
abbrev pub NoneTooDeep : List Token → Type 0
NoneTooDeep ts = (before : List Token) (token : Token) (behind : List Token) → ts ≡ before ++ token ∷ behind → OpensTooDeep before token → ⊥

-- The token with this number opens a bracket beyond the limit, and none before it does.
pub record IsFirstDeep (ts : List Token) (number : ℕ) : Type 0 where
  pub before : List Token
  pub token : Token
  pub behind : List Token
  pub all : ts ≡ before ++ token ∷ behind
  pub is_number : number ≡ length before
  pub deep : OpensTooDeep before token
  pub first : NoneTooDeep before

-- the first token that opens a bracket beyond the limit, if there is one
abbrev pub IsFirstDeepIn : List Token → Option ℕ → Type 0
IsFirstDeepIn ts None = NoneTooDeep ts
IsFirstDeepIn ts (Some number) = IsFirstDeep ts number
