-- What is promised of a function that reads a whole text.
use Rattle.std.specs.Prelude.{◌≡◌, ◌≢◌, ℕ, List, [], ◌∷◌, Result, Ok, Err}
use Rattle.vd_source_lexer.specs.Grammar.{Ebnf, ◌▸◌}
use Rattle.vd_source_lexer.specs.Trees.{Tree}
use Rattle.vd_source_lexer.specs.Reading.{Gives}
use Rattle.vd_source_lexer.specs.Kinds.{code_of}
use Rattle.vd_source_lexer.specs.declared.token.Token.{Token}
use Rattle.vd_source_lexer.specs.declared.token.TokenKind.TheVariants as kind
use Rattle.vd_core.specs.declared.source.Source.{Source}
use Rattle.vd_parser.specs.declared.fault.ParseFault.{ParseFault}
use Rattle.vd_parser.specs.declared.fault.ParseFault.TheVariants as fault
use Rattle.vd_parser.specs.declared.cursor.Refusal.{Refusal}
use Rattle.vd_parser.specs.Language.{Symbol, tok}
use Rattle.vd_parser.specs.Parsing.{language, Refused}
use Rattle.vd_parser.specs.Outcomes.{IsShallow, IsUnexpected, IsTooDeep}

-- no token is the end
abbrev pub NoEnd : List Token → Type 0
NoEnd [] = Unit {0}
NoEnd (t ∷ ts) = (code_of t.kind ≢ 0) × NoEnd ts

-- The tokens ts are a whole text of e, v is what it stands for, and none is left. Or they are refused before us: no text
-- of e with the end after it goes on with the first token of us, which is the end where us is empty.
abbrev pub ParsesWhole : {X : Type 0} → Ebnf Symbol → (Tree Token → X) → List Token → List Token → Result X Refusal → Type 0
ParsesWhole e of ts us (Ok v) = Gives language e of ts [] v × (us ≡ [])
ParsesWhole e of ts us (Err f) = Refused (e ▸ tok kind.End) ts us f

-- the outcome of these tokens of the text
abbrev pub IsOutcome : List ℕ → List Token → Result Source ParseFault → Type 0
IsOutcome text ts (Ok source) = IsShallow text ts source
IsOutcome text ts (Err (fault.Unexpected k offset)) = IsUnexpected ts k offset
IsOutcome text ts (Err (fault.TooDeep offset)) = IsTooDeep ts offset
IsOutcome text ts _ = ⊥
