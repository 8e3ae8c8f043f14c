-- What each function of the parser promises.
use Rattle.std.specs.Prelude.{◌≡◌, ℕ, List, [], ◌∷◌, Result, Ok, Err}
use Rattle.vd_source_lexer.specs.Grammar.{Ebnf}
use Rattle.vd_source_lexer.specs.Machine.{firsts, IsLL1}
use Rattle.vd_source_lexer.specs.Trees.{Tree}
use Rattle.vd_source_lexer.specs.Reading.{Grammar, Stops, Gives}
use Rattle.vd_source_lexer.specs.Kinds.{code_of}
use Rattle.vd_source_lexer.specs.declared.token.Token.{Token}
use Rattle.vd_source_lexer.specs.declared.token.TokenKind.{TokenKind}
use Rattle.vd_source_lexer.specs.declared.token.TokenKind.TheVariants as kind
use Rattle.vd_parser.specs.declared.cursor.Refusal.{Refusal}
use Rattle.vd_parser.specs.declared.cursor.Refusal.TheVariants as refusal
use Rattle.vd_parser.specs.Language.{Symbol, rule}

unfoldable pub language : Grammar Symbol Token
language = record { rule = rule; kind = λ t. code_of t.kind; end = 0; firsts = λ s. firsts rule 10 s; bound = 10 }

-- there are tables of the rules, and by them one token decides each choice
abbrev pub OneTokenDecides : Type 0
OneTokenDecides = (F : Symbol → List ℕ) × (E : Symbol → List ℕ) × IsLL1 Symbol rule F E 10

-- the kind of the next token, or that of the end
abbrev pub kind_at : List Token → TokenKind
kind_at [] = kind.End
kind_at (t ∷ ts) = t.kind

abbrev pub next_kind : List Token → ℕ
next_kind ts = code_of (kind_at ts)

-- A refusal other than out of memory comes where no text that has the part at ts goes on with the first token of us.
pub record Refused (e : Ebnf Symbol) (ts us : List Token) (f : Refusal) : Type 0 where
  pub stops : f ≡ refusal.Unexpected → Stops language e ts us

-- From the tokens ts the part e is read, what it stands for is given and the tokens us are left; or it is refused before us.
abbrev pub Parses : {X : Type 0} → Ebnf Symbol → (Tree Token → X) → List Token → List Token → Result X Refusal → Type 0
Parses e of ts us (Ok v) = Gives language e of ts us v
Parses e of ts us (Err f) = Refused e ts us f
