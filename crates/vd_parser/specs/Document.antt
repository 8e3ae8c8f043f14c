-- The grammar of the language as a document of it has it. It differs from the rules that the parser goes by where several
-- statements or atoms begin with a name.
use Rattle.std.specs.Prelude.{◌↔◌, ℕ, List}
use Rattle.vd_source_lexer.specs.Grammar.{Ebnf, Sym, Derives, Begins, ◌▸◌, ◌∣◌}
use Rattle.vd_source_lexer.specs.declared.token.TokenKind.TheVariants as kind
use Rattle.vd_parser.specs.Language.{Symbol, STMT, EXPR, ATOM, tok, rule, let_rule, var_rule, array_rule, index_rule, output_rule, if_rule, for_rule, arguments_rule, two_rule, three_rule, host_rule, relabel_rule, brackets_rule}

-- NAME ":=" expr ";"
abbrev pub store_rule : Ebnf Symbol
store_rule = tok kind.Name ▸ tok kind.Assign ▸ Sym EXPR ▸ tok kind.Semicolon

-- NAME "[" expr "]" ":=" expr ";"
abbrev pub put_rule : Ebnf Symbol
put_rule = tok kind.Name ▸ index_rule ▸ tok kind.Assign ▸ Sym EXPR ▸ tok kind.Semicolon

abbrev pub document : Symbol → Ebnf Symbol
document STMT = let_rule ∣ var_rule ∣ array_rule ∣ store_rule ∣ put_rule ∣ output_rule ∣ if_rule ∣ for_rule
document ATOM =
    tok kind.Number
    ∣ tok kind.True
    ∣ tok kind.False
    ∣ tok kind.Name
    ∣ tok kind.Name ▸ arguments_rule
    ∣ tok kind.Name ▸ index_rule
    ∣ tok kind.Min ▸ two_rule
    ∣ tok kind.Max ▸ two_rule
    ∣ tok kind.Mux ▸ three_rule
    ∣ tok kind.Input ▸ host_rule kind.OpenParen kind.CloseParen
    ∣ tok kind.Declassify ▸ relabel_rule
    ∣ tok kind.Endorse ▸ relabel_rule
    ∣ brackets_rule
document s = rule s

-- Each part has the same texts by the document's grammar and by the parser's rules, and the same lists begin them.
pub record SameLanguage : Type 0 where
  pub texts : (e : Ebnf Symbol) (ts rest : List ℕ) → Derives Symbol document e ts rest ↔ Derives Symbol rule e ts rest
  pub beginnings : (e : Ebnf Symbol) (ts : List ℕ) → Begins Symbol document e ts ↔ Begins Symbol rule e ts
