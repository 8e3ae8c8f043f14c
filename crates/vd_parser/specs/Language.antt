-- The grammar of the language as the parser reads it: left factored, so that one token decides each choice.
use Rattle.std.specs.Prelude.{List, [], ◌∷◌, map}
use Rattle.vd_source_lexer.specs.Grammar.{Ebnf, Tok, Sym, Star, ◌▸◌, ◌∣◌, optional, one_of, separated}
use Rattle.vd_source_lexer.specs.Kinds.{code_of}
use Rattle.vd_source_lexer.specs.declared.token.TokenKind.{TokenKind}
use Rattle.vd_source_lexer.specs.declared.token.TokenKind.TheVariants as kind

pub data Symbol : Type 0 where
  SOURCE HOST LABEL FORM CONJ FATOM FUN PARAM KIND BLOCK STMT EXPR BOR BXOR BAND SHIFT SUM PROD UNARY ATOM : Symbol

abbrev pub tok : TokenKind → Ebnf Symbol
tok k = Tok (code_of k)

abbrev pub any_of : TokenKind → List TokenKind → Ebnf Symbol
any_of k ks = one_of (code_of k) (map code_of ks)

-- e {"," e}
abbrev pub commas : Ebnf Symbol → Ebnf Symbol
commas e = separated (code_of kind.Comma) e

-- e {o e}
abbrev pub chain_of : Ebnf Symbol → Ebnf Symbol → Ebnf Symbol
chain_of e o = e ▸ Star (o ▸ e)

-- an expression between two tokens
abbrev pub between_rule : TokenKind → TokenKind → Ebnf Symbol
between_rule k l = tok k ▸ Sym EXPR ▸ tok l

abbrev pub let_rule : Ebnf Symbol
let_rule = tok kind.Let ▸ tok kind.Name ▸ optional (Sym LABEL) ▸ between_rule kind.Equal kind.Semicolon

-- NAME ":" kind
abbrev pub typed_rule : Ebnf Symbol
typed_rule = tok kind.Name ▸ tok kind.Colon ▸ Sym KIND

abbrev pub var_rule : Ebnf Symbol
var_rule = tok kind.Var ▸ typed_rule ▸ optional (Sym LABEL) ▸ between_rule kind.Equal kind.Semicolon

-- "[" NUM "]"
abbrev pub length_rule : Ebnf Symbol
length_rule = tok kind.OpenBracket ▸ tok kind.Number ▸ tok kind.CloseBracket

abbrev pub array_rule : Ebnf Symbol
array_rule = tok kind.Array ▸ typed_rule ▸ length_rule ▸ optional (Sym LABEL) ▸ tok kind.Semicolon

-- "[" expr "]"
abbrev pub index_rule : Ebnf Symbol
index_rule = between_rule kind.OpenBracket kind.CloseBracket

abbrev pub assign_rule : Ebnf Symbol
assign_rule = tok kind.Name ▸ optional index_rule ▸ between_rule kind.Assign kind.Semicolon

-- a host's name between two tokens
abbrev pub host_rule : TokenKind → TokenKind → Ebnf Symbol
host_rule k l = tok k ▸ tok kind.Name ▸ tok l

abbrev pub output_rule : Ebnf Symbol
output_rule = tok kind.Output ▸ Sym EXPR ▸ host_rule kind.To kind.Semicolon

-- "(" expr ")"
abbrev pub brackets_rule : Ebnf Symbol
brackets_rule = between_rule kind.OpenParen kind.CloseParen

-- "else" block
abbrev pub else_rule : Ebnf Symbol
else_rule = tok kind.Else ▸ Sym BLOCK

abbrev pub if_rule : Ebnf Symbol
if_rule = tok kind.If ▸ brackets_rule ▸ Sym BLOCK ▸ optional else_rule

abbrev pub for_rule : Ebnf Symbol
for_rule = tok kind.For ▸ tok kind.Name ▸ tok kind.To ▸ tok kind.Number ▸ Sym BLOCK

-- "(" [expr {"," expr}] ")"
abbrev pub arguments_rule : Ebnf Symbol
arguments_rule = tok kind.OpenParen ▸ optional (commas (Sym EXPR)) ▸ tok kind.CloseParen

-- "(" expr "," expr ")"
abbrev pub two_rule : Ebnf Symbol
two_rule = tok kind.OpenParen ▸ Sym EXPR ▸ tok kind.Comma ▸ Sym EXPR ▸ tok kind.CloseParen

-- "(" expr "," expr "," expr ")"
abbrev pub three_rule : Ebnf Symbol
three_rule = tok kind.OpenParen ▸ Sym EXPR ▸ tok kind.Comma ▸ Sym EXPR ▸ tok kind.Comma ▸ Sym EXPR ▸ tok kind.CloseParen

-- "(" expr "," "{" form "}" ")"
abbrev pub relabel_rule : Ebnf Symbol
relabel_rule = tok kind.OpenParen ▸ Sym EXPR ▸ tok kind.Comma ▸ tok kind.OpenBrace ▸ Sym FORM ▸ tok kind.CloseBrace ▸ tok kind.CloseParen

-- what may come after a name in an expression
abbrev pub after_name : Ebnf Symbol
after_name = optional (arguments_rule ∣ index_rule)

abbrev pub named_rule : Ebnf Symbol
named_rule = tok kind.Name ▸ after_name

-- the other atoms; the rule is in three parts only to keep the functions short
abbrev pub other_atom_rule : Ebnf Symbol
other_atom_rule =
    tok kind.Mux ▸ three_rule
    ∣ tok kind.Input ▸ host_rule kind.OpenParen kind.CloseParen
    ∣ tok kind.Declassify ▸ relabel_rule
    ∣ tok kind.Endorse ▸ relabel_rule
    ∣ brackets_rule

abbrev pub word_atom_rule : Ebnf Symbol
word_atom_rule = named_rule ∣ tok kind.Min ▸ two_rule ∣ tok kind.Max ▸ two_rule ∣ other_atom_rule

-- "(" [param {"," param}] ")"
abbrev pub parameters_rule : Ebnf Symbol
parameters_rule = tok kind.OpenParen ▸ optional (commas (Sym PARAM)) ▸ tok kind.CloseParen

-- "return" expr ";" "}"
abbrev pub return_rule : Ebnf Symbol
return_rule = tok kind.Return ▸ Sym EXPR ▸ tok kind.Semicolon ▸ tok kind.CloseBrace

-- "{" {stmt} "return" expr ";" "}"
abbrev pub body_rule : Ebnf Symbol
body_rule = tok kind.OpenBrace ▸ Star (Sym STMT) ▸ return_rule

-- "principals" NAME {"," NAME} ";"
abbrev pub principals_rule : Ebnf Symbol
principals_rule = tok kind.Principals ▸ commas (tok kind.Name) ▸ tok kind.Semicolon

-- host {host}
abbrev pub hosts_rule : Ebnf Symbol
hosts_rule = Sym HOST ▸ Star (Sym HOST)

abbrev pub comparison_ops : Ebnf Symbol
comparison_ops = any_of kind.EqualEqual (kind.NotEqual ∷ kind.Less ∷ kind.LessEqual ∷ kind.Greater ∷ kind.GreaterEqual ∷ [])

abbrev pub shift_ops : Ebnf Symbol
shift_ops = any_of kind.ShiftLeft (kind.ShiftRight ∷ [])

abbrev pub sum_ops : Ebnf Symbol
sum_ops = any_of kind.Plus (kind.Minus ∷ [])

abbrev pub product_ops : Ebnf Symbol
product_ops = any_of kind.Star (kind.Slash ∷ kind.Percent ∷ [])

abbrev pub prefix_ops : Ebnf Symbol
prefix_ops = any_of kind.Bang (kind.Tilde ∷ [])

abbrev pub rule : Symbol → Ebnf Symbol
rule SOURCE = principals_rule ▸ hosts_rule ▸ Star (Sym FUN) ▸ tok kind.Main ▸ Sym BLOCK
rule HOST = tok kind.Host ▸ tok kind.Name ▸ Sym LABEL ▸ tok kind.Semicolon
rule LABEL = tok kind.OpenBrace ▸ Sym FORM ▸ tok kind.Semicolon ▸ Sym FORM ▸ tok kind.CloseBrace
rule FORM = chain_of (Sym CONJ) (tok kind.Pipe)
rule CONJ = chain_of (Sym FATOM) (tok kind.Ampersand)
rule FATOM = tok kind.Any ∣ tok kind.Nothing ∣ tok kind.Name ∣ tok kind.OpenParen ▸ Sym FORM ▸ tok kind.CloseParen
rule FUN = tok kind.Fun ▸ tok kind.Name ▸ parameters_rule ▸ tok kind.Colon ▸ Sym KIND ▸ body_rule
rule PARAM = typed_rule
rule KIND = tok kind.Word ∣ tok kind.Bool
rule BLOCK = tok kind.OpenBrace ▸ Star (Sym STMT) ▸ tok kind.CloseBrace
rule STMT = let_rule ∣ var_rule ∣ array_rule ∣ assign_rule ∣ output_rule ∣ if_rule ∣ for_rule
rule EXPR = Sym BOR ▸ optional (comparison_ops ▸ Sym BOR)
rule BOR = chain_of (Sym BXOR) (tok kind.Pipe)
rule BXOR = chain_of (Sym BAND) (tok kind.Caret)
rule BAND = chain_of (Sym SHIFT) (tok kind.Ampersand)
rule SHIFT = Sym SUM ▸ Star (shift_ops ▸ tok kind.Number)
rule SUM = chain_of (Sym PROD) sum_ops
rule PROD = chain_of (Sym UNARY) product_ops
rule UNARY = Star prefix_ops ▸ Sym ATOM
rule ATOM = tok kind.Number ∣ tok kind.True ∣ tok kind.False ∣ word_atom_rule
