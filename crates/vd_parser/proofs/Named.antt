-- What is parsed has names.
use Rattle.std.proofs.Common.{◌≡◌, ℕ, ◌<◌, Bool, true, ◌⊎◌, inl, inr, List, ◌∷◌, length, Result, Ok, Err, refl, sym, subst, arith}
use Rattle.std.specs.Prelude.{All, IfOk}
use Rattle.std.specs.List.{AllPass}
use Rattle.std.proofs.lemmas.List.Elements.{All-nil, All-cons, All-head, All-tail}
use Rattle.vd_source_lexer.specs.Grammar.{Ebnf, Sym, Seq, Star}
use Rattle.vd_source_lexer.specs.Trees.{Tree, Both, Makes, m-tok, m-sym, m-eps, m-seq, m-left, m-right, m-stop, m-more}
use Rattle.vd_base.specs.Lexical.{is_name}
use Rattle.vd_core.specs.declared.source.Ident.{Ident}
use Rattle.vd_core.specs.declared.source.Host.{Host}
use Rattle.vd_core.specs.declared.source.Source.{Source}
use Rattle.vd_core.specs.Named.{HasNames}
use Rattle.vd_source_lexer.specs.Kinds.{code_of}
use Rattle.vd_source_lexer.specs.Tokens.{IsSpelled}
use Rattle.vd_source_lexer.specs.declared.token.Token.{Token}
use Rattle.vd_source_lexer.specs.declared.token.TokenKind.{TokenKind}
use Rattle.vd_source_lexer.specs.declared.token.TokenKind.TheVariants as kind
use Rattle.vd_source_lexer.proofs.Front.{tokens_spelled}
use Rattle.vd_parser.specs.declared.fault.ParseFault.{ParseFault}
use Rattle.vd_parser.specs.declared.fault.ParseFault.TheVariants as fault
use Rattle.vd_parser.specs.Language.{Symbol, SOURCE, HOST, rule, tok, commas, principals_rule, hosts_rule}
use Rattle.vd_parser.specs.Outcomes.{sentence, IsParse}
use Rattle.vd_parser.specs.Syntax.{ident_of, idents_of, more_idents_of, principals_of, host_of, hosts_of, host_list_of, source_of}

abbrev Made : Ebnf Symbol → List Token → List Token → Tree Token → Type 0
Made e ts rest x = Makes Symbol Token rule (λ t. code_of t.kind) e ts rest x

abbrev names_ident : Ident → Bool
names_ident ident = is_name ident.name

abbrev names_host : Host → Bool
names_host host = is_name host.name.name

-- at least one, and each passes the test
record SomePass {X : Type 0} (test : X → Bool) (xs : List X) : Type 0 where
  all : AllPass test xs
  some : 0 < length xs

one_and : {X : Type 0} (test : X → Bool) (x : X) (xs : List X) → test x ≡ true → AllPass test xs → SomePass test (x ∷ xs)
one_and test x xs first rest = record { all = All-cons (λ y. test y ≡ true) x xs first rest; some = omega arith }

-- the tokens behind a text
behind : {e : Ebnf Symbol} {ts rest : List Token} {x : Tree Token} (text : List ℕ) → Made e ts rest x → All (IsSpelled text) ts → All (IsSpelled text) rest
behind text (m-tok {t = t} {ts = ts} e) spelled = All-tail (IsSpelled text) t ts spelled
behind text (m-sym g) spelled = behind text g spelled
behind text m-eps spelled = spelled
behind text (m-seq g h) spelled = behind text h (behind text g spelled)
behind text (m-left g) spelled = behind text g spelled
behind text (m-right g) spelled = behind text g spelled
behind text m-stop spelled = spelled
behind text (m-more g h) spelled = behind text h (behind text g spelled)

name_kind : (k : TokenKind) → code_of k ≡ code_of kind.Name → k ≡ kind.Name
name_kind kind.Name e = refl
name_kind _ e = absurd (omega arith)

ident_named : {ts rest : List Token} {x : Tree Token} (text : List ℕ) → Made (tok kind.Name) ts rest x → All (IsSpelled text) ts → names_ident (ident_of text x) ≡ true
ident_named text (m-tok {t = t} {ts = ts} e) spelled = (All-head (IsSpelled text) t ts spelled).name (name_kind t.kind e)

more_named : {ts rest : List Token} {x : Tree Token} (text : List ℕ) → Made (Star (Seq (tok kind.Comma) (tok kind.Name))) ts rest x → All (IsSpelled text) ts → AllPass names_ident (more_idents_of text x)
unfolding more_idents_of
more_named text m-stop spelled = All-nil (λ y. names_ident y ≡ true)
more_named text (m-more {y = y} (m-seq {y = n} c name) more) spelled =
    let at_name = behind text c spelled in
    All-cons (λ i. names_ident i ≡ true) (ident_of text n) (more_idents_of text y) (ident_named text name at_name) (more_named text more (behind text name at_name))

idents_named : {ts rest : List Token} {x : Tree Token} (text : List ℕ) → Made (commas (tok kind.Name)) ts rest x → All (IsSpelled text) ts → SomePass names_ident (idents_of text x)
unfolding idents_of
idents_named text (m-seq {x = n} {y = y} name more) spelled =
    one_and names_ident (ident_of text n) (more_idents_of text y) (ident_named text name spelled) (more_named text more (behind text name spelled))

principals_named : {ts rest : List Token} {x : Tree Token} (text : List ℕ) → Made principals_rule ts rest x → All (IsSpelled text) ts → SomePass names_ident (principals_of text x)
unfolding principals_of
principals_named text (m-seq k (m-seq names s)) spelled = idents_named text names (behind text k spelled)

host_named : {ts rest : List Token} {x : Tree Token} (text : List ℕ) → Made (Sym HOST) ts rest x → All (IsSpelled text) ts → names_host (host_of text x) ≡ true
unfolding host_of
host_named text (m-sym (m-seq k (m-seq name (m-seq l s)))) spelled = ident_named text name (behind text k spelled)

more_hosts_named : {ts rest : List Token} {x : Tree Token} (text : List ℕ) → Made (Star (Sym HOST)) ts rest x → All (IsSpelled text) ts → AllPass names_host (hosts_of text x)
unfolding hosts_of
more_hosts_named text m-stop spelled = All-nil (λ y. names_host y ≡ true)
more_hosts_named text (m-more {x = x} {y = y} h more) spelled =
    All-cons (λ host. names_host host ≡ true) (host_of text x) (hosts_of text y) (host_named text h spelled) (more_hosts_named text more (behind text h spelled))

hosts_named : {ts rest : List Token} {x : Tree Token} (text : List ℕ) → Made hosts_rule ts rest x → All (IsSpelled text) ts → SomePass names_host (host_list_of text x)
unfolding host_list_of
hosts_named text (m-seq {x = x} {y = y} h more) spelled =
    one_and names_host (host_of text x) (hosts_of text y) (host_named text h spelled) (more_hosts_named text more (behind text h spelled))

source_named : {ts rest : List Token} {x : Tree Token} (text : List ℕ) → Made (Sym SOURCE) ts rest x → All (IsSpelled text) ts → HasNames (source_of text x)
unfolding source_of
source_named text (m-sym (m-seq ps (m-seq hs (m-seq fs (m-seq m b))))) spelled =
    let principals = principals_named text ps spelled in
    let hosts = hosts_named text hs (behind text ps spelled) in
    record { principals = principals.all; hosts = hosts.all; some_principal = principals.some; some_host = hosts.some }

sentence_named : {ts rest : List Token} {x y : Tree Token} (text : List ℕ) → Made sentence ts rest (Both x y) → All (IsSpelled text) ts → HasNames (source_of text x)
sentence_named text (m-seq g e) spelled = source_named text g spelled

pub names_are_names : (bytes : List ℕ) (source : Source) → IsParse bytes (Ok source) → HasNames source
names_are_names bytes source p =
    subst HasNames (sym p.holds.source.stands) (sentence_named bytes p.holds.source.makes (tokens_spelled bytes p.tokens p.lexes))

pub answer_named : (bytes : List ℕ) (r : Result Source ParseFault) → (r ≡ Err fault.Memory) ⊎ IsParse bytes r → IfOk r HasNames
answer_named bytes (Ok source) (inl e) = absurd cc
answer_named bytes (Ok source) (inr p) = names_are_names bytes source p
answer_named bytes (Err f) p = tt
