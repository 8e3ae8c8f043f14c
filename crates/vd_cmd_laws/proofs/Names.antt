-- The names of the hosts stand in the text one behind the other, each behind a word `host`.
use Rattle.std.proofs.Common.{ℕ, ◌+◌, ◌-◌, ◌<◌, ◌≤◌, List, ◌∷◌, length, take, drop, sym, subst, arith}
use Rattle.std.specs.List.{sum_by}
use Rattle.std.proofs.lemmas.List.{length-take}
use Rattle.std.proofs.lemmas.List.Sums.{sum_by-cons}
use Rattle.vd_source_lexer.specs.Grammar.{Tok, Sym, Star}
use Rattle.vd_source_lexer.specs.Trees.{Tree, Both, m-tok, m-sym, m-seq, m-stop, m-more}
use Rattle.vd_core.specs.declared.source.Host.{Host}
use Rattle.vd_core.specs.declared.source.Source.{Source}
use Rattle.vd_source_lexer.specs.Kinds.{code_of}
use Rattle.vd_source_lexer.specs.declared.token.Token.{Token}
use Rattle.vd_source_lexer.specs.declared.token.TokenKind.TheVariants as kind
use Rattle.vd_parser.specs.Language.{SOURCE, HOST, tok, hosts_rule}
use Rattle.vd_parser.specs.Outcomes.{sentence}
use Rattle.vd_parser.specs.Syntax.{ident_of, host_of, hosts_of, host_list_of, source_of}
use Rattle.vd_cmd_laws.specs.Sizes.{name_bytes, HostNamesFit}
use Rattle.vd_cmd_laws.proofs.Order.{Stand, Made, Took, and_then, at_least, behind, tokens_stand, stand_within}

-- a token that is not the end takes a byte
word_took : {ts rest : List Token} {x : Tree Token} (c : ℕ) → 0 < c → Made (Tok c) ts rest x → (from upto : ℕ) → Stand from ts upto → Took from 1 rest upto
word_took c some (m-tok {t = t} e) from upto s =
    let has : t.span.start < t.span.end = s.0.some (omega (arith, e, some)) in
    record { now = t.span.end; stand = s.1; took = omega (arith, s.0.start, has) }

slice_fits : (start end from : ℕ) (text : List ℕ) → from ≤ start → start ≤ end → from + length (take (end - start) (drop start text)) ≤ end
slice_fits start end from text p q = omega (arith, length-take (end - start) (drop start text), p, q)

-- a name takes its bytes
name_took : {ts rest : List Token} {x : Tree Token} (text : List ℕ) → Made (tok kind.Name) ts rest x → (from upto : ℕ) → Stand from ts upto
    → Took from (length (ident_of text x).name) rest upto
name_took text (m-tok {t = t} e) from upto s =
    record { now = t.span.end; stand = s.1; took = slice_fits t.span.start t.span.end from text s.0.start s.0.end }

host_took : {ts rest : List Token} {x : Tree Token} (text : List ℕ) → Made (Sym HOST) ts rest x → (from upto : ℕ) → Stand from ts upto
    → Took from (name_bytes (host_of text x)) rest upto
unfolding host_of
host_took text (m-sym (m-seq {mid = a} k (m-seq {mid = b} {x = n} name (m-seq {mid = c} {rest = rest} l e)))) from upto s =
    let bytes = length (ident_of text n).name in
    let word = word_took (code_of kind.Host) (omega arith) k from upto s in
    let named = and_then from 1 bytes a b upto word (name_took text name word.now upto word.stand) in
    let labelled = and_then from (1 + bytes) 0 b c upto named (behind l named.now upto named.stand) in
    let whole = and_then from (1 + bytes + 0) 0 c rest upto labelled (behind e labelled.now upto labelled.stand) in
    at_least from (1 + bytes + 0 + 0) (1 + bytes) rest upto whole (omega arith)

cons_took : (from : ℕ) (host : Host) (hosts : List Host) (rest : List Token) (upto : ℕ) → Took from (name_bytes host + sum_by name_bytes hosts) rest upto
    → Took from (sum_by name_bytes (host ∷ hosts)) rest upto
cons_took from host hosts rest upto = subst (λ n. Took from n rest upto) (sym (sum_by-cons name_bytes host hosts))

more_took : {ts rest : List Token} {x : Tree Token} (text : List ℕ) → Made (Star (Sym HOST)) ts rest x → (from upto : ℕ) → Stand from ts upto
    → Took from (sum_by name_bytes (hosts_of text x)) rest upto
unfolding hosts_of
more_took text m-stop from upto s = record { now = from; stand = s; took = omega arith }
more_took text (m-more {mid = mid} {rest = rest} {x = x} {y = y} h more) from upto s =
    let a = host_took text h from upto s in
    cons_took from (host_of text x) (hosts_of text y) rest upto
    (and_then from (name_bytes (host_of text x)) (sum_by name_bytes (hosts_of text y)) mid rest upto a (more_took text more a.now upto a.stand))

hosts_took : {ts rest : List Token} {x : Tree Token} (text : List ℕ) → Made hosts_rule ts rest x → (from upto : ℕ) → Stand from ts upto
    → Took from (sum_by name_bytes (host_list_of text x)) rest upto
unfolding host_list_of
hosts_took text (m-seq {mid = mid} {rest = rest} {x = x} {y = y} h more) from upto s =
    let a = host_took text h from upto s in
    cons_took from (host_of text x) (hosts_of text y) rest upto
    (and_then from (name_bytes (host_of text x)) (sum_by name_bytes (hosts_of text y)) mid rest upto a (more_took text more a.now upto a.stand))

source_fits : {ts rest : List Token} {x : Tree Token} (text : List ℕ) → Made (Sym SOURCE) ts rest x → (upto : ℕ) → Stand 0 ts upto
    → sum_by name_bytes (source_of text x).hosts ≤ upto
unfolding source_of
source_fits text (m-sym (m-seq ps (m-seq {mid = rest} {x = hosts} hs (m-seq fs (m-seq m b))))) upto s =
    let first = behind ps 0 upto s in
    let taken = hosts_took text hs first.now upto first.stand in
    let le = stand_within rest taken.now upto taken.stand in
    within first.now (sum_by name_bytes (host_list_of text hosts)) taken.now upto taken.took le
  where
    within : (a n b upto : ℕ) → a + n ≤ b → b ≤ upto → n ≤ upto
    within a n b upto p q = omega (arith, p, q)

sentence_fits : {ts rest : List Token} {x y : Tree Token} (text : List ℕ) → Made sentence ts rest (Both x y) → (upto : ℕ) → Stand 0 ts upto
    → sum_by name_bytes (source_of text x).hosts ≤ upto
sentence_fits text (m-seq g e) upto s = source_fits text g upto s

pub host_names_fit : HostNamesFit
host_names_fit text source p =
    let stand = tokens_stand p.lexes 0 (length text) (omega arith) (omega arith) in
    subst (λ (s : Source). sum_by name_bytes s.hosts ≤ length text) (sym p.holds.source.stands) (sentence_fits text p.holds.source.makes (length text) stand)
