-- How the parser goes through the language's parts.
use Rattle.std.proofs.Common.{◌≡◌, ◌≢◌, ℕ, ◌<◌, Bool, true, false, List, [], ◌∷◌, ◌++◌, length, nat_eq, refl, sym, ap, ◌∙◌, subst, eqb-true, eq-eqb, arith, Result, Ok, Err}
use Rattle.std.proofs.lemmas.Bool.{or_left, or_from}
use Rattle.vd_source_lexer.specs.Grammar.{Ebnf, Sym, Eps, Seq, Alt, Star}
use Rattle.vd_source_lexer.specs.Machine.{has, nullable, first}
use Rattle.vd_source_lexer.specs.Trees.{Tree, Leaf, Both, First, Second, Empty}
use Rattle.vd_source_lexer.specs.Reading.{head, Read, Within, Gives, Collects}
use Rattle.vd_source_lexer.proofs.Front as readings
use Rattle.vd_source_lexer.specs.Kinds.{code_of}
use Rattle.vd_source_lexer.specs.declared.token.Token.{Token}
use Rattle.vd_source_lexer.specs.declared.token.TokenKind.{TokenKind}
use Rattle.vd_parser.specs.declared.cursor.Refusal.{Refusal}
use Rattle.vd_parser.specs.declared.cursor.Refusal.TheVariants as refusal
use Rattle.vd_parser.specs.Language.{Symbol, rule, tok}
use Rattle.vd_parser.specs.Syntax.{token_of}
use Rattle.vd_parser.specs.Parsing.{language, next_kind, Refused, Parses}
use Rattle.vd_parser.proofs.Ready.{F, E, language_ll1}

pub head_is : (ts : List Token) → head language ts ≡ next_kind ts
unfolding language
head_is [] = refl
head_is (t ∷ ts) = refl

-- tokens
took : (k : TokenKind) (t : Token) (ts : List Token) → code_of t.kind ≡ code_of k → Gives language (tok k) token_of (t ∷ ts) ts t
unfolding language
took k t ts e = record { tree = Leaf t; read = readings.read_tok language E language_ll1 (code_of k) t ts e; value = refl }

pub not_took : (k : TokenKind) (ts : List Token) → nat_eq (next_kind ts) (code_of k) ≡ false → Refused (tok k) ts ts refusal.Unexpected
unfolding language
not_took k ts h = record { stops = λ e. readings.stops_tok language E language_ll1 (code_of k) ts (ap (λ c. nat_eq c (code_of k)) (head_is ts) ∙ h) }

pub not_end : (k : TokenKind) (ts : List Token) → nat_eq (next_kind ts) (code_of k) ≡ true → code_of k ≢ 0 → 0 < length ts
not_end k [] e n = absurd (n (sym (eqb-true _ _ e)))
not_end k (t ∷ ts) e n = omega arith

pub one_less : (ts us : List Token) (t : Token) → ts ≡ t ∷ us → length us < length ts
one_less ts us t e = subst (λ xs. length us < length xs) (sym e) (let h : length us < length (t ∷ us) = omega arith in h)

pub took_next : (k : TokenKind) (ts us : List Token) (t : Token) → ts ≡ t ∷ us → nat_eq (next_kind ts) (code_of k) ≡ true → Gives language (tok k) token_of ts us t
took_next k ts us t e h = subst (λ xs. Gives language (tok k) token_of xs us t) (sym e) (took k t us (eqb-true _ _ (subst (λ xs. nat_eq (next_kind xs) (code_of k) ≡ true) e h)))

-- parts
pub start : {e : Ebnf Symbol} {ts : List Token} → Within language e ts e ts (λ x. x)
unfolding language
start = readings.begin language E language_ll1

pub rule_start : (s : Symbol) {ts : List Token} → Within language (Sym s) ts (rule s) ts (λ x. x)
unfolding language
rule_start s = readings.into_sym language E language_ll1 (readings.begin language E language_ll1)

pub next : {X : Type 0} {e a b : Ebnf Symbol} {ts us vs : List Token} {up : Tree Token → Tree Token} {of : Tree Token → X} {v : X} → Within language e ts (Seq a b) us up → (r : Gives language a of us vs v) → Within language e ts b vs (λ y. up (Both r.tree y))
unfolding language
next w r = readings.next language E language_ll1 w r

pub last : {X Y : Type 0} {e d : Ebnf Symbol} {ts us vs : List Token} {up : Tree Token → Tree Token} {of : Tree Token → X} {to : Tree Token → Y} {v : X} {w : Y} → Within language e ts d us up → (r : Gives language d of us vs v) → w ≡ to (up r.tree) → Gives language e to ts vs w
unfolding language
last w r e = readings.last language E language_ll1 w r e

pub last_none : {Y : Type 0} {e : Ebnf Symbol} {ts us : List Token} {up : Tree Token → Tree Token} {to : Tree Token → Y} {w : Y} → Within language e ts Eps us up → w ≡ to (up Empty) → Gives language e to ts us w
unfolding language
last_none w e = readings.last_none language E language_ll1 w e

-- a part is refused
pub refused_first : {e a b : Ebnf Symbol} {ts us vs : List Token} {up : Tree Token → Tree Token} {f : Refusal} → Within language e ts (Seq a b) us up → Refused a us vs f → Refused e ts vs f
unfolding language
refused_first w r = record { stops = λ e. readings.stop_first language E language_ll1 w (r.stops e) }

pub refused_last : {e d : Ebnf Symbol} {ts us vs : List Token} {up : Tree Token → Tree Token} {f : Refusal} → Within language e ts d us up → Refused d us vs f → Refused e ts vs f
unfolding language
refused_last w r = record { stops = λ e. readings.stop_here language E language_ll1 w (r.stops e) }

-- choices, by the next token
known : (k : TokenKind) (ts : List Token) (b : Bool) (a : Ebnf Symbol) → nat_eq (next_kind ts) (code_of k) ≡ true → has (code_of k) (first F a) ≡ b → has (head language ts) (first language.firsts a) ≡ b
unfolding language
known k ts b a e h = subst (λ c. has c (first F a) ≡ b) (sym (head_is ts ∙ eqb-true _ _ e)) h

pub into_left : {e a b : Ebnf Symbol} {ts us : List Token} {up : Tree Token → Tree Token} (k : TokenKind) → Within language e ts (Alt a b) us up → nat_eq (next_kind us) (code_of k) ≡ true → has (code_of k) (first F a) ≡ true → Within language e ts a us (λ x. up (First x))
unfolding language
into_left {a = a} {us = us} k w e h = readings.into_left language E language_ll1 w (known k us true a e h)

-- the first begins with one kind, and the next token is of another
unlike : (c : ℕ) (ts : List Token) → nat_eq (next_kind ts) c ≡ false → has (head language ts) (c ∷ []) ≡ false
unlike c ts h = or_from _ false (ap (λ d. nat_eq d c) (head_is ts) ∙ h) refl

pub into_right : {e a b : Ebnf Symbol} {ts us : List Token} {up : Tree Token → Tree Token} (k : TokenKind) → Within language e ts (Alt a b) us up → nat_eq (next_kind us) (code_of k) ≡ false → first F a ≡ code_of k ∷ [] → nullable a ≡ false → Within language e ts b us (λ x. up (Second x))
unfolding language
into_right {a = a} {us = us} k w e h m = readings.into_right language E language_ll1 w (subst (λ xs. has (head language us) xs ≡ false) (sym h) (unlike (code_of k) us e)) m

-- a part that is left out, or there
pub left_out : {X : Type 0} {a : Ebnf Symbol} {of : Tree Token → X} {v : X} (k : TokenKind) (ts : List Token) → nat_eq (next_kind ts) (code_of k) ≡ false → first F a ≡ code_of k ∷ [] → nullable a ≡ false → v ≡ of (Second Empty) → Gives language (Alt a Eps) of ts ts v
unfolding language
left_out {a = a} k ts e h m same = record { tree = Second Empty; read = readings.read_left_out language E language_ll1 ts (subst (λ xs. has (head language ts) xs ≡ false) (sym h) (unlike (code_of k) ts e)) m; value = same }

-- an optional part is left out before a known token
pub skip_known : {e a b : Ebnf Symbol} {ts us : List Token} {up : Tree Token → Tree Token} (k : TokenKind) → Within language e ts (Seq (Alt a Eps) b) us up → nat_eq (next_kind us) (code_of k) ≡ true → has (code_of k) (first F a) ≡ false → nullable a ≡ false → Within language e ts b us (λ y. up (Both (Second Empty) y))
unfolding language
skip_known {a = a} {us = us} k w e h m = readings.next_read language E language_ll1 w (readings.read_left_out language E language_ll1 us (known k us false a e h) m)

-- before a token that closes
pub next_open : {X : Type 0} {e a b : Ebnf Symbol} {ts us vs : List Token} {up : Tree Token → Tree Token} {of : Tree Token → X} {v : X} (k : TokenKind) → Within language e ts (Seq (Alt a Eps) b) us up → nullable a ≡ false → nullable b ≡ false → first F b ≡ code_of k ∷ [] → nat_eq (next_kind us) (code_of k) ≡ false → (r : Gives language a of us vs v) → Within language e ts b vs (λ y. up (Both (First r.tree) y))
unfolding language
next_open {us = us} k w m o same h r = readings.next_open language E language_ll1 w m o (subst (λ xs. has (head language us) xs ≡ false) (sym same) (unlike (code_of k) us h)) r.read

pub refused_open : {e a b : Ebnf Symbol} {ts us vs : List Token} {up : Tree Token → Tree Token} {f : Refusal} (k : TokenKind) → Within language e ts (Seq (Alt a Eps) b) us up → nullable a ≡ false → nullable b ≡ false → first F b ≡ code_of k ∷ [] → nat_eq (next_kind us) (code_of k) ≡ false → Refused a us vs f → Refused e ts vs f
unfolding language
refused_open {us = us} k w m o same h r = record { stops = λ e. readings.stop_open language E language_ll1 w m o (subst (λ xs. has (head language us) xs ≡ false) (sym same) (unlike (code_of k) us h)) (r.stops e) }

-- the first begins with two kinds, and the next token is of another
pub past_two : {e a b : Ebnf Symbol} {ts us : List Token} {up : Tree Token → Tree Token} (k l : TokenKind) → Within language e ts (Alt a b) us up → nat_eq (next_kind us) (code_of k) ≡ false → nat_eq (next_kind us) (code_of l) ≡ false → first F a ≡ code_of k ∷ code_of l ∷ [] → nullable a ≡ false → Within language e ts b us (λ x. up (Second x))
unfolding language
past_two {a = a} {us = us} k l w e f h m = readings.into_right language E language_ll1 w (subst (λ xs. has (head language us) xs ≡ false) (sym h) (or_from _ _ (ap (λ d. nat_eq d (code_of k)) (head_is us) ∙ e) (unlike (code_of l) us f))) m

-- repetitions
pub collects_first : {X : Type 0} {e d : Ebnf Symbol} {of more : Tree Token → List X} {ts us : List Token} {up : Tree Token → Tree Token} {xs : List X} → Within language e ts (Star d) us up → ((y : Tree Token) → of (up y) ≡ xs ++ more y) → Collects language e of d more ts us xs
unfolding language
collects_first w same = readings.collects_first language E language_ll1 w same

pub collects_known : {X : Type 0} {e d : Ebnf Symbol} {of more : Tree Token → List X} {ts us vs : List Token} {xs : List X} {x : Tree Token} {v : X} → Collects language e of d more ts us xs → has (head language us) (first language.firsts d) ≡ true → Read language d us vs x → ((y : Tree Token) → more (Both x y) ≡ v ∷ more y) → Collects language e of d more ts vs (xs ++ v ∷ [])
unfolding language
collects_known p h r same = readings.collects_more language E language_ll1 p h r same

pub stop_known : {X : Type 0} {e d : Ebnf Symbol} {of more : Tree Token → List X} {ts us vs : List Token} {xs : List X} {f : Refusal} → Collects language e of d more ts us xs → has (head language us) (first language.firsts d) ≡ true → Refused d us vs f → Refused e ts vs f
unfolding language
stop_known p h r = record { stops = λ e. readings.collects_stop language E language_ll1 p h (r.stops e) }

pub end_known : {X : Type 0} {e d : Ebnf Symbol} {of more : Tree Token → List X} {ts us : List Token} {xs : List X} → Collects language e of d more ts us xs → has (head language us) (first language.firsts d) ≡ false → more Empty ≡ [] → Gives language e of ts us xs
unfolding language
end_known p h none = readings.collects_end language E language_ll1 p h none

-- one more, whose first token is of a known kind
pub more_kind : {X Y : Type 0} {e d : Ebnf Symbol} {of more : Tree Token → List X} {to : Tree Token → Y} {ts us vs : List Token} {xs : List X} {w : Y} {v : X} (k : TokenKind) → Collects language e of d more ts us xs → nat_eq (next_kind us) (code_of k) ≡ true → has (code_of k) (first F d) ≡ true → (r : Gives language d to us vs w) → ((y : Tree Token) → more (Both r.tree y) ≡ v ∷ more y) → Collects language e of d more ts vs (xs ++ v ∷ [])
more_kind {d = d} {us = us} k p h m r same = collects_known p (known k us true d h m) r.read same

pub stop_kind : {X : Type 0} {e d : Ebnf Symbol} {of more : Tree Token → List X} {ts us vs : List Token} {xs : List X} {f : Refusal} (k : TokenKind) → Collects language e of d more ts us xs → nat_eq (next_kind us) (code_of k) ≡ true → has (code_of k) (first F d) ≡ true → Refused d us vs f → Refused e ts vs f
stop_kind {d = d} {us = us} k p h m r = stop_known p (known k us true d h m) r

pub end_kind : {X : Type 0} {e d : Ebnf Symbol} {of more : Tree Token → List X} {ts us : List Token} {xs : List X} (k : TokenKind) → Collects language e of d more ts us xs → nat_eq (next_kind us) (code_of k) ≡ false → first F d ≡ code_of k ∷ [] → more Empty ≡ [] → Gives language e of ts us xs
unfolding language
end_kind {us = us} k p h same none = end_known p (subst (λ xs. has (head language us) xs ≡ false) (sym same) (unlike (code_of k) us h)) none

-- one more, each behind a token of one kind
pub more_after : {X Y : Type 0} {e d : Ebnf Symbol} {of more : Tree Token → List X} {to : Tree Token → Y} {ts us vs ws : List Token} {xs : List X} {t : Token} {w : Y} {v : X} (k : TokenKind) → Collects language e of (Seq (tok k) d) more ts us xs → nat_eq (next_kind us) (code_of k) ≡ true → us ≡ t ∷ vs → (r : Gives language d to vs ws w) → ((c y : Tree Token) → more (Both (Both c r.tree) y) ≡ v ∷ more y) → Collects language e of (Seq (tok k) d) more ts ws (xs ++ v ∷ [])
unfolding language
more_after {d = d} k p h s r same =
    let c = took_next k _ _ _ s h in
    collects_known p (known k _ true (Seq (tok k) d) h (or_left (nat_eq (code_of k) (code_of k)) false (eq-eqb (code_of k) (code_of k) refl))) (readings.last_read language E language_ll1 (next start c) r.read) (same c.tree)

pub stop_after : {X : Type 0} {e d : Ebnf Symbol} {of more : Tree Token → List X} {ts us vs ws : List Token} {xs : List X} {t : Token} {f : Refusal} (k : TokenKind) → Collects language e of (Seq (tok k) d) more ts us xs → nat_eq (next_kind us) (code_of k) ≡ true → us ≡ t ∷ vs → Refused d vs ws f → Refused e ts ws f
unfolding language
stop_after {d = d} k p h s r =
    stop_known p (known k _ true (Seq (tok k) d) h (or_left (nat_eq (code_of k) (code_of k)) false (eq-eqb (code_of k) (code_of k) refl))) (refused_last (next start (took_next k _ _ _ s h)) r)

pub end_after : {X : Type 0} {e d : Ebnf Symbol} {of more : Tree Token → List X} {ts us : List Token} {xs : List X} (k : TokenKind) → Collects language e of (Seq (tok k) d) more ts us xs → nat_eq (next_kind us) (code_of k) ≡ false → more Empty ≡ [] → Gives language e of ts us xs
unfolding language
end_after k p h none = end_known p (unlike (code_of k) _ h) none

-- the answer of one part is the answer
pub as_given : {X : Type 0} (d : Ebnf Symbol) (of : Tree Token → X) (e : Ebnf Symbol) (to : Tree Token → X) (ts us vs : List Token) {up : Tree Token → Tree Token} (r : Result X Refusal) → Within language e ts d us up → ((x : Tree Token) → to (up x) ≡ of x) → Parses d of us vs r → Parses e to ts vs r
as_given d of e to ts us vs (Ok v) w same p = last w p (p.value ∙ sym (same p.tree))
as_given d of e to ts us vs (Err f) w same p = refused_last w p
