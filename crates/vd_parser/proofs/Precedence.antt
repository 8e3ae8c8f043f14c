-- Operators as the parser tests them and as the grammar has them.
use Rattle.std.proofs.Common.{◌≡◌, ℕ, Bool, true, false, ◌||◌, if◌then◌else◌, Option, inl, inr, true≢false, List, [], ◌∷◌, ◌++◌, Some, None, nat_eq, refl, sym, ap, ◌∙◌, subst, eqb-true}
use Rattle.std.proofs.lemmas.Bool.{or_left, or_from, cases_Bool, or_cases}
use Rattle.vd_source_lexer.specs.Grammar.{Ebnf, Tok, Sym, Eps, Seq, Alt, Star, one_of}
use Rattle.vd_source_lexer.specs.Machine.{has, first}
use Rattle.vd_source_lexer.specs.Trees.{Tree, Leaf, Both, First, Second, Empty}
use Rattle.vd_source_lexer.specs.Reading.{head, Within, Gives, Collects}
use Rattle.vd_core.specs.declared.source.Infix.{Infix}
use Rattle.vd_core.specs.declared.source.Infix.TheVariants as op
use Rattle.vd_core.specs.declared.source.Prefix.{Prefix}
use Rattle.vd_core.specs.declared.source.Prefix.TheVariants as prefix
use Rattle.vd_core.specs.declared.source.Direction.{Direction}
use Rattle.vd_core.specs.declared.source.Direction.TheVariants as direction
use Rattle.vd_core.specs.declared.source.Expr.{Expr}
use Rattle.vd_base.specs.declared.ids.Span.{Span}
use Rattle.vd_core.specs.declared.source.Sign.{Sign}
use Rattle.vd_core.specs.declared.source.Segment.{Segment}
use Rattle.vd_core.specs.declared.source.Statement.{Statement}
use Rattle.vd_core.specs.declared.source.Segment.TheVariants as segment
use Rattle.vd_source_lexer.specs.Kinds.{code_of}
use Rattle.vd_source_lexer.specs.declared.token.Token.{Token}
use Rattle.vd_source_lexer.specs.declared.token.TokenKind.{TokenKind}
use Rattle.vd_source_lexer.specs.declared.token.TokenKind.TheVariants as kind
use Rattle.vd_parser.specs.declared.operators.Level.{Level}
use Rattle.vd_parser.specs.declared.operators.Level.TheVariants as level
use Rattle.vd_parser.specs.declared.cursor.Refusal.{Refusal}
use Rattle.vd_parser.specs.Language.{Symbol, tok, BOR, BXOR, BAND, SUM, PROD, STMT, comparison_ops, shift_ops, prefix_ops}
use Rattle.vd_parser.specs.Syntax.{token_of, span_of, infix_of, direction_of, prefix_of, prefixes_of, chained, segment_of, bor_of, bor_segments_of, bxor_of, bxor_segments_of, band_of, band_segments_of, sum_of, sum_segments_of, prod_of, prod_segments_of, shift_segments_of, statements_of, statement_of}
use Rattle.vd_parser.specs.Parsing.{language, kind_at, Refused}
use Rattle.vd_parser.specs.Levels.{begins_statement, is_kind, comparison_at, infix_at, prefix_at, direction_at, ops_of, symbol_of, operand_symbol, level_of, operand_of, segments_of}
use Rattle.vd_parser.proofs.Ready.{F, E, language_ll1}
use Rattle.vd_source_lexer.proofs.Front as readings
use Rattle.vd_parser.proofs.Meanings.{statements_more, statements_none, shifts_more, shifts_none}
use Rattle.vd_parser.proofs.Steps.{head_is, start, rule_start, next, last, refused_last, collects_known, stop_known, end_known}

-- one token of several kinds
one : (c : ℕ) (cs : List ℕ) (t : Token) (ts : List Token) → has (code_of t.kind) (c ∷ cs) ≡ true → Gives language (one_of c cs) token_of (t ∷ ts) ts t
unfolding language
one c [] t ts h = elim (or_cases (nat_eq (code_of t.kind) c) false h) [
  | inl e ↦ record { tree = Leaf t; read = readings.read_tok language E language_ll1 c t ts (eqb-true _ _ e); value = refl }
  | inr e ↦ absurd (true≢false (sym e))
]
one c (d ∷ ds) t ts h = elim (cases_Bool (nat_eq (code_of t.kind) c)) [
  | inl e ↦ (let r : Gives language (Tok c) token_of (t ∷ ts) ts t = record { tree = Leaf t; read = readings.read_tok language E language_ll1 c t ts (eqb-true _ _ e); value = refl } in last (readings.into_left language E language_ll1 start (or_left _ false e)) r refl)
  | inr e ↦ (let r = one d ds t ts (subst (λ b. (b || has (code_of t.kind) (d ∷ ds)) ≡ true) e h) in last (readings.into_right language E language_ll1 start (or_from _ false e refl) refl) r r.value)
]

kind_of_first : (us vs : List Token) (t : Token) → us ≡ t ∷ vs → kind_at us ≡ t.kind
kind_of_first us vs t s = ap kind_at s

-- what stands nowhere
nowhere : {A : Type 0} {a : A} → ◌≡◌ {A = Option A} None (Some a) → ⊥
nowhere e = absurd cc

-- a choice by tests that gives something, and the tests joined
some_last : {A : Type 0} (b : Bool) (x o : A) → (if b then Some x else None) ≡ Some o → (b || false) ≡ true
some_last true x o e = refl
some_last false x o e = absurd (nowhere e)

some_more : {A : Type 0} (b : Bool) (x o : A) (rest : Option A) (others : Bool) → (rest ≡ Some o → others ≡ true) → (if b then Some x else rest) ≡ Some o → (b || others) ≡ true
some_more true x o rest others h e = refl
some_more false x o rest others h e = h e

-- and one that gives nothing
none_last : {A : Type 0} (b : Bool) (x : A) → (if b then Some x else None) ≡ None → (b || false) ≡ false
none_last true x e = absurd (nowhere (sym e))
none_last false x e = refl

none_more : {A : Type 0} (b : Bool) (x : A) (rest : Option A) (others : Bool) → (rest ≡ None → others ≡ false) → (if b then Some x else rest) ≡ None → (b || others) ≡ false
none_more true x rest others h e = absurd (nowhere (sym e))
none_more false x rest others h e = h e

-- what a level's operator is
infix_has : (l : Level) (k : TokenKind) (o : Infix) → infix_at l k ≡ Some o → has (code_of k) (first F (ops_of l)) ≡ true
infix_has level.Or k o e = some_last (is_kind k kind.Pipe) op.Or o e
infix_has level.Xor k o e = some_last (is_kind k kind.Caret) op.Xor o e
infix_has level.And k o e = some_last (is_kind k kind.Ampersand) op.And o e
infix_has level.Sum k o e = some_more (is_kind k kind.Plus) op.Add o _ _ (some_last (is_kind k kind.Minus) op.Sub o) e
infix_has level.Product k o e = some_more (is_kind k kind.Star) op.Mul o _ _ (some_more (is_kind k kind.Slash) op.Div o _ _ (some_last (is_kind k kind.Percent) op.Rem o)) e

infix_is : (l : Level) (k : TokenKind) (o : Infix) → infix_at l k ≡ Some o → o ≡ infix_of k
infix_is level.Or kind.Pipe o e = cc
infix_is level.Or _ o e = absurd (nowhere e)
infix_is level.Xor kind.Caret o e = cc
infix_is level.Xor _ o e = absurd (nowhere e)
infix_is level.And kind.Ampersand o e = cc
infix_is level.And _ o e = absurd (nowhere e)
infix_is level.Sum kind.Plus o e = cc
infix_is level.Sum kind.Minus o e = cc
infix_is level.Sum _ o e = absurd (nowhere e)
infix_is level.Product kind.Star o e = cc
infix_is level.Product kind.Slash o e = cc
infix_is level.Product kind.Percent o e = cc
infix_is level.Product _ o e = absurd (nowhere e)

infix_none : (l : Level) (k : TokenKind) → infix_at l k ≡ None → has (code_of k) (first F (ops_of l)) ≡ false
infix_none level.Or k e = none_last (is_kind k kind.Pipe) op.Or e
infix_none level.Xor k e = none_last (is_kind k kind.Caret) op.Xor e
infix_none level.And k e = none_last (is_kind k kind.Ampersand) op.And e
infix_none level.Sum k e = none_more (is_kind k kind.Plus) op.Add _ _ (none_last (is_kind k kind.Minus) op.Sub) e
infix_none level.Product k e = none_more (is_kind k kind.Star) op.Mul _ _ (none_more (is_kind k kind.Slash) op.Div _ _ (none_last (is_kind k kind.Percent) op.Rem)) e

comparison_has : (k : TokenKind) (o : Infix) → comparison_at k ≡ Some o → has (code_of k) (first F comparison_ops) ≡ true
comparison_has k o e =
    some_more (is_kind k kind.EqualEqual) op.Equal o _ _ (some_more (is_kind k kind.NotEqual) op.NotEqual o _ _ (some_more (is_kind k kind.Less) op.Less o _ _
    (some_more (is_kind k kind.LessEqual) op.LessEqual o _ _ (some_more (is_kind k kind.Greater) op.Greater o _ _ (some_last (is_kind k kind.GreaterEqual) op.GreaterEqual o))))) e

comparison_is : (k : TokenKind) (o : Infix) → comparison_at k ≡ Some o → o ≡ infix_of k
comparison_is kind.EqualEqual o e = cc
comparison_is kind.NotEqual o e = cc
comparison_is kind.Less o e = cc
comparison_is kind.LessEqual o e = cc
comparison_is kind.Greater o e = cc
comparison_is kind.GreaterEqual o e = cc
comparison_is _ o e = absurd (nowhere e)

comparison_none : (k : TokenKind) → comparison_at k ≡ None → has (code_of k) (first F comparison_ops) ≡ false
comparison_none k e =
    none_more (is_kind k kind.EqualEqual) op.Equal _ _ (none_more (is_kind k kind.NotEqual) op.NotEqual _ _ (none_more (is_kind k kind.Less) op.Less _ _
    (none_more (is_kind k kind.LessEqual) op.LessEqual _ _ (none_more (is_kind k kind.Greater) op.Greater _ _ (none_last (is_kind k kind.GreaterEqual) op.GreaterEqual))))) e

prefix_has : (k : TokenKind) (o : Prefix) → prefix_at k ≡ Some o → has (code_of k) (first F prefix_ops) ≡ true
prefix_has k o e = some_more (is_kind k kind.Bang) prefix.Flip o _ _ (some_last (is_kind k kind.Tilde) prefix.Not o) e

prefix_is : (k : TokenKind) (o : Prefix) → prefix_at k ≡ Some o → o ≡ prefix_of k
prefix_is kind.Bang o e = cc
prefix_is kind.Tilde o e = cc
prefix_is _ o e = absurd (nowhere e)

prefix_none : (k : TokenKind) → prefix_at k ≡ None → has (code_of k) (first F prefix_ops) ≡ false
prefix_none k e = none_more (is_kind k kind.Bang) prefix.Flip _ _ (none_last (is_kind k kind.Tilde) prefix.Not) e

direction_has : (k : TokenKind) (o : Direction) → direction_at k ≡ Some o → has (code_of k) (first F shift_ops) ≡ true
direction_has k o e = some_more (is_kind k kind.ShiftLeft) direction.Left o _ _ (some_last (is_kind k kind.ShiftRight) direction.Right o) e

direction_is : (k : TokenKind) (o : Direction) → direction_at k ≡ Some o → o ≡ direction_of k
direction_is kind.ShiftLeft o e = cc
direction_is kind.ShiftRight o e = cc
direction_is _ o e = absurd (nowhere e)

direction_none : (k : TokenKind) → direction_at k ≡ None → has (code_of k) (first F shift_ops) ≡ false
direction_none k e = none_more (is_kind k kind.ShiftLeft) direction.Left _ _ (none_last (is_kind k kind.ShiftRight) direction.Right) e

-- levels
pub level_start : (l : Level) {ts : List Token} → Within language (Sym (symbol_of l)) ts (Seq (Sym (operand_symbol l)) (Star (Seq (ops_of l) (Sym (operand_symbol l))))) ts (λ x. x)
level_start level.Or = rule_start BOR
level_start level.Xor = rule_start BXOR
level_start level.And = rule_start BAND
level_start level.Sum = rule_start SUM
level_start level.Product = rule_start PROD

one_op : (l : Level) (t : Token) (ts : List Token) → has (code_of t.kind) (first F (ops_of l)) ≡ true → Gives language (ops_of l) token_of (t ∷ ts) ts t
one_op level.Or t ts h = one _ [] t ts h
one_op level.Xor t ts h = one _ [] t ts h
one_op level.And t ts h = one _ [] t ts h
one_op level.Sum t ts h = one _ (code_of kind.Minus ∷ []) t ts h
one_op level.Product t ts h = one _ (code_of kind.Slash ∷ code_of kind.Percent ∷ []) t ts h

-- the first of a repetition's tokens are those of its operator
firsts_op : (l : Level) (c : ℕ) (b : Bool) → has c (first F (ops_of l)) ≡ b → has c (first F (Seq (ops_of l) (Sym (operand_symbol l)))) ≡ b
firsts_op level.Or c b h = h
firsts_op level.Xor c b h = h
firsts_op level.And c b h = h
firsts_op level.Sum c b h = h
firsts_op level.Product c b h = h

infix_token : (l : Level) (us vs : List Token) (t : Token) (o : Infix) → infix_at l (kind_at us) ≡ Some o → us ≡ t ∷ vs → Gives language (ops_of l) token_of us vs t
infix_token l us vs t o e s = subst (λ xs. Gives language (ops_of l) token_of xs vs t) (sym s) (one_op l t vs (infix_has l t.kind o (ap (infix_at l) (sym (kind_of_first us vs t s)) ∙ e)))

infix_known : (l : Level) (us vs : List Token) (t : Token) (o : Infix) → infix_at l (kind_at us) ≡ Some o → has (head language us) (first language.firsts (Seq (ops_of l) (Sym (operand_symbol l)))) ≡ true
unfolding language
infix_known l us vs t o e = subst (λ c. has c (first F (Seq (ops_of l) (Sym (operand_symbol l)))) ≡ true) (sym (head_is us)) (firsts_op l _ true (infix_has l (kind_at us) o e))

infix_unknown : (l : Level) (us : List Token) → infix_at l (kind_at us) ≡ None → has (head language us) (first language.firsts (Seq (ops_of l) (Sym (operand_symbol l)))) ≡ false
unfolding language
infix_unknown l us e = subst (λ c. has c (first F (Seq (ops_of l) (Sym (operand_symbol l)))) ≡ false) (sym (head_is us)) (firsts_op l _ false (infix_none l (kind_at us) e))

segment_more : (l : Level) (text : List ℕ) (o x : Tree Token) (v : Expr) → v ≡ operand_of l text x → (y : Tree Token) → segments_of l text (Both (Both o x) y) ≡ segment_of o v ∷ segments_of l text y
unfolding bor_segments_of bxor_segments_of band_segments_of sum_segments_of prod_segments_of
segment_more level.Or text o x v e y = ap (λ z. segment_of o z ∷ segments_of level.Or text y) (sym e)
segment_more level.Xor text o x v e y = ap (λ z. segment_of o z ∷ segments_of level.Xor text y) (sym e)
segment_more level.And text o x v e y = ap (λ z. segment_of o z ∷ segments_of level.And text y) (sym e)
segment_more level.Sum text o x v e y = ap (λ z. segment_of o z ∷ segments_of level.Sum text y) (sym e)
segment_more level.Product text o x v e y = ap (λ z. segment_of o z ∷ segments_of level.Product text y) (sym e)

segments_none : (l : Level) (text : List ℕ) → segments_of l text Empty ≡ []
unfolding bor_segments_of bxor_segments_of band_segments_of sum_segments_of prod_segments_of
segments_none level.Or text = refl
segments_none level.Xor text = refl
segments_none level.And text = refl
segments_none level.Sum text = refl
segments_none level.Product text = refl

pub level_is : (l : Level) (text : List ℕ) (t r : Tree Token) (x : Expr) (ls : List Segment) → x ≡ operand_of l text t → ls ≡ segments_of l text r → chained x ls ≡ level_of l text (Both t r)
unfolding bor_of bxor_of band_of sum_of prod_of
level_is level.Or text t r x ls e f = ap (λ z. chained z ls) e ∙ ap (λ z. chained (operand_of level.Or text t) z) f
level_is level.Xor text t r x ls e f = ap (λ z. chained z ls) e ∙ ap (λ z. chained (operand_of level.Xor text t) z) f
level_is level.And text t r x ls e f = ap (λ z. chained z ls) e ∙ ap (λ z. chained (operand_of level.And text t) z) f
level_is level.Sum text t r x ls e f = ap (λ z. chained z ls) e ∙ ap (λ z. chained (operand_of level.Sum text t) z) f
level_is level.Product text t r x ls e f = ap (λ z. chained z ls) e ∙ ap (λ z. chained (operand_of level.Product text t) z) f

pub one_more : (l : Level) (text : List ℕ) {ts us vs ws : List Token} {ls : List Segment} {t : Token} {o : Infix} {v : Expr} → Collects language (Star (Seq (ops_of l) (Sym (operand_symbol l)))) (segments_of l text) (Seq (ops_of l) (Sym (operand_symbol l))) (segments_of l text) ts us ls → infix_at l (kind_at us) ≡ Some o → us ≡ t ∷ vs → Gives language (Sym (operand_symbol l)) (operand_of l text) vs ws v →
    Collects language (Star (Seq (ops_of l) (Sym (operand_symbol l)))) (segments_of l text) (Seq (ops_of l) (Sym (operand_symbol l))) (segments_of l text) ts ws (ls ++ segment.Infix o t.span v ∷ [])
unfolding language
one_more l text {us = us} {vs = vs} {t = t} {o = o} {v = v} p e s r =
    let c = infix_token l us vs t o e s in
    let is : o ≡ infix_of (token_of c.tree).kind = infix_is l t.kind o (ap (infix_at l) (sym (kind_of_first us vs t s)) ∙ e) ∙ ap (λ z. infix_of z.kind) c.value in
    collects_known p (infix_known l us vs t o e) (readings.last_read language E language_ll1 (next start c) r.read)
    (λ y. segment_more l text c.tree r.tree v r.value y ∙ ap (λ z. segment.Infix z (span_of c.tree) v ∷ segments_of l text y) (sym is) ∙ ap (λ z. segment.Infix o z.span v ∷ segments_of l text y) (sym c.value))

pub stop_more : (l : Level) (text : List ℕ) {ts us vs ws : List Token} {ls : List Segment} {t : Token} {o : Infix} {f : Refusal} → Collects language (Star (Seq (ops_of l) (Sym (operand_symbol l)))) (segments_of l text) (Seq (ops_of l) (Sym (operand_symbol l))) (segments_of l text) ts us ls → infix_at l (kind_at us) ≡ Some o → us ≡ t ∷ vs → Refused (Sym (operand_symbol l)) vs ws f → Refused (Star (Seq (ops_of l) (Sym (operand_symbol l)))) ts ws f
unfolding language
stop_more l text {us = us} {vs = vs} {t = t} {o = o} p e s r = stop_known p (infix_known l us vs t o e) (refused_last (next start (infix_token l us vs t o e s)) r)

pub no_more : (l : Level) (text : List ℕ) {ts us : List Token} {ls : List Segment} → Collects language (Star (Seq (ops_of l) (Sym (operand_symbol l)))) (segments_of l text) (Seq (ops_of l) (Sym (operand_symbol l))) (segments_of l text) ts us ls → infix_at l (kind_at us) ≡ None → Gives language (Star (Seq (ops_of l) (Sym (operand_symbol l)))) (segments_of l text) ts us ls
no_more l text {us = us} p e = end_known p (infix_unknown l us e) (segments_none l text)

-- comparisons
pub compared : {e : Ebnf Symbol} {ts us : List Token} {up : Tree Token → Tree Token} {o : Infix} → Within language e ts (Alt (Seq comparison_ops (Sym BOR)) Eps) us up → comparison_at (kind_at us) ≡ Some o → Within language e ts (Seq comparison_ops (Sym BOR)) us (λ x. up (First x))
unfolding language
compared {us = us} {o = o} w e = readings.into_left language E language_ll1 w (subst (λ c. has c (first F (Seq comparison_ops (Sym BOR))) ≡ true) (sym (head_is us)) (comparison_has (kind_at us) o e))

pub not_compared : {e : Ebnf Symbol} {ts us : List Token} {up : Tree Token → Tree Token} → Within language e ts (Alt (Seq comparison_ops (Sym BOR)) Eps) us up → comparison_at (kind_at us) ≡ None → Within language e ts Eps us (λ x. up (Second x))
unfolding language
not_compared {us = us} w e = readings.into_right language E language_ll1 w (subst (λ c. has c (first F (Seq comparison_ops (Sym BOR))) ≡ false) (sym (head_is us)) (comparison_none (kind_at us) e)) refl

pub comparison_token : (us vs : List Token) (t : Token) (o : Infix) → comparison_at (kind_at us) ≡ Some o → us ≡ t ∷ vs → Gives language comparison_ops token_of us vs t
comparison_token us vs t o e s = subst (λ xs. Gives language comparison_ops token_of xs vs t) (sym s) (one _ (code_of kind.NotEqual ∷ code_of kind.Less ∷ code_of kind.LessEqual ∷ code_of kind.Greater ∷ code_of kind.GreaterEqual ∷ []) t vs (comparison_has t.kind o (ap comparison_at (sym (kind_of_first us vs t s)) ∙ e)))

pub comparison_op : (us vs : List Token) (t : Token) (o : Infix) (x : Tree Token) → comparison_at (kind_at us) ≡ Some o → us ≡ t ∷ vs → t ≡ token_of x → o ≡ infix_of (token_of x).kind
comparison_op us vs t o x e s same = comparison_is t.kind o (ap comparison_at (sym (kind_of_first us vs t s)) ∙ e) ∙ ap (λ z. infix_of z.kind) same

-- operators before an operand
prefix_token : (us vs : List Token) (t : Token) (o : Prefix) → prefix_at (kind_at us) ≡ Some o → us ≡ t ∷ vs → Gives language prefix_ops token_of us vs t
prefix_token us vs t o e s = subst (λ xs. Gives language prefix_ops token_of xs vs t) (sym s) (one _ (code_of kind.Tilde ∷ []) t vs (prefix_has t.kind o (ap prefix_at (sym (kind_of_first us vs t s)) ∙ e)))

prefixes_more : (o y : Tree Token) (p : Prefix) (s : Span) → p ≡ prefix_of (token_of o).kind → s ≡ span_of o → prefixes_of (Both o y) ≡ record { prefix = p; span = s } ∷ prefixes_of y
unfolding prefixes_of
prefixes_more o y p s e f = ap (λ z. record { prefix = z; span = span_of o } ∷ prefixes_of y) (sym e) ∙ ap (λ z. record { prefix = p; span = z } ∷ prefixes_of y) (sym f)

prefixes_none : prefixes_of Empty ≡ []
unfolding prefixes_of
prefixes_none = refl

pub more_prefix : {ts us vs : List Token} {ps : List Sign} {t : Token} {p : Prefix} → Collects language (Star prefix_ops) prefixes_of prefix_ops prefixes_of ts us ps → prefix_at (kind_at us) ≡ Some p → us ≡ t ∷ vs → Collects language (Star prefix_ops) prefixes_of prefix_ops prefixes_of ts vs (ps ++ record { prefix = p; span = t.span } ∷ [])
unfolding language
more_prefix {us = us} {vs = vs} {t = t} {p = p} q e s =
    let c = prefix_token us vs t p e s in
    collects_known q (subst (λ c. has c (first F prefix_ops) ≡ true) (sym (head_is us)) (prefix_has (kind_at us) p e)) c.read
    (λ y. prefixes_more c.tree y p t.span (prefix_is t.kind p (ap prefix_at (sym (kind_of_first us vs t s)) ∙ e) ∙ ap (λ z. prefix_of z.kind) c.value) (ap (λ z. z.span) c.value))

pub no_prefix : {ts us : List Token} {ps : List Sign} → Collects language (Star prefix_ops) prefixes_of prefix_ops prefixes_of ts us ps → prefix_at (kind_at us) ≡ None → Gives language (Star prefix_ops) prefixes_of ts us ps
unfolding language
no_prefix {us = us} q e = end_known q (subst (λ c. has c (first F prefix_ops) ≡ false) (sym (head_is us)) (prefix_none (kind_at us) e)) prefixes_none

-- shifts
shift_token : (us vs : List Token) (t : Token) (o : Direction) → direction_at (kind_at us) ≡ Some o → us ≡ t ∷ vs → Gives language shift_ops token_of us vs t
shift_token us vs t o e s = subst (λ xs. Gives language shift_ops token_of xs vs t) (sym s) (one _ (code_of kind.ShiftRight ∷ []) t vs (direction_has t.kind o (ap direction_at (sym (kind_of_first us vs t s)) ∙ e)))

shift_known : (us : List Token) (o : Direction) → direction_at (kind_at us) ≡ Some o → has (head language us) (first language.firsts (Seq shift_ops (tok kind.Number))) ≡ true
unfolding language
shift_known us o e = subst (λ c. has c (first F (Seq shift_ops (tok kind.Number))) ≡ true) (sym (head_is us)) (direction_has (kind_at us) o e)

pub one_shift : (text : List ℕ) {ts us vs ws : List Token} {ls : List Segment} {t n : Token} {o : Direction} → Collects language (Star (Seq shift_ops (tok kind.Number))) (shift_segments_of text) (Seq shift_ops (tok kind.Number)) (shift_segments_of text) ts us ls → direction_at (kind_at us) ≡ Some o → us ≡ t ∷ vs → Gives language (tok kind.Number) token_of vs ws n →
    Collects language (Star (Seq shift_ops (tok kind.Number))) (shift_segments_of text) (Seq shift_ops (tok kind.Number)) (shift_segments_of text) ts ws (ls ++ segment.Shift o t.span n.value ∷ [])
unfolding language
one_shift text {us = us} {vs = vs} {t = t} {n = n} {o = o} p e s r =
    let c = shift_token us vs t o e s in
    collects_known p (shift_known us o e) (readings.last_read language E language_ll1 (next start c) r.read)
    (λ y. shifts_more text c.tree r.tree o t.span n.value (direction_is t.kind o (ap direction_at (sym (kind_of_first us vs t s)) ∙ e) ∙ ap (λ z. direction_of z.kind) c.value) (ap (λ z. z.span) c.value) (ap (λ z. z.value) r.value) y)

pub stop_shift : (text : List ℕ) {ts us vs ws : List Token} {ls : List Segment} {t : Token} {o : Direction} {f : Refusal} → Collects language (Star (Seq shift_ops (tok kind.Number))) (shift_segments_of text) (Seq shift_ops (tok kind.Number)) (shift_segments_of text) ts us ls → direction_at (kind_at us) ≡ Some o → us ≡ t ∷ vs → Refused (tok kind.Number) vs ws f → Refused (Star (Seq shift_ops (tok kind.Number))) ts ws f
stop_shift text {us = us} {vs = vs} {t = t} {o = o} p e s r = stop_known p (shift_known us o e) (refused_last (next start (shift_token us vs t o e s)) r)

pub no_shift : (text : List ℕ) {ts us : List Token} {ls : List Segment} → Collects language (Star (Seq shift_ops (tok kind.Number))) (shift_segments_of text) (Seq shift_ops (tok kind.Number)) (shift_segments_of text) ts us ls → direction_at (kind_at us) ≡ None → Gives language (Star (Seq shift_ops (tok kind.Number))) (shift_segments_of text) ts us ls
unfolding language
no_shift text {us = us} p e = end_known p (subst (λ c. has c (first F (Seq shift_ops (tok kind.Number))) ≡ false) (sym (head_is us)) (direction_none (kind_at us) e)) (shifts_none text)

-- statements
begins_true : (k : TokenKind) → begins_statement k ≡ true → has (code_of k) (first F (Sym STMT)) ≡ true
begins_true kind.Let h = refl
begins_true kind.Var h = refl
begins_true kind.Array h = refl
begins_true kind.Name h = refl
begins_true kind.Output h = refl
begins_true kind.If h = refl
begins_true kind.For h = refl
begins_true _ h = absurd (true≢false (sym h))

begins_false : (k : TokenKind) → begins_statement k ≡ false → has (code_of k) (first F (Sym STMT)) ≡ false
begins_false kind.Let h = absurd (true≢false h)
begins_false kind.Var h = absurd (true≢false h)
begins_false kind.Array h = absurd (true≢false h)
begins_false kind.Name h = absurd (true≢false h)
begins_false kind.Output h = absurd (true≢false h)
begins_false kind.If h = absurd (true≢false h)
begins_false kind.For h = absurd (true≢false h)
begins_false _ h = refl

statement_known : (us : List Token) (b : Bool) → has (code_of (kind_at us)) (first F (Sym STMT)) ≡ b → has (head language us) (first language.firsts (Sym STMT)) ≡ b
unfolding language
statement_known us b h = subst (λ c. has c (first F (Sym STMT)) ≡ b) (sym (head_is us)) h

pub more_statement : (text : List ℕ) {ts us vs : List Token} {ss : List Statement} {v : Statement} → Collects language (Star (Sym STMT)) (statements_of text) (Sym STMT) (statements_of text) ts us ss → begins_statement (kind_at us) ≡ true → Gives language (Sym STMT) (statement_of text) us vs v → Collects language (Star (Sym STMT)) (statements_of text) (Sym STMT) (statements_of text) ts vs (ss ++ v ∷ [])
more_statement text {us = us} {v = v} p h r = collects_known p (statement_known us true (begins_true (kind_at us) h)) r.read (statements_more text r.tree v r.value)

pub stop_statement : (text : List ℕ) {ts us vs : List Token} {ss : List Statement} {f : Refusal} → Collects language (Star (Sym STMT)) (statements_of text) (Sym STMT) (statements_of text) ts us ss → begins_statement (kind_at us) ≡ true → Refused (Sym STMT) us vs f → Refused (Star (Sym STMT)) ts vs f
stop_statement text {us = us} p h r = stop_known p (statement_known us true (begins_true (kind_at us) h)) r

pub no_statement : (text : List ℕ) {ts us : List Token} {ss : List Statement} → Collects language (Star (Sym STMT)) (statements_of text) (Sym STMT) (statements_of text) ts us ss → begins_statement (kind_at us) ≡ false → Gives language (Star (Sym STMT)) (statements_of text) ts us ss
no_statement text {us = us} p h = end_known p (statement_known us false (begins_false (kind_at us) h)) (statements_none text)
