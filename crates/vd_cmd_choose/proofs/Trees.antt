-- Trees of the lines of a generated source, with what they stand for.
use Rattle.std.proofs.Common.{◌≡◌, ℕ, List, [], ◌∷◌, None, refl, ap, ◌∙◌}
use Rattle.vd_source_lexer.specs.Grammar.{Ebnf, Sym, Star}
use Rattle.vd_source_lexer.specs.Trees.{Tree, Leaf, Both, First, Second, Empty, Makes, m-tok, m-sym, m-eps, m-seq, m-left, m-right, m-stop, m-more}
use Rattle.vd_base.specs.declared.ids.Span.{Span}
use Rattle.vd_core.specs.declared.source.Ident.{Ident}
use Rattle.vd_core.specs.declared.source.WrittenForm.{WrittenForm}
use Rattle.vd_core.specs.declared.source.WrittenForm.TheVariants as form
use Rattle.vd_core.specs.declared.source.WrittenLabel.{WrittenLabel}
use Rattle.vd_core.specs.declared.source.Host.{Host}
use Rattle.vd_core.specs.declared.source.Infix.{Infix}
use Rattle.vd_core.specs.declared.source.Infix.TheVariants as op
use Rattle.vd_core.specs.declared.source.Expr.{Expr}
use Rattle.vd_core.specs.declared.source.Expr.TheVariants as expr
use Rattle.vd_core.specs.declared.source.Segment.TheVariants as segment
use Rattle.vd_core.specs.declared.source.Statement.{Statement}
use Rattle.vd_core.specs.declared.source.Statement.TheVariants as stmt
use Rattle.vd_core.specs.declared.source.Source.{Source}
use Rattle.vd_source_lexer.specs.Kinds.{code_of}
use Rattle.vd_source_lexer.specs.declared.token.Token.{Token}
use Rattle.vd_source_lexer.specs.declared.token.TokenKind.{TokenKind}
use Rattle.vd_source_lexer.specs.declared.token.TokenKind.TheVariants as kind
use Rattle.vd_parser.specs.Language.{Symbol, rule, SOURCE, HOST, LABEL, FORM, CONJ, FATOM, STMT, EXPR, BOR, BXOR, BAND, SHIFT, SUM, PROD, UNARY, ATOM}
use Rattle.vd_parser.specs.Syntax.{word_at, infix_of, form_of, conj_of, conjs_of, fatom_of, fatoms_of, label_of, label_option_of, host_of, host_name_of, new_form_of, prefixes_of, expr_of, bor_of, bor_segments_of, bxor_of, bxor_segments_of, band_of, band_segments_of, shift_of, shift_segments_of, sum_of, sum_segments_of, prod_of, prod_segments_of, unary_of, atom_of, word_atom_of, other_atom_of, named_of, first_of, between_of, let_of, output_of, statement_of, statements_of, source_of, principals_of, idents_of, more_idents_of, host_list_of, hosts_of, functions_of, block_of}

-- a name with its place
abbrev pub named : List ℕ → Span → Ident
named name span = record { name = name; span = span }

abbrev pub IsKind : Token → TokenKind → Type 0
IsKind t k = t.kind ≡ k

-- From the tokens ts the part e is made, what it stands for is v, and the tokens rest are left.
pub record Reads {X : Type 0} (e : Ebnf Symbol) (of : List ℕ → Tree Token → X) (text : List ℕ) (ts rest : List Token) (v : X) : Type 0 where
  pub tree : Tree Token
  pub makes : Makes Symbol Token rule (λ t. code_of t.kind) e ts rest tree
  pub stands : of text tree ≡ v

-- ---- expressions

unary_alone : {text : List ℕ} {ts rest : List Token} {v : Expr} → Reads (Sym ATOM) atom_of text ts rest v → Reads (Sym UNARY) unary_of text ts rest v
unfolding unary_of prefixes_of
unary_alone r = record { tree = Both Empty r.tree; makes = m-sym (m-seq m-stop r.makes); stands = r.stands }

prod_alone : {text : List ℕ} {ts rest : List Token} {v : Expr} → Reads (Sym UNARY) unary_of text ts rest v → Reads (Sym PROD) prod_of text ts rest v
unfolding prod_of prod_segments_of
prod_alone r = record { tree = Both r.tree Empty; makes = m-sym (m-seq r.makes m-stop); stands = r.stands }

sum_alone : {text : List ℕ} {ts rest : List Token} {v : Expr} → Reads (Sym PROD) prod_of text ts rest v → Reads (Sym SUM) sum_of text ts rest v
unfolding sum_of sum_segments_of
sum_alone r = record { tree = Both r.tree Empty; makes = m-sym (m-seq r.makes m-stop); stands = r.stands }

shift_alone : {text : List ℕ} {ts rest : List Token} {v : Expr} → Reads (Sym SUM) sum_of text ts rest v → Reads (Sym SHIFT) shift_of text ts rest v
unfolding shift_of shift_segments_of
shift_alone r = record { tree = Both r.tree Empty; makes = m-sym (m-seq r.makes m-stop); stands = r.stands }

band_alone : {text : List ℕ} {ts rest : List Token} {v : Expr} → Reads (Sym SHIFT) shift_of text ts rest v → Reads (Sym BAND) band_of text ts rest v
unfolding band_of band_segments_of
band_alone r = record { tree = Both r.tree Empty; makes = m-sym (m-seq r.makes m-stop); stands = r.stands }

bxor_alone : {text : List ℕ} {ts rest : List Token} {v : Expr} → Reads (Sym BAND) band_of text ts rest v → Reads (Sym BXOR) bxor_of text ts rest v
unfolding bxor_of bxor_segments_of
bxor_alone r = record { tree = Both r.tree Empty; makes = m-sym (m-seq r.makes m-stop); stands = r.stands }

bor_alone : {text : List ℕ} {ts rest : List Token} {v : Expr} → Reads (Sym BXOR) bxor_of text ts rest v → Reads (Sym BOR) bor_of text ts rest v
unfolding bor_of bor_segments_of
bor_alone r = record { tree = Both r.tree Empty; makes = m-sym (m-seq r.makes m-stop); stands = r.stands }

expr_alone : {text : List ℕ} {ts rest : List Token} {v : Expr} → Reads (Sym BOR) bor_of text ts rest v → Reads (Sym EXPR) expr_of text ts rest v
unfolding expr_of
expr_alone r = record { tree = Both r.tree (Second Empty); makes = m-sym (m-seq r.makes (m-right m-eps)); stands = r.stands }

prod_of_atom : {text : List ℕ} {ts rest : List Token} {v : Expr} → Reads (Sym ATOM) atom_of text ts rest v → Reads (Sym PROD) prod_of text ts rest v
prod_of_atom r = prod_alone (unary_alone r)

bor_of_sum : {text : List ℕ} {ts rest : List Token} {v : Expr} → Reads (Sym SUM) sum_of text ts rest v → Reads (Sym BOR) bor_of text ts rest v
bor_of_sum r = bor_alone (bxor_alone (band_alone (shift_alone r)))

bor_of_atom : {text : List ℕ} {ts rest : List Token} {v : Expr} → Reads (Sym ATOM) atom_of text ts rest v → Reads (Sym BOR) bor_of text ts rest v
bor_of_atom r = bor_of_sum (sum_alone (prod_of_atom r))

expr_of_sum : {text : List ℕ} {ts rest : List Token} {v : Expr} → Reads (Sym SUM) sum_of text ts rest v → Reads (Sym EXPR) expr_of text ts rest v
expr_of_sum r = expr_alone (bor_of_sum r)

pub expr_of_atom : {text : List ℕ} {ts rest : List Token} {v : Expr} → Reads (Sym ATOM) atom_of text ts rest v → Reads (Sym EXPR) expr_of text ts rest v
expr_of_atom r = expr_alone (bor_of_atom r)

-- two operands
abbrev pub two : Infix → Span → Expr → Expr → Expr
two o at x y = expr.Chain x (segment.Infix o at y ∷ [])

pub star : {text : List ℕ} {ts us rest : List Token} {o : Token} {x y : Expr} → Reads (Sym ATOM) atom_of text ts (o ∷ us) x → IsKind o kind.Star → Reads (Sym ATOM) atom_of text us rest y →
    Reads (Sym EXPR) expr_of text ts rest (two op.Mul o.span x y)
unfolding prod_of prod_segments_of
star {text = text} {o = o} {x = x} {y = y} a k b =
    let l = unary_alone a in
    let r = unary_alone b in
    expr_of_sum (sum_alone (record {
      tree = Both l.tree (Both (Both (First (Leaf o)) r.tree) Empty);
      makes = m-sym (m-seq l.makes (m-more (m-seq (m-left (m-tok (ap code_of k))) r.makes) m-stop));
      stands = ap (λ z. two (infix_of o.kind) o.span z (unary_of text r.tree)) l.stands ∙ ap (λ z. two (infix_of o.kind) o.span x z) r.stands ∙ ap (λ z. two (infix_of z) o.span x y) k;
    }))

pub plus : {text : List ℕ} {ts us rest : List Token} {o : Token} {x y : Expr} → Reads (Sym ATOM) atom_of text ts (o ∷ us) x → IsKind o kind.Plus → Reads (Sym ATOM) atom_of text us rest y →
    Reads (Sym EXPR) expr_of text ts rest (two op.Add o.span x y)
unfolding sum_of sum_segments_of
plus {text = text} {o = o} {x = x} {y = y} a k b =
    let l = prod_of_atom a in
    let r = prod_of_atom b in
    expr_of_sum (record {
      tree = Both l.tree (Both (Both (First (Leaf o)) r.tree) Empty);
      makes = m-sym (m-seq l.makes (m-more (m-seq (m-left (m-tok (ap code_of k))) r.makes) m-stop));
      stands = ap (λ z. two (infix_of o.kind) o.span z (prod_of text r.tree)) l.stands ∙ ap (λ z. two (infix_of o.kind) o.span x z) r.stands ∙ ap (λ z. two (infix_of z) o.span x y) k;
    })

pub minus : {text : List ℕ} {ts us rest : List Token} {o : Token} {x y : Expr} → Reads (Sym ATOM) atom_of text ts (o ∷ us) x → IsKind o kind.Minus → Reads (Sym ATOM) atom_of text us rest y →
    Reads (Sym EXPR) expr_of text ts rest (two op.Sub o.span x y)
unfolding sum_of sum_segments_of
minus {text = text} {o = o} {x = x} {y = y} a k b =
    let l = prod_of_atom a in
    let r = prod_of_atom b in
    expr_of_sum (record {
      tree = Both l.tree (Both (Both (Second (Leaf o)) r.tree) Empty);
      makes = m-sym (m-seq l.makes (m-more (m-seq (m-right (m-tok (ap code_of k))) r.makes) m-stop));
      stands = ap (λ z. two (infix_of o.kind) o.span z (prod_of text r.tree)) l.stands ∙ ap (λ z. two (infix_of o.kind) o.span x z) r.stands ∙ ap (λ z. two (infix_of z) o.span x y) k;
    })

pub less : {text : List ℕ} {ts us rest : List Token} {o : Token} {x y : Expr} → Reads (Sym ATOM) atom_of text ts (o ∷ us) x → IsKind o kind.Less → Reads (Sym ATOM) atom_of text us rest y →
    Reads (Sym EXPR) expr_of text ts rest (two op.Less o.span x y)
unfolding expr_of
less {text = text} {o = o} {x = x} {y = y} a k b =
    let l = bor_of_atom a in
    let r = bor_of_atom b in
    record {
      tree = Both l.tree (First (Both (Second (Second (First (Leaf o)))) r.tree));
      makes = m-sym (m-seq l.makes (m-left (m-seq (m-right (m-right (m-left (m-tok (ap code_of k))))) r.makes)));
      stands = ap (λ z. two (infix_of o.kind) o.span z (bor_of text r.tree)) l.stands ∙ ap (λ z. two (infix_of o.kind) o.span x z) r.stands ∙ ap (λ z. two (infix_of z) o.span x y) k;
    }

-- ---- atoms

pub number : {text : List ℕ} {rest : List Token} {t : Token} → IsKind t kind.Number → Reads (Sym ATOM) atom_of text (t ∷ rest) rest (expr.Number t.value)
unfolding atom_of
number {t = t} k = record { tree = First (Leaf t); makes = m-sym (m-left (m-tok (ap code_of k))); stands = refl }

pub name : {text N : List ℕ} {rest : List Token} {t : Token} → IsKind t kind.Name → word_at text t.span ≡ N → Reads (Sym ATOM) atom_of text (t ∷ rest) rest (expr.Value (named N t.span))
unfolding atom_of word_atom_of named_of
name {t = t} k w = record {
  tree = Second (Second (Second (First (Both (Leaf t) (Second Empty)))));
  makes = m-sym (m-right (m-right (m-right (m-left (m-seq (m-tok (ap code_of k)) (m-right m-eps))))));
  stands = ap (λ n. expr.Value (named n t.span)) w;
}

pub input : {text H : List ℕ} {rest : List Token} {i o h p : Token} → IsKind i kind.Input → IsKind o kind.OpenParen → IsKind h kind.Name → IsKind p kind.CloseParen → word_at text h.span ≡ H →
    Reads (Sym ATOM) atom_of text (i ∷ o ∷ h ∷ p ∷ rest) rest (expr.Input (named H h.span))
unfolding atom_of word_atom_of other_atom_of host_name_of
input {i = i} {o = o} {h = h} {p = p} ki ko kh kp w = record {
  tree = Second (Second (Second (Second (Second (Second (Second (First (Both (Leaf i) (Both (Leaf o) (Both (Leaf h) (Leaf p)))))))))));
  makes = m-sym (m-right (m-right (m-right (m-right (m-right (m-right (m-right (m-left (m-seq (m-tok (ap code_of ki)) (m-seq (m-tok (ap code_of ko)) (m-seq (m-tok (ap code_of kh)) (m-tok (ap code_of kp)))))))))))));
  stands = ap (λ n. expr.Input (named n h.span)) w;
}

-- ---- formulas

atom_named : {text N : List ℕ} {rest : List Token} {t : Token} → IsKind t kind.Name → word_at text t.span ≡ N → Reads (Sym FATOM) fatom_of text (t ∷ rest) rest (form.Name (named N t.span))
unfolding fatom_of
atom_named {t = t} k w = record {
  tree = Second (Second (First (Leaf t)));
  makes = m-sym (m-right (m-right (m-left (m-tok (ap code_of k)))));
  stands = ap (λ n. form.Name (named n t.span)) w;
}

conj_named : {text N : List ℕ} {rest : List Token} {t : Token} → IsKind t kind.Name → word_at text t.span ≡ N → Reads (Sym CONJ) conj_of text (t ∷ rest) rest (form.Name (named N t.span))
unfolding conj_of fatoms_of
conj_named {text = text} {N = N} {rest = rest} {t = t} k w =
    let a : Reads (Sym FATOM) fatom_of text (t ∷ rest) rest (form.Name (named N t.span)) = atom_named k w in
    record { tree = Both a.tree Empty; makes = m-sym (m-seq a.makes m-stop); stands = a.stands }

pub form_named : {text N : List ℕ} {rest : List Token} {t : Token} → IsKind t kind.Name → word_at text t.span ≡ N → Reads (Sym FORM) form_of text (t ∷ rest) rest (form.Name (named N t.span))
unfolding form_of conjs_of
form_named {text = text} {N = N} {rest = rest} {t = t} k w =
    let a : Reads (Sym CONJ) conj_of text (t ∷ rest) rest (form.Name (named N t.span)) = conj_named k w in
    record { tree = Both a.tree Empty; makes = m-sym (m-seq a.makes m-stop); stands = a.stands }

pub form_both : {text M N : List ℕ} {rest : List Token} {s o t : Token} → IsKind s kind.Name → IsKind o kind.Ampersand → IsKind t kind.Name → word_at text s.span ≡ M → word_at text t.span ≡ N →
    Reads (Sym FORM) form_of text (s ∷ o ∷ t ∷ rest) rest (form.Both (form.Name (named M s.span) ∷ form.Name (named N t.span) ∷ []))
unfolding form_of conjs_of conj_of fatoms_of
form_both {text = text} {M = M} {N = N} {rest = rest} {s = s} {o = o} {t = t} ks ko kt ws wt =
    let a : Reads (Sym FATOM) fatom_of text (s ∷ o ∷ t ∷ rest) (o ∷ t ∷ rest) (form.Name (named M s.span)) = atom_named ks ws in
    let b : Reads (Sym FATOM) fatom_of text (t ∷ rest) rest (form.Name (named N t.span)) = atom_named kt wt in
    record {
      tree = Both (Both a.tree (Both (Both (Leaf o) b.tree) Empty)) Empty;
      makes = m-sym (m-seq (m-sym (m-seq a.makes (m-more (m-seq (m-tok (ap code_of ko)) b.makes) m-stop))) m-stop);
      stands = ap (λ z. form.Both (z ∷ fatom_of text b.tree ∷ [])) a.stands ∙ ap (λ z. form.Both (form.Name (named M s.span) ∷ z ∷ [])) b.stands;
    }

pub form_either : {text M N : List ℕ} {rest : List Token} {s o t : Token} → IsKind s kind.Name → IsKind o kind.Pipe → IsKind t kind.Name → word_at text s.span ≡ M → word_at text t.span ≡ N →
    Reads (Sym FORM) form_of text (s ∷ o ∷ t ∷ rest) rest (form.Either (form.Name (named M s.span) ∷ form.Name (named N t.span) ∷ []))
unfolding form_of conjs_of
form_either {text = text} {M = M} {N = N} {rest = rest} {s = s} {o = o} {t = t} ks ko kt ws wt =
    let a : Reads (Sym CONJ) conj_of text (s ∷ o ∷ t ∷ rest) (o ∷ t ∷ rest) (form.Name (named M s.span)) = conj_named ks ws in
    let b : Reads (Sym CONJ) conj_of text (t ∷ rest) rest (form.Name (named N t.span)) = conj_named kt wt in
    record {
      tree = Both a.tree (Both (Both (Leaf o) b.tree) Empty);
      makes = m-sym (m-seq a.makes (m-more (m-seq (m-tok (ap code_of ko)) b.makes) m-stop));
      stands = ap (λ z. form.Either (z ∷ conj_of text b.tree ∷ [])) a.stands ∙ ap (λ z. form.Either (form.Name (named M s.span) ∷ z ∷ [])) b.stands;
    }

pub declassify : {text : List ℕ} {es fs rest : List Token} {d o c b x p : Token} {e : Expr} {f : WrittenForm} → IsKind d kind.Declassify → IsKind o kind.OpenParen →
    Reads (Sym EXPR) expr_of text es (c ∷ b ∷ fs) e → IsKind c kind.Comma → IsKind b kind.OpenBrace → Reads (Sym FORM) form_of text fs (x ∷ p ∷ rest) f → IsKind x kind.CloseBrace → IsKind p kind.CloseParen →
    Reads (Sym ATOM) atom_of text (d ∷ o ∷ es) rest (expr.Declassify e f)
unfolding atom_of word_atom_of other_atom_of first_of new_form_of
declassify {text = text} {d = d} {o = o} {c = c} {b = b} {x = x} {p = p} {e = e} {f = f} kd ko r kc kb s kx kp = record {
  tree = Second (Second (Second (Second (Second (Second (Second (Second (First (Both (Leaf d) (Both (Leaf o) (Both r.tree (Both (Leaf c) (Both (Leaf b) (Both s.tree (Both (Leaf x) (Leaf p))))))))))))))));
  makes = m-sym (m-right (m-right (m-right (m-right (m-right (m-right (m-right (m-right (m-left (m-seq (m-tok (ap code_of kd)) (m-seq (m-tok (ap code_of ko)) (m-seq r.makes (m-seq (m-tok (ap code_of kc)) (m-seq (m-tok (ap code_of kb)) (m-seq s.makes (m-seq (m-tok (ap code_of kx)) (m-tok (ap code_of kp))))))))))))))))));
  stands = ap (λ z. expr.Declassify z (form_of text s.tree)) r.stands ∙ ap (λ z. expr.Declassify e z) s.stands;
}

-- ---- statements

pub binding : {text N : List ℕ} {es rest : List Token} {k n q s : Token} {e : Expr} → IsKind k kind.Let → IsKind n kind.Name → IsKind q kind.Equal → word_at text n.span ≡ N →
    Reads (Sym EXPR) expr_of text es (s ∷ rest) e → IsKind s kind.Semicolon → Reads (Sym STMT) statement_of text (k ∷ n ∷ q ∷ es) rest (stmt.Let k.span (named N n.span) None e)
unfolding statement_of let_of label_option_of between_of
binding {text = text} {N = N} {k = k} {n = n} {q = q} {s = s} kk kn kq w r ks = record {
  tree = First (Both (Leaf k) (Both (Leaf n) (Both (Second Empty) (Both (Leaf q) (Both r.tree (Leaf s))))));
  makes = m-sym (m-left (m-seq (m-tok (ap code_of kk)) (m-seq (m-tok (ap code_of kn)) (m-seq (m-right m-eps) (m-seq (m-tok (ap code_of kq)) (m-seq r.makes (m-tok (ap code_of ks))))))));
  stands = ap (λ z. stmt.Let k.span (named z n.span) None (expr_of text r.tree)) w ∙ ap (λ z. stmt.Let k.span (named N n.span) None z) r.stands;
}

pub output : {text H : List ℕ} {es rest : List Token} {k t h s : Token} {e : Expr} → IsKind k kind.Output → Reads (Sym EXPR) expr_of text es (t ∷ h ∷ s ∷ rest) e → IsKind t kind.To → IsKind h kind.Name →
    word_at text h.span ≡ H → IsKind s kind.Semicolon → Reads (Sym STMT) statement_of text (k ∷ es) rest (stmt.Output k.span e (named H h.span))
unfolding statement_of output_of host_name_of
output {text = text} {H = H} {k = k} {t = t} {h = h} {s = s} {e = e} kk r kt kh w ks = record {
  tree = Second (Second (Second (Second (First (Both (Leaf k) (Both r.tree (Both (Leaf t) (Both (Leaf h) (Leaf s)))))))));
  makes = m-sym (m-right (m-right (m-right (m-right (m-left (m-seq (m-tok (ap code_of kk)) (m-seq r.makes (m-seq (m-tok (ap code_of kt)) (m-seq (m-tok (ap code_of kh)) (m-tok (ap code_of ks)))))))))));
  stands = ap (λ z. stmt.Output k.span z (named (word_at text h.span) h.span)) r.stands ∙ ap (λ z. stmt.Output k.span e (named z h.span)) w;
}

pub statements_end : {text : List ℕ} {ts : List Token} → Reads (Star (Sym STMT)) statements_of text ts ts []
unfolding statements_of
statements_end = record { tree = Empty; makes = m-stop; stands = refl }

pub statements_more : {text : List ℕ} {ts us rest : List Token} {s : Statement} {ss : List Statement} → Reads (Sym STMT) statement_of text ts us s → Reads (Star (Sym STMT)) statements_of text us rest ss →
    Reads (Star (Sym STMT)) statements_of text ts rest (s ∷ ss)
unfolding statements_of
statements_more {text = text} {s = s} a b = record {
  tree = Both a.tree b.tree;
  makes = m-more a.makes b.makes;
  stands = ap (λ z. z ∷ statements_of text b.tree) a.stands ∙ ap (λ z. s ∷ z) b.stands;
}

-- ---- hosts

label : {text : List ℕ} {cs is rest : List Token} {o s p : Token} {c i : WrittenForm} → IsKind o kind.OpenBrace → Reads (Sym FORM) form_of text cs (s ∷ is) c → IsKind s kind.Semicolon →
    Reads (Sym FORM) form_of text is (p ∷ rest) i → IsKind p kind.CloseBrace → Reads (Sym LABEL) label_of text (o ∷ cs) rest (record { conf = c; integ = i })
unfolding label_of
label {text = text} {o = o} {s = s} {p = p} {c = c} ko a ks b kp = record {
  tree = Both (Leaf o) (Both a.tree (Both (Leaf s) (Both b.tree (Leaf p))));
  makes = m-sym (m-seq (m-tok (ap code_of ko)) (m-seq a.makes (m-seq (m-tok (ap code_of ks)) (m-seq b.makes (m-tok (ap code_of kp))))));
  stands = ap {B = WrittenLabel} (λ z. record { conf = z; integ = form_of text b.tree }) a.stands ∙ ap {B = WrittenLabel} (λ z. record { conf = c; integ = z }) b.stands;
}

pub host : {text H : List ℕ} {cs is rest : List Token} {k n o s p e : Token} {c i : WrittenForm} → IsKind k kind.Host → IsKind n kind.Name → word_at text n.span ≡ H → IsKind o kind.OpenBrace →
    Reads (Sym FORM) form_of text cs (s ∷ is) c → IsKind s kind.Semicolon → Reads (Sym FORM) form_of text is (p ∷ e ∷ rest) i → IsKind p kind.CloseBrace → IsKind e kind.Semicolon →
    Reads (Sym HOST) host_of text (k ∷ n ∷ o ∷ cs) rest (record { name = named H n.span; label = record { conf = c; integ = i } })
unfolding host_of
host {text = text} {H = H} {cs = cs} {rest = rest} {k = k} {n = n} {o = o} {e = e} {c = c} {i = i} kk kn w ko a ks b kp ke =
    let l : Reads (Sym LABEL) label_of text (o ∷ cs) (e ∷ rest) (record { conf = c; integ = i }) = label ko a ks b kp in
    record {
      tree = Both (Leaf k) (Both (Leaf n) (Both l.tree (Leaf e)));
      makes = m-sym (m-seq (m-tok (ap code_of kk)) (m-seq (m-tok (ap code_of kn)) (m-seq l.makes (m-tok (ap code_of ke)))));
      stands = ap {B = Host} (λ z. record { name = named z n.span; label = label_of text l.tree }) w ∙ ap {B = Host} (λ z. record { name = named H n.span; label = z }) l.stands;
    }

-- ---- the whole

pub source : {text M N : List ℕ} {p a c b s m o x : Token} {hs gs ss rest : List Token} {h g : Host} {main : List Statement} → IsKind p kind.Principals → IsKind a kind.Name → IsKind c kind.Comma → IsKind b kind.Name →
    IsKind s kind.Semicolon → word_at text a.span ≡ M → word_at text b.span ≡ N → Reads (Sym HOST) host_of text hs gs h → Reads (Sym HOST) host_of text gs (m ∷ o ∷ ss) g → IsKind m kind.Main → IsKind o kind.OpenBrace →
    Reads (Star (Sym STMT)) statements_of text ss (x ∷ rest) main → IsKind x kind.CloseBrace →
    Reads (Sym SOURCE) source_of text (p ∷ a ∷ c ∷ b ∷ s ∷ hs) rest (record { principals = named M a.span ∷ named N b.span ∷ []; hosts = h ∷ g ∷ []; functions = []; main = main })
unfolding source_of principals_of idents_of more_idents_of host_list_of hosts_of functions_of block_of
source {text = text} {M = M} {N = N} {p = p} {a = a} {c = c} {b = b} {s = s} {m = m} {o = o} {x = x} {h = h} {g = g} {main = main} kp ka kc kb ks wa wb first second km ko body kx = record {
  tree = Both (Both (Leaf p) (Both (Both (Leaf a) (Both (Both (Leaf c) (Leaf b)) Empty)) (Leaf s))) (Both (Both first.tree (Both second.tree Empty)) (Both Empty (Both (Leaf m) (Both (Leaf o) (Both body.tree (Leaf x))))));
  makes = m-sym (m-seq (m-seq (m-tok (ap code_of kp)) (m-seq (m-seq (m-tok (ap code_of ka)) (m-more (m-seq (m-tok (ap code_of kc)) (m-tok (ap code_of kb))) m-stop)) (m-tok (ap code_of ks))))
      (m-seq (m-seq first.makes (m-more second.makes m-stop)) (m-seq m-stop (m-seq (m-tok (ap code_of km)) (m-sym (m-seq (m-tok (ap code_of ko)) (m-seq body.makes (m-tok (ap code_of kx)))))))));
  stands =
      ap {B = Source} (λ z. record { principals = named z a.span ∷ named (word_at text b.span) b.span ∷ []; hosts = host_of text first.tree ∷ host_of text second.tree ∷ []; functions = []; main = statements_of text body.tree }) wa
      ∙ ap {B = Source} (λ z. record { principals = named M a.span ∷ named z b.span ∷ []; hosts = host_of text first.tree ∷ host_of text second.tree ∷ []; functions = []; main = statements_of text body.tree }) wb
      ∙ ap {B = Source} (λ z. record { principals = named M a.span ∷ named N b.span ∷ []; hosts = z ∷ host_of text second.tree ∷ []; functions = []; main = statements_of text body.tree }) first.stands
      ∙ ap {B = Source} (λ z. record { principals = named M a.span ∷ named N b.span ∷ []; hosts = h ∷ z ∷ []; functions = []; main = statements_of text body.tree }) second.stands
      ∙ ap {B = Source} (λ z. record { principals = named M a.span ∷ named N b.span ∷ []; hosts = h ∷ g ∷ []; functions = []; main = z }) body.stands;
}
