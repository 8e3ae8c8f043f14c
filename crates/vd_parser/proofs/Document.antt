-- The document's grammar and the parser's rules have the same texts.
use Rattle.std.proofs.Common.{ℕ, List}
use Rattle.vd_source_lexer.specs.Grammar.{Ebnf, Tok, Eps, Seq, Alt, Derives, d-eps, d-seq, d-left, d-right, Begins, b-none, b-first, b-next, b-left, b-right}
use Rattle.vd_source_lexer.proofs.Front.{derives_to, begins_to, under, b-under}
use Rattle.vd_parser.specs.Language.{Symbol, SOURCE, HOST, LABEL, FORM, CONJ, FATOM, FUN, PARAM, KIND, BLOCK, STMT, EXPR, BOR, BXOR, BAND, SHIFT, SUM, PROD, UNARY, ATOM, rule}
use Rattle.vd_parser.specs.Document.{document, SameLanguage}

module _ (S : Type 0) (by : S → Ebnf S) where
  -- a name alone, or with one of two after it
  atoms_joined : {c : ℕ} {x y r : Ebnf S} {ts m : List ℕ} → Derives S by (Alt (Tok c) (Alt (Seq (Tok c) x) (Alt (Seq (Tok c) y) r))) ts m → Derives S by (Alt (Seq (Tok c) (Alt (Alt x y) Eps)) r) ts m
  atoms_joined (d-left g) = d-left (d-seq g (d-right d-eps))
  atoms_joined (d-right (d-left (d-seq g h))) = d-left (d-seq g (d-left (d-left h)))
  atoms_joined (d-right (d-right (d-left (d-seq g h)))) = d-left (d-seq g (d-left (d-right h)))
  atoms_joined (d-right (d-right (d-right g))) = d-right g

  atoms_parted : {c : ℕ} {x y r : Ebnf S} {ts m : List ℕ} → Derives S by (Alt (Seq (Tok c) (Alt (Alt x y) Eps)) r) ts m → Derives S by (Alt (Tok c) (Alt (Seq (Tok c) x) (Alt (Seq (Tok c) y) r))) ts m
  atoms_parted (d-left (d-seq g (d-left (d-left h)))) = d-right (d-left (d-seq g h))
  atoms_parted (d-left (d-seq g (d-left (d-right h)))) = d-right (d-right (d-left (d-seq g h)))
  atoms_parted (d-left (d-seq g (d-right d-eps))) = d-left g
  atoms_parted (d-right g) = d-right (d-right (d-right g))

  b-atoms_joined : {c : ℕ} {x y r : Ebnf S} {ts : List ℕ} → Begins S by (Alt (Tok c) (Alt (Seq (Tok c) x) (Alt (Seq (Tok c) y) r))) ts → Begins S by (Alt (Seq (Tok c) (Alt (Alt x y) Eps)) r) ts
  b-atoms_joined b-none = b-none
  b-atoms_joined (b-left g) = b-left (b-first g)
  b-atoms_joined (b-right b-none) = b-none
  b-atoms_joined (b-right (b-left b-none)) = b-none
  b-atoms_joined (b-right (b-left (b-first g))) = b-left (b-first g)
  b-atoms_joined (b-right (b-left (b-next g h))) = b-left (b-next g (b-left (b-left h)))
  b-atoms_joined (b-right (b-right b-none)) = b-none
  b-atoms_joined (b-right (b-right (b-left b-none))) = b-none
  b-atoms_joined (b-right (b-right (b-left (b-first g)))) = b-left (b-first g)
  b-atoms_joined (b-right (b-right (b-left (b-next g h)))) = b-left (b-next g (b-left (b-right h)))
  b-atoms_joined (b-right (b-right (b-right g))) = b-right g

  b-atoms_parted : {c : ℕ} {x y r : Ebnf S} {ts : List ℕ} → Begins S by (Alt (Seq (Tok c) (Alt (Alt x y) Eps)) r) ts → Begins S by (Alt (Tok c) (Alt (Seq (Tok c) x) (Alt (Seq (Tok c) y) r))) ts
  b-atoms_parted b-none = b-none
  b-atoms_parted (b-left b-none) = b-none
  b-atoms_parted (b-left (b-first g)) = b-left g
  b-atoms_parted (b-left (b-next g b-none)) = b-right (b-left (b-next g b-none))
  b-atoms_parted (b-left (b-next g (b-left b-none))) = b-right (b-left (b-next g b-none))
  b-atoms_parted (b-left (b-next g (b-left (b-left h)))) = b-right (b-left (b-next g h))
  b-atoms_parted (b-left (b-next g (b-left (b-right h)))) = b-right (b-right (b-left (b-next g h)))
  b-atoms_parted (b-left (b-next g (b-right b-none))) = b-right (b-left (b-next g b-none))
  b-atoms_parted (b-right g) = b-right (b-right (b-right g))

  -- a name, then the rest with or without a part before it
  writes_joined : {c : ℕ} {x d r : Ebnf S} {ts m : List ℕ} → Derives S by (Alt (Seq (Tok c) d) (Alt (Seq (Tok c) (Seq x d)) r)) ts m → Derives S by (Alt (Seq (Tok c) (Seq (Alt x Eps) d)) r) ts m
  writes_joined (d-left (d-seq g h)) = d-left (d-seq g (d-seq (d-right d-eps) h))
  writes_joined (d-right (d-left (d-seq g (d-seq h i)))) = d-left (d-seq g (d-seq (d-left h) i))
  writes_joined (d-right (d-right g)) = d-right g

  writes_parted : {c : ℕ} {x d r : Ebnf S} {ts m : List ℕ} → Derives S by (Alt (Seq (Tok c) (Seq (Alt x Eps) d)) r) ts m → Derives S by (Alt (Seq (Tok c) d) (Alt (Seq (Tok c) (Seq x d)) r)) ts m
  writes_parted (d-left (d-seq g (d-seq (d-left h) i))) = d-right (d-left (d-seq g (d-seq h i)))
  writes_parted (d-left (d-seq g (d-seq (d-right d-eps) i))) = d-left (d-seq g i)
  writes_parted (d-right g) = d-right (d-right g)

  b-writes_joined : {c : ℕ} {x d r : Ebnf S} {ts : List ℕ} → Begins S by (Alt (Seq (Tok c) d) (Alt (Seq (Tok c) (Seq x d)) r)) ts → Begins S by (Alt (Seq (Tok c) (Seq (Alt x Eps) d)) r) ts
  b-writes_joined b-none = b-none
  b-writes_joined (b-left b-none) = b-none
  b-writes_joined (b-left (b-first g)) = b-left (b-first g)
  b-writes_joined (b-left (b-next g h)) = b-left (b-next g (b-next (d-right d-eps) h))
  b-writes_joined (b-right b-none) = b-none
  b-writes_joined (b-right (b-left b-none)) = b-none
  b-writes_joined (b-right (b-left (b-first g))) = b-left (b-first g)
  b-writes_joined (b-right (b-left (b-next g b-none))) = b-left (b-next g b-none)
  b-writes_joined (b-right (b-left (b-next g (b-first h)))) = b-left (b-next g (b-first (b-left h)))
  b-writes_joined (b-right (b-left (b-next g (b-next h i)))) = b-left (b-next g (b-next (d-left h) i))
  b-writes_joined (b-right (b-right g)) = b-right g

  b-writes_parted : {c : ℕ} {x d r : Ebnf S} {ts : List ℕ} → Begins S by (Alt (Seq (Tok c) (Seq (Alt x Eps) d)) r) ts → Begins S by (Alt (Seq (Tok c) d) (Alt (Seq (Tok c) (Seq x d)) r)) ts
  b-writes_parted b-none = b-none
  b-writes_parted (b-left b-none) = b-none
  b-writes_parted (b-left (b-first g)) = b-left (b-first g)
  b-writes_parted (b-left (b-next g b-none)) = b-left (b-next g b-none)
  b-writes_parted (b-left (b-next g (b-first b-none))) = b-left (b-next g b-none)
  b-writes_parted (b-left (b-next g (b-first (b-left h)))) = b-right (b-left (b-next g (b-first h)))
  b-writes_parted (b-left (b-next g (b-first (b-right b-none)))) = b-left (b-next g b-none)
  b-writes_parted (b-left (b-next g (b-next (d-left h) i))) = b-right (b-left (b-next g (b-next h i)))
  b-writes_parted (b-left (b-next g (b-next (d-right d-eps) i))) = b-left (b-next g i)
  b-writes_parted (b-right g) = b-right (b-right g)

to_rule : (s : Symbol) (ts m : List ℕ) → Derives Symbol rule (document s) ts m → Derives Symbol rule (rule s) ts m
to_rule SOURCE ts m g = g
to_rule HOST ts m g = g
to_rule LABEL ts m g = g
to_rule FORM ts m g = g
to_rule CONJ ts m g = g
to_rule FATOM ts m g = g
to_rule FUN ts m g = g
to_rule PARAM ts m g = g
to_rule KIND ts m g = g
to_rule BLOCK ts m g = g
to_rule STMT ts m g = under Symbol rule (under Symbol rule (under Symbol rule (writes_joined Symbol rule))) g
to_rule EXPR ts m g = g
to_rule BOR ts m g = g
to_rule BXOR ts m g = g
to_rule BAND ts m g = g
to_rule SHIFT ts m g = g
to_rule SUM ts m g = g
to_rule PROD ts m g = g
to_rule UNARY ts m g = g
to_rule ATOM ts m g = under Symbol rule (under Symbol rule (under Symbol rule (atoms_joined Symbol rule))) g

from_rule : (s : Symbol) (ts m : List ℕ) → Derives Symbol document (rule s) ts m → Derives Symbol document (document s) ts m
from_rule SOURCE ts m g = g
from_rule HOST ts m g = g
from_rule LABEL ts m g = g
from_rule FORM ts m g = g
from_rule CONJ ts m g = g
from_rule FATOM ts m g = g
from_rule FUN ts m g = g
from_rule PARAM ts m g = g
from_rule KIND ts m g = g
from_rule BLOCK ts m g = g
from_rule STMT ts m g = under Symbol document (under Symbol document (under Symbol document (writes_parted Symbol document))) g
from_rule EXPR ts m g = g
from_rule BOR ts m g = g
from_rule BXOR ts m g = g
from_rule BAND ts m g = g
from_rule SHIFT ts m g = g
from_rule SUM ts m g = g
from_rule PROD ts m g = g
from_rule UNARY ts m g = g
from_rule ATOM ts m g = under Symbol document (under Symbol document (under Symbol document (atoms_parted Symbol document))) g

b-to_rule : (s : Symbol) (ts : List ℕ) → Begins Symbol rule (document s) ts → Begins Symbol rule (rule s) ts
b-to_rule SOURCE ts g = g
b-to_rule HOST ts g = g
b-to_rule LABEL ts g = g
b-to_rule FORM ts g = g
b-to_rule CONJ ts g = g
b-to_rule FATOM ts g = g
b-to_rule FUN ts g = g
b-to_rule PARAM ts g = g
b-to_rule KIND ts g = g
b-to_rule BLOCK ts g = g
b-to_rule STMT ts g = b-under Symbol rule (b-under Symbol rule (b-under Symbol rule (b-writes_joined Symbol rule))) g
b-to_rule EXPR ts g = g
b-to_rule BOR ts g = g
b-to_rule BXOR ts g = g
b-to_rule BAND ts g = g
b-to_rule SHIFT ts g = g
b-to_rule SUM ts g = g
b-to_rule PROD ts g = g
b-to_rule UNARY ts g = g
b-to_rule ATOM ts g = b-under Symbol rule (b-under Symbol rule (b-under Symbol rule (b-atoms_joined Symbol rule))) g

b-from_rule : (s : Symbol) (ts : List ℕ) → Begins Symbol document (rule s) ts → Begins Symbol document (document s) ts
b-from_rule SOURCE ts g = g
b-from_rule HOST ts g = g
b-from_rule LABEL ts g = g
b-from_rule FORM ts g = g
b-from_rule CONJ ts g = g
b-from_rule FATOM ts g = g
b-from_rule FUN ts g = g
b-from_rule PARAM ts g = g
b-from_rule KIND ts g = g
b-from_rule BLOCK ts g = g
b-from_rule STMT ts g = b-under Symbol document (b-under Symbol document (b-under Symbol document (b-writes_parted Symbol document))) g
b-from_rule EXPR ts g = g
b-from_rule BOR ts g = g
b-from_rule BXOR ts g = g
b-from_rule BAND ts g = g
b-from_rule SHIFT ts g = g
b-from_rule SUM ts g = g
b-from_rule PROD ts g = g
b-from_rule UNARY ts g = g
b-from_rule ATOM ts g = b-under Symbol document (b-under Symbol document (b-under Symbol document (b-atoms_parted Symbol document))) g

pub same_language : SameLanguage
same_language = record {
  texts = λ e ts rest. (derives_to Symbol document rule to_rule, derives_to Symbol rule document from_rule);
  beginnings = λ e ts. (begins_to Symbol document rule to_rule b-to_rule, begins_to Symbol rule document from_rule b-from_rule);
}
