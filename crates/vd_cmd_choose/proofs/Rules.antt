-- The lines of a generated source meet the rules on names and kinds, and how large they are.
use Rattle.std.proofs.Common.{◌≡◌, ℕ, ◌+◌, ◌≤◌, false, List, [], ◌∷◌, ◌++◌, map, Some, None, Ok, codes, refl, ap, ◌∙◌, arith, rules, nat_lt}
use Rattle.std.proofs.lemmas.Bool.{le-ltb}
use Rattle.vd_base.specs.declared.operations.Kind.{Kind}
use Rattle.vd_base.specs.declared.operations.Kind.TheVariants.{Word, Bool as Truth}
use Rattle.vd_base.specs.declared.ids.Span.{Span}
use Rattle.vd_base.specs.Names.{Named, at_name}
use Rattle.vd_core.specs.declared.source.Ident.{Ident}
use Rattle.vd_core.specs.declared.source.WrittenForm.{WrittenForm}
use Rattle.vd_core.specs.declared.source.WrittenForm.TheVariants as form
use Rattle.vd_core.specs.declared.source.WrittenForm.TheOpen.{WrittenForm-F}
use Rattle.vd_core.specs.declared.source.WrittenForm.TheFolds.{the_lemmas as form_lemmas}
use Rattle.vd_core.specs.declared.source.WrittenLabel.{WrittenLabel}
use Rattle.vd_core.specs.declared.source.Infix.{Infix}
use Rattle.vd_core.specs.declared.source.Infix.TheVariants as op
use Rattle.vd_core.specs.declared.source.Expr.{Expr}
use Rattle.vd_core.specs.declared.source.Expr.TheVariants as expr
use Rattle.vd_core.specs.declared.source.Expr.TheOpen.{Expr-F, Segment-F}
use Rattle.vd_core.specs.declared.source.Expr.TheFolds.{the_lemmas as expr_lemmas}
use Rattle.vd_core.specs.declared.source.Segment.{Segment}
use Rattle.vd_core.specs.declared.source.Segment.TheVariants as segment
use Rattle.vd_core.specs.declared.source.Statement.{Statement}
use Rattle.vd_core.specs.declared.source.Statement.TheVariants as stmt
use Rattle.vd_core.specs.declared.source.Statement.TheOpen.{Statement-F}
use Rattle.vd_core.specs.declared.source.Statement.TheFolds.{the_lemmas as statement_lemmas}
use Rattle.vd_resolve.specs.declared.symbol.Symbol.{Symbol}
use Rattle.vd_resolve.specs.declared.symbol.Symbol.TheVariants.{Constant}
use Rattle.vd_resolve.specs.declared.size.Size.{Size}
use Rattle.vd_resolve.specs.Rules.{Scope, form_check, form_known, label_check, infix_kind, expr_typing, segment_typing, typing, typing_of_segment, statement_check, checking, in_sequence}
use Rattle.vd_resolve.specs.Sizes.{also, nothing, Variables, is_variable, Sizing, SegmentSizing, StatementSizing, expr_sizing, segment_sizing, sizing, sizing_of_segment, is_scale, statement_sizing, statement_size, statements_after}
use Rattle.vd_resolve.specs.Limits.{within, resolution}
use Rattle.vd_cmd_choose.proofs.Trees.{named, two}

-- ---- equations of the folds

typing_input : (h : Ident) → typing (expr.Input h) ≡ expr_typing (Expr-F.Input h)
typing_input h = search (rules, expr_lemmas)

typing_value : (x : Ident) → typing (expr.Value x) ≡ expr_typing (Expr-F.Value x)
typing_value x = search (rules, expr_lemmas)

typing_number : (n : ℕ) → typing (expr.Number n) ≡ expr_typing (Expr-F.Number n)
typing_number n = search (rules, expr_lemmas)

typing_segment : (o : Infix) (at : Span) (y : Expr) → typing_of_segment (segment.Infix o at y) ≡ segment_typing (Segment-F.Infix o at (typing y))
typing_segment o at y = search (rules, expr_lemmas)

typing_chain : (x : Expr) (l : Segment) → typing (expr.Chain x (l ∷ [])) ≡ expr_typing (Expr-F.Chain (typing x) (typing_of_segment l ∷ []))
typing_chain x l = search (rules, expr_lemmas)

typing_declassify : (x : Expr) (f : WrittenForm) → typing (expr.Declassify x f) ≡ expr_typing (Expr-F.Declassify (typing x) f)
typing_declassify x f = search (rules, expr_lemmas)

checking_let : (at : Span) (x : Ident) (e : Expr) → checking (stmt.Let at x None e) ≡ statement_check (Statement-F.Let at x None e)
checking_let at x e = search (rules, statement_lemmas)

checking_output : (at : Span) (e : Expr) (h : Ident) → checking (stmt.Output at e h) ≡ statement_check (Statement-F.Output at e h)
checking_output at e h = search (rules, statement_lemmas)

form_name : (x : Ident) → form_check (form.Name x) ≡ form_known (WrittenForm-F.Name x)
form_name x = search (rules, form_lemmas)

form_both : (f g : WrittenForm) → form_check (form.Both (f ∷ g ∷ [])) ≡ form_known (WrittenForm-F.Both (form_check f ∷ form_check g ∷ []))
form_both f g = search (rules, form_lemmas)

form_either : (f g : WrittenForm) → form_check (form.Either (f ∷ g ∷ [])) ≡ form_known (WrittenForm-F.Either (form_check f ∷ form_check g ∷ []))
form_either f g = search (rules, form_lemmas)

sizing_input : (h : Ident) → sizing (expr.Input h) ≡ expr_sizing (Expr-F.Input h)
sizing_input h = search (rules, expr_lemmas)

sizing_value : (x : Ident) → sizing (expr.Value x) ≡ expr_sizing (Expr-F.Value x)
sizing_value x = search (rules, expr_lemmas)

sizing_number : (n : ℕ) → sizing (expr.Number n) ≡ expr_sizing (Expr-F.Number n)
sizing_number n = search (rules, expr_lemmas)

sizing_segment : (o : Infix) (at : Span) (y : Expr) → sizing_of_segment (segment.Infix o at y) ≡ segment_sizing (Segment-F.Infix o at (sizing y))
sizing_segment o at y = search (rules, expr_lemmas)

sizing_chain : (x : Expr) (l : Segment) → sizing (expr.Chain x (l ∷ [])) ≡ expr_sizing (Expr-F.Chain (sizing x) (sizing_of_segment l ∷ []))
sizing_chain x l = search (rules, expr_lemmas)

sizing_declassify : (x : Expr) (f : WrittenForm) → sizing (expr.Declassify x f) ≡ expr_sizing (Expr-F.Declassify (sizing x) f)
sizing_declassify x f = search (rules, expr_lemmas)

size_let : (at : Span) (x : Ident) (e : Expr) → statement_size (stmt.Let at x None e) ≡ statement_sizing (Statement-F.Let at x None e)
size_let at x e = search (rules, statement_lemmas)

size_output : (at : Span) (e : Expr) (h : Ident) → statement_size (stmt.Output at e h) ≡ statement_sizing (Statement-F.Output at e h)
size_output at e h = search (rules, statement_lemmas)

-- ---- kinds

-- what is declared outside of the block
abbrev pub scope : Scope
scope = record {
  principals = (codes "A", tt) ∷ (codes "B", tt) ∷ [];
  hosts = (codes "alice", tt) ∷ (codes "bob", tt) ∷ [];
  functions = [];
  later = [];
}

abbrev pub Types : Expr → Named Symbol → Kind → Type 0
Types e env k = typing e scope env ≡ Ok k

pub types_input : (H : List ℕ) (s : Span) (env : Named Symbol) → at_name scope.hosts H ≡ Some tt → Types (expr.Input (named H s)) env Word
types_input H s env known = ap (λ t. t scope env) (typing_input (named H s)) ∙ rw known refl

types_value : (N : List ℕ) (s : Span) (env : Named Symbol) (k : Kind) → at_name env N ≡ Some (Constant k) → Types (expr.Value (named N s)) env k
types_value N s env k found = ap (λ t. t scope env) (typing_value (named N s)) ∙ rw found refl

types_number : (n : ℕ) (env : Named Symbol) → Types (expr.Number n) env Word
types_number n env = ap (λ t. t scope env) (typing_number n)

segment_types : (o : Infix) (at : Span) (y : Expr) (env : Named Symbol) (left right k : Kind) → Types y env right → infix_kind o left right ≡ Some k → typing_of_segment (segment.Infix o at y) scope env left ≡ Ok k
segment_types o at y env left right k ty is = ap (λ t. t scope env left) (typing_segment o at y) ∙ rw (ty, is) refl

types_two : (o : Infix) (at : Span) (x y : Expr) (env : Named Symbol) (left right k : Kind) → Types x env left → Types y env right → infix_kind o left right ≡ Some k → Types (two o at x y) env k
types_two o at x y env left right k tx ty is =
    ap (λ t. t scope env) (typing_chain x (segment.Infix o at y)) ∙ rw (tx, segment_types o at y env left right k ty is) refl

pub types_names : (o : Infix) (at : Span) (M N : List ℕ) (s t : Span) (env : Named Symbol) → at_name env M ≡ Some (Constant Word) → at_name env N ≡ Some (Constant Word) → infix_kind o Word Word ≡ Some Word →
    Types (two o at (expr.Value (named M s)) (expr.Value (named N t))) env Word
types_names o at M N s t env m n is =
    types_two o at (expr.Value (named M s)) (expr.Value (named N t)) env Word Word Word (types_value M s env Word m) (types_value N t env Word n) is

either_known : (a b : Span) → form_check (form.Either (form.Name (named (codes "A") a) ∷ form.Name (named (codes "B") b) ∷ [])) scope.principals ≡ Ok tt
either_known a b =
    let first = form_name (named (codes "A") a) in
    let second = form_name (named (codes "B") b) in
    ap (λ t. t scope.principals) (form_either (form.Name (named (codes "A") a)) (form.Name (named (codes "B") b))) ∙ rw (first, second) refl

pub types_answer : (at a b : Span) (N : List ℕ) (s : Span) (n : ℕ) (env : Named Symbol) → at_name env N ≡ Some (Constant Word) →
    Types (expr.Declassify (two op.Less at (expr.Value (named N s)) (expr.Number n)) (form.Either (form.Name (named (codes "A") a) ∷ form.Name (named (codes "B") b) ∷ []))) env Truth
types_answer at a b N s n env found =
    let compared = types_two op.Less at (expr.Value (named N s)) (expr.Number n) env Word Word Truth (types_value N s env Word found) (types_number n env) refl in
    ap (λ t. t scope env) (typing_declassify (two op.Less at (expr.Value (named N s)) (expr.Number n)) (form.Either (form.Name (named (codes "A") a) ∷ form.Name (named (codes "B") b) ∷ [])))
    ∙ rw (compared, either_known a b) refl

-- ---- statements

pub let_checks : (at s : Span) (N : List ℕ) (e : Expr) (env : Named Symbol) (k : Kind) → at_name env N ≡ None → Types e env k → checking (stmt.Let at (named N s) None e) scope env ≡ Ok (env ++ (N, Constant k) ∷ [])
let_checks at s N e env k fresh t = ap (λ c. c scope env) (checking_let at (named N s) e) ∙ rw (t, fresh) refl

pub output_checks : (at s t : Span) (H N : List ℕ) (env : Named Symbol) (k : Kind) → at_name scope.hosts H ≡ Some tt → at_name env N ≡ Some (Constant k) →
    checking (stmt.Output at (expr.Value (named N s)) (named H t)) scope env ≡ Ok env
output_checks at s t H N env k known found =
    ap (λ c. c scope env) (checking_output at (expr.Value (named N s)) (named H t)) ∙ rw (types_value N s env k found, known) refl

-- ---- sizes

-- so many statements
abbrev pub count : ℕ → Size
count n = record { statements = n; weights = n; nesting = 0; cells = 0 }

pub also_count : (a b : ℕ) → also (count a) (count b) ≡ count (a + b)
unfolding also
also_count a b = refl

-- none of the values in sight is a variable
abbrev pub Plain : Variables → Type 0
Plain vars = (x : List ℕ) → is_variable vars x ≡ false

-- an expression of so many statements, which gives a binding of its own
record IsMade (e : Expr) (vars : Variables) (n : ℕ) : Type 0 where
  size : (sizing e).size [] vars ≡ count n
  plain : (sizing e).plain vars ≡ false

value_size : (N : List ℕ) (s : Span) (vars : Variables) → Plain vars → (sizing (expr.Value (named N s))).size [] vars ≡ count 0
value_size N s vars plain = ap (λ (z : Sizing). z.size [] vars) (sizing_value (named N s)) ∙ rw (plain N) refl

value_bare : (N : List ℕ) (s : Span) → (sizing (expr.Value (named N s))).bare ≡ false
value_bare N s = ap (λ (z : Sizing). z.bare) (sizing_value (named N s))

made_input : (H : List ℕ) (s : Span) (vars : Variables) → IsMade (expr.Input (named H s)) vars 1
made_input H s vars = record {
  size = ap (λ (z : Sizing). z.size [] vars) (sizing_input (named H s));
  plain = ap (λ (z : Sizing). z.plain vars) (sizing_input (named H s));
}

segment_size : (o : Infix) (at : Span) (y : Expr) (vars : Variables) (n : ℕ) → (sizing y).size [] vars ≡ count n → is_scale o (sizing y).bare ≡ false → sizing_of_segment (segment.Infix o at y) [] vars ≡ count (n + 1)
segment_size o at y vars n sy scale = ap (λ (z : SegmentSizing). z [] vars) (sizing_segment o at y) ∙ rw (scale, sy) (also_count n 1)

made_two : (o : Infix) (at : Span) (x y : Expr) (vars : Variables) (m n : ℕ) → (sizing x).size [] vars ≡ count m → (sizing y).size [] vars ≡ count n → is_scale o (sizing y).bare ≡ false → IsMade (two o at x y) vars (m + (n + 1))
made_two o at x y vars m n sx sy scale = record {
  size = ap (λ (z : Sizing). z.size [] vars) (sizing_chain x (segment.Infix o at y)) ∙ rw (sx, segment_size o at y vars n sy scale) (ap (also (count m)) (also_count 0 (n + 1)) ∙ also_zero m (n + 1));
  plain = ap (λ (z : Sizing). z.plain vars) (sizing_chain x (segment.Infix o at y));
}
  where
    also_zero : (m k : ℕ) → also (count m) (count (0 + k)) ≡ count (m + k)
    also_zero m k = let same : 0 + k ≡ k = omega arith in also_count m (0 + k) ∙ ap (λ i. count (m + i)) same

abbrev pub Sizes : Statement → List ℕ → ℕ → Type 0
Sizes s N n = (vars : Variables) → Plain vars → statement_size s [] vars ≡ (count n, vars ++ (N, false) ∷ [])

let_size : (at s : Span) (N : List ℕ) (e : Expr) (vars : Variables) (n : ℕ) → IsMade e vars n → statement_size (stmt.Let at (named N s) None e) [] vars ≡ (count n, vars ++ (N, false) ∷ [])
let_size at s N e vars n made = ap (λ (z : StatementSizing). z [] vars) (size_let at (named N s) e) ∙ rw (made.plain, made.size) refl

pub sizes_input : (at s t : Span) (N H : List ℕ) → Sizes (stmt.Let at (named N s) None (expr.Input (named H t))) N 1
sizes_input at s t N H vars plain = let_size at s N (expr.Input (named H t)) vars 1 (made_input H t vars)

pub sizes_names : (o : Infix) → is_scale o false ≡ false → (at r s t u : Span) (N L M : List ℕ) → Sizes (stmt.Let at (named N s) None (two o r (expr.Value (named L t)) (expr.Value (named M u)))) N 1
sizes_names o scale at r s t u N L M vars plain =
    let_size at s N (two o r (expr.Value (named L t)) (expr.Value (named M u))) vars 1
    (made_two o r (expr.Value (named L t)) (expr.Value (named M u)) vars 0 0 (value_size L t vars plain) (value_size M u vars plain) (ap (is_scale o) (value_bare M u) ∙ scale))

number_size : (n : ℕ) (vars : Variables) → (sizing (expr.Number n)).size [] vars ≡ count 1
number_size n vars = ap (λ (z : Sizing). z.size [] vars) (sizing_number n)

made_declassify : (e : Expr) (f : WrittenForm) (vars : Variables) (n : ℕ) → IsMade e vars n → IsMade (expr.Declassify e f) vars (n + 1)
made_declassify e f vars n made = record {
  size = ap (λ (z : Sizing). z.size [] vars) (sizing_declassify e f) ∙ rw made.size (also_count n 1);
  plain = ap (λ (z : Sizing). z.plain vars) (sizing_declassify e f);
}

pub sizes_answer : (at r s t : Span) (N L : List ℕ) (n : ℕ) (f : WrittenForm) → Sizes (stmt.Let at (named N s) None (expr.Declassify (two op.Less r (expr.Value (named L t)) (expr.Number n)) f)) N 3
sizes_answer at r s t N L n f vars plain =
    let_size at s N (expr.Declassify (two op.Less r (expr.Value (named L t)) (expr.Number n)) f) vars 3
    (made_declassify (two op.Less r (expr.Value (named L t)) (expr.Number n)) f vars 2
    (made_two op.Less r (expr.Value (named L t)) (expr.Number n) vars 0 1 (value_size L t vars plain) (number_size n vars) refl))

pub sizes_output : (at s t : Span) (N H : List ℕ) (vars : Variables) → Plain vars → statement_size (stmt.Output at (expr.Value (named N s)) (named H t)) [] vars ≡ (count 1, vars)
sizes_output at s t N H vars plain = ap (λ (z : StatementSizing). z [] vars) (size_output at (expr.Value (named N s)) (named H t)) ∙ rw (value_size N s vars plain) (ap (λ (z : Size). (z, vars)) (also_count 0 1))

-- ---- a whole source

-- the host's label, which names a principal and both
abbrev pub the_label : (p : List ℕ) → Span → Span → Span → WrittenLabel
the_label p s t u = record { conf = form.Name (named p s); integ = form.Both (form.Name (named (codes "A") t) ∷ form.Name (named (codes "B") u) ∷ []) }

label_known : (p : List ℕ) (s t u : Span) → at_name scope.principals p ≡ Some tt → label_check (the_label p s t u) scope.principals ≡ Ok tt
label_known p s t u known =
    let own = form_name (named p s) in
    let first = form_name (named (codes "A") t) in
    let second = form_name (named (codes "B") u) in
    let both = form_both (form.Name (named (codes "A") t)) (form.Name (named (codes "B") u)) in
    rw (own, known, both, first, second) refl

below_limit : (limit n : ℕ) → n ≤ limit → nat_lt limit n ≡ false
below_limit limit n h = le-ltb limit n h

pub source_resolves : (a b c d s t u s2 t2 u2 : Span) (main : List Statement) (last : Named Symbol) (n : ℕ) →
    in_sequence (map checking main) scope [] ≡ Ok last → (statements_after nothing (map statement_size main) [] []).0 ≡ count n → n ≤ 512 →
    resolution (record {
      principals = named (codes "A") a ∷ named (codes "B") b ∷ [];
      hosts = record { name = named (codes "alice") c; label = the_label (codes "A") s t u } ∷ record { name = named (codes "bob") d; label = the_label (codes "B") s2 t2 u2 } ∷ [];
      functions = [];
      main = main;
    }) ≡ Ok tt
unfolding within
source_resolves a b c d s t u s2 t2 u2 main last n checks size few =
    let first = label_known (codes "A") s t u refl in
    let second = label_known (codes "B") s2 t2 u2 refl in
    let statements = below_limit 512 n few in
    let weights = below_limit 65536 n (omega (arith, few)) in
    rw (first, second, checks, size, statements, weights) refl
