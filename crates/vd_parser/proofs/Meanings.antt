-- What the trees of the grammar stand for, a rule at a time.
use Rattle.std.proofs.Common.{◌≡◌, ℕ, true, false, List, [], ◌∷◌, ◌++◌, Option, Some, None, refl, sym, ap, ◌∙◌}
use Rattle.vd_source_lexer.specs.Trees.{Tree, Both, First, Second, Empty}
use Rattle.vd_base.specs.declared.ids.Span.{Span}
use Rattle.vd_base.specs.declared.operations.Kind.{Kind}
use Rattle.vd_core.specs.declared.source.Ident.{Ident}
use Rattle.vd_core.specs.declared.source.WrittenForm.{WrittenForm}
use Rattle.vd_core.specs.declared.source.WrittenForm.TheVariants as form
use Rattle.vd_core.specs.declared.source.WrittenLabel.{WrittenLabel}
use Rattle.vd_core.specs.declared.source.Host.{Host}
use Rattle.vd_core.specs.declared.source.Parameter.{Parameter}
use Rattle.vd_core.specs.declared.source.Sign.{Sign}
use Rattle.vd_core.specs.declared.source.Infix.{Infix}
use Rattle.vd_core.specs.declared.source.Direction.{Direction}
use Rattle.vd_core.specs.declared.source.Expr.{Expr}
use Rattle.vd_core.specs.declared.source.Expr.TheVariants as expr
use Rattle.vd_core.specs.declared.source.Segment.{Segment}
use Rattle.vd_core.specs.declared.source.Segment.TheVariants as segment
use Rattle.vd_core.specs.declared.source.Statement.{Statement}
use Rattle.vd_core.specs.declared.source.Statement.TheVariants as stmt
use Rattle.vd_core.specs.declared.source.Function.{Function}
use Rattle.vd_source_lexer.specs.declared.token.Token.{Token}
use Rattle.vd_parser.specs.Syntax.{bracketed, arguments_of, array_of, assign_of, assigned, at_return_of, atom_of, block_of, body_of, between_of, bor_of, both_of, chained, conj_of, conjs_of, direction_of, either_of, else_of, expr_of, exprs_of, fatom_of, fatoms_of, first_of, for_of, form_of, function_of, functions_of, gives_of, host_list_of, host_name_of, host_of, hosts_of, ident_of, idents_of, if_of, index_option_of, infix_of, kind_of, label_of, label_option_of, last_line_of, length_of, let_of, more_exprs_of, more_idents_of, more_parameters_of, named_of, new_form_of, value_of, other_atom_of, output_of, parameter_list_of, parameter_of, parameters_of, principals_of, relabelled_of, return_of, returned_of, second_of, shift_segments_of, shift_of, signed, signs_of, source_of, span_of, statement_of, statements_of, sum_of, third_of, three_of, token_of, two_of, typed_kind_of, typed_name_of, typed_of, unary_of, var_of, whole_body_of, word_atom_of}

pub idents_first : (text : List ℕ) (x : Tree Token) (v : Ident) → v ≡ ident_of text x → (y : Tree Token) → idents_of text (Both x y) ≡ (v ∷ []) ++ more_idents_of text y
unfolding idents_of
idents_first text x v e0 y = sym (ap (λ it. (it ∷ []) ++ more_idents_of text y) e0)

pub idents_more : (text : List ℕ) (x : Tree Token) (v : Ident) → v ≡ ident_of text x → (c y : Tree Token) → more_idents_of text (Both (Both c x) y) ≡ v ∷ more_idents_of text y
unfolding more_idents_of
idents_more text x v e0 c y = sym (ap (λ it. it ∷ more_idents_of text y) e0)

pub idents_none : (text : List ℕ) → more_idents_of text Empty ≡ []
unfolding more_idents_of
idents_none text = refl

pub conjs_more : (text : List ℕ) (x : Tree Token) (v : WrittenForm) → v ≡ conj_of text x → (c y : Tree Token) → conjs_of text (Both (Both c x) y) ≡ v ∷ conjs_of text y
unfolding conjs_of
conjs_more text x v e0 c y = sym (ap (λ it. it ∷ conjs_of text y) e0)

pub conjs_none : (text : List ℕ) → conjs_of text Empty ≡ []
unfolding conjs_of
conjs_none text = refl

pub fatoms_more : (text : List ℕ) (x : Tree Token) (v : WrittenForm) → v ≡ fatom_of text x → (c y : Tree Token) → fatoms_of text (Both (Both c x) y) ≡ v ∷ fatoms_of text y
unfolding fatoms_of
fatoms_more text x v e0 c y = sym (ap (λ it. it ∷ fatoms_of text y) e0)

pub fatoms_none : (text : List ℕ) → fatoms_of text Empty ≡ []
unfolding fatoms_of
fatoms_none text = refl

pub form_is : (text : List ℕ) (c r : Tree Token) (f : WrittenForm) (fs : List WrittenForm) → f ≡ conj_of text c → fs ≡ conjs_of text r → either_of f fs ≡ form_of text (Both c r)
unfolding form_of
form_is text c r f fs e0 e1 = ap (λ it. either_of it fs) e0 ∙ ap (λ it. either_of (conj_of text c) it) e1

pub conj_is : (text : List ℕ) (c r : Tree Token) (f : WrittenForm) (fs : List WrittenForm) → f ≡ fatom_of text c → fs ≡ fatoms_of text r → both_of f fs ≡ conj_of text (Both c r)
unfolding conj_of
conj_is text c r f fs e0 e1 = ap (λ it. both_of it fs) e0 ∙ ap (λ it. both_of (fatom_of text c) it) e1

pub fatom_any : (text : List ℕ) (x : Tree Token) → form.Any ≡ fatom_of text (First x)
unfolding fatom_of
fatom_any text x = refl

pub fatom_none : (text : List ℕ) (x : Tree Token) → form.Never ≡ fatom_of text (Second (First x))
unfolding fatom_of
fatom_none text x = refl

pub fatom_name : (text : List ℕ) (x : Tree Token) (n : Ident) → n ≡ ident_of text x → form.Name n ≡ fatom_of text (Second (Second (First x)))
unfolding fatom_of
fatom_name text x n e0 = ap (λ it. form.Name it) e0

pub fatom_form : (text : List ℕ) (o x p : Tree Token) (f : WrittenForm) → f ≡ form_of text x → f ≡ fatom_of text (Second (Second (Second (Both o (Both x p)))))
unfolding fatom_of
fatom_form text o x p f e0 = ap (λ it. it) e0

pub label_is : (text : List ℕ) (o c s i p : Tree Token) (f : WrittenForm) (g : WrittenForm) → f ≡ form_of text c → g ≡ form_of text i → record { conf = f; integ = g } ≡ label_of text (Both o (Both c (Both s (Both i p))))
unfolding label_of
label_is text o c s i p f g e0 e1 = ap (λ it. record { conf = it; integ = g }) e0 ∙ ap (λ it. record { conf = (form_of text c); integ = it }) e1

pub label_some : (text : List ℕ) (x : Tree Token) (l : WrittenLabel) → l ≡ label_of text x → Some l ≡ label_option_of text (First x)
unfolding label_option_of
label_some text x l e0 = ap (λ it. Some it) e0

pub label_none : (text : List ℕ) (x : Tree Token) → None ≡ label_option_of text (Second x)
unfolding label_option_of
label_none text x = refl

pub expr_compared : (text : List ℕ) (a o b : Tree Token) (l : Expr) (op : Infix) (s : Span) (r : Expr) → l ≡ bor_of text a → op ≡ infix_of (token_of o).kind → s ≡ span_of o → r ≡ bor_of text b → expr.Chain l (segment.Infix op s r ∷ []) ≡ expr_of text (Both a (First (Both o b)))
unfolding expr_of
expr_compared text a o b l op s r e0 e1 e2 e3 = ap (λ it. expr.Chain it (segment.Infix op s r ∷ [])) e0 ∙ ap (λ it. expr.Chain (bor_of text a) (segment.Infix it s r ∷ [])) e1 ∙ ap (λ it. expr.Chain (bor_of text a) (segment.Infix (infix_of (token_of o).kind) it r ∷ [])) e2 ∙ ap (λ it. expr.Chain (bor_of text a) (segment.Infix (infix_of (token_of o).kind) (span_of o) it ∷ [])) e3

pub expr_alone : (text : List ℕ) (a x : Tree Token) (l : Expr) → l ≡ bor_of text a → l ≡ expr_of text (Both a (Second x))
unfolding expr_of
expr_alone text a x l e0 = ap (λ it. it) e0

pub shift_is : (text : List ℕ) (x r : Tree Token) (e : Expr) (ls : List Segment) → e ≡ sum_of text x → ls ≡ shift_segments_of text r → chained e ls ≡ shift_of text (Both x r)
unfolding shift_of
shift_is text x r e ls e0 e1 = ap (λ it. chained it ls) e0 ∙ ap (λ it. chained (sum_of text x) it) e1

pub shifts_more : (text : List ℕ) (o n : Tree Token) (d : Direction) (s : Span) (m : ℕ) → d ≡ direction_of (token_of o).kind → s ≡ span_of o → m ≡ value_of n → (y : Tree Token) → shift_segments_of text (Both (Both o n) y) ≡ segment.Shift d s m ∷ shift_segments_of text y
unfolding shift_segments_of
shifts_more text o n d s m e0 e1 e2 y = sym (ap (λ it. segment.Shift it s m ∷ shift_segments_of text y) e0 ∙ ap (λ it. segment.Shift (direction_of (token_of o).kind) it m ∷ shift_segments_of text y) e1 ∙ ap (λ it. segment.Shift (direction_of (token_of o).kind) (span_of o) it ∷ shift_segments_of text y) e2)

pub shifts_none : (text : List ℕ) → shift_segments_of text Empty ≡ []
unfolding shift_segments_of
shifts_none text = refl

pub unary_is : (text : List ℕ) (p a : Tree Token) (e : Expr) (ss : List Sign) → e ≡ atom_of text a → ss ≡ signs_of p → signed e ss ≡ unary_of text (Both p a)
unfolding unary_of
unary_is text p a e ss e0 e1 = ap (λ it. signed it ss) e0 ∙ ap (λ it. signed (atom_of text a) it) e1

pub atom_number : (text : List ℕ) (x : Tree Token) (m : ℕ) → m ≡ value_of x → expr.Number m ≡ atom_of text (First x)
unfolding atom_of
atom_number text x m e0 = ap (λ it. expr.Number it) e0

pub atom_true : (text : List ℕ) (x : Tree Token) → expr.Truth true ≡ atom_of text (Second (First x))
unfolding atom_of
atom_true text x = refl

pub atom_false : (text : List ℕ) (x : Tree Token) → expr.Truth false ≡ atom_of text (Second (Second (First x)))
unfolding atom_of
atom_false text x = refl

pub atom_word : (text : List ℕ) (x : Tree Token) → word_atom_of text x ≡ atom_of text (Second (Second (Second x)))
unfolding atom_of
atom_word text x = refl

pub word_named : (text : List ℕ) (x : Tree Token) → named_of text x ≡ word_atom_of text (First x)
unfolding word_atom_of
word_named text x = refl

pub word_min : (text : List ℕ) (m x : Tree Token) (s : Span) (a : Expr) (b : Expr) → s ≡ span_of m → a ≡ first_of text x → b ≡ second_of text x → expr.Min s a b ≡ word_atom_of text (Second (First (Both m x)))
unfolding word_atom_of
word_min text m x s a b e0 e1 e2 = ap (λ it. expr.Min it a b) e0 ∙ ap (λ it. expr.Min (span_of m) it b) e1 ∙ ap (λ it. expr.Min (span_of m) (first_of text x) it) e2

pub word_max : (text : List ℕ) (m x : Tree Token) (s : Span) (a : Expr) (b : Expr) → s ≡ span_of m → a ≡ first_of text x → b ≡ second_of text x → expr.Max s a b ≡ word_atom_of text (Second (Second (First (Both m x))))
unfolding word_atom_of
word_max text m x s a b e0 e1 e2 = ap (λ it. expr.Max it a b) e0 ∙ ap (λ it. expr.Max (span_of m) it b) e1 ∙ ap (λ it. expr.Max (span_of m) (first_of text x) it) e2

pub word_other : (text : List ℕ) (x : Tree Token) → other_atom_of text x ≡ word_atom_of text (Second (Second (Second x)))
unfolding word_atom_of
word_other text x = refl

pub other_mux : (text : List ℕ) (m x : Tree Token) (s : Span) (a : Expr) (b : Expr) (e : Expr) → s ≡ span_of m → a ≡ first_of text x → b ≡ second_of text x → e ≡ third_of text x → expr.Mux s a b e ≡ other_atom_of text (First (Both m x))
unfolding other_atom_of
other_mux text m x s a b e e0 e1 e2 e3 = ap (λ it. expr.Mux it a b e) e0 ∙ ap (λ it. expr.Mux (span_of m) it b e) e1 ∙ ap (λ it. expr.Mux (span_of m) (first_of text x) it e) e2 ∙ ap (λ it. expr.Mux (span_of m) (first_of text x) (second_of text x) it) e3

pub other_input : (text : List ℕ) (m x : Tree Token) (n : Ident) → n ≡ host_name_of text x → expr.Input n ≡ other_atom_of text (Second (First (Both m x)))
unfolding other_atom_of
other_input text m x n e0 = ap (λ it. expr.Input it) e0

pub other_declassify : (text : List ℕ) (m x : Tree Token) (a : Expr) (f : WrittenForm) → a ≡ first_of text x → f ≡ new_form_of text x → expr.Declassify a f ≡ other_atom_of text (Second (Second (First (Both m x))))
unfolding other_atom_of
other_declassify text m x a f e0 e1 = ap (λ it. expr.Declassify it f) e0 ∙ ap (λ it. expr.Declassify (first_of text x) it) e1

pub other_endorse : (text : List ℕ) (m x : Tree Token) (a : Expr) (f : WrittenForm) → a ≡ first_of text x → f ≡ new_form_of text x → expr.Endorse a f ≡ other_atom_of text (Second (Second (Second (First (Both m x)))))
unfolding other_atom_of
other_endorse text m x a f e0 e1 = ap (λ it. expr.Endorse it f) e0 ∙ ap (λ it. expr.Endorse (first_of text x) it) e1

pub other_brackets : (text : List ℕ) (o x p : Tree Token) (a : Expr) → a ≡ expr_of text x → bracketed a ≡ other_atom_of text (Second (Second (Second (Second (Both o (Both x p))))))
unfolding other_atom_of
other_brackets text o x p a e0 = ap (λ it. bracketed it) e0

pub named_call : (text : List ℕ) (n x : Tree Token) (i : Ident) (es : List Expr) → i ≡ ident_of text n → es ≡ arguments_of text x → expr.Call i es ≡ named_of text (Both n (First (First x)))
unfolding named_of
named_call text n x i es e0 e1 = ap (λ it. expr.Call it es) e0 ∙ ap (λ it. expr.Call (ident_of text n) it) e1

pub named_element : (text : List ℕ) (n x : Tree Token) (i : Ident) (e : Expr) → i ≡ ident_of text n → e ≡ between_of text x → expr.Element i e ≡ named_of text (Both n (First (Second x)))
unfolding named_of
named_element text n x i e e0 e1 = ap (λ it. expr.Element it e) e0 ∙ ap (λ it. expr.Element (ident_of text n) it) e1

pub named_value : (text : List ℕ) (n x : Tree Token) (i : Ident) → i ≡ ident_of text n → expr.Value i ≡ named_of text (Both n (Second x))
unfolding named_of
named_value text n x i e0 = ap (λ it. expr.Value it) e0

pub between_is : (text : List ℕ) (o x p : Tree Token) (e : Expr) → e ≡ expr_of text x → e ≡ between_of text (Both o (Both x p))
unfolding between_of
between_is text o x p e e0 = e0

pub two_is : (text : List ℕ) (o a c b p : Tree Token) (x : Expr) (y : Expr) → x ≡ expr_of text a → y ≡ expr_of text b → (x, y) ≡ two_of text (Both o (Both a (Both c (Both b p))))
unfolding first_of second_of
two_is text o a c b p x y e0 e1 = ap (λ it. (it, y)) e0 ∙ ap (λ it. ((expr_of text a), it)) e1

pub three_is : (text : List ℕ) (o a c b d e p : Tree Token) (x : Expr) (y : Expr) (z : Expr) → x ≡ expr_of text a → y ≡ expr_of text b → z ≡ expr_of text e → (x, y, z) ≡ three_of text (Both o (Both a (Both c (Both b (Both d (Both e p))))))
unfolding first_of second_of third_of
three_is text o a c b d e p x y z e0 e1 e2 = ap (λ it. (it, y, z)) e0 ∙ ap (λ it. ((expr_of text a), it, z)) e1 ∙ ap (λ it. ((expr_of text a), (expr_of text b), it)) e2

pub relabelled_is : (text : List ℕ) (o e c b f d p : Tree Token) (x : Expr) (g : WrittenForm) → x ≡ expr_of text e → g ≡ form_of text f → (x, g) ≡ relabelled_of text (Both o (Both e (Both c (Both b (Both f (Both d p))))))
unfolding first_of new_form_of
relabelled_is text o e c b f d p x g e0 e1 = ap (λ it. (it, g)) e0 ∙ ap (λ it. ((expr_of text e), it)) e1

pub host_name_is : (text : List ℕ) (o n p : Tree Token) (i : Ident) → i ≡ ident_of text n → i ≡ host_name_of text (Both o (Both n p))
unfolding host_name_of
host_name_is text o n p i e0 = ap (λ it. it) e0

pub arguments_some : (text : List ℕ) (o x p : Tree Token) (es : List Expr) → es ≡ exprs_of text x → es ≡ arguments_of text (Both o (Both (First x) p))
unfolding arguments_of
arguments_some text o x p es e0 = ap (λ it. it) e0

pub arguments_empty : (text : List ℕ) (o x p : Tree Token) → [] ≡ arguments_of text (Both o (Both (Second x) p))
unfolding arguments_of
arguments_empty text o x p = refl

pub exprs_first : (text : List ℕ) (x : Tree Token) (v : Expr) → v ≡ expr_of text x → (y : Tree Token) → exprs_of text (Both x y) ≡ (v ∷ []) ++ more_exprs_of text y
unfolding exprs_of
exprs_first text x v e0 y = sym (ap (λ it. (it ∷ []) ++ more_exprs_of text y) e0)

pub exprs_more : (text : List ℕ) (x : Tree Token) (v : Expr) → v ≡ expr_of text x → (c y : Tree Token) → more_exprs_of text (Both (Both c x) y) ≡ v ∷ more_exprs_of text y
unfolding more_exprs_of
exprs_more text x v e0 c y = sym (ap (λ it. it ∷ more_exprs_of text y) e0)

pub exprs_none : (text : List ℕ) → more_exprs_of text Empty ≡ []
unfolding more_exprs_of
exprs_none text = refl

pub let_is : (text : List ℕ) (k n l x : Tree Token) (at : Span) (i : Ident) (lb : Option WrittenLabel) (v : Expr) → at ≡ span_of k → i ≡ ident_of text n → lb ≡ label_option_of text l → v ≡ between_of text x → stmt.Let at i lb v ≡ let_of text (Both k (Both n (Both l x)))
unfolding let_of
let_is text k n l x at i lb v e0 e1 e2 e3 = ap (λ it. stmt.Let it i lb v) e0 ∙ ap (λ it. stmt.Let (span_of k) it lb v) e1 ∙ ap (λ it. stmt.Let (span_of k) (ident_of text n) it v) e2 ∙ ap (λ it. stmt.Let (span_of k) (ident_of text n) (label_option_of text l) it) e3

pub typed_is : (text : List ℕ) (n c k : Tree Token) (i : Ident) (kd : Kind) → i ≡ ident_of text n → kd ≡ kind_of k → (i, kd) ≡ typed_of text (Both n (Both c k))
unfolding typed_name_of typed_kind_of
typed_is text n c k i kd e0 e1 = ap (λ it. (it, kd)) e0 ∙ ap (λ it. ((ident_of text n), it)) e1

pub var_is : (text : List ℕ) (k t l x : Tree Token) (at : Span) (i : Ident) (kd : Kind) (lb : Option WrittenLabel) (v : Expr) → at ≡ span_of k → i ≡ typed_name_of text t → kd ≡ typed_kind_of t → lb ≡ label_option_of text l → v ≡ between_of text x → stmt.Var at i kd lb v ≡ var_of text (Both k (Both t (Both l x)))
unfolding var_of
var_is text k t l x at i kd lb v e0 e1 e2 e3 e4 = ap (λ it. stmt.Var it i kd lb v) e0 ∙ ap (λ it. stmt.Var (span_of k) it kd lb v) e1 ∙ ap (λ it. stmt.Var (span_of k) (typed_name_of text t) it lb v) e2 ∙ ap (λ it. stmt.Var (span_of k) (typed_name_of text t) (typed_kind_of t) it v) e3 ∙ ap (λ it. stmt.Var (span_of k) (typed_name_of text t) (typed_kind_of t) (label_option_of text l) it) e4

pub length_is : (text : List ℕ) (o n p : Tree Token) (len : ℕ) → len ≡ value_of n → len ≡ length_of (Both o (Both n p))
unfolding length_of
length_is text o n p len e0 = ap (λ it. it) e0

pub array_is : (text : List ℕ) (k t m l s : Tree Token) (at : Span) (i : Ident) (kd : Kind) (len : ℕ) (lb : Option WrittenLabel) → at ≡ span_of k → i ≡ typed_name_of text t → kd ≡ typed_kind_of t → len ≡ length_of m → lb ≡ label_option_of text l → stmt.Array at i kd len lb ≡ array_of text (Both k (Both t (Both m (Both l s))))
unfolding array_of
array_is text k t m l s at i kd len lb e0 e1 e2 e3 e4 = ap (λ it. stmt.Array it i kd len lb) e0 ∙ ap (λ it. stmt.Array (span_of k) it kd len lb) e1 ∙ ap (λ it. stmt.Array (span_of k) (typed_name_of text t) it len lb) e2 ∙ ap (λ it. stmt.Array (span_of k) (typed_name_of text t) (typed_kind_of t) it lb) e3 ∙ ap (λ it. stmt.Array (span_of k) (typed_name_of text t) (typed_kind_of t) (length_of m) it) e4

pub index_some : (text : List ℕ) (x : Tree Token) (e : Expr) → e ≡ between_of text x → Some e ≡ index_option_of text (First x)
unfolding index_option_of
index_some text x e e0 = ap (λ it. Some it) e0

pub index_none : (text : List ℕ) (x : Tree Token) → None ≡ index_option_of text (Second x)
unfolding index_option_of
index_none text x = refl

pub assign_is : (text : List ℕ) (n i x : Tree Token) (name : Ident) (ix : Option Expr) (v : Expr) → name ≡ ident_of text n → ix ≡ index_option_of text i → v ≡ between_of text x → assigned name ix v ≡ assign_of text (Both n (Both i x))
unfolding assign_of
assign_is text n i x name ix v e0 e1 e2 = ap (λ it. assigned it ix v) e0 ∙ ap (λ it. assigned (ident_of text n) it v) e1 ∙ ap (λ it. assigned (ident_of text n) (index_option_of text i) it) e2

pub output_is : (text : List ℕ) (k x h : Tree Token) (at : Span) (v : Expr) (i : Ident) → at ≡ span_of k → v ≡ expr_of text x → i ≡ host_name_of text h → stmt.Output at v i ≡ output_of text (Both k (Both x h))
unfolding output_of
output_is text k x h at v i e0 e1 e2 = ap (λ it. stmt.Output it v i) e0 ∙ ap (λ it. stmt.Output (span_of k) it i) e1 ∙ ap (λ it. stmt.Output (span_of k) (expr_of text x) it) e2

pub block_is : (text : List ℕ) (o x p : Tree Token) (ss : List Statement) → ss ≡ statements_of text x → ss ≡ block_of text (Both o (Both x p))
unfolding block_of
block_is text o x p ss e0 = ap (λ it. it) e0

pub statements_more : (text : List ℕ) (x : Tree Token) (v : Statement) → v ≡ statement_of text x → (y : Tree Token) → statements_of text (Both x y) ≡ v ∷ statements_of text y
unfolding statements_of
statements_more text x v e0 y = sym (ap (λ it. it ∷ statements_of text y) e0)

pub statements_none : (text : List ℕ) → statements_of text Empty ≡ []
unfolding statements_of
statements_none text = refl

pub statement_let : (text : List ℕ) (x : Tree Token) → let_of text x ≡ statement_of text (First x)
unfolding statement_of
statement_let text x = refl

pub statement_var : (text : List ℕ) (x : Tree Token) → var_of text x ≡ statement_of text (Second (First x))
unfolding statement_of
statement_var text x = refl

pub statement_array : (text : List ℕ) (x : Tree Token) → array_of text x ≡ statement_of text (Second (Second (First x)))
unfolding statement_of
statement_array text x = refl

pub statement_assign : (text : List ℕ) (x : Tree Token) → assign_of text x ≡ statement_of text (Second (Second (Second (First x))))
unfolding statement_of
statement_assign text x = refl

pub statement_output : (text : List ℕ) (x : Tree Token) → output_of text x ≡ statement_of text (Second (Second (Second (Second (First x)))))
unfolding statement_of
statement_output text x = refl

pub statement_if : (text : List ℕ) (x : Tree Token) → if_of text x ≡ statement_of text (Second (Second (Second (Second (Second (First x))))))
unfolding statement_of
statement_if text x = refl

pub statement_for : (text : List ℕ) (x : Tree Token) → for_of text x ≡ statement_of text (Second (Second (Second (Second (Second (Second x))))))
unfolding statement_of
statement_for text x = refl

pub if_is : (text : List ℕ) (k x b e : Tree Token) (at : Span) (g : Expr) (ts : List Statement) (es : List Statement) → at ≡ span_of k → g ≡ between_of text x → ts ≡ block_of text b → es ≡ else_of text e → stmt.If at g ts es ≡ if_of text (Both k (Both x (Both b e)))
unfolding if_of
if_is text k x b e at g ts es e0 e1 e2 e3 = ap (λ it. stmt.If it g ts es) e0 ∙ ap (λ it. stmt.If (span_of k) it ts es) e1 ∙ ap (λ it. stmt.If (span_of k) (between_of text x) it es) e2 ∙ ap (λ it. stmt.If (span_of k) (between_of text x) (block_of text b) it) e3

pub else_some : (text : List ℕ) (k b : Tree Token) (ss : List Statement) → ss ≡ block_of text b → ss ≡ else_of text (First (Both k b))
unfolding else_of
else_some text k b ss e0 = ap (λ it. it) e0

pub else_none : (text : List ℕ) (x : Tree Token) → [] ≡ else_of text (Second x)
unfolding else_of
else_none text x = refl

pub for_is : (text : List ℕ) (k n t c b : Tree Token) (at : Span) (i : Ident) (m : ℕ) (ss : List Statement) → at ≡ span_of k → i ≡ ident_of text n → m ≡ value_of c → ss ≡ block_of text b → stmt.For at i m ss ≡ for_of text (Both k (Both n (Both t (Both c b))))
unfolding for_of
for_is text k n t c b at i m ss e0 e1 e2 e3 = ap (λ it. stmt.For it i m ss) e0 ∙ ap (λ it. stmt.For (span_of k) it m ss) e1 ∙ ap (λ it. stmt.For (span_of k) (ident_of text n) it ss) e2 ∙ ap (λ it. stmt.For (span_of k) (ident_of text n) (value_of c) it) e3

pub parameters_first : (text : List ℕ) (x : Tree Token) (v : Parameter) → v ≡ parameter_of text x → (y : Tree Token) → parameter_list_of text (Both x y) ≡ (v ∷ []) ++ more_parameters_of text y
unfolding parameter_list_of
parameters_first text x v e0 y = sym (ap (λ it. (it ∷ []) ++ more_parameters_of text y) e0)

pub parameters_more : (text : List ℕ) (x : Tree Token) (v : Parameter) → v ≡ parameter_of text x → (c y : Tree Token) → more_parameters_of text (Both (Both c x) y) ≡ v ∷ more_parameters_of text y
unfolding more_parameters_of
parameters_more text x v e0 c y = sym (ap (λ it. it ∷ more_parameters_of text y) e0)

pub parameters_none : (text : List ℕ) → more_parameters_of text Empty ≡ []
unfolding more_parameters_of
parameters_none text = refl

pub parameters_some : (text : List ℕ) (o x p : Tree Token) (ps : List Parameter) → ps ≡ parameter_list_of text x → ps ≡ parameters_of text (Both o (Both (First x) p))
unfolding parameters_of
parameters_some text o x p ps e0 = ap (λ it. it) e0

pub parameters_empty : (text : List ℕ) (o x p : Tree Token) → [] ≡ parameters_of text (Both o (Both (Second x) p))
unfolding parameters_of
parameters_empty text o x p = refl

pub host_is : (text : List ℕ) (k n l s : Tree Token) (i : Ident) (lb : WrittenLabel) → i ≡ ident_of text n → lb ≡ label_of text l → record { name = i; label = lb } ≡ host_of text (Both k (Both n (Both l s)))
unfolding host_of
host_is text k n l s i lb e0 e1 = ap (λ it. record { name = it; label = lb }) e0 ∙ ap (λ it. record { name = (ident_of text n); label = it }) e1

pub hosts_first : (text : List ℕ) (x : Tree Token) (v : Host) → v ≡ host_of text x → (y : Tree Token) → host_list_of text (Both x y) ≡ (v ∷ []) ++ hosts_of text y
unfolding host_list_of
hosts_first text x v e0 y = sym (ap (λ it. (it ∷ []) ++ hosts_of text y) e0)

pub hosts_more : (text : List ℕ) (x : Tree Token) (v : Host) → v ≡ host_of text x → (y : Tree Token) → hosts_of text (Both x y) ≡ v ∷ hosts_of text y
unfolding hosts_of
hosts_more text x v e0 y = sym (ap (λ it. it ∷ hosts_of text y) e0)

pub hosts_none : (text : List ℕ) → hosts_of text Empty ≡ []
unfolding hosts_of
hosts_none text = refl

pub last_line_is : (text : List ℕ) (r x s d : Tree Token) (at : Span) (v : Expr) → at ≡ span_of r → v ≡ expr_of text x → (at, v) ≡ last_line_of text (Both r (Both x (Both s d)))
unfolding at_return_of gives_of
last_line_is text r x s d at v e0 e1 = ap (λ it. (it, v)) e0 ∙ ap (λ it. (span_of r, it)) e1

pub body_is : (text : List ℕ) (o ss r : Tree Token) (body : List Statement) (at : Span) (v : Expr) → body ≡ statements_of text ss → at ≡ at_return_of r → v ≡ gives_of text r → (body, at, v) ≡ whole_body_of text (Both o (Both ss r))
unfolding body_of return_of returned_of
body_is text o ss r body at v e0 e1 e2 = ap (λ it. (it, at, v)) e0 ∙ ap (λ it. ((statements_of text ss), it, v)) e1 ∙ ap (λ it. ((statements_of text ss), (at_return_of r), it)) e2

pub function_is : (text : List ℕ) (f n ps c k b : Tree Token) (i : Ident) (pl : List Parameter) (kd : Kind) (body : List Statement) (at : Span) (v : Expr) → i ≡ ident_of text n → pl ≡ parameters_of text ps → kd ≡ kind_of k → body ≡ body_of text b → at ≡ return_of b → v ≡ returned_of text b → record { name = i; parameters = pl; kind = kd; body = body; at_return = at; gives = v } ≡ function_of text (Both f (Both n (Both ps (Both c (Both k b)))))
unfolding function_of
function_is text f n ps c k b i pl kd body at v e0 e1 e2 e3 e4 e5 = ap (λ it. record { name = it; parameters = pl; kind = kd; body = body; at_return = at; gives = v }) e0 ∙ ap (λ it. record { name = (ident_of text n); parameters = it; kind = kd; body = body; at_return = at; gives = v }) e1 ∙ ap (λ it. record { name = (ident_of text n); parameters = (parameters_of text ps); kind = it; body = body; at_return = at; gives = v }) e2 ∙ ap (λ it. record { name = (ident_of text n); parameters = (parameters_of text ps); kind = (kind_of k); body = it; at_return = at; gives = v }) e3 ∙ ap (λ it. record { name = (ident_of text n); parameters = (parameters_of text ps); kind = (kind_of k); body = (body_of text b); at_return = it; gives = v }) e4 ∙ ap (λ it. record { name = (ident_of text n); parameters = (parameters_of text ps); kind = (kind_of k); body = (body_of text b); at_return = (return_of b); gives = it }) e5

pub functions_more : (text : List ℕ) (x : Tree Token) (v : Function) → v ≡ function_of text x → (y : Tree Token) → functions_of text (Both x y) ≡ v ∷ functions_of text y
unfolding functions_of
functions_more text x v e0 y = sym (ap (λ it. it ∷ functions_of text y) e0)

pub functions_none : (text : List ℕ) → functions_of text Empty ≡ []
unfolding functions_of
functions_none text = refl

pub principals_is : (text : List ℕ) (p ns s : Tree Token) (names : List Ident) → names ≡ idents_of text ns → names ≡ principals_of text (Both p (Both ns s))
unfolding principals_of
principals_is text p ns s names e0 = ap (λ it. it) e0

pub source_is : (text : List ℕ) (ps hs fs m b : Tree Token) (names : List Ident) (gs : List Host) (fns : List Function) (ss : List Statement) → names ≡ principals_of text ps → gs ≡ host_list_of text hs → fns ≡ functions_of text fs → ss ≡ block_of text b → record { principals = names; hosts = gs; functions = fns; main = ss } ≡ source_of text (Both ps (Both hs (Both fs (Both m b))))
unfolding source_of
source_is text ps hs fs m b names gs fns ss e0 e1 e2 e3 = ap (λ it. record { principals = it; hosts = gs; functions = fns; main = ss }) e0 ∙ ap (λ it. record { principals = (principals_of text ps); hosts = it; functions = fns; main = ss }) e1 ∙ ap (λ it. record { principals = (principals_of text ps); hosts = (host_list_of text hs); functions = it; main = ss }) e2 ∙ ap (λ it. record { principals = (principals_of text ps); hosts = (host_list_of text hs); functions = (functions_of text fs); main = it }) e3
