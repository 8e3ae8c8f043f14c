-- The syntax tree that a tree of the grammar stands for. text is the bytes of the source, in which names stand.
use Rattle.std.specs.Prelude.{ℕ, ◌-◌, Bool, if◌then◌else◌, true, false, List, [], ◌∷◌, ◌++◌, drop, take, Option, Some, None}
use mathlib.Core.List.{reverse}
use Rattle.vd_source_lexer.specs.Trees.{Tree, Leaf, Both, First, Second, Empty}
use Rattle.vd_base.specs.declared.ids.Span.{Span}
use Rattle.vd_base.specs.declared.operations.Kind.{Kind}
use Rattle.vd_base.specs.declared.operations.Kind.TheVariants as word_kind
use Rattle.vd_core.specs.declared.source.Ident.{Ident}
use Rattle.vd_core.specs.declared.source.WrittenForm.{WrittenForm}
use Rattle.vd_core.specs.declared.source.WrittenForm.TheVariants as form
use Rattle.vd_core.specs.declared.source.WrittenLabel.{WrittenLabel}
use Rattle.vd_core.specs.declared.source.Host.{Host}
use Rattle.vd_core.specs.declared.source.Parameter.{Parameter}
use Rattle.vd_core.specs.declared.source.Prefix.{Prefix}
use Rattle.vd_core.specs.declared.source.Prefix.TheVariants as prefix
use Rattle.vd_core.specs.declared.source.Sign.{Sign}
use Rattle.vd_core.specs.declared.source.Infix.{Infix}
use Rattle.vd_core.specs.declared.source.Infix.TheVariants as op
use Rattle.vd_core.specs.declared.source.Direction.{Direction}
use Rattle.vd_core.specs.declared.source.Direction.TheVariants as direction
use Rattle.vd_core.specs.declared.source.Expr.{Expr, fold-Expr}
use Rattle.vd_core.specs.declared.source.Expr.TheOpen.{Expr-F}
use Rattle.vd_core.specs.declared.source.Segment.{Segment}
use Rattle.vd_core.specs.declared.source.Expr.TheVariants as expr
use Rattle.vd_core.specs.declared.source.Segment.TheVariants as segment
use Rattle.vd_core.specs.declared.source.Statement.{Statement}
use Rattle.vd_core.specs.declared.source.Statement.TheVariants as stmt
use Rattle.vd_core.specs.declared.source.Function.{Function}
use Rattle.vd_core.specs.declared.source.Source.{Source}
use Rattle.vd_source_lexer.specs.declared.token.TokenKind.{TokenKind}
use Rattle.vd_source_lexer.specs.declared.token.TokenKind.TheVariants as kind
use Rattle.vd_source_lexer.specs.declared.token.Token.{Token}

-- whether an expression stands in brackets
abbrev pub are_brackets : Expr-F Bool Bool → Bool
are_brackets (Expr-F.Brackets x) = true
are_brackets x = false

abbrev pub is_bracketed : Expr → Bool
is_bracketed = fold-Expr Bool Bool are_brackets (λ x. false)

-- an expression in brackets; what stands in brackets already gets no others
abbrev pub bracketed : Expr → Expr
bracketed x = if is_bracketed x then x else expr.Brackets x

abbrev pub no_token : Token
no_token = record { kind = kind.End; span = record { start = 0; end = 0 }; value = 0 }

-- the token of a tree that is one token, whichever of several it is
abbrev pub token_of : Tree Token → Token
token_of (Leaf t) = t
token_of (First x) = token_of x
token_of (Second x) = token_of x
token_of (Both x y) = no_token
token_of Empty = no_token

abbrev pub span_of : Tree Token → Span
span_of x = (token_of x).span

abbrev pub value_of : Tree Token → ℕ
value_of x = (token_of x).value

-- the bytes of a span
abbrev pub word_at : List ℕ → Span → List ℕ
word_at text span = take (span.end - span.start) (drop span.start text)

abbrev pub ident_of : List ℕ → Tree Token → Ident
ident_of text x = record { name = word_at text (span_of x); span = span_of x }

abbrev pub kind_of : Tree Token → Kind
kind_of (First x) = word_kind.Word
kind_of _ = word_kind.Bool

-- {"," NAME}
unfoldable pub more_idents_of : List ℕ → Tree Token → List Ident
more_idents_of text (Both (Both c x) r) = ident_of text x ∷ more_idents_of text r
more_idents_of text _ = []

unfoldable pub idents_of : List ℕ → Tree Token → List Ident
idents_of text (Both x r) = ident_of text x ∷ more_idents_of text r
idents_of text _ = []

-- a part alone is itself
abbrev pub either_of : WrittenForm → List WrittenForm → WrittenForm
either_of f [] = f
either_of f (g ∷ gs) = form.Either (f ∷ g ∷ gs)

abbrev pub both_of : WrittenForm → List WrittenForm → WrittenForm
both_of f [] = f
both_of f (g ∷ gs) = form.Both (f ∷ g ∷ gs)

unfoldable mutual
  pub form_of : List ℕ → Tree Token → WrittenForm
  form_of text (Both c r) = either_of (conj_of text c) (conjs_of text r)
  form_of text _ = form.Any

  pub conjs_of : List ℕ → Tree Token → List WrittenForm
  conjs_of text (Both (Both o c) r) = conj_of text c ∷ conjs_of text r
  conjs_of text _ = []

  pub conj_of : List ℕ → Tree Token → WrittenForm
  conj_of text (Both a r) = both_of (fatom_of text a) (fatoms_of text r)
  conj_of text _ = form.Any

  pub fatoms_of : List ℕ → Tree Token → List WrittenForm
  fatoms_of text (Both (Both o a) r) = fatom_of text a ∷ fatoms_of text r
  fatoms_of text _ = []

  pub fatom_of : List ℕ → Tree Token → WrittenForm
  fatom_of text (First x) = form.Any
  fatom_of text (Second (First x)) = form.Never
  fatom_of text (Second (Second (First x))) = form.Name (ident_of text x)
  fatom_of text (Second (Second (Second (Both o (Both f c))))) = form_of text f
  fatom_of text _ = form.Any

unfoldable pub label_of : List ℕ → Tree Token → WrittenLabel
label_of text (Both o (Both c (Both s (Both i p)))) = record { conf = form_of text c; integ = form_of text i }
label_of text _ = record { conf = form.Any; integ = form.Any }

unfoldable pub label_option_of : List ℕ → Tree Token → Option WrittenLabel
label_option_of text (First x) = Some (label_of text x)
label_option_of text _ = None

-- the name between two tokens
unfoldable pub host_name_of : List ℕ → Tree Token → Ident
host_name_of text (Both o (Both n p)) = ident_of text n
host_name_of text _ = ident_of text Empty

-- the formula of a relabelled expression, "(" expr "," "{" form "}" ")"
unfoldable pub new_form_of : List ℕ → Tree Token → WrittenForm
new_form_of text (Both o (Both e (Both c (Both b (Both f x))))) = form_of text f
new_form_of text _ = form.Any

-- operators
abbrev pub infix_of : TokenKind → Infix
infix_of kind.EqualEqual = op.Equal
infix_of kind.NotEqual = op.NotEqual
infix_of kind.Less = op.Less
infix_of kind.LessEqual = op.LessEqual
infix_of kind.Greater = op.Greater
infix_of kind.GreaterEqual = op.GreaterEqual
infix_of kind.Pipe = op.Or
infix_of kind.Caret = op.Xor
infix_of kind.Ampersand = op.And
infix_of kind.Plus = op.Add
infix_of kind.Minus = op.Sub
infix_of kind.Star = op.Mul
infix_of kind.Slash = op.Div
infix_of _ = op.Rem

abbrev pub direction_of : TokenKind → Direction
direction_of kind.ShiftLeft = direction.Left
direction_of _ = direction.Right

abbrev pub prefix_of : TokenKind → Prefix
prefix_of kind.Bang = prefix.Flip
prefix_of _ = prefix.Not

abbrev pub sign_of : Tree Token → Sign
sign_of o = record { prefix = prefix_of (token_of o).kind; span = span_of o }

abbrev pub segment_of : Tree Token → Expr → Segment
segment_of o x = segment.Infix (infix_of (token_of o).kind) (span_of o) x

-- an operand alone is itself
abbrev pub chained : Expr → List Segment → Expr
chained x [] = x
chained x (l ∷ ls) = expr.Chain x (l ∷ ls)

-- {"!" | "~"}, in the order of the text
unfoldable pub prefixes_of : Tree Token → List Sign
prefixes_of (Both o r) = sign_of o ∷ prefixes_of r
prefixes_of _ = []

-- the nearest to the operand first
abbrev pub signs_of : Tree Token → List Sign
signs_of x = reverse (prefixes_of x)

-- an operand alone is itself
abbrev pub signed : Expr → List Sign → Expr
signed x [] = x
signed x (s ∷ ss) = expr.Unary x (s ∷ ss)

unfoldable mutual
  pub expr_of : List ℕ → Tree Token → Expr
  expr_of text (Both a (First (Both o b))) = expr.Chain (bor_of text a) (segment_of o (bor_of text b) ∷ [])
  expr_of text (Both a (Second x)) = bor_of text a
  expr_of text _ = expr.Number 0

  pub bor_of : List ℕ → Tree Token → Expr
  bor_of text (Both x r) = chained (bxor_of text x) (bor_segments_of text r)
  bor_of text _ = expr.Number 0

  pub bor_segments_of : List ℕ → Tree Token → List Segment
  bor_segments_of text (Both (Both o x) r) = segment_of o (bxor_of text x) ∷ bor_segments_of text r
  bor_segments_of text _ = []

  pub bxor_of : List ℕ → Tree Token → Expr
  bxor_of text (Both x r) = chained (band_of text x) (bxor_segments_of text r)
  bxor_of text _ = expr.Number 0

  pub bxor_segments_of : List ℕ → Tree Token → List Segment
  bxor_segments_of text (Both (Both o x) r) = segment_of o (band_of text x) ∷ bxor_segments_of text r
  bxor_segments_of text _ = []

  pub band_of : List ℕ → Tree Token → Expr
  band_of text (Both x r) = chained (shift_of text x) (band_segments_of text r)
  band_of text _ = expr.Number 0

  pub band_segments_of : List ℕ → Tree Token → List Segment
  band_segments_of text (Both (Both o x) r) = segment_of o (shift_of text x) ∷ band_segments_of text r
  band_segments_of text _ = []

  pub shift_of : List ℕ → Tree Token → Expr
  shift_of text (Both x r) = chained (sum_of text x) (shift_segments_of text r)
  shift_of text _ = expr.Number 0

  pub shift_segments_of : List ℕ → Tree Token → List Segment
  shift_segments_of text (Both (Both o n) r) = segment.Shift (direction_of (token_of o).kind) (span_of o) (value_of n) ∷ shift_segments_of text r
  shift_segments_of text _ = []

  pub sum_of : List ℕ → Tree Token → Expr
  sum_of text (Both x r) = chained (prod_of text x) (sum_segments_of text r)
  sum_of text _ = expr.Number 0

  pub sum_segments_of : List ℕ → Tree Token → List Segment
  sum_segments_of text (Both (Both o x) r) = segment_of o (prod_of text x) ∷ sum_segments_of text r
  sum_segments_of text _ = []

  pub prod_of : List ℕ → Tree Token → Expr
  prod_of text (Both x r) = chained (unary_of text x) (prod_segments_of text r)
  prod_of text _ = expr.Number 0

  pub prod_segments_of : List ℕ → Tree Token → List Segment
  prod_segments_of text (Both (Both o x) r) = segment_of o (unary_of text x) ∷ prod_segments_of text r
  prod_segments_of text _ = []

  pub unary_of : List ℕ → Tree Token → Expr
  unary_of text (Both p a) = signed (atom_of text a) (signs_of p)
  unary_of text _ = expr.Number 0

  pub atom_of : List ℕ → Tree Token → Expr
  atom_of text (First n) = expr.Number (value_of n)
  atom_of text (Second (First t)) = expr.Truth true
  atom_of text (Second (Second (First t))) = expr.Truth false
  atom_of text (Second (Second (Second x))) = word_atom_of text x
  atom_of text _ = expr.Number 0

  pub word_atom_of : List ℕ → Tree Token → Expr
  word_atom_of text (First x) = named_of text x
  word_atom_of text (Second (First (Both m x))) = expr.Min (span_of m) (first_of text x) (second_of text x)
  word_atom_of text (Second (Second (First (Both m x)))) = expr.Max (span_of m) (first_of text x) (second_of text x)
  word_atom_of text (Second (Second (Second x))) = other_atom_of text x
  word_atom_of text _ = expr.Number 0

  pub other_atom_of : List ℕ → Tree Token → Expr
  other_atom_of text (First (Both m x)) = expr.Mux (span_of m) (first_of text x) (second_of text x) (third_of text x)
  other_atom_of text (Second (First (Both k x))) = expr.Input (host_name_of text x)
  other_atom_of text (Second (Second (First (Both k x)))) = expr.Declassify (first_of text x) (new_form_of text x)
  other_atom_of text (Second (Second (Second (First (Both k x))))) = expr.Endorse (first_of text x) (new_form_of text x)
  other_atom_of text (Second (Second (Second (Second (Both o (Both e p)))))) = bracketed (expr_of text e)
  other_atom_of text _ = expr.Number 0

  -- a name with what comes after it: arguments, an index, or nothing
  pub named_of : List ℕ → Tree Token → Expr
  named_of text (Both n (First (First x))) = expr.Call (ident_of text n) (arguments_of text x)
  named_of text (Both n (First (Second x))) = expr.Element (ident_of text n) (between_of text x)
  named_of text (Both n (Second x)) = expr.Value (ident_of text n)
  named_of text _ = expr.Number 0

  -- the expression between two tokens
  pub between_of : List ℕ → Tree Token → Expr
  between_of text (Both o (Both i p)) = expr_of text i
  between_of text _ = expr.Number 0

  -- the expressions in round brackets, by number
  pub first_of : List ℕ → Tree Token → Expr
  first_of text (Both o (Both a x)) = expr_of text a
  first_of text _ = expr.Number 0

  pub second_of : List ℕ → Tree Token → Expr
  second_of text (Both o (Both a (Both c (Both b x)))) = expr_of text b
  second_of text _ = expr.Number 0

  pub third_of : List ℕ → Tree Token → Expr
  third_of text (Both o (Both a (Both c (Both b (Both d (Both e p)))))) = expr_of text e
  third_of text _ = expr.Number 0

  pub arguments_of : List ℕ → Tree Token → List Expr
  arguments_of text (Both o (Both (First x) p)) = exprs_of text x
  arguments_of text _ = []

  pub exprs_of : List ℕ → Tree Token → List Expr
  exprs_of text (Both x r) = expr_of text x ∷ more_exprs_of text r
  exprs_of text _ = []

  pub more_exprs_of : List ℕ → Tree Token → List Expr
  more_exprs_of text (Both (Both c x) r) = expr_of text x ∷ more_exprs_of text r
  more_exprs_of text _ = []

-- all of them, as the parser gives them
abbrev pub two_of : List ℕ → Tree Token → Expr × Expr
two_of text x = (first_of text x, second_of text x)

abbrev pub three_of : List ℕ → Tree Token → Expr × Expr × Expr
three_of text x = (first_of text x, second_of text x, third_of text x)

abbrev pub relabelled_of : List ℕ → Tree Token → Expr × WrittenForm
relabelled_of text x = (first_of text x, new_form_of text x)

unfoldable pub let_of : List ℕ → Tree Token → Statement
let_of text (Both k (Both n (Both l x))) = stmt.Let (span_of k) (ident_of text n) (label_option_of text l) (between_of text x)
let_of text _ = stmt.Let (span_of Empty) (ident_of text Empty) None (expr.Number 0)

-- a name and its kind
unfoldable pub typed_name_of : List ℕ → Tree Token → Ident
typed_name_of text (Both n (Both c k)) = ident_of text n
typed_name_of text _ = ident_of text Empty

unfoldable pub typed_kind_of : Tree Token → Kind
typed_kind_of (Both n (Both c k)) = kind_of k
typed_kind_of _ = kind_of Empty

abbrev pub typed_of : List ℕ → Tree Token → Ident × Kind
typed_of text x = (typed_name_of text x, typed_kind_of x)

unfoldable pub var_of : List ℕ → Tree Token → Statement
var_of text (Both k (Both t (Both l x))) = stmt.Var (span_of k) (typed_name_of text t) (typed_kind_of t) (label_option_of text l) (between_of text x)
var_of text _ = stmt.Let (span_of Empty) (ident_of text Empty) None (expr.Number 0)

unfoldable pub length_of : Tree Token → ℕ
length_of (Both o (Both n p)) = value_of n
length_of _ = 0

unfoldable pub array_of : List ℕ → Tree Token → Statement
array_of text (Both k (Both t (Both m (Both l s)))) = stmt.Array (span_of k) (typed_name_of text t) (typed_kind_of t) (length_of m) (label_option_of text l)
array_of text _ = stmt.Let (span_of Empty) (ident_of text Empty) None (expr.Number 0)

unfoldable pub index_option_of : List ℕ → Tree Token → Option Expr
index_option_of text (First x) = Some (between_of text x)
index_option_of text _ = None

abbrev pub assigned : Ident → Option Expr → Expr → Statement
assigned name None value = stmt.Store name value
assigned name (Some index) value = stmt.Put name index value

unfoldable pub assign_of : List ℕ → Tree Token → Statement
assign_of text (Both n (Both i x)) = assigned (ident_of text n) (index_option_of text i) (between_of text x)
assign_of text _ = stmt.Let (span_of Empty) (ident_of text Empty) None (expr.Number 0)

unfoldable pub output_of : List ℕ → Tree Token → Statement
output_of text (Both k (Both x h)) = stmt.Output (span_of k) (expr_of text x) (host_name_of text h)
output_of text _ = stmt.Let (span_of Empty) (ident_of text Empty) None (expr.Number 0)

unfoldable mutual
  pub block_of : List ℕ → Tree Token → List Statement
  block_of text (Both o (Both ss c)) = statements_of text ss
  block_of text _ = []

  pub statements_of : List ℕ → Tree Token → List Statement
  statements_of text (Both x r) = statement_of text x ∷ statements_of text r
  statements_of text _ = []

  pub statement_of : List ℕ → Tree Token → Statement
  statement_of text (First x) = let_of text x
  statement_of text (Second (First x)) = var_of text x
  statement_of text (Second (Second (First x))) = array_of text x
  statement_of text (Second (Second (Second (First x)))) = assign_of text x
  statement_of text (Second (Second (Second (Second (First x))))) = output_of text x
  statement_of text (Second (Second (Second (Second (Second (First x)))))) = if_of text x
  statement_of text (Second (Second (Second (Second (Second (Second x)))))) = for_of text x
  statement_of text _ = stmt.Let (span_of Empty) (ident_of text Empty) None (expr.Number 0)

  pub if_of : List ℕ → Tree Token → Statement
  if_of text (Both k (Both x (Both b e))) = stmt.If (span_of k) (between_of text x) (block_of text b) (else_of text e)
  if_of text _ = stmt.Let (span_of Empty) (ident_of text Empty) None (expr.Number 0)

  pub else_of : List ℕ → Tree Token → List Statement
  else_of text (First (Both k b)) = block_of text b
  else_of text _ = []

  pub for_of : List ℕ → Tree Token → Statement
  for_of text (Both k (Both n (Both t (Both c b)))) = stmt.For (span_of k) (ident_of text n) (value_of c) (block_of text b)
  for_of text _ = stmt.Let (span_of Empty) (ident_of text Empty) None (expr.Number 0)

abbrev pub parameter_of : List ℕ → Tree Token → Parameter
parameter_of text x = record { name = typed_name_of text x; kind = typed_kind_of x }

unfoldable pub more_parameters_of : List ℕ → Tree Token → List Parameter
more_parameters_of text (Both (Both c x) r) = parameter_of text x ∷ more_parameters_of text r
more_parameters_of text _ = []

unfoldable pub parameter_list_of : List ℕ → Tree Token → List Parameter
parameter_list_of text (Both x r) = parameter_of text x ∷ more_parameters_of text r
parameter_list_of text _ = []

unfoldable pub parameters_of : List ℕ → Tree Token → List Parameter
parameters_of text (Both o (Both (First x) p)) = parameter_list_of text x
parameters_of text _ = []

unfoldable pub host_of : List ℕ → Tree Token → Host
host_of text (Both k (Both n (Both l s))) = record { name = ident_of text n; label = label_of text l }
host_of text _ = record { name = ident_of text Empty; label = label_of text Empty }

unfoldable pub hosts_of : List ℕ → Tree Token → List Host
hosts_of text (Both x r) = host_of text x ∷ hosts_of text r
hosts_of text _ = []

-- the last line of a function's body: where it stands, and what it gives
unfoldable pub at_return_of : Tree Token → Span
at_return_of (Both r x) = span_of r
at_return_of _ = span_of Empty

unfoldable pub gives_of : List ℕ → Tree Token → Expr
gives_of text (Both r (Both x y)) = expr_of text x
gives_of text _ = expr.Number 0

abbrev pub last_line_of : List ℕ → Tree Token → Span × Expr
last_line_of text x = (at_return_of x, gives_of text x)

-- the parts of a function's body
unfoldable pub body_of : List ℕ → Tree Token → List Statement
body_of text (Both o (Both ss r)) = statements_of text ss
body_of text _ = []

unfoldable pub return_of : Tree Token → Span
return_of (Both o (Both ss r)) = at_return_of r
return_of _ = span_of Empty

unfoldable pub returned_of : List ℕ → Tree Token → Expr
returned_of text (Both o (Both ss r)) = gives_of text r
returned_of text _ = expr.Number 0

abbrev pub whole_body_of : List ℕ → Tree Token → List Statement × Span × Expr
whole_body_of text x = (body_of text x, return_of x, returned_of text x)

unfoldable pub function_of : List ℕ → Tree Token → Function
function_of text (Both f (Both n (Both ps (Both c (Both k b))))) =
    record { name = ident_of text n; parameters = parameters_of text ps; kind = kind_of k; body = body_of text b; at_return = return_of b; gives = returned_of text b }
function_of text _ = record { name = ident_of text Empty; parameters = []; kind = kind_of Empty; body = []; at_return = span_of Empty; gives = expr.Number 0 }

unfoldable pub functions_of : List ℕ → Tree Token → List Function
functions_of text (Both x r) = function_of text x ∷ functions_of text r
functions_of text _ = []

unfoldable pub principals_of : List ℕ → Tree Token → List Ident
principals_of text (Both p (Both ns s)) = idents_of text ns
principals_of text _ = []

unfoldable pub host_list_of : List ℕ → Tree Token → List Host
host_list_of text (Both h r) = host_of text h ∷ hosts_of text r
host_list_of text _ = []

unfoldable pub source_of : List ℕ → Tree Token → Source
source_of text (Both ps (Both hs (Both fs (Both m b)))) =
    record { principals = principals_of text ps; hosts = host_list_of text hs; functions = functions_of text fs; main = block_of text b }
source_of text _ = record { principals = []; hosts = []; functions = []; main = [] }
