-- The rules on names and kinds: a walk through the text in order that ends at the first fault.
use Rattle.std.specs.Prelude.{ℕ, Bool, true, false, nat_eq, nat_le, is_some, ◌&&◌, if◌then◌else◌, List, [], ◌∷◌, ◌++◌, map, length, Option, Some, None, Result, Ok, Err}
use Rattle.vd_base.specs.declared.operations.Kind.{Kind}
use Rattle.vd_base.specs.declared.operations.Kind.TheVariants.{Word, Bool as Truth}
use Rattle.vd_base.specs.declared.ids.Span.{Span}
use Rattle.vd_core.specs.declared.source.Ident.{Ident}
use Rattle.vd_core.specs.declared.source.WrittenForm.{WrittenForm}
use Rattle.vd_core.specs.declared.source.WrittenForm.TheOpen.{WrittenForm-F}
use Rattle.vd_core.specs.declared.source.WrittenForm.TheFolds.{fold-WrittenForm}
use Rattle.vd_core.specs.declared.source.WrittenLabel.{WrittenLabel}
use Rattle.vd_core.specs.declared.source.Host.{Host}
use Rattle.vd_core.specs.declared.source.Parameter.{Parameter}
use Rattle.vd_core.specs.declared.source.Prefix.{Prefix}
use Rattle.vd_core.specs.declared.source.Sign.{Sign}
use Rattle.vd_core.specs.declared.source.Prefix.TheVariants.{Flip, Not}
use Rattle.vd_core.specs.declared.source.Infix.{Infix}
use Rattle.vd_core.specs.declared.source.Infix.TheVariants as infix'
use Rattle.vd_core.specs.declared.source.Expr.{Expr}
use Rattle.vd_core.specs.declared.source.Expr.TheOpen.{Expr-F, Segment-F}
use Rattle.vd_core.specs.declared.source.Expr.TheFolds.{fold-Expr, fold-Segment}
use Rattle.vd_core.specs.declared.source.Segment.{Segment}
use Rattle.vd_core.specs.declared.source.Statement.{Statement}
use Rattle.vd_core.specs.declared.source.Statement.TheOpen.{Statement-F}
use Rattle.vd_core.specs.declared.source.Statement.TheFolds.{fold-Statement}
use Rattle.vd_core.specs.declared.source.Function.{Function}
use Rattle.vd_core.specs.declared.source.Source.{Source}
use Rattle.vd_resolve.specs.declared.symbol.Symbol.{Symbol}
use Rattle.vd_resolve.specs.declared.symbol.Symbol.TheVariants.{Constant, Variable, Array}
use Rattle.vd_resolve.specs.declared.symbol.Signature.{Signature}
use Rattle.vd_resolve.specs.Faults.{Fault}
use Rattle.vd_resolve.specs.Faults as fault
use Rattle.vd_base.specs.Names.{Named, at_name, is_among}

-- names that stand for nothing but themselves
abbrev pub Names : Type 0
Names = Named (Unit {0})

-- what is declared outside of blocks: principals, hosts, the functions before this place, and the names of the function
-- itself and of those after it
pub record Scope : Type 0 where
  pub principals : Names
  pub hosts : Names
  pub functions : Named Signature
  pub later : List (List ℕ)

-- the next step, where this one has no fault
abbrev pub and_then : {A B : Type 0} → Result A Fault → (A → Result B Fault) → Result B Fault
and_then (Ok a) next = next a
and_then (Err e) next = Err e

abbrev pub kind_eq : Kind → Kind → Bool
kind_eq Word Word = true
kind_eq Truth Truth = true
kind_eq Word Truth = false
kind_eq Truth Word = false

abbrev pub kinds_eq : List Kind → List Kind → Bool
kinds_eq [] [] = true
kinds_eq [] (k ∷ ks) = false
kinds_eq (k ∷ ks) [] = false
kinds_eq (j ∷ js) (k ∷ ks) = kind_eq j k && kinds_eq js ks

-- The kinds of operators. None: the operands are of wrong kinds.

abbrev pub prefix_kind : Prefix → Kind → Option Kind
prefix_kind Flip Truth = Some Truth
prefix_kind Flip Word = None
prefix_kind Not Word = Some Word
prefix_kind Not Truth = None

abbrev pub of_words : Kind → Kind → Kind → Option Kind
of_words result Word Word = Some result
of_words result Word Truth = None
of_words result Truth right = None

abbrev pub of_one_kind : Kind → Kind → Option Kind
of_one_kind left right = if kind_eq left right then Some left else None

abbrev pub infix_kind : Infix → Kind → Kind → Option Kind
infix_kind infix'.Equal left right = of_words Truth left right
infix_kind infix'.NotEqual left right = of_words Truth left right
infix_kind infix'.Less left right = of_words Truth left right
infix_kind infix'.LessEqual left right = of_words Truth left right
infix_kind infix'.Greater left right = of_words Truth left right
infix_kind infix'.GreaterEqual left right = of_words Truth left right
infix_kind infix'.Or left right = of_one_kind left right
infix_kind infix'.Xor left right = of_one_kind left right
infix_kind infix'.And left right = of_one_kind left right
infix_kind infix'.Add left right = of_words Word left right
infix_kind infix'.Sub left right = of_words Word left right
infix_kind infix'.Mul left right = of_words Word left right
infix_kind infix'.Div left right = of_words Word left right
infix_kind infix'.Rem left right = of_words Word left right

abbrev pub shift_kind : Kind → ℕ → Option Kind
shift_kind Word bits = if nat_le bits 31 then Some Word else None
shift_kind Truth bits = None

abbrev pub mux_kind : Kind → Kind → Kind → Option Kind
mux_kind Truth left right = of_one_kind left right
mux_kind Word left right = None

abbrev pub kind_or : Span → Option Kind → Result Kind Fault
kind_or at (Some kind) = Ok kind
kind_or at None = Err (fault.Kind at)

-- A name in an expression.

abbrev pub value_kind : Span → Option Symbol → Result Kind Fault
value_kind at None = Err (fault.Unknown at)
value_kind at (Some (Constant kind)) = Ok kind
value_kind at (Some (Variable kind)) = Ok kind
value_kind at (Some (Array kind)) = Err (fault.Kind at)

abbrev pub element_kind : Span → Kind → Option Symbol → Result Kind Fault
element_kind at index None = Err (fault.Unknown at)
element_kind at index (Some (Constant kind)) = Err (fault.Kind at)
element_kind at index (Some (Variable kind)) = Err (fault.Kind at)
element_kind at Word (Some (Array kind)) = Ok kind
element_kind at Truth (Some (Array kind)) = Err (fault.Kind at)

-- A call of one of the functions before this place; of the others none may be called.
abbrev pub call_kind : Span → List Kind → Bool → Option Signature → Result Kind Fault
call_kind at kinds is_later (Some signature) =
    if nat_eq (length kinds) (length signature.parameters)
    then (if kinds_eq kinds signature.parameters then Ok signature.result else Err (fault.Kind at))
    else Err (fault.Arity at)
call_kind at kinds is_later None = if is_later then Err (fault.Recursive at) else Err (fault.Unknown at)

-- a name that is to be declared
abbrev pub is_new : {A : Type 0} → Ident → Named A → Result (Unit {0}) Fault
is_new x env = if is_some (at_name env x.name) then Err (fault.Twice x.span) else Ok tt

abbrev pub declared : {A : Type 0} → Ident → A → Named A → Result (Named A) Fault
declared x a env = and_then (is_new x env) (λ fresh. Ok (env ++ (x.name, a) ∷ []))

abbrev pub known : Names → Ident → Result (Unit {0}) Fault
known names x = if is_some (at_name names x.name) then Ok tt else Err (fault.Unknown x.span)

-- The principals that a form names, in text order.

abbrev pub FormCheck : Type 0
FormCheck = Names → Result (Unit {0}) Fault

abbrev pub all_known : List FormCheck → FormCheck
all_known [] names = Ok tt
all_known (f ∷ fs) names = and_then (f names) (λ done. all_known fs names)

abbrev pub form_known : WrittenForm-F FormCheck → FormCheck
form_known WrittenForm-F.Any names = Ok tt
form_known WrittenForm-F.Never names = Ok tt
form_known (WrittenForm-F.Name x) names = known names x
form_known (WrittenForm-F.Both fs) names = all_known fs names
form_known (WrittenForm-F.Either fs) names = all_known fs names

abbrev pub form_check : WrittenForm → FormCheck
form_check = fold-WrittenForm FormCheck form_known

abbrev pub label_check : WrittenLabel → FormCheck
label_check label names = and_then (form_check label.conf names) (λ done. form_check label.integ names)

abbrev pub written_label_check : Option WrittenLabel → FormCheck
written_label_check None names = Ok tt
written_label_check (Some label) names = label_check label names

-- Expressions: the kind, or the first fault.

abbrev pub Typing : Type 0
Typing = Scope → Named Symbol → Result Kind Fault

-- of one step of a chain, by the kind so far
abbrev pub SegmentTyping : Type 0
SegmentTyping = Scope → Named Symbol → Kind → Result Kind Fault

-- after operands of these kinds, further ones
abbrev pub typings : List Kind → List Typing → Scope → Named Symbol → Result (List Kind) Fault
typings kinds [] scope env = Ok kinds
typings kinds (t ∷ ts) scope env = and_then (t scope env) (λ kind. typings (kinds ++ kind ∷ []) ts scope env)

abbrev pub chain_typing : List SegmentTyping → SegmentTyping
chain_typing [] scope env kind = Ok kind
chain_typing (l ∷ ls) scope env kind = and_then (l scope env kind) (λ next. chain_typing ls scope env next)

-- the operators before an operand, the nearest first
abbrev pub signs_typing : List Sign → Kind → Result Kind Fault
signs_typing [] kind = Ok kind
signs_typing (s ∷ ss) kind = and_then (kind_or s.span (prefix_kind s.prefix kind)) (λ next. signs_typing ss next)

abbrev pub expr_typing : Expr-F Typing SegmentTyping → Typing
expr_typing (Expr-F.Number n) scope env = Ok Word
expr_typing (Expr-F.Truth b) scope env = Ok Truth
expr_typing (Expr-F.Value x) scope env = value_kind x.span (at_name env x.name)
expr_typing (Expr-F.Element x index) scope env = and_then (index scope env) (λ kind. element_kind x.span kind (at_name env x.name))
expr_typing (Expr-F.Input host) scope env = and_then (known scope.hosts host) (λ done. Ok Word)
expr_typing (Expr-F.Call f arguments) scope env = and_then (typings [] arguments scope env) (λ kinds. call_kind f.span kinds (is_among scope.later f.name) (at_name scope.functions f.name))
expr_typing (Expr-F.Min at x y) scope env = and_then (x scope env) (λ left. and_then (y scope env) (λ right. kind_or at (of_words Word left right)))
expr_typing (Expr-F.Max at x y) scope env = and_then (x scope env) (λ left. and_then (y scope env) (λ right. kind_or at (of_words Word left right)))
expr_typing (Expr-F.Mux at c x y) scope env = and_then (c scope env) (λ test. and_then (x scope env) (λ left. and_then (y scope env) (λ right. kind_or at (mux_kind test left right))))
expr_typing (Expr-F.Declassify x to) scope env = and_then (x scope env) (λ kind. and_then (form_check to scope.principals) (λ done. Ok kind))
expr_typing (Expr-F.Endorse x to) scope env = and_then (x scope env) (λ kind. and_then (form_check to scope.principals) (λ done. Ok kind))
expr_typing (Expr-F.Unary x signs) scope env = and_then (x scope env) (λ kind. signs_typing signs kind)
expr_typing (Expr-F.Chain x segments) scope env = and_then (x scope env) (λ kind. chain_typing segments scope env kind)
expr_typing (Expr-F.Brackets x) scope env = x scope env

abbrev pub segment_typing : Segment-F Typing SegmentTyping → SegmentTyping
segment_typing (Segment-F.Infix o at right) scope env left = and_then (right scope env) (λ kind. kind_or at (infix_kind o left kind))
segment_typing (Segment-F.Shift towards at bits) scope env left = kind_or at (shift_kind left bits)

abbrev pub typing : Expr → Typing
typing = fold-Expr Typing SegmentTyping expr_typing segment_typing

abbrev pub typing_of_segment : Segment → SegmentTyping
typing_of_segment = fold-Segment Typing SegmentTyping expr_typing segment_typing

-- Statements: the values in sight after it, or the first fault.

abbrev pub Checking : Type 0
Checking = Scope → Named Symbol → Result (Named Symbol) Fault

abbrev pub is_stored : Span → Kind → Option Symbol → Result (Unit {0}) Fault
is_stored at value None = Err (fault.Unknown at)
is_stored at value (Some (Constant kind)) = Err (fault.Kind at)
is_stored at value (Some (Variable kind)) = if kind_eq value kind then Ok tt else Err (fault.Kind at)
is_stored at value (Some (Array kind)) = Err (fault.Kind at)

abbrev pub is_put : Span → Kind → Kind → Option Symbol → Result (Unit {0}) Fault
is_put at index value symbol = and_then (element_kind at index symbol) (λ kind. if kind_eq value kind then Ok tt else Err (fault.Kind at))

abbrev pub in_sequence : List Checking → Checking
in_sequence [] scope env = Ok env
in_sequence (c ∷ cs) scope env = and_then (c scope env) (λ next. in_sequence cs scope next)

-- the names of a block end with it
abbrev pub block_check : List Checking → Checking
block_check cs scope env = and_then (in_sequence cs scope env) (λ inner. Ok env)

abbrev pub is_kind : Span → Kind → Kind → Result (Unit {0}) Fault
is_kind at wanted kind = if kind_eq wanted kind then Ok tt else Err (fault.Kind at)

abbrev pub statement_check : Statement-F Checking → Checking
statement_check (Statement-F.Let at x label value) scope env =
    and_then (typing value scope env) (λ kind. and_then (declared x (Constant kind) env) (λ next. and_then (written_label_check label scope.principals) (λ done. Ok next)))
statement_check (Statement-F.Var at x kind label value) scope env =
    and_then (typing value scope env) (λ given. and_then (declared x (Variable kind) env) (λ next. and_then (is_kind x.span kind given) (λ fits. and_then (written_label_check label scope.principals) (λ done. Ok next))))
statement_check (Statement-F.Array at x kind size label) scope env =
    and_then (declared x (Array kind) env) (λ next. and_then (written_label_check label scope.principals) (λ done. Ok next))
statement_check (Statement-F.Store x value) scope env =
    and_then (typing value scope env) (λ kind. and_then (is_stored x.span kind (at_name env x.name)) (λ done. Ok env))
statement_check (Statement-F.Put x index value) scope env =
    and_then (typing index scope env) (λ i. and_then (typing value scope env) (λ kind. and_then (is_put x.span i kind (at_name env x.name)) (λ done. Ok env)))
statement_check (Statement-F.Output at value host) scope env =
    and_then (typing value scope env) (λ kind. and_then (known scope.hosts host) (λ done. Ok env))
statement_check (Statement-F.If at guard then_block else_block) scope env =
    and_then (typing guard scope env) (λ kind. and_then (is_kind at Truth kind) (λ fits.
    and_then (block_check then_block scope env) (λ after. block_check else_block scope after)))
statement_check (Statement-F.For at x count body) scope env =
    and_then (declared x (Constant Word) env) (λ inner. and_then (block_check body scope inner) (λ left. Ok env))

abbrev pub checking : Statement → Checking
checking = fold-Statement Checking statement_check

-- Declarations, each with those before it.

-- names that are declared one after another
abbrev pub distinct : Names → List Ident → Result Names Fault
distinct before [] = Ok before
distinct before (x ∷ xs) = and_then (declared x tt before) (λ next. distinct next xs)

abbrev pub hosts_check : Names → Names → List Host → Result Names Fault
hosts_check principals before [] = Ok before
hosts_check principals before (h ∷ hs) =
    and_then (declared h.name tt before) (λ next. and_then (label_check h.label principals) (λ done. hosts_check principals next hs))

abbrev pub parameters_check : Named Symbol → List Parameter → Result (Named Symbol) Fault
parameters_check env [] = Ok env
parameters_check env (p ∷ ps) = and_then (declared p.name (Constant p.kind) env) (λ next. parameters_check next ps)

abbrev pub signature_of : Function → Signature
signature_of f = record { parameters = map (λ p. p.kind) f.parameters; result = f.kind }

abbrev pub function_names : List Function → List (List ℕ)
function_names fs = map (λ f. f.name.name) fs

abbrev pub function_check : Scope → Function → Result (Unit {0}) Fault
function_check scope f =
    and_then (parameters_check [] f.parameters) (λ env. and_then (in_sequence (map checking f.body) scope env) (λ inner.
    and_then (typing f.gives scope inner) (λ kind. is_kind f.at_return f.kind kind)))

-- the functions in order; it gives all of them
abbrev pub functions_check : Names → Names → Named Signature → List Function → Result (Named Signature) Fault
functions_check principals hosts before [] = Ok before
functions_check principals hosts before (f ∷ fs) =
    and_then (is_new f.name before) (λ fresh.
    and_then (function_check (record { principals = principals; hosts = hosts; functions = before; later = function_names (f ∷ fs) }) f) (λ done.
    functions_check principals hosts (before ++ (f.name.name, signature_of f) ∷ []) fs))

-- the functions and then main
abbrev pub bodies_check : Names → Names → List Function → List Statement → Result (Unit {0}) Fault
bodies_check principals hosts fs main =
    and_then (functions_check principals hosts [] fs) (λ functions.
    and_then (block_check (map checking main) (record { principals = principals; hosts = hosts; functions = functions; later = [] }) []) (λ left. Ok tt))

-- the first fault of a source on names and kinds
abbrev pub source_check : Source → Result (Unit {0}) Fault
source_check source =
    and_then (distinct [] source.principals) (λ principals.
    and_then (hosts_check principals [] source.hosts) (λ hosts. bodies_check principals hosts source.functions source.main))
