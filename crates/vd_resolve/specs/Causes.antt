-- What a fault carries. The walk of the rules through the text, with what meets at each place at which it may stop, and with the place at
-- which each name in sight was declared. The rules alone say where it stops.
use Rattle.std.specs.Prelude.{ℕ, ◌+◌, if◌then◌else◌, List, [], ◌∷◌, ◌++◌, map, length, Option, Some, None, Result, Ok, Err}
use Rattle.vd_base.specs.Names.{Named, at_name, is_among}
use Rattle.vd_base.specs.declared.ids.Span.{Span}
use Rattle.vd_base.specs.declared.operations.Kind.{Kind}
use Rattle.vd_base.specs.declared.operations.Kind.TheVariants.{Word, Bool as Truth}
use Rattle.vd_core.specs.declared.source.Expr.{Expr}
use Rattle.vd_core.specs.declared.source.Expr.TheOpen.{Expr-F, Segment-F}
use Rattle.vd_core.specs.declared.source.Expr.TheFolds.{fold-Expr, fold-Segment}
use Rattle.vd_core.specs.declared.source.Function.{Function}
use Rattle.vd_core.specs.declared.source.Host.{Host}
use Rattle.vd_core.specs.declared.source.Ident.{Ident}
use Rattle.vd_core.specs.declared.source.Segment.{Segment}
use Rattle.vd_core.specs.declared.source.Parameter.{Parameter}
use Rattle.vd_core.specs.declared.source.Sign.{Sign}
use Rattle.vd_core.specs.declared.source.Source.{Source}
use Rattle.vd_core.specs.declared.source.Statement.{Statement}
use Rattle.vd_core.specs.declared.source.Statement.TheOpen.{Statement-F}
use Rattle.vd_core.specs.declared.source.Statement.TheFolds.{fold-Statement}
use Rattle.vd_resolve.specs.Faults.{Fault, Cause, Kinds, First, Nothing}
use Rattle.vd_resolve.specs.Faults as fault
use Rattle.vd_resolve.specs.Limits.{limits_check}
use Rattle.vd_resolve.specs.Rules.{Names, Scope, kind_eq, prefix_kind, infix_kind, of_words, shift_kind, mux_kind, kind_or, value_kind, element_kind, call_kind, is_new, declared, known, form_check, label_check, written_label_check, is_stored, is_kind, signature_of, function_names}
use Rattle.vd_resolve.specs.Sizes.{source_size}
use Rattle.vd_resolve.specs.Tables.{Table, names, places}
use Rattle.vd_resolve.specs.declared.met.Met.{Met}
use Rattle.vd_resolve.specs.declared.met.Met.TheVariants as met
use Rattle.vd_resolve.specs.declared.symbol.Signature.{Signature}
use Rattle.vd_resolve.specs.declared.symbol.Symbol.{Symbol}
use Rattle.vd_resolve.specs.declared.symbol.Symbol.TheVariants.{Constant, Variable, Array}

-- the next step, where this one does not stop
abbrev pub go_on : {A B : Type 0} → Result A Cause → (A → Result B Cause) → Result B Cause
go_on (Ok a) next = next a
go_on (Err cause) next = Err cause

-- what a fault carries where this meets: only faults of kinds and of names that are twice carry something
abbrev pub carrying : Cause → Fault → Cause
carrying meets (fault.Twice at) = meets
carrying meets (fault.Kind at) = meets
carrying meets other = Nothing

-- a rule, where this meets
abbrev pub where_meet : {A : Type 0} → Cause → Result A Fault → Result A Cause
where_meet meets (Ok a) = Ok a
where_meet meets (Err f) = Err (carrying meets f)

-- a rule whose faults carry nothing
abbrev pub plain : {A : Type 0} → Result A Fault → Result A Cause
plain (Ok a) = Ok a
plain (Err f) = Err Nothing

-- ---- what meets

abbrev pub index_met : Option Symbol → Met
index_met (Some (Array kind)) = met.BoolIndex
index_met other = met.NoArray

abbrev pub store_met : Kind → Option Symbol → Met
store_met value (Some (Variable kind)) = met.Value value
store_met value other = met.NoVariable

-- the first argument of another kind than its parameter; so many stand before these
abbrev pub argument_met : ℕ → List Kind → List Kind → Option Met
argument_met before [] ps = None
argument_met before (k ∷ ks) [] = None
argument_met before (k ∷ ks) (p ∷ ps) = if kind_eq k p then argument_met (before + 1) ks ps else Some (met.Argument (before + 1) k)

abbrev pub if_met : Option Met → Cause
if_met None = Nothing
if_met (Some m) = Kinds m

abbrev pub call_met : List Kind → Option Signature → Cause
call_met kinds None = Nothing
call_met kinds (Some signature) = if_met (argument_met 0 kinds signature.parameters)

-- where the name was declared first
abbrev pub first : Option Span → Cause
first None = Nothing
first (Some at) = First at

abbrev pub new_met : {A : Type 0} → Ident → Table A → Cause
new_met x table = first (at_name (places table) x.name)

-- a new name, at its place
abbrev pub declared_once : {A : Type 0} → Ident → A → Table A → Result (Table A) Cause
declared_once x a table = go_on (where_meet (new_met x table) (declared x a (names table))) (λ next. Ok (next, places table ++ (x.name, x.span) ∷ []))

-- ---- expressions

abbrev pub Telling : Type 0
Telling = Scope → Named Symbol → Result Kind Cause

-- of one step of a chain, by the kind so far
abbrev pub SegmentTelling : Type 0
SegmentTelling = Scope → Named Symbol → Kind → Result Kind Cause

-- after operands of these kinds, further ones
abbrev pub tellings : List Kind → List Telling → Scope → Named Symbol → Result (List Kind) Cause
tellings kinds [] scope env = Ok kinds
tellings kinds (t ∷ ts) scope env = go_on (t scope env) (λ kind. tellings (kinds ++ kind ∷ []) ts scope env)

abbrev pub chain_telling : List SegmentTelling → SegmentTelling
chain_telling [] scope env kind = Ok kind
chain_telling (l ∷ ls) scope env kind = go_on (l scope env kind) (λ next. chain_telling ls scope env next)

abbrev pub signs_telling : List Sign → Kind → Result Kind Cause
signs_telling [] kind = Ok kind
signs_telling (s ∷ ss) kind = go_on (where_meet (Kinds (met.Behind kind)) (kind_or s.span (prefix_kind s.prefix kind))) (λ next. signs_telling ss next)

abbrev pub expr_telling : Expr-F Telling SegmentTelling → Telling
expr_telling (Expr-F.Number n) scope env = Ok Word
expr_telling (Expr-F.Truth b) scope env = Ok Truth
expr_telling (Expr-F.Value x) scope env = where_meet (Kinds met.WholeArray) (value_kind x.span (at_name env x.name))
expr_telling (Expr-F.Element x index) scope env = go_on (index scope env) (λ kind. where_meet (Kinds (index_met (at_name env x.name))) (element_kind x.span kind (at_name env x.name)))
expr_telling (Expr-F.Input host) scope env = go_on (plain (known scope.hosts host)) (λ done. Ok Word)
expr_telling (Expr-F.Call f arguments) scope env = go_on (tellings [] arguments scope env) (λ kinds.
    where_meet (call_met kinds (at_name scope.functions f.name)) (call_kind f.span kinds (is_among scope.later f.name) (at_name scope.functions f.name)))
expr_telling (Expr-F.Min at x y) scope env = go_on (x scope env) (λ left. go_on (y scope env) (λ right. where_meet (Kinds (met.Given left right)) (kind_or at (of_words Word left right))))
expr_telling (Expr-F.Max at x y) scope env = go_on (x scope env) (λ left. go_on (y scope env) (λ right. where_meet (Kinds (met.Given left right)) (kind_or at (of_words Word left right))))
expr_telling (Expr-F.Mux at c x y) scope env =
    go_on (c scope env) (λ test. go_on (x scope env) (λ left. go_on (y scope env) (λ right. where_meet (Kinds (met.Chosen test left right)) (kind_or at (mux_kind test left right)))))
expr_telling (Expr-F.Declassify x to) scope env = go_on (x scope env) (λ kind. go_on (plain (form_check to scope.principals)) (λ done. Ok kind))
expr_telling (Expr-F.Endorse x to) scope env = go_on (x scope env) (λ kind. go_on (plain (form_check to scope.principals)) (λ done. Ok kind))
expr_telling (Expr-F.Unary x signs) scope env = go_on (x scope env) (λ kind. signs_telling signs kind)
expr_telling (Expr-F.Chain x segments) scope env = go_on (x scope env) (λ kind. chain_telling segments scope env kind)
expr_telling (Expr-F.Brackets x) scope env = x scope env

abbrev pub segment_telling : Segment-F Telling SegmentTelling → SegmentTelling
segment_telling (Segment-F.Infix o at right) scope env left = go_on (right scope env) (λ kind. where_meet (Kinds (met.Sides left kind)) (kind_or at (infix_kind o left kind)))
segment_telling (Segment-F.Shift towards at bits) scope env left = where_meet (Kinds (met.Shifted left bits)) (kind_or at (shift_kind left bits))

abbrev pub telling : Expr → Telling
telling = fold-Expr Telling SegmentTelling expr_telling segment_telling

abbrev pub telling_of_segment : Segment → SegmentTelling
telling_of_segment = fold-Segment Telling SegmentTelling expr_telling segment_telling

-- ---- statements: the values in sight after them

abbrev pub Passing : Type 0
Passing = Scope → Table Symbol → Result (Table Symbol) Cause

abbrev pub put_telling : Span → Kind → Kind → Option Symbol → Result (Unit {0}) Cause
put_telling at index value symbol = go_on (where_meet (Kinds (index_met symbol)) (element_kind at index symbol)) (λ kind. where_meet (Kinds (met.Value value)) (is_kind at value kind))

abbrev pub in_order : List Passing → Passing
in_order [] scope table = Ok table
in_order (p ∷ ps) scope table = go_on (p scope table) (λ next. in_order ps scope next)

-- the names of a block end with it
abbrev pub block_passing : List Passing → Passing
block_passing ps scope table = go_on (in_order ps scope table) (λ inner. Ok table)

abbrev pub statement_passing : Statement-F Passing → Passing
statement_passing (Statement-F.Let at x label value) scope table =
    go_on (telling value scope (names table)) (λ kind. go_on (declared_once x (Constant kind) table) (λ next. go_on (plain (written_label_check label scope.principals)) (λ done. Ok next)))
statement_passing (Statement-F.Var at x kind label value) scope table =
    go_on (telling value scope (names table)) (λ given. go_on (declared_once x (Variable kind) table) (λ next. go_on (where_meet (Kinds (met.Value given)) (is_kind x.span kind given)) (λ fit. go_on (plain (written_label_check label scope.principals)) (λ done. Ok next))))
statement_passing (Statement-F.Array at x kind size label) scope table =
    go_on (declared_once x (Array kind) table) (λ next. go_on (plain (written_label_check label scope.principals)) (λ done. Ok next))
statement_passing (Statement-F.Store x value) scope table =
    go_on (telling value scope (names table)) (λ kind. go_on (where_meet (Kinds (store_met kind (at_name (names table) x.name))) (is_stored x.span kind (at_name (names table) x.name))) (λ done. Ok table))
statement_passing (Statement-F.Put x index value) scope table =
    go_on (telling index scope (names table)) (λ i. go_on (telling value scope (names table)) (λ kind. go_on (put_telling x.span i kind (at_name (names table) x.name)) (λ done. Ok table)))
statement_passing (Statement-F.Output at value host) scope table =
    go_on (telling value scope (names table)) (λ kind. go_on (plain (known scope.hosts host)) (λ done. Ok table))
statement_passing (Statement-F.If at guard then_block else_block) scope table =
    go_on (telling guard scope (names table)) (λ kind. go_on (where_meet (Kinds (met.Guard kind)) (is_kind at Truth kind)) (λ fit.
    go_on (block_passing then_block scope table) (λ after. block_passing else_block scope after)))
statement_passing (Statement-F.For at x count body) scope table =
    go_on (declared_once x (Constant Word) table) (λ inner. go_on (block_passing body scope inner) (λ left. Ok table))

abbrev pub passing : Statement → Passing
passing = fold-Statement Passing statement_passing

-- ---- declarations, each with those before it

abbrev pub distinct_told : Table (Unit {0}) → List Ident → Result (Table (Unit {0})) Cause
distinct_told before [] = Ok before
distinct_told before (x ∷ xs) = go_on (declared_once x tt before) (λ next. distinct_told next xs)

abbrev pub hosts_told : Names → Table (Unit {0}) → List Host → Result (Table (Unit {0})) Cause
hosts_told principals before [] = Ok before
hosts_told principals before (h ∷ hs) =
    go_on (declared_once h.name tt before) (λ next. go_on (plain (label_check h.label principals)) (λ done. hosts_told principals next hs))

abbrev pub parameters_told : Table Symbol → List Parameter → Result (Table Symbol) Cause
parameters_told table [] = Ok table
parameters_told table (p ∷ ps) = go_on (declared_once p.name (Constant p.kind) table) (λ next. parameters_told next ps)

abbrev pub function_told : Scope → Function → Result (Unit {0}) Cause
function_told scope f =
    go_on (parameters_told ([], []) f.parameters) (λ table. go_on (in_order (map passing f.body) scope table) (λ inner.
    go_on (telling f.gives scope (names inner)) (λ kind. where_meet (Kinds (met.Returned kind)) (is_kind f.at_return f.kind kind))))

abbrev pub functions_told : Names → Names → Table Signature → List Function → Result (Table Signature) Cause
functions_told principals hosts before [] = Ok before
functions_told principals hosts before (f ∷ fs) =
    go_on (where_meet (new_met f.name before) (is_new f.name (names before))) (λ fresh.
    go_on (function_told (record { principals = principals; hosts = hosts; functions = names before; later = function_names (f ∷ fs) }) f) (λ done.
    functions_told principals hosts (names before ++ (f.name.name, signature_of f) ∷ [], places before ++ (f.name.name, f.name.span) ∷ []) fs))

abbrev pub bodies_told : Names → Names → List Function → List Statement → Result (Unit {0}) Cause
bodies_told principals hosts fs main =
    go_on (functions_told principals hosts ([], []) fs) (λ functions.
    go_on (block_passing (map passing main) (record { principals = principals; hosts = hosts; functions = names functions; later = [] }) ([], [])) (λ left. Ok tt))

abbrev pub source_told : Source → Result (Unit {0}) Cause
source_told source =
    go_on (distinct_told ([], []) source.principals) (λ principals.
    go_on (hosts_told (names principals) ([], []) source.hosts) (λ hosts. bodies_told (names principals) (names hosts) source.functions source.main))

-- what the first fault of a source carries
abbrev pub resolution_told : Source → Result (Unit {0}) Cause
resolution_told source = go_on (source_told source) (λ done. plain (limits_check (length source.principals) (length source.hosts) (source_size source)))
