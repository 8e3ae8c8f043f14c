-- How many calls of functions are inlined in the let-normal form of a source: those in main and, for each of them, those
-- in the body that takes its place.
use Rattle.std.specs.Prelude.{ℕ, ◌+◌, List, [], ◌∷◌, map, Option, Some, None}
use Rattle.vd_base.specs.Names.{Named, at_name}
use Rattle.vd_core.specs.declared.source.Expr.{Expr}
use Rattle.vd_core.specs.declared.source.Expr.TheOpen.{Expr-F, Segment-F}
use Rattle.vd_core.specs.declared.source.Expr.TheFolds.{fold-Expr, fold-Segment}
use Rattle.vd_core.specs.declared.source.Segment.{Segment}
use Rattle.vd_core.specs.declared.source.Statement.{Statement}
use Rattle.vd_core.specs.declared.source.Statement.TheOpen.{Statement-F}
use Rattle.vd_core.specs.declared.source.Statement.TheFolds.{fold-Statement}
use Rattle.vd_core.specs.declared.source.Function.{Function}
use Rattle.vd_core.specs.declared.source.Source.{Source}
use Rattle.vd_core.specs.Facts.{statement_count}
use Rattle.vd_semantics.specs.Functions.{in_text_order}
use Rattle.vd_elaborate.specs.Normal.{normal_form}

-- by how many are inlined in the body of each function
abbrev pub Calls : Type 0
Calls = Named ℕ → ℕ

abbrev pub total : List Calls → Calls
total [] inside = 0
total (c ∷ cs) inside = c inside + total cs inside

-- a call, with those in the body that takes its place
abbrev pub with_call : Option ℕ → ℕ
with_call None = 0
with_call (Some inside) = inside + 1

abbrev pub expr_calls : Expr-F Calls Calls → Calls
expr_calls (Expr-F.Number n) inside = 0
expr_calls (Expr-F.Truth b) inside = 0
expr_calls (Expr-F.Value x) inside = 0
expr_calls (Expr-F.Element x index) inside = index inside
expr_calls (Expr-F.Input host) inside = 0
expr_calls (Expr-F.Call f arguments) inside = total arguments inside + with_call (at_name inside f.name)
expr_calls (Expr-F.Min at x y) inside = x inside + y inside
expr_calls (Expr-F.Max at x y) inside = x inside + y inside
expr_calls (Expr-F.Mux at c x y) inside = c inside + x inside + y inside
expr_calls (Expr-F.Declassify x to) inside = x inside
expr_calls (Expr-F.Endorse x to) inside = x inside
expr_calls (Expr-F.Unary x signs) inside = x inside
expr_calls (Expr-F.Chain x segments) inside = x inside + total segments inside
expr_calls (Expr-F.Brackets x) inside = x inside

abbrev pub segment_calls : Segment-F Calls Calls → Calls
segment_calls (Segment-F.Infix o at right) inside = right inside
segment_calls (Segment-F.Shift towards at bits) inside = 0

abbrev pub calls : Expr → Calls
calls = fold-Expr Calls Calls expr_calls segment_calls

abbrev pub calls_of_segment : Segment → Calls
calls_of_segment = fold-Segment Calls Calls expr_calls segment_calls

abbrev pub statement_calls : Statement-F Calls → Calls
statement_calls (Statement-F.Let at x label value) inside = calls value inside
statement_calls (Statement-F.Var at x kind label value) inside = calls value inside
statement_calls (Statement-F.Array at x kind length label) inside = 0
statement_calls (Statement-F.Store x value) inside = calls value inside
statement_calls (Statement-F.Put x index value) inside = calls index inside + calls value inside
statement_calls (Statement-F.Output at value host) inside = calls value inside
statement_calls (Statement-F.If at guard then_block else_block) inside = calls guard inside + total then_block inside + total else_block inside
statement_calls (Statement-F.For at x count body) inside = total body inside

abbrev pub calls_of : Statement → Calls
calls_of = fold-Statement Calls statement_calls

abbrev pub function_calls : Function → Calls
function_calls f inside = total (map calls_of f.body) inside + calls f.gives inside

abbrev pub inlined_calls : Source → ℕ
inlined_calls source = total (map calls_of source.main) (in_text_order function_calls [] source.functions)

-- the statements of the let-normal form of a source, with one more for each inlined call
abbrev pub counted_statements : Source → ℕ
counted_statements source = statement_count (normal_form source).body + inlined_calls source
