-- Tests of what a source says itself: the hosts and forms that it names, and its shifts.
use Rattle.std.proofs.Common.{ℕ, Bool, true, ◌&&◌, List, [], ◌∷◌, map, Option, Some, None}
use Rattle.std.specs.List.{list_all}
use Rattle.vd_base.specs.declared.form.Form.{Form}
use Rattle.vd_base.specs.Names.{place_of}
use Rattle.vd_core.specs.declared.source.Expr.{Expr}
use Rattle.vd_core.specs.declared.source.Expr.TheOpen.{Expr-F, Segment-F}
use Rattle.vd_core.specs.declared.source.Expr.TheFolds.{fold-Expr, fold-Segment}
use Rattle.vd_core.specs.declared.source.Segment.{Segment}
use Rattle.vd_core.specs.declared.source.Statement.{Statement}
use Rattle.vd_core.specs.declared.source.Statement.TheOpen.{Statement-F}
use Rattle.vd_core.specs.declared.source.Statement.TheFolds.{fold-Statement}
use Rattle.vd_core.specs.declared.source.Function.{Function}
use Rattle.vd_core.specs.declared.source.WrittenLabel.{WrittenLabel}
use Rattle.vd_elaborate.specs.Normal.{form_of}

-- of the place of a host, of a form, and of the amount of a shift
pub record Tests : Type 0 where
  pub host : ℕ → Bool
  pub form : Form → Bool
  pub shift : ℕ → Bool

abbrev pub all_true : List Bool → Bool
all_true = list_all (λ b. b)

abbrev pub label_passes : Tests → Option WrittenLabel → Bool
label_passes tests None = true
label_passes tests (Some l) = tests.form (form_of l.conf) && tests.form (form_of l.integ)

abbrev pub expr_passes : List (List ℕ) → Tests → Expr-F Bool Bool → Bool
expr_passes hosts tests (Expr-F.Number n) = true
expr_passes hosts tests (Expr-F.Truth b) = true
expr_passes hosts tests (Expr-F.Value x) = true
expr_passes hosts tests (Expr-F.Element x index) = index
expr_passes hosts tests (Expr-F.Input host) = tests.host (place_of hosts host.name)
expr_passes hosts tests (Expr-F.Call f arguments) = all_true arguments
expr_passes hosts tests (Expr-F.Min at x y) = x && y
expr_passes hosts tests (Expr-F.Max at x y) = x && y
expr_passes hosts tests (Expr-F.Mux at x y z) = x && (y && z)
expr_passes hosts tests (Expr-F.Declassify x to) = x && tests.form (form_of to)
expr_passes hosts tests (Expr-F.Endorse x to) = x && tests.form (form_of to)
expr_passes hosts tests (Expr-F.Unary x signs) = x
expr_passes hosts tests (Expr-F.Chain x segments) = x && all_true segments
expr_passes hosts tests (Expr-F.Brackets x) = x

abbrev pub segment_passes : Tests → Segment-F Bool Bool → Bool
segment_passes tests (Segment-F.Infix o at right) = right
segment_passes tests (Segment-F.Shift towards at bits) = tests.shift bits

abbrev pub passes : List (List ℕ) → Tests → Expr → Bool
passes hosts tests = fold-Expr Bool Bool (expr_passes hosts tests) (segment_passes tests)

abbrev pub passes_segment : List (List ℕ) → Tests → Segment → Bool
passes_segment hosts tests = fold-Segment Bool Bool (expr_passes hosts tests) (segment_passes tests)

abbrev pub statement_passes : List (List ℕ) → Tests → Statement-F Bool → Bool
statement_passes hosts tests (Statement-F.Let at x label value) = passes hosts tests value && label_passes tests label
statement_passes hosts tests (Statement-F.Var at x kind label value) = passes hosts tests value && label_passes tests label
statement_passes hosts tests (Statement-F.Array at x kind size label) = label_passes tests label
statement_passes hosts tests (Statement-F.Store x value) = passes hosts tests value
statement_passes hosts tests (Statement-F.Put x index value) = passes hosts tests index && passes hosts tests value
statement_passes hosts tests (Statement-F.Output at value host) = passes hosts tests value && tests.host (place_of hosts host.name)
statement_passes hosts tests (Statement-F.If at guard then_block else_block) = passes hosts tests guard && (all_true then_block && all_true else_block)
statement_passes hosts tests (Statement-F.For at x count body) = all_true body

abbrev pub passes_statement : List (List ℕ) → Tests → Statement → Bool
passes_statement hosts tests = fold-Statement Bool (statement_passes hosts tests)

abbrev pub passes_function : List (List ℕ) → Tests → Function → Bool
passes_function hosts tests f = all_true (map (passes_statement hosts tests) f.body) && passes hosts tests f.gives

abbrev pub functions_pass : List (List ℕ) → Tests → List Function → Bool
functions_pass hosts tests [] = true
functions_pass hosts tests (f ∷ fs) = passes_function hosts tests f && functions_pass hosts tests fs
