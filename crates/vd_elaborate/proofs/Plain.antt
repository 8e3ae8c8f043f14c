-- Every source passes tests that are always true.
use Rattle.std.proofs.Common.{◌≡◌, Bool, true, List, [], ◌∷◌, map, Option, Some, None, refl, sym, subst, ℕ}
use Rattle.vd_core.specs.declared.source.Segment.{Segment}
use Rattle.vd_core.specs.declared.source.Expr.{Expr, roll-Expr}
use Rattle.vd_core.specs.declared.source.Expr.TheOpen.{Expr-F, Segment-F}
use Rattle.vd_core.specs.declared.source.Expr.TheFolds.{map-Expr, map-Segment, ind-Expr, ind-Segment, fold-roll-Expr, fold-roll-Segment}
use Rattle.vd_core.specs.declared.source.Expr.TheViews.{roll-Segment}
use Rattle.vd_core.specs.declared.source.WrittenLabel.{WrittenLabel}
use Rattle.vd_core.specs.declared.source.Statement.{Statement, roll-Statement, map-Statement, ind-Statement}
use Rattle.vd_core.specs.declared.source.Statement.TheOpen.{Statement-F}
use Rattle.vd_core.specs.declared.source.Statement.TheFolds.{fold-roll-Statement}
use Rattle.vd_core.specs.declared.source.Function.{Function}
use Rattle.vd_core.specs.declared.source.Source.{Source}
use Rattle.vd_semantics.specs.SourceMeaning.{host_names}
use Rattle.vd_elaborate.proofs.Tests.{Tests, all_true, label_passes, expr_passes, segment_passes, passes, passes_segment, statement_passes, passes_statement, functions_pass}
use Rattle.vd_elaborate.proofs.AnfWellformedWalk.{source_passes}

abbrev pub always : Tests
always = record { host = λ h. true; form = λ f. true; shift = λ n. true }

label_always : (l : Option WrittenLabel) → label_passes always l ≡ true
label_always None = refl
label_always (Some l) = refl

module _ (hosts : List (List ℕ)) where
  abbrev E : Type 0
  E = (e : Expr) × (passes hosts always e ≡ true)

  abbrev L : Type 0
  L = (l : Segment) × (passes_segment hosts always l ≡ true)

  exprs : (es : List E) → all_true (map (passes hosts always) (map (λ (e : E). e.0) es)) ≡ true
  exprs [] = refl
  exprs (e ∷ es) = rw (e.1, exprs es) refl

  segments : (ls : List L) → all_true (map (passes_segment hosts always) (map (λ (l : L). l.0) ls)) ≡ true
  segments [] = refl
  segments (l ∷ ls) = rw (l.1, segments ls) refl

  abbrev expr_layer : Expr-F E L → Expr-F Expr Segment
  expr_layer = map-Expr E L Expr Segment (λ e. e.0) (λ l. l.0)

  abbrev segment_layer : Segment-F E L → Segment-F Expr Segment
  segment_layer = map-Segment E L Expr Segment (λ e. e.0) (λ l. l.0)

  step : (y : Expr-F E L) → expr_passes hosts always (map-Expr Expr Segment Bool Bool (passes hosts always) (passes_segment hosts always) (expr_layer y)) ≡ true
  step (Expr-F.Number n) = refl
  step (Expr-F.Truth b) = refl
  step (Expr-F.Value x) = refl
  step (Expr-F.Element x index) = index.1
  step (Expr-F.Input host) = refl
  step (Expr-F.Call f arguments) = exprs arguments
  step (Expr-F.Min at x y) = rw (x.1, y.1) refl
  step (Expr-F.Max at x y) = rw (x.1, y.1) refl
  step (Expr-F.Mux at x y z) = rw (x.1, y.1, z.1) refl
  step (Expr-F.Declassify x to) = rw x.1 refl
  step (Expr-F.Endorse x to) = rw x.1 refl
  step (Expr-F.Unary x signs) = x.1
  step (Expr-F.Chain x ls) = rw (x.1, segments ls) refl
  step (Expr-F.Brackets x) = x.1

  segment_step : (y : Segment-F E L) → segment_passes always (map-Segment Expr Segment Bool Bool (passes hosts always) (passes_segment hosts always) (segment_layer y)) ≡ true
  segment_step (Segment-F.Infix o at r) = r.1
  segment_step (Segment-F.Shift towards at bits) = refl

  at_roll : (y : Expr-F E L) → passes hosts always (roll-Expr (expr_layer y)) ≡ true
  at_roll y = subst (λ (b : Bool). b ≡ true) (sym (fold-roll-Expr Bool Bool (expr_passes hosts always) (segment_passes always) (expr_layer y))) (step y)

  at_segment_roll : (y : Segment-F E L) → passes_segment hosts always (roll-Segment (segment_layer y)) ≡ true
  at_segment_roll y = subst (λ (b : Bool). b ≡ true) (sym (fold-roll-Segment Bool Bool (expr_passes hosts always) (segment_passes always) (segment_layer y))) (segment_step y)

  pub expr_always : (e : Expr) → passes hosts always e ≡ true
  expr_always = ind-Expr (λ e. passes hosts always e ≡ true) (λ l. passes_segment hosts always l ≡ true)
      (λ x y is. subst (λ z. passes hosts always (roll-Expr z) ≡ true) is (at_roll y))
      (λ x y is. subst (λ z. passes_segment hosts always (roll-Segment z) ≡ true) is (at_segment_roll y))

  pub segment_always : (l : Segment) → passes_segment hosts always l ≡ true
  segment_always = ind-Segment (λ e. passes hosts always e ≡ true) (λ l. passes_segment hosts always l ≡ true)
      (λ x y is. subst (λ z. passes hosts always (roll-Expr z) ≡ true) is (at_roll y))
      (λ x y is. subst (λ z. passes_segment hosts always (roll-Segment z) ≡ true) is (at_segment_roll y))

  abbrev M : Type 0
  M = (s : Statement) × (passes_statement hosts always s ≡ true)

  statements : (ms : List M) → all_true (map (passes_statement hosts always) (map (λ (m : M). m.0) ms)) ≡ true
  statements [] = refl
  statements (m ∷ ms) = rw (m.1, statements ms) refl

  abbrev layer : Statement-F M → Statement-F Statement
  layer = map-Statement M Statement (λ m. m.0)

  statement_step : (y : Statement-F M) → statement_passes hosts always (map-Statement Statement Bool (passes_statement hosts always) (layer y)) ≡ true
  statement_step (Statement-F.Let at x label e) = rw (expr_always e, label_always label) refl
  statement_step (Statement-F.Var at x kind label e) = rw (expr_always e, label_always label) refl
  statement_step (Statement-F.Array at x kind size label) = label_always label
  statement_step (Statement-F.Store x e) = expr_always e
  statement_step (Statement-F.Put x i e) = rw (expr_always i, expr_always e) refl
  statement_step (Statement-F.Output at e host) = rw (expr_always e) refl
  statement_step (Statement-F.If at c a b) = rw (expr_always c, statements a, statements b) refl
  statement_step (Statement-F.For at x count body) = statements body

  pub statement_always : (s : Statement) → passes_statement hosts always s ≡ true
  statement_always = ind-Statement (λ s. passes_statement hosts always s ≡ true)
      (λ x y is. subst (λ z. passes_statement hosts always (roll-Statement z) ≡ true) is
      (subst (λ (b : Bool). b ≡ true) (sym (fold-roll-Statement Bool (statement_passes hosts always) (layer y))) (statement_step y)))

  body_always : (ss : List Statement) → all_true (map (passes_statement hosts always) ss) ≡ true
  body_always [] = refl
  body_always (s ∷ ss) = rw (statement_always s, body_always ss) refl

  pub functions_always : (fs : List Function) → functions_pass hosts always fs ≡ true
  functions_always [] = refl
  functions_always (f ∷ fs) = rw (body_always f.body, expr_always f.gives, functions_always fs) refl

pub source_always : (source : Source) → source_passes always source ≡ true
source_always source = rw (functions_always (host_names source.hosts) source.functions, body_always (host_names source.hosts) source.main) refl
