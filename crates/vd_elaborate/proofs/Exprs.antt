-- Each expression, once it is made, gives what it gives in the source.
use Rattle.std.proofs.Common.{ℕ, List, [], ◌∷◌, map, subst, subst₂, sym}
use Rattle.vd_core.specs.declared.source.Segment.{Segment}
use Rattle.vd_core.specs.declared.source.Expr.{Expr, roll-Expr}
use Rattle.vd_core.specs.declared.source.Expr.TheOpen.{Expr-F, Segment-F}
use Rattle.vd_core.specs.declared.source.Expr.TheFolds.{map-Expr, map-Segment, ind-Expr, fold-roll-Expr, fold-roll-Segment}
use Rattle.vd_core.specs.declared.source.Expr.TheViews.{roll-Segment}
use Rattle.vd_semantics.specs.SourceMeaning.{Evaluation, SegmentEvaluation, expr_evaluation, segment_evaluation, evaluation, evaluation_of_segment}
use Rattle.vd_elaborate.specs.Normal.{Lowering, SegmentLowering, expr_lowering, segment_lowering, lowering, lowering_of_segment}
use Rattle.vd_elaborate.proofs.Gives.{Means, SegmentMeans, Both, number_means, truth_means, value_means, element_means, input_means, call_means, min_means, max_means, mux_means, declassify_means, endorse_means, unary_means, chain_means, brackets_means, infix_means, shift_means}

module _ (hosts : List (List ℕ)) where
  abbrev ExprMeans : Expr → Type 0
  ExprMeans e = Means (evaluation hosts e) (lowering hosts e)

  abbrev StepMeans : Segment → Type 0
  StepMeans l = SegmentMeans (evaluation_of_segment hosts l) (lowering_of_segment hosts l)

  abbrev E : Type 0
  E = (e : Expr) × ExprMeans e

  abbrev L : Type 0
  L = (l : Segment) × StepMeans l

  exprs : (es : List E) → Both Means (map (evaluation hosts) (map (λ (e : E). e.0) es)) (map (lowering hosts) (map (λ (e : E). e.0) es))
  exprs [] = tt
  exprs (e ∷ es) = (e.1, exprs es)

  segments : (ls : List L) → Both SegmentMeans (map (evaluation_of_segment hosts) (map (λ (l : L). l.0) ls)) (map (lowering_of_segment hosts) (map (λ (l : L). l.0) ls))
  segments [] = tt
  segments (l ∷ ls) = (l.1, segments ls)

  abbrev expr_layer : Expr-F E L → Expr-F Expr Segment
  expr_layer = map-Expr E L Expr Segment (λ e. e.0) (λ l. l.0)

  abbrev segment_layer : Segment-F E L → Segment-F Expr Segment
  segment_layer = map-Segment E L Expr Segment (λ e. e.0) (λ l. l.0)

  step : (y : Expr-F E L) → Means (expr_evaluation hosts (map-Expr Expr Segment Evaluation SegmentEvaluation (evaluation hosts) (evaluation_of_segment hosts) (expr_layer y)))
      (expr_lowering hosts (map-Expr Expr Segment Lowering SegmentLowering (lowering hosts) (lowering_of_segment hosts) (expr_layer y)))
  step (Expr-F.Number n) = number_means hosts n
  step (Expr-F.Truth b) = truth_means hosts b
  step (Expr-F.Value x) = value_means hosts x
  step (Expr-F.Element x e) = element_means hosts x (evaluation hosts e.0) (lowering hosts e.0) e.1
  step (Expr-F.Input host) = input_means hosts host
  step (Expr-F.Call f es) = call_means hosts f (map (evaluation hosts) (map (λ (e : E). e.0) es)) (map (lowering hosts) (map (λ (e : E). e.0) es)) (exprs es)
  step (Expr-F.Min at x y) = min_means hosts at (evaluation hosts x.0) (evaluation hosts y.0) (lowering hosts x.0) (lowering hosts y.0) x.1 y.1
  step (Expr-F.Max at x y) = max_means hosts at (evaluation hosts x.0) (evaluation hosts y.0) (lowering hosts x.0) (lowering hosts y.0) x.1 y.1
  step (Expr-F.Mux at x y z) =
      mux_means hosts at (evaluation hosts x.0) (evaluation hosts y.0) (evaluation hosts z.0) (lowering hosts x.0) (lowering hosts y.0) (lowering hosts z.0) x.1 y.1 z.1
  step (Expr-F.Declassify x to) = declassify_means hosts (evaluation hosts x.0) (lowering hosts x.0) to x.1
  step (Expr-F.Endorse x to) = endorse_means hosts (evaluation hosts x.0) (lowering hosts x.0) to x.1
  step (Expr-F.Unary x signs) = unary_means hosts (evaluation hosts x.0) (lowering hosts x.0) signs x.1
  step (Expr-F.Chain x ls) =
      chain_means hosts (evaluation hosts x.0) (lowering hosts x.0) (map (evaluation_of_segment hosts) (map (λ (l : L). l.0) ls)) (map (lowering_of_segment hosts) (map (λ (l : L). l.0) ls)) x.1 (segments ls)
  step (Expr-F.Brackets x) = brackets_means hosts (evaluation hosts x.0) (lowering hosts x.0) x.1

  segment_step : (y : Segment-F E L) → SegmentMeans (segment_evaluation (map-Segment Expr Segment Evaluation SegmentEvaluation (evaluation hosts) (evaluation_of_segment hosts) (segment_layer y)))
      (segment_lowering (map-Segment Expr Segment Lowering SegmentLowering (lowering hosts) (lowering_of_segment hosts) (segment_layer y)))
  segment_step (Segment-F.Infix o at x) = infix_means o at (evaluation hosts x.0) (lowering hosts x.0) x.1
  segment_step (Segment-F.Shift towards at bits) = shift_means towards at bits

  at_roll : (y : Expr-F E L) → ExprMeans (roll-Expr (expr_layer y))
  at_roll y = subst₂ Means (sym (fold-roll-Expr Evaluation SegmentEvaluation (expr_evaluation hosts) segment_evaluation (expr_layer y))) (sym (fold-roll-Expr Lowering SegmentLowering (expr_lowering hosts) segment_lowering (expr_layer y))) (step y)

  at_segment_roll : (y : Segment-F E L) → StepMeans (roll-Segment (segment_layer y))
  at_segment_roll y = subst₂ SegmentMeans (sym (fold-roll-Segment Evaluation SegmentEvaluation (expr_evaluation hosts) segment_evaluation (segment_layer y))) (sym (fold-roll-Segment Lowering SegmentLowering (expr_lowering hosts) segment_lowering (segment_layer y))) (segment_step y)

  pub expr_means : (e : Expr) → Means (evaluation hosts e) (lowering hosts e)
  expr_means = ind-Expr ExprMeans StepMeans (λ x y is. subst (λ z. ExprMeans (roll-Expr z)) is (at_roll y)) (λ x y is. subst (λ z. StepMeans (roll-Segment z)) is (at_segment_roll y))
