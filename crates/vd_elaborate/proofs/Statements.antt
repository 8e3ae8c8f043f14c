-- Each statement, once it is made, does what it does in the source.
use Rattle.std.proofs.Common.{ℕ, List, [], ◌∷◌, map, subst, subst₂, sym}
use Rattle.vd_core.specs.declared.source.Statement.{Statement, roll-Statement, map-Statement, ind-Statement}
use Rattle.vd_core.specs.declared.source.Statement.TheOpen.{Statement-F}
use Rattle.vd_core.specs.declared.source.Statement.TheFolds.{fold-roll-Statement}
use Rattle.vd_semantics.specs.SourceMeaning.{Execution, statement_execution, execution}
use Rattle.vd_elaborate.specs.Normal.{StatementLowering, statement_lowering, lowering_of}
use Rattle.vd_elaborate.proofs.Gives.{Both}
use Rattle.vd_elaborate.proofs.Effects.{StatementMeans, let_means, var_means, array_means, store_means, put_means, output_means, if_means, for_means}

module _ (hosts : List (List ℕ)) where
  abbrev Meant : Statement → Type 0
  Meant s = StatementMeans (execution hosts s) (lowering_of hosts s)

  abbrev M : Type 0
  M = (s : Statement) × Meant s

  abbrev statements : List M → List Statement
  statements ms = map (λ (m : M). m.0) ms

  statements_both : (ms : List M) → Both StatementMeans (map (execution hosts) (statements ms)) (map (lowering_of hosts) (statements ms))
  statements_both [] = tt
  statements_both (m ∷ ms) = (m.1, statements_both ms)

  abbrev layer : Statement-F M → Statement-F Statement
  layer = map-Statement M Statement (λ m. m.0)

  step : (y : Statement-F M) → StatementMeans (statement_execution hosts (map-Statement Statement Execution (execution hosts) (layer y))) (statement_lowering hosts (map-Statement Statement StatementLowering (lowering_of hosts) (layer y)))
  step (Statement-F.Let at x label e) = let_means hosts at x label e
  step (Statement-F.Var at x kind label e) = var_means hosts at x kind label e
  step (Statement-F.Array at x kind size label) = array_means hosts at x kind size label
  step (Statement-F.Store x e) = store_means hosts x e
  step (Statement-F.Put x i e) = put_means hosts x i e
  step (Statement-F.Output at e host) = output_means hosts at e host
  step (Statement-F.If at c a b) =
      if_means hosts at c (map (execution hosts) (statements a)) (map (execution hosts) (statements b)) (map (lowering_of hosts) (statements a)) (map (lowering_of hosts) (statements b)) (statements_both a) (statements_both b)
  step (Statement-F.For at x n body) = for_means hosts at x n (map (execution hosts) (statements body)) (map (lowering_of hosts) (statements body)) (statements_both body)

  statement_means : (s : Statement) → StatementMeans (execution hosts s) (lowering_of hosts s)
  statement_means = ind-Statement Meant (λ x y is. subst (λ z. Meant (roll-Statement z)) is
      (subst₂ StatementMeans (sym (fold-roll-Statement Execution (statement_execution hosts) (layer y))) (sym (fold-roll-Statement StatementLowering (statement_lowering hosts) (layer y))) (step y)))

  pub all_both : (ss : List Statement) → Both StatementMeans (map (execution hosts) ss) (map (lowering_of hosts) ss)
  all_both [] = tt
  all_both (s ∷ ss) = (statement_means s, all_both ss)
