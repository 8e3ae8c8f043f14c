-- A fold over statements, as a recursion over blocks.
use Rattle.std.proofs.Common.{◌≡◌, List, [], ◌∷◌, map, refl, sym, ap, ap₂, ◌∙◌, subst, subst₂}
use Rattle.vd_core.specs.declared.normal.Stmt.{Stmt, roll-Stmt, map-Stmt, ind-Stmt}
use Rattle.vd_core.specs.declared.normal.Stmt.TheOpen.{Stmt-F}
use Rattle.vd_core.specs.declared.normal.Stmt.TheFolds.{fold-Stmt, fold-roll-Stmt}
use Rattle.vd_split.specs.Block.{Block, chain, block_step, block_of, each}

module _ {A : Type 0} (f : Stmt-F A → A) where
  abbrev plain : Stmt → Block → Block
  plain = fold-Stmt (Block → Block) block_step

  abbrev folded : Stmt → A
  folded = fold-Stmt A f

  abbrev Shown : (Block → Block) → A → Type 0
  Shown g a = (rest : Block) → each f (g rest) ≡ a ∷ each f rest

  abbrev M : Type 0
  M = (s : Stmt) × Shown (plain s) (folded s)

  abbrev statements : List M → List Stmt
  statements ms = map (λ (m : M). m.0) ms

  abbrev layer : Stmt-F M → Stmt-F Stmt
  layer = map-Stmt M Stmt (λ m. m.0)

  all_shown : (ms : List M) → each f (chain (map plain (statements ms))) ≡ map folded (statements ms)
  all_shown [] = refl
  all_shown (m ∷ ms) = m.1 (chain (map plain (statements ms))) ∙ ap (λ (l : List A). folded m.0 ∷ l) (all_shown ms)

  step : (y : Stmt-F M) → Shown (block_step (map-Stmt Stmt (Block → Block) plain (layer y))) (f (map-Stmt Stmt A folded (layer y)))
  step (Stmt-F.Let x right) rest = refl
  step (Stmt-F.NewVar v x) rest = refl
  step (Stmt-F.NewArray v cells) rest = refl
  step (Stmt-F.Store v x) rest = refl
  step (Stmt-F.Put v i x) rest = refl
  step (Stmt-F.Output x h offset) rest = refl
  step (Stmt-F.If x a b offset) rest = ap₂ (λ (p q : List A). f (Stmt-F.If x p q offset) ∷ each f rest) (all_shown a) (all_shown b)
  step (Stmt-F.For n body) rest = ap (λ (p : List A). f (Stmt-F.For n p) ∷ each f rest) (all_shown body)

  shown : (s : Stmt) → Shown (plain s) (folded s)
  shown = ind-Stmt (λ s. Shown (plain s) (folded s)) (λ x y is. subst (λ z. Shown (plain (roll-Stmt z)) (folded (roll-Stmt z))) is
      (subst₂ Shown (sym (fold-roll-Stmt (Block → Block) block_step (layer y))) (sym (fold-roll-Stmt A f (layer y))) (step y)))

  pub fold_each : (body : List Stmt) → map (fold-Stmt A f) body ≡ each f (block_of body)
  fold_each [] = refl
  fold_each (x ∷ xs) = ap (λ (l : List A). folded x ∷ l) (fold_each xs) ∙ sym (shown x (block_of xs))
