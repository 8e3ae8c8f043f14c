-- The registers of the loop around go on as they are.
use Rattle.std.proofs.Common.{◌≡◌, ℕ, List, [], ◌∷◌, refl, ap, ◌∙◌}
use Rattle.vd_base.specs.declared.protocols.Proto.{Proto}
use Rattle.vd_core.specs.declared.normal.Stmt.{Stmt}
use Rattle.vd_split.specs.Block.{Block, End, Let, NewVar, NewArray, Store, Put, Output, If, For, block_of, each}
use Rattle.vd_split.specs.Suite.{Calls}
use Rattle.vd_split.specs.Emission.{Emitting, Emission, in_turn, stmt_emission, emission, block_emission}
use Rattle.vd_split.proofs.Folds.{fold_each}

module _ {A P : Type 0} (s : Calls A P) (proto : ℕ → Proto) where
  abbrev made : Block → Emission s proto
  made b = in_turn s proto (each (stmt_emission s proto) b)

  kept : (b : Block) (e : Emitting s proto) → ((made b).emit e).state.loop ≡ e.loop
  kept End e = refl
  kept (Let x right rest) e = kept rest _
  kept (NewVar v x rest) e = kept rest _
  kept (NewArray v cells rest) e = kept rest _
  kept (Store v x rest) e = kept rest _
  kept (Put v i x rest) e = kept rest _
  kept (Output x h offset rest) e = kept rest _
  kept (If x t f offset rest) e = kept rest _ ∙ kept f _ ∙ kept t _
  kept (For count body rest) e = kept rest _

  pub loop_kept : (body : List Stmt) (e : Emitting s proto) → ((block_emission s proto body).emit e).state.loop ≡ e.loop
  loop_kept body e = ap (λ (l : List (Emission s proto)). ((in_turn s proto l).emit e).state.loop) (fold_each (stmt_emission s proto) body) ∙ kept (block_of body) e

  pub loop_kept_by : (stmt : Stmt) (e : Emitting s proto) → ((emission s proto stmt).emit e).state.loop ≡ e.loop
  loop_kept_by stmt e = loop_kept (stmt ∷ []) e
