-- A statement has a barrier where it is not pure.
use Rattle.std.proofs.Common.{◌≡◌, Bool, true, false, ◌&&◌, not, List, [], ◌∷◌, map, Option, Some, None, refl, sym, ap, ap₂, ◌∙◌, subst}
use Rattle.std.specs.Prelude.{is_some}
use Rattle.std.specs.List.{list_all}
use Rattle.vd_base.specs.declared.ids.SlotId.{SlotId}
use Rattle.vd_core.specs.declared.normal.Right.{Right}
use Rattle.vd_core.specs.declared.normal.Right.TheVariants.{Lit, Turn, Copy, Apply, Input, Declassify, Endorse, Load, Get}
use Rattle.vd_core.specs.declared.normal.Slot.{Slot}
use Rattle.vd_core.specs.declared.normal.Stmt.{Stmt, roll-Stmt, map-Stmt, ind-Stmt}
use Rattle.vd_core.specs.declared.normal.Stmt.TheOpen.{Stmt-F}
use Rattle.vd_core.specs.declared.normal.Stmt.TheFolds.{fold-roll-Stmt}
use Rattle.vd_rewrite.specs.Rewriting.{Rewriting, Lets, all_pure, is_pure_right, rewriting_step, rewriting}
use Rattle.vd_diag_terminal.specs.declared.diag_branches.barriers.Barrier.{Barrier}
use Rattle.vd_diag_terminal.specs.Barriers.{or_else, first_of, right_barrier, barrier_step, barrier_of}

either_there : (a b : Option Barrier) (p q : Bool) → is_some a ≡ not p → is_some b ≡ not q → is_some (or_else a b) ≡ not (p && q)
either_there (Some x) b true q e f = absurd (cc e)
either_there (Some x) b false q e f = refl
either_there None b true q e f = f
either_there None b false q e f = absurd (cc e)

right_there : (r : Right) → is_some (right_barrier r) ≡ not (is_pure_right r)
right_there (Lit n) = refl
right_there Turn = refl
right_there (Copy x) = refl
right_there (Apply op xs) = refl
right_there (Input host) = refl
right_there (Declassify x to) = refl
right_there (Endorse x to) = refl
right_there (Load v) = refl
right_there (Get v i) = refl

module _ (hides : SlotId → Bool) (lets : Lets) (old : List Slot) where
  abbrev the : Stmt → Rewriting
  the = rewriting hides lets old

  abbrev There : Stmt → Type 0
  There s = is_some (barrier_of s) ≡ not ((the s).is_pure)

  abbrev M : Type 0
  M = (s : Stmt) × There s

  abbrev stmts : List M → List Stmt
  stmts ms = map (λ (m : M). m.0) ms

  all_there : (ms : List M) → is_some (first_of (map barrier_of (stmts ms))) ≡ not (all_pure (map the (stmts ms)))
  all_there [] = refl
  all_there (m ∷ ms) = either_there (barrier_of m.0) (first_of (map barrier_of (stmts ms))) ((the m.0).is_pure) (all_pure (map the (stmts ms))) m.1 (all_there ms)

  abbrev layer : Stmt-F M → Stmt-F Stmt
  layer = map-Stmt M Stmt (λ m. m.0)

  step : (y : Stmt-F M) → is_some (barrier_step (map-Stmt Stmt (Option Barrier) barrier_of (layer y))) ≡ not ((rewriting_step hides lets old (map-Stmt Stmt Rewriting the (layer y))).is_pure)
  step (Stmt-F.Let x r) = right_there r
  step (Stmt-F.NewVar v x) = refl
  step (Stmt-F.NewArray v n) = refl
  step (Stmt-F.Store v x) = refl
  step (Stmt-F.Put v i x) = refl
  step (Stmt-F.Output x h offset) = refl
  step (Stmt-F.If g a b offset) = either_there (first_of (map barrier_of (stmts a))) (first_of (map barrier_of (stmts b))) (all_pure (map the (stmts a))) (all_pure (map the (stmts b))) (all_there a) (all_there b)
  step (Stmt-F.For n body) = refl

  pub there : (s : Stmt) → There s
  there = ind-Stmt There (λ x y is. subst (λ z. There (roll-Stmt z)) is
      (ap is_some (fold-roll-Stmt (Option Barrier) barrier_step (layer y)) ∙ step y ∙ sym (ap (λ (r : Rewriting). not r.is_pure) (fold-roll-Stmt Rewriting (rewriting_step hides lets old) (layer y)))))
