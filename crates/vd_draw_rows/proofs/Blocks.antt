-- The rows of statements, one after another.
use Rattle.std.proofs.Common.{◌≡◌, ℕ, ◌+◌, ◌<◌, List, ◌++◌, length, get_or, drop, map, sym, ap, ◌∙◌, append_assoc}
use Rattle.vd_base.specs.declared.protocols.Proto.{Proto}
use Rattle.vd_core.specs.declared.normal.Stmt.{Stmt}
use Rattle.vd_core.specs.declared.normal.NormalForm.{NormalForm}
use Rattle.vd_draw_rows.specs.declared.row.Row.{Row}
use Rattle.vd_draw_rows.specs.Rows.{Drawn, all_rows, drawn}
use Rattle.vd_draw_rows.proofs.Taking.{at_item}

module _ (source : List ℕ) (p : NormalForm) (list : List Proto) where
  abbrev block : List Stmt → List Drawn
  block body = map (drawn source p list) body

  -- the first statement, and those behind it
  pub rows_next : (rows after : List Row) (body : List Stmt) (i : ℕ) (s : Stmt) (weight depth : ℕ) → i < length body → s ≡ get_or body i s
      → after ≡ rows ++ (drawn source p list s).rows weight depth
      → after ++ all_rows (block (drop (i + 1) body)) weight depth ≡ rows ++ all_rows (block (drop i body)) weight depth
  rows_next rows after body i s weight depth low is step =
      ap (λ r. r ++ all_rows (block (drop (i + 1) body)) weight depth) step
      ∙ append_assoc rows ((drawn source p list s).rows weight depth) (all_rows (block (drop (i + 1) body)) weight depth)
      ∙ ap (λ b. rows ++ all_rows (block b) weight depth) (sym (at_item body i s low is))
