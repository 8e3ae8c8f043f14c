use Rattle.std.proofs.Common.{◌≡◌, ℕ, ◌+◌, ◌*◌, List, drop, map}
use Rattle.vd_core.specs.declared.normal.NormalForm.{NormalForm}
use Rattle.vd_core.specs.Facts.{count_of, statement_count}
use Rattle.vd_draw_rows.specs.Rows.{drawn}
use Rattle.vd_draw_rows.specs.Parts.{part_of_all}
use Rattle.vd_draw_rows.proofs.parts.+parts.Given as goal

abbrev pub decreases-takes_part : goal.decreases-takes_part
decreases-takes_part l = 2 * statement_count l.body.now + 1

abbrev pub decreases-is_part : goal.decreases-is_part
decreases-is_part l = 2 * count_of l.stmt.now

-- the statements that are left decide
abbrev pub invariant-takes_part-loop-stmt : goal.invariant-takes_part-loop-stmt
invariant-takes_part-loop-stmt l = (source : List ℕ) (p : NormalForm) → part_of_all l.list l.host (map (drawn source p l.list) (drop l.stmt-index l.body)) ≡ part_of_all l.list l.host (map (drawn source p l.list) l.body)
