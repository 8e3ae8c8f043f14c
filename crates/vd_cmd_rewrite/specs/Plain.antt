-- Programs without a branch, and programs without a division.
use Rattle.std.specs.Prelude.{Bool, true, false, if◌then◌else◌, List, map}
use Rattle.std.specs.List.{list_any}
use Rattle.vd_base.specs.declared.operations.Op.{Op}
use Rattle.vd_base.specs.declared.operations.Op.TheVariants.{Div, Rem}
use Rattle.vd_core.specs.declared.normal.Right.{Right}
use Rattle.vd_core.specs.declared.normal.Right.TheVariants.{Apply}
use Rattle.vd_core.specs.declared.normal.Stmt.{Stmt}
use Rattle.vd_core.specs.declared.normal.Stmt.TheOpen.{Stmt-F}
use Rattle.vd_core.specs.declared.normal.Stmt.TheFolds.{fold-Stmt}

abbrev pub branch_step : Stmt-F Bool → Bool
branch_step (Stmt-F.If guard a b offset) = true
branch_step (Stmt-F.For count body) = list_any (λ c. c) body
branch_step other = false

abbrev pub holds_branch : Stmt → Bool
holds_branch = fold-Stmt Bool branch_step

abbrev pub some_branch : List Stmt → Bool
some_branch body = list_any (λ c. c) (map holds_branch body)

abbrev pub op_divides : Op → Bool
op_divides Div = true
op_divides Rem = true
op_divides other = false

abbrev pub right_divides : Right → Bool
right_divides (Apply op xs) = op_divides op
right_divides other = false

abbrev pub division_step : Stmt-F Bool → Bool
division_step (Stmt-F.Let x right) = right_divides right
division_step (Stmt-F.If guard a b offset) = if list_any (λ c. c) a then true else list_any (λ c. c) b
division_step (Stmt-F.For count body) = list_any (λ c. c) body
division_step other = false

abbrev pub holds_division : Stmt → Bool
holds_division = fold-Stmt Bool division_step

abbrev pub some_division : List Stmt → Bool
some_division body = list_any (λ c. c) (map holds_division body)
