-- That the numbers of a let-normal program are words.
use Rattle.std.specs.Prelude.{◌≡◌, ◌^◌, nat_lt, Bool, true}
use Rattle.vd_base.specs.declared.operations.Op.{Op}
use Rattle.vd_base.specs.declared.operations.Op.TheVariants.{Scale}
use Rattle.vd_core.specs.declared.normal.Right.{Right}
use Rattle.vd_core.specs.declared.normal.Right.TheVariants.{Lit, Apply}
use Rattle.vd_core.specs.declared.normal.Stmt.TheOpen.{Stmt-F}
use Rattle.vd_core.specs.declared.normal.NormalForm.{NormalForm}
use Rattle.vd_core.specs.Facts.{all_meet}

-- the factor of an operation
abbrev pub factor_fits : Op → Bool
factor_fits (Scale k) = nat_lt k (2 ^ 32)
factor_fits o = true

abbrev pub number_fits : Right → Bool
number_fits (Lit n) = nat_lt n (2 ^ 32)
number_fits (Apply o ys) = factor_fits o
number_fits other = true

-- and the count of a loop
abbrev pub numbers_fit : Stmt-F Bool → Bool
numbers_fit (Stmt-F.Let x right) = number_fits right
numbers_fit (Stmt-F.For count body) = nat_lt count (2 ^ 32)
numbers_fit other = true

abbrev pub NumbersFit : NormalForm → Type 0
NumbersFit program = all_meet numbers_fit program.body ≡ true
