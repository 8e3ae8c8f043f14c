-- Programs that name their own slots alone.
use Rattle.std.specs.Prelude.{◌≡◌, ℕ, ◌≤◌, Bool, true, ◌&&◌, IsTrue, List, length, map, nat_lt}
use Rattle.std.specs.List.{list_all}
use Rattle.vd_base.specs.Limits.{most_principals}
use Rattle.vd_base.specs.declared.ids.SlotId.{SlotId}
use Rattle.vd_core.specs.declared.normal.Right.{Right}
use Rattle.vd_core.specs.declared.normal.Right.TheVariants.{Lit, Turn, Copy, Apply, Input, Declassify, Endorse, Load, Get}
use Rattle.vd_core.specs.declared.normal.Stmt.{Stmt}
use Rattle.vd_core.specs.declared.normal.Stmt.TheOpen.{Stmt-F}
use Rattle.vd_core.specs.declared.normal.Stmt.TheFolds.{fold-Stmt}
use Rattle.vd_core.specs.declared.normal.NormalForm.{NormalForm}
use Rattle.vd_constraints.specs.Systems.{Constraints}

abbrev pub is_below : ℕ → SlotId → Bool
is_below n x = nat_lt x.0 n

abbrev pub right_below : ℕ → Right → Bool
right_below n (Lit k) = true
right_below n Turn = true
right_below n (Copy y) = is_below n y
right_below n (Apply op ys) = list_all (is_below n) ys
right_below n (Input h) = true
right_below n (Declassify y form) = is_below n y
right_below n (Endorse y form) = is_below n y
right_below n (Load v) = is_below n v
right_below n (Get v i) = is_below n v && is_below n i

abbrev pub stmt_below : ℕ → Stmt-F Bool → Bool
stmt_below n (Stmt-F.Let x r) = is_below n x && right_below n r
stmt_below n (Stmt-F.NewVar v y) = is_below n v && is_below n y
stmt_below n (Stmt-F.NewArray v size) = is_below n v
stmt_below n (Stmt-F.Store v y) = is_below n v && is_below n y
stmt_below n (Stmt-F.Put v i y) = is_below n v && is_below n i && is_below n y
stmt_below n (Stmt-F.Output y h offset) = is_below n y
stmt_below n (Stmt-F.If y then_block else_block offset) = is_below n y && list_all (λ below. below) then_block && list_all (λ below. below) else_block
stmt_below n (Stmt-F.For count body) = list_all (λ below. below) body

-- each slot that a statement names is below n
abbrev pub slots_below : ℕ → Stmt → Bool
slots_below n = fold-Stmt Bool (stmt_below n)

abbrev pub block_below : ℕ → List Stmt → Bool
block_below n body = list_all (λ below. below) (map (slots_below n) body)

-- at most six principals, and each named slot is one of the program's
pub record IsScoped (p : NormalForm) : Type 0 where
  pub few_principals : length p.principals ≤ most_principals
  pub named_slots : IsTrue (block_below (length p.slots) p.body)

-- a system over the names of a program, at most six
pub record HasNamesOf (p : NormalForm) (s : Constraints) : Type 0 where
  pub few_principals : length p.principals ≤ most_principals
  pub same_principals : s.principals ≡ p.principals
