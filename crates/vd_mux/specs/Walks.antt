-- What the walk makes of parts of a program.
use Rattle.std.specs.Prelude.{ℕ, Bool, ◌||◌, List, [], ◌∷◌, ◌++◌, map}
use Rattle.vd_base.specs.declared.ids.SlotId.{SlotId}
use Rattle.vd_core.specs.declared.normal.Stmt.{Stmt}
use Rattle.vd_rewrite.specs.declared.guard.Guard.{Guard}
use Rattle.vd_mux.specs.declared.walk.Walk.{Walk}
use Rattle.vd_rewrite.specs.Rewriting.{marked, Made, Rewriting, entry_of, moved, is_some, is_hidden, guard_of, stored, run_all, kept_let, rewriting}

abbrev pub as_rewriting : Walk → Stmt → Rewriting
as_rewriting w = rewriting (marked w.hidden.now) (kept_let w.slots.now) w.slots.now

abbrev pub as_rewritings : Walk → List Stmt → List Rewriting
as_rewritings w body = map (as_rewriting w) body

abbrev pub made_of : Walk → List Guard → ℕ → Stmt → Made → Made
made_of w gs block s m = (as_rewriting w s).run gs block m

abbrev pub made_of_all : Walk → List Guard → ℕ → List Stmt → Made → Made
made_of_all w gs block body m = run_all (as_rewritings w body) gs block m

-- the If is hidden
abbrev pub hides_if : Walk → SlotId → List Stmt → List Stmt → Bool
hides_if w guard a b = is_hidden (marked w.hidden.now) guard (as_rewritings w a) (as_rewritings w b)

-- it is, or stands in one that is
abbrev pub is_flat_if : Walk → List Guard → SlotId → List Stmt → List Stmt → Bool
is_flat_if w gs guard a b = is_some gs || hides_if w guard a b

-- a store under guards
abbrev pub stored_in : Walk → List Guard → ℕ → SlotId → SlotId → Made → Made
stored_in w gs block v y m = stored (entry_of w.slots.now v).kind block (moved m.table v) gs (moved m.table y) m

-- a branch of the If with this guard and offset, under one guard more
abbrev pub branch_made : Walk → List Guard → ℕ → SlotId → Bool → ℕ → List Stmt → Made → Made
branch_made w gs block guard first offset body m = made_of_all w (gs ++ guard_of first guard offset ∷ []) block body m
