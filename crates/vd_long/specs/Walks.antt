-- What the walk makes of parts of a program.
use Rattle.std.specs.Prelude.{ℕ, Bool, List, [], map}
use Rattle.vd_base.specs.declared.ids.SlotId.{SlotId}
use Rattle.vd_core.specs.declared.normal.Stmt.{Stmt}
use Rattle.vd_core.specs.declared.normal.Stmt.TheFolds.{fold-Stmt}
use Rattle.vd_long.specs.Lengthened.{long_let, nothing_hidden, lengthens_step, some_lengthened}
use Rattle.vd_long.specs.declared.walk.Walk.{Walk}
use Rattle.vd_rewrite.specs.Rewriting.{marked, Lets, Made, Rewriting, run_all, rewriting}

abbrev pub marked_in : Walk → SlotId → Bool
marked_in w = marked w.long.now

abbrev pub lets_of : Walk → Lets
lets_of w = long_let (marked_in w) w.slots.now

abbrev pub as_rewriting : Walk → Stmt → Rewriting
as_rewriting w = rewriting nothing_hidden (lets_of w) w.slots.now

abbrev pub made_of : Walk → ℕ → Stmt → Made → Made
made_of w block s m = (as_rewriting w s).run [] block m

abbrev pub made_of_all : Walk → ℕ → List Stmt → Made → Made
made_of_all w block body m = run_all (map (as_rewriting w) body) [] block m

-- whether some division in a statement, or in a list of them, becomes a loop
abbrev pub is_long : Walk → Stmt → Bool
is_long w = fold-Stmt Bool (lengthens_step (marked_in w))

abbrev pub some_long : Walk → List Stmt → Bool
some_long w = some_lengthened (marked_in w)
