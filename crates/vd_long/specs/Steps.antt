-- The statements of a template, as the walk makes them.
use Rattle.std.specs.Prelude.{ℕ, List, [], ◌∷◌}
use Rattle.vd_base.specs.declared.ids.SlotId.{SlotId}
use Rattle.vd_core.specs.declared.normal.Right.TheVariants as right
use Rattle.vd_core.specs.declared.normal.Stmt.{Stmt}
use Rattle.vd_core.specs.declared.normal.Stmt as stmt
use Rattle.vd_core.specs.declared.normal.Stmt.TheOpen.{Stmt-F}
use Rattle.vd_long.specs.declared.steps.Place.{Place}
use Rattle.vd_long.specs.declared.steps.Step.{Step}
use Rattle.vd_long.specs.declared.steps.Step.TheVariants.{Lit, Copy, Load, One, Two, Three, NewVar, Store}
use Rattle.vd_core.specs.declared.normal.Slot.{Slot}
use Rattle.vd_rewrite.specs.Rewriting.{Made, emptied, closed, with_kept}
use Rattle.vd_long.specs.Template.{slot, place_at, placed_slot, placed_right}
use Rattle.vd_long.specs.Lengthened.{step_made, steps_made, looped, Template}

abbrev pub at : Place → ℕ → ℕ
at place = place_at place.base place.dividend.0 place.divisor.0

abbrev pub placed_in : Place → ℕ → SlotId
placed_in place p = placed_slot (at place) (slot p)

abbrev pub step_of : Step → Stmt-F Stmt
step_of (Lit to word) = Stmt-F.Let (slot to) (right.Lit word)
step_of (Copy to p) = Stmt-F.Let (slot to) (right.Copy (slot p))
step_of (Load to p) = Stmt-F.Let (slot to) (right.Load (slot p))
step_of (One to op a) = Stmt-F.Let (slot to) (right.Apply op (slot a ∷ []))
step_of (Two to op a b) = Stmt-F.Let (slot to) (right.Apply op (slot a ∷ slot b ∷ []))
step_of (Three to op a b c) = Stmt-F.Let (slot to) (right.Apply op (slot a ∷ slot b ∷ slot c ∷ []))
step_of (NewVar to p) = Stmt-F.NewVar (slot to) (slot p)
step_of (Store to p) = Stmt-F.Store (slot to) (slot p)

abbrev pub step_in : Place → Step → Made → Made
step_in place step m = step_made (at place) place.offset place.block (step_of step) m

abbrev pub steps_in : Place → List Step → Made → Made
steps_in place [] m = m
steps_in place (s ∷ ss) m = steps_in place ss (step_in place s m)

abbrev pub turns_in : Place → List Step → Made → Made
turns_in place steps m = let inner = steps_in place steps (emptied m) in closed m (stmt.For 32 inner.body) inner

-- the same of the steps as the law has them
abbrev pub made_in : Place → List (Stmt-F Stmt) → Made → Made
made_in place ss m = steps_made (at place) place.offset place.block ss m

abbrev pub loop_in : Place → List (Stmt-F Stmt) → Made → Made
loop_in place ss m = looped (at place) place.offset place.block ss m

-- a division, the slot of which has this entry
abbrev pub done_in : Place → Template → Made → Made
done_in place t m = made_in place t.behind (loop_in place t.turn (made_in place t.start m))

abbrev pub division_in : Place → Template → Slot → Made → Made
division_in place t entry m = let done = done_in place t m in with_kept entry (stmt.Let (slot done.next) (placed_right (at place) t.last)) done
