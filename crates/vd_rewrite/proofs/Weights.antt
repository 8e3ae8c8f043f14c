-- A statement weighs at least what is around it.
use Rattle.std.proofs.Common.{ℕ, ◌<◌, ◌≤◌, List, [], ◌∷◌, length, map, sym, subst, arith}
use Rattle.vd_core.specs.declared.normal.Stmt.{Stmt, roll-Stmt, map-Stmt, ind-Stmt}
use Rattle.vd_core.specs.declared.normal.Stmt.TheFolds.{fold-roll-Stmt}
use Rattle.vd_core.specs.declared.normal.Stmt.TheOpen.{Stmt-F}
use Rattle.vd_core.specs.Facts.{Weighing, weigh_step, weighing}
use Rattle.vd_rewrite.specs.Limits.{weight_at}
use Rattle.vd_rewrite.proofs.Pushes.{sum_cons}

step : (y : Stmt-F Weighing) (around : ℕ) → around ≤ weigh_step y around
step (Stmt-F.Let x r) around = omega arith
step (Stmt-F.NewVar v x) around = omega arith
step (Stmt-F.NewArray v n) around = omega arith
step (Stmt-F.Store v x) around = omega arith
step (Stmt-F.Put v i x) around = omega arith
step (Stmt-F.Output x h offset) around = omega arith
step (Stmt-F.If g a b offset) around = omega arith
step (Stmt-F.For n body) around = omega arith

weighs : (s : Stmt) (around : ℕ) → around ≤ weighing s around
weighs = ind-Stmt (λ s. (around : ℕ) → around ≤ weighing s around) (λ x y is around.
    subst (λ (z : Stmt-F Stmt). around ≤ weighing (roll-Stmt z) around) is
    (let z = map-Stmt ((s : Stmt) × ((around : ℕ) → around ≤ weighing s around)) Stmt (λ m. m.0) y in
    subst (λ (f : Weighing). around ≤ f around) (sym (fold-roll-Stmt Weighing weigh_step z)) (step (map-Stmt Stmt Weighing weighing z) around)))

pub some_weight : (body : List Stmt) (around : ℕ) → 0 < length body → around ≤ weight_at body around
some_weight [] around some = absurd (omega arith)
some_weight (s ∷ ss) around some =
    let one = weighs s around in
    let all = sum_cons (weighing s around) (map (λ (w : Weighing). w around) (map weighing ss)) in
    omega arith
