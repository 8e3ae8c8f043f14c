-- A system only grows with what statements ask.
use Rattle.std.proofs.Common.{◌≡◌, ℕ, zero, suc, ◌+◌, ◌<◌, ◌≤◌, List, [], ◌∷◌, ◌++◌, Option, Some, None, length, drop, get_or, map, sym, ap, ◌∙◌, subst, arith, length-append}
use Rattle.vd_base.specs.declared.ids.SlotId.{SlotId}
use Rattle.vd_core.specs.declared.normal.Right.{Right}
use Rattle.vd_core.specs.declared.normal.NormalForm.{NormalForm}
use Rattle.vd_core.specs.declared.normal.Stmt.{Stmt, roll-Stmt, map-Stmt, ind-Stmt}
use Rattle.vd_core.specs.declared.normal.Stmt.TheVariants.{If}
use Rattle.vd_core.specs.declared.normal.Stmt.TheOpen.{Stmt-F}
use Rattle.vd_core.specs.declared.normal.Stmt.TheFolds.{fold-roll-Stmt}
use Rattle.vd_formula.specs.declared.label.Label.{Label}
use Rattle.vd_constraints.specs.declared.system.Place.{Place}
use Rattle.vd_constraints.specs.declared.system.Place.TheVariants.{Slot, Block}
use Rattle.vd_constraints.specs.declared.system.Lower.{Lower}
use Rattle.vd_constraints.specs.declared.system.Check.{Check}
use Rattle.vd_constraints.specs.Systems.{Constraints, size, IsSmall}
use Rattle.vd_constraints.proofs.Walks.{with_if}
use Rattle.vd_constraints.specs.Rules.{flows, right_rules, right_checks, written_at, offset_of, with_rules, with_checks, with_branch, with_right, with_optional, with_written, with_stored, with_flow, stmt_step, with_stmt, with_body}

-- rules, or checks, are as many as they are
pub rules_size : (rules : List Lower) (s : Constraints) → size (with_rules rules s) ≡ size s + length rules
rules_size rules s = omega (arith, length-append s.lower rules)

checks_size : (checks : List Check) (s : Constraints) → size (with_checks checks s) ≡ size s + length checks
checks_size checks s = omega (arith, length-append s.checks checks)

pub right_size : (p : NormalForm) (pc : Place) (x : SlotId) (r : Right) (s : Constraints) → size (with_right p pc x r s) ≡ size s + length (right_rules p pc x r) + length (right_checks p pc x r)
right_size p pc x r s =
    let one = rules_size (right_rules p pc x r) s in
    let two = checks_size (right_checks p pc x r) (with_rules (right_rules p pc x r) s) in
    omega arith

-- the written label, if there is one: two rules and two checks
pub record Adds (s t : Constraints) (most : ℕ) : Type 0 where
  pub more : size s ≤ size t
  pub few : size t ≤ size s + most

optional_adds : (l : Option Label) (x : Place) (offset : ℕ) (s : Constraints) → Adds s (with_optional l x offset s) 4
optional_adds None x offset s = record { more = omega arith; few = omega arith }
optional_adds (Some w) x offset s = record {
  more = omega (arith, length-append {A = Lower}, length-append {A = Check});
  few = omega (arith, length-append {A = Lower}, length-append {A = Check});
}

pub written_adds : (p : NormalForm) (x : SlotId) (s : Constraints) → Adds s (with_written p x s) 4
written_adds p x s = optional_adds (written_at p x) (Slot x) (offset_of p x) s

written_more : (p : NormalForm) (x : SlotId) (s : Constraints) → size s ≤ size (with_written p x s)
written_more p x s = (written_adds p x s).more

-- an If: its block, and two flows
pub branch_size : (guard pc : Place) (s : Constraints) → size (with_branch guard pc s) ≡ size s + 5
branch_size guard pc s = omega (arith, length-append {A = Lower})

-- ---- what statements add
abbrev pub Step : Type 0
Step = NormalForm → Place → Constraints → Constraints

abbrev Grows : Step → Type 0
Grows f = (p : NormalForm) (pc : Place) (s : Constraints) → size s ≤ size (f p pc s)

abbrev M : Type 0
M = (s : Stmt) × Grows (with_stmt s)

abbrev layer : Stmt-F M → Stmt-F Stmt
layer = map-Stmt M Stmt (λ m. m.0)

all : (ms : List M) → Grows (with_body (map (λ (m : M). m.0) ms))
all [] p pc s = omega arith
all (m ∷ ms) p pc s =
    let one = m.1 p pc s in
    let rest = all ms p pc (with_stmt m.0 p pc s) in
    omega arith

step : (y : Stmt-F M) → Grows (stmt_step (map-Stmt Stmt Step with_stmt (layer y)))
step (Stmt-F.Let x r) p pc s =
    let one = right_size p pc x r s in
    let two = written_more p x (with_right p pc x r s) in
    omega arith
step (Stmt-F.NewVar v y) p pc s =
    let one = rules_size (flows (Slot y) (Slot v) ++ flows pc (Slot v)) s in
    let two = written_more p v (with_stored pc v y s) in
    omega arith
step (Stmt-F.NewArray v cells) p pc s =
    let one = rules_size (flows pc (Slot v)) s in
    let two = written_more p v (with_flow pc (Slot v) s) in
    omega arith
step (Stmt-F.Store v y) p pc s = let one = rules_size (flows (Slot y) (Slot v) ++ flows pc (Slot v)) s in omega arith
step (Stmt-F.Put v i y) p pc s = let one = rules_size (flows (Slot y) (Slot v) ++ flows (Slot i) (Slot v) ++ flows pc (Slot v)) s in omega arith
step (Stmt-F.Output y h offset) p pc s = omega (arith, length-append {A = Lower}, length-append {A = Check})
step (Stmt-F.If y a b offset) p pc s =
    let t = with_branch (Slot y) pc s in
    let one = branch_size (Slot y) pc s in
    let two = all a p (Block s.blocks) t in
    let three = all b p (Block s.blocks) (with_body (map (λ (m : M). m.0) a) p (Block s.blocks) t) in
    omega arith
step (Stmt-F.For count body) p pc s = all body p pc s

grows : (s : Stmt) → Grows (with_stmt s)
grows = ind-Stmt (λ s. Grows (with_stmt s)) (λ x y is. subst (λ z. Grows (with_stmt (roll-Stmt z))) is (subst Grows (sym (fold-roll-Stmt Step stmt_step (layer y))) (step y)))

stmt_more : (x : Stmt) (p : NormalForm) (pc : Place) (s : Constraints) → size s ≤ size (with_stmt x p pc s)
stmt_more = grows

body_more : (body : List Stmt) (p : NormalForm) (pc : Place) (s : Constraints) → size s ≤ size (with_body body p pc s)
body_more [] p pc s = omega arith
body_more (x ∷ body) p pc s =
    let one = stmt_more x p pc s in
    let rest = body_more body p pc (with_stmt x p pc s) in
    omega arith

-- a statement of a body, where the statements before it are done
pub stmt_within : (body : List Stmt) (k : ℕ) (x : Stmt) (p : NormalForm) (pc : Place) (s : Constraints) → k < length body → x ≡ get_or body k x → size (with_stmt x p pc s) ≤ size (with_body (drop k body) p pc s)
stmt_within [] k x p pc s low is = absurd (omega arith)
stmt_within (y ∷ body) zero x p pc s low is = subst (λ (z : Stmt). size (with_stmt z p pc s) ≤ size (with_body (y ∷ body) p pc s)) (sym is) (body_more body p pc (with_stmt y p pc s))
stmt_within (y ∷ body) (suc k) x p pc s low is = stmt_within body k x p pc s (omega arith) is

-- the steps of an If
module _ (y : SlotId) (a b : List Stmt) (offset : ℕ) (p : NormalForm) (pc : Place) (s : Constraints) where
  if_size : size (with_stmt (If y a b offset) p pc s) ≡ size (with_body b p (Block s.blocks) (with_body a p (Block s.blocks) (with_branch (Slot y) pc s)))
  if_size = ap size (with_if y a b offset p pc s)

  then_within : size (with_body a p (Block s.blocks) (with_branch (Slot y) pc s)) ≤ size (with_stmt (If y a b offset) p pc s)
  then_within =
      let whole = if_size in
      let rest = body_more b p (Block s.blocks) (with_body a p (Block s.blocks) (with_branch (Slot y) pc s)) in
      omega arith

  branch_within : size (with_branch (Slot y) pc s) ≤ size (with_stmt (If y a b offset) p pc s)
  branch_within =
      let first = body_more a p (Block s.blocks) (with_branch (Slot y) pc s) in
      let second = then_within in
      omega arith

  -- the walk through an If, whose parts are read one by one
  module _ (t : Constraints) (x : Stmt) (a' : List Stmt) (branch : Place) (is : x ≡ If y a b offset) (begun : t ≡ with_branch (Slot y) pc s) (at : branch ≡ Block s.blocks) (first : a' ≡ a) where
    started : with_body a' p branch t ≡ with_body a p (Block s.blocks) (with_branch (Slot y) pc s)
    started = ap (λ (u : Constraints). with_body a' p branch u) begun ∙ ap (λ (at : Place). with_body a' p at (with_branch (Slot y) pc s)) at ∙ ap (λ (body : List Stmt). with_body body p (Block s.blocks) (with_branch (Slot y) pc s)) first

    pub small_then : IsSmall (with_stmt x p pc s) → IsSmall (with_body a' p branch t)
    small_then small =
        let whole = ap (λ (x : Stmt). size (with_stmt x p pc s)) is in
        let same = ap size started in
        let within = then_within in
        omega arith

    pub small_else : (u : Constraints) (b' : List Stmt) → u ≡ with_body a' p branch t → b' ≡ b → IsSmall (with_stmt x p pc s) → IsSmall (with_body b' p branch u)
    small_else u b' then_done second small =
        let whole = ap (λ (x : Stmt). size (with_stmt x p pc s)) is in
        let last = if_size in
        let all : with_body b' p branch u ≡ with_body b p (Block s.blocks) (with_body a p (Block s.blocks) (with_branch (Slot y) pc s)) =
        ap (λ (u : Constraints). with_body b' p branch u) (then_done ∙ started) ∙ ap (λ (at : Place). with_body b' p at (with_body a p (Block s.blocks) (with_branch (Slot y) pc s))) at ∙ ap (λ (body : List Stmt). with_body body p (Block s.blocks) (with_body a p (Block s.blocks) (with_branch (Slot y) pc s))) second in
        let same = ap size all in
        omega arith

  pub branch_small : (x : Stmt) → x ≡ If y a b offset → IsSmall (with_stmt x p pc s) → IsSmall (with_branch (Slot y) pc s)
  branch_small x is small =
      let whole = ap (λ (x : Stmt). size (with_stmt x p pc s)) is in
      let within = branch_within in
      omega arith
