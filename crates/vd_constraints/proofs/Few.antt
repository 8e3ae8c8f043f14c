-- A system grows by at most 13 rules, checks and blocks with each statement, so that of a well-made program is small.
use Rattle.std.proofs.Common.{◌≡◌, ℕ, ◌+◌, ◌*◌, ◌<◌, ◌≤◌, Bool, true, ◌&&◌, List, [], ◌∷◌, ◌++◌, length, map, ◌^◌, refl, sym, ap, ◌∙◌, subst, subst₂, arith, length-append}
use Rattle.std.specs.List.{flat_map, list_all}
use Rattle.std.proofs.lemmas.Bool.{and_parts, eqb-true}
use Rattle.std.proofs.lemmas.List.FromFn.{length-range_with_len}
use Rattle.std.proofs.lemmas.List.Folds.{list_all-map}
use Rattle.std.proofs.lemmas.List.Sums.{sum_by-cons}
use Rattle.vd_base.specs.Arity.{arity}
use Rattle.vd_base.specs.declared.ids.SlotId.{SlotId}
use Rattle.vd_base.specs.declared.operations.Op.{Op}
use Rattle.vd_base.specs.declared.operations.Op.TheVariants.{Add, Sub, Mul, Scale, Div, Rem, And, Or, Xor, Not, Flip, Shl, Shr, Eq, Ne, Lt, Le, Min, Max, Mux}
use Rattle.vd_core.specs.declared.normal.Right.{Right}
use Rattle.vd_core.specs.declared.normal.Right.TheVariants.{Lit, Turn, Copy, Apply, Input, Declassify, Endorse, Load, Get}
use Rattle.vd_core.specs.declared.normal.NormalForm.{NormalForm}
use Rattle.vd_core.specs.declared.normal.Stmt.{Stmt, roll-Stmt, map-Stmt, ind-Stmt}
use Rattle.vd_core.specs.declared.normal.Stmt.TheOpen.{Stmt-F}
use Rattle.vd_core.specs.declared.normal.Stmt.TheFolds.{fold-roll-Stmt}
use Rattle.vd_core.specs.Facts.{slots_of, slots_step, slots_made, IsWellMade, meets, of_rights, operands_fit, blocks_meet, all_meet, count_of, count_step, statement_count}
use Rattle.vd_constraints.specs.declared.system.Place.{Place}
use Rattle.vd_constraints.specs.declared.system.Place.TheVariants.{Slot, Block}
use Rattle.vd_constraints.specs.declared.system.Lower.{Lower}
use Rattle.vd_constraints.specs.declared.system.Check.{Check}
use Rattle.vd_constraints.specs.Systems.{Constraints, size, IsSmall}
use Rattle.vd_constraints.specs.Rules.{flows, right_rules, right_checks, with_branch, with_right, with_stored, with_flow, stmt_step, with_stmt, with_body, at_start, system_of}
use Rattle.vd_constraints.proofs.Growth.{rules_size, right_size, written_adds, branch_size, Step}

arity_few : (o : Op) → arity o ≤ 3
arity_few Add = omega arith
arity_few Sub = omega arith
arity_few Mul = omega arith
arity_few (Scale factor) = omega arith
arity_few Div = omega arith
arity_few Rem = omega arith
arity_few And = omega arith
arity_few Or = omega arith
arity_few Xor = omega arith
arity_few Not = omega arith
arity_few Flip = omega arith
arity_few (Shl bits) = omega arith
arity_few (Shr bits) = omega arith
arity_few Eq = omega arith
arity_few Ne = omega arith
arity_few Lt = omega arith
arity_few Le = omega arith
arity_few Min = omega arith
arity_few Max = omega arith
arity_few Mux = omega arith

flows_size : (ys : List SlotId) (x : SlotId) → length (flat_map (λ y. flows (Slot y) (Slot x)) ys) ≡ 2 * length ys
flows_size [] x = refl
flows_size (y ∷ ys) x = let rest = flows_size ys x in omega arith

right_few : (p : NormalForm) (pc : Place) (x : SlotId) (r : Right) → operands_fit r ≡ true → length (right_rules p pc x r) + length (right_checks p pc x r) ≤ 8
right_few p pc x (Lit n) fits = omega arith
right_few p pc x Turn fits = omega arith
right_few p pc x (Copy y) fits = omega arith
right_few p pc x (Load v) fits = omega arith
right_few p pc x (Apply o ys) fits =
    let same : length ys ≡ arity o = eqb-true (length ys) (arity o) fits in
    let few = arity_few o in
    let all = flows_size ys x in
    omega arith
right_few p pc x (Get v i) fits = omega arith
right_few p pc x (Input h) fits = omega arith
right_few p pc x (Declassify y to) fits = omega arith
right_few p pc x (Endorse y to) fits = omega arith

abbrev test : Stmt-F Bool → Bool
test z = of_rights operands_fit z && blocks_meet z

abbrev Few : Bool → Step → ℕ → Type 0
Few fits f n = fits ≡ true → (p : NormalForm) (pc : Place) (s : Constraints) → size (f p pc s) ≤ size s + 13 * n

abbrev M : Type 0
M = (s : Stmt) × Few (meets (of_rights operands_fit) s) (with_stmt s) (count_of s)

abbrev layer : Stmt-F M → Stmt-F Stmt
layer = map-Stmt M Stmt (λ m. m.0)

abbrev statements : List M → List Stmt
statements = map {B = Stmt} (λ (m : M). m.0)

all : (ms : List M) → Few (all_meet (of_rights operands_fit) (statements ms)) (with_body (statements ms)) (statement_count (statements ms))
all [] fits p pc s = omega arith
all (m ∷ ms) fits p pc s =
    let parts = and_parts (meets (of_rights operands_fit) m.0) (all_meet (of_rights operands_fit) (statements ms)) fits in
    let one = m.1 parts.0 p pc s in
    let rest = all ms parts.1 p pc (with_stmt m.0 p pc s) in
    let whole = sum_by-cons (λ (n : ℕ). n) (count_of m.0) (map count_of (statements ms)) in
    omega arith

abbrev all_true : List Bool → Bool
all_true = list_all (λ b. b)

abbrev meet_each : List M → List Bool
meet_each ms = map (meets (of_rights operands_fit)) (statements ms)

meet_all : (ms : List M) → all_true (meet_each ms) ≡ true → all_meet (of_rights operands_fit) (statements ms) ≡ true
meet_all ms h = sym (list_all-map (λ b. b) (meets (of_rights operands_fit)) (statements ms)) ∙ h

abbrev fitting : Stmt-F M → Bool
fitting y = test (map-Stmt Stmt Bool (meets (of_rights operands_fit)) (layer y))

step : (y : Stmt-F M) → Few (fitting y) (stmt_step (map-Stmt Stmt Step with_stmt (layer y))) (count_step (map-Stmt Stmt ℕ count_of (layer y)))
step (Stmt-F.Let x r) fits p pc s =
    let few = right_few p pc x r (and_parts (operands_fit r) true fits).0 in
    let one = right_size p pc x r s in
    let two = (written_adds p x (with_right p pc x r s)).few in
    omega arith
step (Stmt-F.NewVar v y) fits p pc s =
    let one = rules_size (flows (Slot y) (Slot v) ++ flows pc (Slot v)) s in
    let two = (written_adds p v (with_stored pc v y s)).few in
    omega arith
step (Stmt-F.NewArray v cells) fits p pc s =
    let one = rules_size (flows pc (Slot v)) s in
    let two = (written_adds p v (with_flow pc (Slot v) s)).few in
    omega arith
step (Stmt-F.Store v y) fits p pc s = let one = rules_size (flows (Slot y) (Slot v) ++ flows pc (Slot v)) s in omega arith
step (Stmt-F.Put v i y) fits p pc s = let one = rules_size (flows (Slot y) (Slot v) ++ flows (Slot i) (Slot v) ++ flows pc (Slot v)) s in omega arith
step (Stmt-F.Output y h offset) fits p pc s = omega (arith, length-append {A = Lower}, length-append {A = Check})
step (Stmt-F.If y a b offset) fits p pc s =
    let parts = and_parts (all_true (meet_each a)) (all_true (meet_each b)) fits in
    let t = with_branch (Slot y) pc s in
    let one = branch_size (Slot y) pc s in
    let two = all a (meet_all a parts.0) p (Block s.blocks) t in
    let three = all b (meet_all b parts.1) p (Block s.blocks) (with_body (statements a) p (Block s.blocks) t) in
    omega arith
step (Stmt-F.For count body) fits p pc s = let one = all body (meet_all body fits) p pc s in omega arith

at_roll : (y : Stmt-F M) → Few (meets (of_rights operands_fit) (roll-Stmt (layer y))) (with_stmt (roll-Stmt (layer y))) (count_of (roll-Stmt (layer y)))
at_roll y =
    subst (λ fits. Few fits (with_stmt (roll-Stmt (layer y))) (count_of (roll-Stmt (layer y)))) (sym (fold-roll-Stmt Bool test (layer y)))
    (subst₂ (Few (fitting y)) (sym (fold-roll-Stmt Step stmt_step (layer y))) (sym (fold-roll-Stmt ℕ count_step (layer y))) (step y))

few : (s : Stmt) → Few (meets (of_rights operands_fit) s) (with_stmt s) (count_of s)
few = ind-Stmt (λ s. Few (meets (of_rights operands_fit) s) (with_stmt s) (count_of s)) (λ x y is. subst (λ z. Few (meets (of_rights operands_fit) (roll-Stmt z)) (with_stmt (roll-Stmt z)) (count_of (roll-Stmt z))) is (at_roll y))

body_few : (body : List Stmt) → Few (all_meet (of_rights operands_fit) body) (with_body body) (statement_count body)
body_few [] fits p pc s = omega arith
body_few (x ∷ body) fits p pc s =
    let parts = and_parts (meets (of_rights operands_fit) x) (all_meet (of_rights operands_fit) body) fits in
    let one = few x parts.0 p pc s in
    let rest = body_few body parts.1 p pc (with_stmt x p pc s) in
    let whole = sum_by-cons (λ (n : ℕ). n) (count_of x) (map count_of body) in
    omega arith

-- ---- the system of a well-made program
abbrev N : Type 0
N = (x : Stmt) × (length (slots_of x) ≤ count_of x)

abbrev each : List N → List Stmt
each = map {B = Stmt} (λ (n : N). n.0)

each_few : (ns : List N) → length (slots_made (each ns)) ≤ statement_count (each ns)
each_few [] = omega arith
each_few (n ∷ ns) =
    let one = n.1 in
    let rest = each_few ns in
    let joined = length-append (slots_of n.0) (slots_made (each ns)) in
    let whole = sum_by-cons (λ (n : ℕ). n) (count_of n.0) (map count_of (each ns)) in
    omega arith

abbrev under : Stmt-F N → Stmt-F Stmt
under = map-Stmt N Stmt (λ n. n.0)

slots_step_few : (y : Stmt-F N) → length (slots_step (map-Stmt Stmt (List ℕ) slots_of (under y))) ≤ count_step (map-Stmt Stmt ℕ count_of (under y))
slots_step_few (Stmt-F.Let x r) = omega arith
slots_step_few (Stmt-F.NewVar v x) = omega arith
slots_step_few (Stmt-F.NewArray v cells) = omega arith
slots_step_few (Stmt-F.Store v x) = omega arith
slots_step_few (Stmt-F.Put v i x) = omega arith
slots_step_few (Stmt-F.Output x h offset) = omega arith
slots_step_few (Stmt-F.If x a b offset) =
    let one = each_few a in
    let two = each_few b in
    let joined = length-append (slots_made (each a)) (slots_made (each b)) in
    omega arith
slots_step_few (Stmt-F.For count body) = let one = each_few body in omega arith

slots_roll_few : (y : Stmt-F N) → length (slots_of (roll-Stmt (under y))) ≤ count_of (roll-Stmt (under y))
slots_roll_few y = subst₂ (λ (slots : List ℕ) (n : ℕ). length slots ≤ n) (sym (fold-roll-Stmt (List ℕ) slots_step (under y))) (sym (fold-roll-Stmt ℕ count_step (under y))) (slots_step_few y)

slots_few : (x : Stmt) → length (slots_of x) ≤ count_of x
slots_few = ind-Stmt (λ x. length (slots_of x) ≤ count_of x) (λ x y is. subst (λ z. length (slots_of (roll-Stmt z)) ≤ count_of (roll-Stmt z)) is (slots_roll_few y))

all_slots_few : (body : List Stmt) → length (slots_made body) ≤ statement_count body
all_slots_few [] = omega arith
all_slots_few (x ∷ body) =
    let one = slots_few x in
    let rest = all_slots_few body in
    let joined = length-append (slots_of x) (slots_made body) in
    let whole = sum_by-cons (λ (n : ℕ). n) (count_of x) (map count_of body) in
    omega arith

pub well_made_slots : (form : NormalForm) → IsWellMade form → length form.slots < 2 ^ 32
well_made_slots form is =
    let made : length (slots_made form.body) ≡ length form.slots = ap (λ (slots : List ℕ). length slots) is.in_order ∙ length-range_with_len 0 (length form.slots) in
    let few = all_slots_few form.body in
    let limit = is.limits.statements in
    omega arith

pub well_made_small : (form : NormalForm) → IsWellMade form → IsSmall (system_of form)
well_made_small form is =
    let few = body_few form.body is.operands form (Block 0) (at_start form) in
    let limit = is.limits.statements in
    omega arith
