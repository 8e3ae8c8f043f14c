-- What the parts of statements cost at most, by the weights of the statements: so each cost of a program's problem is a number of 32 bits.
use Rattle.std.proofs.Common.{◌≡◌, ℕ, ◌+◌, ◌*◌, ◌≤◌, Bool, true, ◌&&◌, List, [], ◌∷◌, ◌++◌, map, length, sym, subst, subst₂, arith, mul-le-mul_left}
use Rattle.std.specs.List.{list_all}
use Rattle.std.proofs.lemmas.Int.{ints}
use Rattle.std.proofs.lemmas.List.{length-map}
use Rattle.std.proofs.lemmas.List.Sums.{sum_by-cons}
use Rattle.std.proofs.lemmas.Bool.{and_parts, eqb-true}
use Rattle.vd_base.specs.Arity.{arity}
use Rattle.vd_base.specs.declared.ids.SlotId.{SlotId}
use Rattle.vd_base.specs.declared.operations.Op.{Op}
use Rattle.vd_base.specs.declared.operations.Op.TheVariants as op
use Rattle.vd_core.specs.Facts.{IsWellMade, of_rights, operands_fit, blocks_meet, meets, all_meet, Weighing, weigh_step, weighing, weigh_all}
use Rattle.vd_core.specs.declared.normal.NormalForm.{NormalForm}
use Rattle.vd_core.specs.declared.normal.Right.{Right}
use Rattle.vd_core.specs.declared.normal.Right.TheVariants.{Lit, Turn, Copy, Apply, Input, Declassify, Endorse, Load, Get}
use Rattle.vd_core.specs.declared.normal.Stmt.{Stmt, roll-Stmt, map-Stmt, ind-Stmt}
use Rattle.vd_core.specs.declared.normal.Stmt.TheOpen.{Stmt-F}
use Rattle.vd_core.specs.declared.normal.Stmt.TheFolds.{fold-roll-Stmt}
use Rattle.vd_constraints.specs.declared.labels.Labels.{Labels}
use Rattle.vd_constraints.specs.Rules.{label}
use Rattle.vd_space.specs.declared.problem.Making.{Making}
use Rattle.vd_space.specs.declared.problem.Use.{Use}
use Rattle.vd_space.specs.declared.problem.Output.{Output}
use Rattle.vd_space.specs.declared.problem.Guard.{Guard}
use Rattle.vd_space.specs.declared.problem.Index.{Index}
use Rattle.vd_space.specs.Reading.{Parts, Read, no_parts, joined, all_parts, use_of, guard_of, binding_parts, read_step, read_stmt, problem_of}
use Rattle.vd_space.specs.Spaces.{IsProblem}
use Rattle.vd_space.specs.Sizes.{heft, amount}
use Rattle.vd_space.proofs.Priced.{heft_append, cost_up}
use Rattle.vd_space.proofs.Programs.{names_below}

abbrev parts_amount : Parts → ℕ
parts_amount parts = amount parts.slots parts.uses parts.outputs parts.guards parts.indexes

joined_amount : (a b : Parts) → parts_amount (joined a b) ≡ parts_amount a + parts_amount b
joined_amount a b =
    let slots = heft_append (λ (m : Making). 220 * m.weight) a.slots b.slots in
    let uses = heft_append (λ (u : Use). 212 * u.weight) a.uses b.uses in
    let outputs = heft_append (λ (o : Output). 212 * o.weight) a.outputs b.outputs in
    let guards = heft_append (λ (guard : Guard). 848 * guard.weight) a.guards b.guards in
    let indexes = heft_append (λ (i : Index). 848 * i.weight) a.indexes b.indexes in
    omega (arith, slots, uses, outputs, guards, indexes)

joined_cost : (a b : Parts) (m n : ℕ) → parts_amount a ≤ 1704 * m → parts_amount b ≤ 1704 * n → parts_amount (joined a b) ≤ 1704 * (m + n)
joined_cost a b m n first second = let both = joined_amount a b in omega (arith, both, first, second)

regrouped : (n a b c : ℕ) → n ≤ 1704 * (a + (b + c)) → n ≤ 1704 * (a + b + c)
regrouped n a b c low = omega (arith, low)

more : (n a b : ℕ) → n ≤ 1704 * b → n ≤ 1704 * (a + b)
more n a b low = omega (arith, low)

pub weigh_next : (w : Weighing) (ws : List Weighing) (around : ℕ) → weigh_all (w ∷ ws) around ≡ w around + weigh_all ws around
weigh_next w ws around = sum_by-cons (λ (n : ℕ). n) (w around) (map (λ (v : Weighing). v around) ws)

-- the first statement, and those behind it
next_cost : (a b : Parts) (w : Weighing) (ws : List Weighing) (around : ℕ) → parts_amount a ≤ 1704 * w around → parts_amount b ≤ 1704 * weigh_all ws around → parts_amount (joined a b) ≤ 1704 * weigh_all (w ∷ ws) around
next_cost a b w ws around first second =
    subst (λ n. parts_amount (joined a b) ≤ 1704 * n) (sym (weigh_next w ws around)) (joined_cost a b (w around) (weigh_all ws around) first second)

pub few_operands : (o : Op) → arity o ≤ 3
few_operands op.Mux = omega arith
few_operands op.Not = omega arith
few_operands op.Flip = omega arith
few_operands (op.Scale k) = omega arith
few_operands (op.Shl k) = omega arith
few_operands (op.Shr k) = omega arith
few_operands o = omega arith

uses_amount : (weight : ℕ) (x : SlotId) (ys : List SlotId) → heft (λ (u : Use). 212 * u.weight) (map (use_of weight x) ys) ≡ 212 * weight * length ys
uses_amount weight x [] = omega arith
uses_amount weight x (y ∷ ys) = let rest = uses_amount weight x ys in omega (arith, rest)

module _ (l : Labels) where
  binding_amount : (weight : ℕ) (x : SlotId) (r : Right) → operands_fit r ≡ true → parts_amount (binding_parts l weight x r) ≤ 1704 * weight
  binding_amount weight x (Lit k) fits = omega arith
  binding_amount weight x Turn fits = omega arith
  binding_amount weight x (Copy y) fits = omega arith
  binding_amount weight x (Apply o ys) fits =
      let many : length ys ≡ arity o = eqb-true (length ys) (arity o) fits in
      let few = few_operands o in
      let three : length ys ≤ 3 = omega (arith, many, few) in
      let uses = uses_amount weight x ys in
      let product : 212 * weight * length ys ≤ 212 * weight * 3 = mul-le-mul_left (212 * weight) three in
      omega (arith, uses, product)
  binding_amount weight x (Input h) fits = omega arith
  binding_amount weight x (Declassify y to) fits = omega arith
  binding_amount weight x (Endorse y to) fits = omega arith
  binding_amount weight x (Load v) fits = omega arith
  binding_amount weight x (Get v i) fits = omega arith

  abbrev Costs : Bool → Read → (ℕ → ℕ) → Type 0
  Costs fits read weigh = fits ≡ true → (weight : ℕ) → parts_amount (read.parts weight) ≤ 1704 * weigh weight

  abbrev fits_step : Stmt-F Bool → Bool
  fits_step s = of_rights operands_fit s && blocks_meet s

  abbrev fits_stmt : Stmt → Bool
  fits_stmt = meets (of_rights operands_fit)

  abbrev M : Type 0
  M = (s : Stmt) × Costs (fits_stmt s) (read_stmt l s) (weighing s)

  abbrev statements : List M → List Stmt
  statements = map {B = Stmt} (λ (m : M). m.0)

  abbrev layer : Stmt-F M → Stmt-F Stmt
  layer = map-Stmt M Stmt (λ m. m.0)

  -- those of a block are tests of its statements
  all_cost : (ms : List M) → list_all (λ b. b) (map fits_stmt (statements ms)) ≡ true → (weight : ℕ) → parts_amount (all_parts (map (read_stmt l) (statements ms)) weight) ≤ 1704 * weigh_all (map weighing (statements ms)) weight
  all_cost [] fits weight = omega arith
  all_cost (m ∷ ms) fits weight =
      let parts = and_parts (fits_stmt m.0) (list_all (λ b. b) (map fits_stmt (statements ms))) fits in
      next_cost ((read_stmt l m.0).parts weight) (all_parts (map (read_stmt l) (statements ms)) weight) (weighing m.0) (map weighing (statements ms)) weight (m.1 parts.0 weight) (all_cost ms parts.1 weight)

  step : (y : Stmt-F M) → Costs (fits_step (map-Stmt Stmt Bool fits_stmt (layer y))) (read_step l (map-Stmt Stmt Read (read_stmt l) (layer y))) (weigh_step (map-Stmt Stmt (ℕ → ℕ) weighing (layer y)))
  step (Stmt-F.Let x r) fits weight = binding_amount weight x r (and_parts (operands_fit r) true fits).0
  step (Stmt-F.NewVar v y) fits weight = omega arith
  step (Stmt-F.NewArray v cells) fits weight = omega arith
  step (Stmt-F.Store v y) fits weight = omega arith
  step (Stmt-F.Put v i y) fits weight = omega arith
  step (Stmt-F.Output y h offset) fits weight = omega arith
  step (Stmt-F.If y a b offset) fits weight =
      let parts = and_parts (list_all (λ b. b) (map fits_stmt (statements a))) (list_all (λ b. b) (map fits_stmt (statements b))) fits in
      let ra = map (read_stmt l) (statements a) in
      let rb = map (read_stmt l) (statements b) in
      let guard : Parts = record no_parts { guards = guard_of y weight (ra ++ rb) ∷ [] } in
      let wa = weigh_all (map weighing (statements a)) weight in
      let wb = weigh_all (map weighing (statements b)) weight in
      let branches = joined_cost (all_parts ra weight) (all_parts rb weight) wa wb (all_cost a parts.0 weight) (all_cost b parts.1 weight) in
      let here : parts_amount guard ≤ 1704 * weight = omega arith in
      let whole = joined_cost guard (joined (all_parts ra weight) (all_parts rb weight)) weight (wa + wb) here branches in
      regrouped (parts_amount (joined guard (joined (all_parts ra weight) (all_parts rb weight)))) weight wa wb whole
  step (Stmt-F.For count body) fits weight =
      let w = weigh_all (map weighing (statements body)) (weight * count) in
      more (parts_amount (all_parts (map (read_stmt l) (statements body)) (weight * count))) weight w (all_cost body fits (weight * count))

  stmt_costs : (s : Stmt) → Costs (fits_stmt s) (read_stmt l s) (weighing s)
  stmt_costs = ind-Stmt (λ s. Costs (fits_stmt s) (read_stmt l s) (weighing s)) (λ x y is. subst (λ z. Costs (fits_stmt (roll-Stmt z)) (read_stmt l (roll-Stmt z)) (weighing (roll-Stmt z))) is (at_roll y))
    where
      at_roll : (y : Stmt-F M) → Costs (fits_stmt (roll-Stmt (layer y))) (read_stmt l (roll-Stmt (layer y))) (weighing (roll-Stmt (layer y)))
      at_roll y =
          subst (Costs (fits_stmt (roll-Stmt (layer y))) (read_stmt l (roll-Stmt (layer y)))) (sym (fold-roll-Stmt (ℕ → ℕ) weigh_step (layer y)))
          (subst₂ (λ fits read. Costs fits read (weigh_step (map-Stmt Stmt (ℕ → ℕ) weighing (layer y)))) (sym (fold-roll-Stmt Bool fits_step (layer y))) (sym (fold-roll-Stmt Read (read_step l) (layer y))) (step y))

  body_costs : (body : List Stmt) → all_meet (of_rights operands_fit) body ≡ true → (weight : ℕ) → parts_amount (all_parts (map (read_stmt l) body) weight) ≤ 1704 * weigh_all (map weighing body) weight
  body_costs [] fits weight = omega arith
  body_costs (s ∷ body) fits weight =
      let parts = and_parts (fits_stmt s) (all_meet (of_rights operands_fit) body) fits in
      next_cost ((read_stmt l s).parts weight) (all_parts (map (read_stmt l) body) weight) (weighing s) (map weighing body) weight (stmt_costs s parts.0 weight) (body_costs body parts.1 weight)

pub costs_low : (p : NormalForm) (l : Labels) → IsWellMade p → parts_amount (all_parts (map (read_stmt l) p.body) 1) ≤ 1704 * 65536
costs_low p l is =
    let most = body_costs l p.body is.operands 1 in
    let weights = is.limits.weights in
    omega (arith, most, weights)

pub is_problem : (p : NormalForm) (l : Labels) → IsWellMade p → IsProblem (problem_of p l)
is_problem p l is =
    let names = names_below p l is in
    let problem = problem_of p l in
    let size = length-map p.labels (label p) in
    let same = is.labels in
    let few = is.limits.hosts in
    let weights = is.limits.weights in
    let most = body_costs l p.body is.operands 1 in
    let four : length problem.hosts ≤ 4 = omega (arith, size, same, few) in
    record {
      uses = names.uses;
      outputs = names.outputs;
      guards = names.guards;
      indexes = names.indexes;
      fits = λ list full valid. let up = cost_up problem four list in let high = up.high in (up.low, omega (arith, ints, high, most, weights));
    }
