-- The problem of a program within the limits has few slots and few values that are moved, none too often.
use Rattle.std.proofs.Common.{◌≡◌, ℕ, ◌+◌, ◌*◌, ◌≤◌, Bool, true, ◌&&◌, List, [], ◌∷◌, ◌++◌, map, length, sym, subst, subst₂, arith, length-append}
use Rattle.std.specs.Prelude.{sum}
use Rattle.std.specs.List.{AllByRecursion, list_all}
use Rattle.std.proofs.lemmas.List.{length-map}
use Rattle.std.proofs.lemmas.List.Elements.{All-from_recursion}
use Rattle.std.proofs.lemmas.List.Sums.{sum_by-cons}
use Rattle.std.proofs.lemmas.Bool.{and_parts, eqb-true}
use Rattle.vd_base.specs.Arity.{arity}
use Rattle.vd_base.specs.declared.ids.SlotId.{SlotId}
use Rattle.vd_core.specs.Facts.{IsWellMade, of_rights, operands_fit, blocks_meet, meets, all_meet, Weighing, weigh_step, weighing, weigh_all, count_step, count_of, statement_count}
use Rattle.vd_core.specs.declared.normal.NormalForm.{NormalForm}
use Rattle.vd_core.specs.declared.normal.Right.{Right}
use Rattle.vd_core.specs.declared.normal.Right.TheVariants.{Lit, Turn, Copy, Apply, Input, Declassify, Endorse, Load, Get}
use Rattle.vd_core.specs.declared.normal.Stmt.{Stmt, roll-Stmt, map-Stmt, ind-Stmt}
use Rattle.vd_core.specs.declared.normal.Stmt.TheOpen.{Stmt-F}
use Rattle.vd_core.specs.declared.normal.Stmt.TheFolds.{fold-roll-Stmt}
use Rattle.vd_constraints.specs.declared.labels.Labels.{Labels}
use Rattle.vd_space.specs.declared.problem.Making.{Making}
use Rattle.vd_space.specs.declared.problem.Use.{Use}
use Rattle.vd_space.specs.declared.problem.Output.{Output}
use Rattle.vd_space.specs.declared.problem.Guard.{Guard}
use Rattle.vd_space.specs.declared.problem.Index.{Index}
use Rattle.vd_space.specs.Reading.{Parts, Read, no_parts, joined, all_parts, use_of, guard_of, binding_parts, read_step, read_stmt, problem_of}
use Rattle.vd_space.specs.Sizes.{IsWithinLimits}
use Rattle.vd_space.proofs.Weighed.{few_operands, weigh_next, costs_low}

count_next : (n : ℕ) (ns : List ℕ) → sum (n ∷ ns) ≡ n + sum ns
count_next n ns = sum_by-cons (λ (k : ℕ). k) n ns

both : {X : Type 0} (P : X → Type 0) (xs ys : List X) → AllByRecursion P xs → AllByRecursion P ys → AllByRecursion P (xs ++ ys)
both P [] ys first second = second
both P (x ∷ xs) ys first second = (first.0, both P xs ys first.1 second)

module _ (most : ℕ) (l : Labels) where
  abbrev size : Parts → ℕ
  size parts = length parts.slots + length parts.uses + length parts.outputs + length parts.guards + length parts.indexes

  -- parts of so many statements, none executed more often than `most`
  record AreFew (count : ℕ) (parts : Parts) : Type 0 where
    few : size parts ≤ 4 * count
    few_uses : length parts.uses ≤ 3 * count
    slots : AllByRecursion (λ (m : Making). m.weight ≤ most) parts.slots
    uses : AllByRecursion (λ (u : Use). u.weight ≤ most) parts.uses
    outputs : AllByRecursion (λ (o : Output). o.weight ≤ most) parts.outputs
    guards : AllByRecursion (λ (guard : Guard). guard.weight ≤ most) parts.guards
    indexes : AllByRecursion (λ (i : Index). i.weight ≤ most) parts.indexes

  none_few : AreFew 0 no_parts
  none_few = record { few = omega arith; few_uses = omega arith; slots = tt; uses = tt; outputs = tt; guards = tt; indexes = tt }

  joined_size : (a b : Parts) → size (joined a b) ≡ size a + size b
  joined_size a b =
      let slots = length-append a.slots b.slots in
      let uses = length-append a.uses b.uses in
      let outputs = length-append a.outputs b.outputs in
      let guards = length-append a.guards b.guards in
      let indexes = length-append a.indexes b.indexes in
      omega (arith, slots, uses, outputs, guards, indexes)

  joined_few : (m n : ℕ) (a b : Parts) → AreFew m a → AreFew n b → AreFew (m + n) (joined a b)
  joined_few m n a b first second =
      let whole = joined_size a b in let first_few = first.few in let second_few = second.few in
      let both_uses = length-append a.uses b.uses in let first_uses = first.few_uses in let second_uses = second.few_uses in
      record {
        few = omega (arith, whole, first_few, second_few);
        few_uses = omega (arith, both_uses, first_uses, second_uses);
        slots = both (λ (making : Making). making.weight ≤ most) a.slots b.slots first.slots second.slots;
        uses = both (λ (u : Use). u.weight ≤ most) a.uses b.uses first.uses second.uses;
        outputs = both (λ (o : Output). o.weight ≤ most) a.outputs b.outputs first.outputs second.outputs;
        guards = both (λ (guard : Guard). guard.weight ≤ most) a.guards b.guards first.guards second.guards;
        indexes = both (λ (i : Index). i.weight ≤ most) a.indexes b.indexes first.indexes second.indexes;
      }

  more_few : (m n : ℕ) (parts : Parts) → m ≤ n → AreFew m parts → AreFew n parts
  more_few m n parts low is = let few = is.few in let few_uses = is.few_uses in record { few = omega (arith, few, low); few_uses = omega (arith, few_uses, low); slots = is.slots; uses = is.uses; outputs = is.outputs; guards = is.guards; indexes = is.indexes }

  uses_low : (weight : ℕ) (x : SlotId) (ys : List SlotId) → weight ≤ most → AllByRecursion (λ (u : Use). u.weight ≤ most) (map (use_of weight x) ys)
  uses_low weight x [] low = tt
  uses_low weight x (y ∷ ys) low = (low, uses_low weight x ys low)

  binding_few : (weight : ℕ) (x : SlotId) (r : Right) → weight ≤ most → operands_fit r ≡ true → AreFew 1 (binding_parts l weight x r)
  binding_few weight x (Lit k) low fits = record { few = omega arith; few_uses = omega arith; slots = (low, tt); uses = tt; outputs = tt; guards = tt; indexes = tt }
  binding_few weight x Turn low fits = record { few = omega arith; few_uses = omega arith; slots = (low, tt); uses = tt; outputs = tt; guards = tt; indexes = tt }
  binding_few weight x (Copy y) low fits = record { few = omega arith; few_uses = omega arith; slots = (low, tt); uses = (low, tt); outputs = tt; guards = tt; indexes = tt }
  binding_few weight x (Apply o ys) low fits =
      let many : length ys ≡ arity o = eqb-true (length ys) (arity o) fits in
      let three = few_operands o in
      let uses = length-map ys (use_of weight x) in
      record { few = omega (arith, many, three, uses); few_uses = omega (arith, many, three, uses); slots = (low, tt); uses = uses_low weight x ys low; outputs = tt; guards = tt; indexes = tt }
  binding_few weight x (Input h) low fits = record { few = omega arith; few_uses = omega arith; slots = (low, tt); uses = tt; outputs = tt; guards = tt; indexes = tt }
  binding_few weight x (Declassify y to) low fits = record { few = omega arith; few_uses = omega arith; slots = (low, tt); uses = (low, tt); outputs = tt; guards = tt; indexes = tt }
  binding_few weight x (Endorse y to) low fits = record { few = omega arith; few_uses = omega arith; slots = (low, tt); uses = (low, tt); outputs = tt; guards = tt; indexes = tt }
  binding_few weight x (Load v) low fits = record { few = omega arith; few_uses = omega arith; slots = (low, tt); uses = (low, tt); outputs = tt; guards = tt; indexes = tt }
  binding_few weight x (Get v i) low fits = record { few = omega arith; few_uses = omega arith; slots = (low, tt); uses = (low, tt); outputs = tt; guards = tt; indexes = (low, tt) }

  abbrev Few : Bool → Read → Weighing → ℕ → Type 0
  Few fits read weigh count = fits ≡ true → (weight : ℕ) → weigh weight ≤ most → AreFew count (read.parts weight)

  abbrev fits_step : Stmt-F Bool → Bool
  fits_step s = of_rights operands_fit s && blocks_meet s

  abbrev fits_stmt : Stmt → Bool
  fits_stmt = meets (of_rights operands_fit)

  abbrev M : Type 0
  M = (s : Stmt) × Few (fits_stmt s) (read_stmt l s) (weighing s) (count_of s)

  abbrev statements : List M → List Stmt
  statements = map {B = Stmt} (λ (m : M). m.0)

  abbrev layer : Stmt-F M → Stmt-F Stmt
  layer = map-Stmt M Stmt (λ m. m.0)

  next_few : (fits : Bool) (read : Read) (weigh : Weighing) (count : ℕ) (reads : List Read) (weighs : List Weighing) (counts : List ℕ) (weight : ℕ) → Few fits read weigh count → fits ≡ true
      → (weigh_all weighs weight ≤ most → AreFew (sum counts) (all_parts reads weight)) → weigh_all (weigh ∷ weighs) weight ≤ most → AreFew (sum (count ∷ counts)) (all_parts (read ∷ reads) weight)
  next_few fits read weigh count reads weighs counts weight few is rest low =
      let weights = weigh_next weigh weighs weight in
      subst (λ n. AreFew n (all_parts (read ∷ reads) weight)) (sym (count_next count counts))
      (joined_few count (sum counts) (read.parts weight) (all_parts reads weight) (few is weight (omega (arith, weights, low))) (rest (omega (arith, weights, low))))

  all_few : (ms : List M) → list_all (λ b. b) (map fits_stmt (statements ms)) ≡ true → (weight : ℕ) → weigh_all (map weighing (statements ms)) weight ≤ most → AreFew (sum (map count_of (statements ms))) (all_parts (map (read_stmt l) (statements ms)) weight)
  all_few [] fits weight low = none_few
  all_few (m ∷ ms) fits weight low =
      let parts = and_parts (fits_stmt m.0) (list_all (λ b. b) (map fits_stmt (statements ms))) fits in
      next_few (fits_stmt m.0) (read_stmt l m.0) (weighing m.0) (count_of m.0) (map (read_stmt l) (statements ms)) (map weighing (statements ms)) (map count_of (statements ms)) weight m.1 parts.0 (all_few ms parts.1 weight) low

  step : (y : Stmt-F M) → Few (fits_step (map-Stmt Stmt Bool fits_stmt (layer y))) (read_step l (map-Stmt Stmt Read (read_stmt l) (layer y))) (weigh_step (map-Stmt Stmt Weighing weighing (layer y))) (count_step (map-Stmt Stmt ℕ count_of (layer y)))
  step (Stmt-F.Let x r) fits weight low = binding_few weight x r low (and_parts (operands_fit r) true fits).0
  step (Stmt-F.NewVar v y) fits weight low = record { few = omega arith; few_uses = omega arith; slots = (low, tt); uses = (low, tt); outputs = tt; guards = tt; indexes = tt }
  step (Stmt-F.NewArray v cells) fits weight low = record { few = omega arith; few_uses = omega arith; slots = (low, tt); uses = tt; outputs = tt; guards = tt; indexes = tt }
  step (Stmt-F.Store v y) fits weight low = record { few = omega arith; few_uses = omega arith; slots = tt; uses = (low, tt); outputs = tt; guards = tt; indexes = tt }
  step (Stmt-F.Put v i y) fits weight low = record { few = omega arith; few_uses = omega arith; slots = tt; uses = (low, tt); outputs = tt; guards = tt; indexes = (low, tt) }
  step (Stmt-F.Output y h offset) fits weight low = record { few = omega arith; few_uses = omega arith; slots = tt; uses = tt; outputs = (low, tt); guards = tt; indexes = tt }
  step (Stmt-F.If y a b offset) fits weight low =
      let parts = and_parts (list_all (λ b. b) (map fits_stmt (statements a))) (list_all (λ b. b) (map fits_stmt (statements b))) fits in
      let ra = map (read_stmt l) (statements a) in
      let rb = map (read_stmt l) (statements b) in
      let wa = weigh_all (map weighing (statements a)) weight in
      let wb = weigh_all (map weighing (statements b)) weight in
      let ca = sum (map count_of (statements a)) in
      let cb = sum (map count_of (statements b)) in
      if_few y weight ra rb wa wb ca cb low (all_few a parts.0 weight) (all_few b parts.1 weight)
    where
      if_few : (y : SlotId) (weight : ℕ) (ra rb : List Read) (wa wb ca cb : ℕ) → weight + wa + wb ≤ most → (wa ≤ most → AreFew ca (all_parts ra weight)) → (wb ≤ most → AreFew cb (all_parts rb weight))
          → AreFew (1 + ca + cb) (joined (record no_parts { guards = guard_of y weight (ra ++ rb) ∷ [] }) (joined (all_parts ra weight) (all_parts rb weight)))
      if_few y weight ra rb wa wb ca cb low first second =
          let guard : Parts = record no_parts { guards = guard_of y weight (ra ++ rb) ∷ [] } in
          let here : AreFew 1 guard = record { few = omega arith; few_uses = omega arith; slots = tt; uses = tt; outputs = tt; guards = (omega (arith, low), tt); indexes = tt } in
          more_few (1 + (ca + cb)) (1 + ca + cb) (joined guard (joined (all_parts ra weight) (all_parts rb weight))) (omega arith)
          (joined_few 1 (ca + cb) guard (joined (all_parts ra weight) (all_parts rb weight)) here (joined_few ca cb (all_parts ra weight) (all_parts rb weight) (first (omega (arith, low))) (second (omega (arith, low)))))
  step (Stmt-F.For count body) fits weight low =
      let w = weigh_all (map weighing (statements body)) (weight * count) in
      for_few (all_parts (map (read_stmt l) (statements body)) (weight * count)) weight w (sum (map count_of (statements body))) low (all_few body fits (weight * count))
    where
      for_few : (parts : Parts) (weight w c : ℕ) → weight + w ≤ most → (w ≤ most → AreFew c parts) → AreFew (1 + c) parts
      for_few parts weight w c low all = more_few c (1 + c) parts (omega arith) (all (omega (arith, low)))

  stmt_few : (s : Stmt) → Few (fits_stmt s) (read_stmt l s) (weighing s) (count_of s)
  stmt_few = ind-Stmt (λ s. Few (fits_stmt s) (read_stmt l s) (weighing s) (count_of s)) (λ x y is. subst (λ z. Few (fits_stmt (roll-Stmt z)) (read_stmt l (roll-Stmt z)) (weighing (roll-Stmt z)) (count_of (roll-Stmt z))) is (at_roll y))
    where
      at_roll : (y : Stmt-F M) → Few (fits_stmt (roll-Stmt (layer y))) (read_stmt l (roll-Stmt (layer y))) (weighing (roll-Stmt (layer y))) (count_of (roll-Stmt (layer y)))
      at_roll y =
          subst₂ (Few (fits_stmt (roll-Stmt (layer y))) (read_stmt l (roll-Stmt (layer y)))) (sym (fold-roll-Stmt Weighing weigh_step (layer y))) (sym (fold-roll-Stmt ℕ count_step (layer y)))
          (subst₂ (λ fits read. Few fits read (weigh_step (map-Stmt Stmt Weighing weighing (layer y))) (count_step (map-Stmt Stmt ℕ count_of (layer y)))) (sym (fold-roll-Stmt Bool fits_step (layer y))) (sym (fold-roll-Stmt Read (read_step l) (layer y))) (step y))

  body_few : (body : List Stmt) → all_meet (of_rights operands_fit) body ≡ true → (weight : ℕ) → weigh_all (map weighing body) weight ≤ most → AreFew (statement_count body) (all_parts (map (read_stmt l) body) weight)
  body_few [] fits weight low = none_few
  body_few (s ∷ body) fits weight low =
      let parts = and_parts (fits_stmt s) (all_meet (of_rights operands_fit) body) fits in
      next_few (fits_stmt s) (read_stmt l s) (weighing s) (count_of s) (map (read_stmt l) body) (map weighing body) (map count_of body) weight (stmt_few s) parts.0 (body_few body parts.1 weight) low

pub is_within_limits : (p : NormalForm) (l : Labels) → IsWellMade p → IsWithinLimits (problem_of p l)
is_within_limits p l is =
    let few = body_few 65536 l p.body is.operands 1 is.limits.weights in
    let problem = problem_of p l in
    let count = few.few in
    let uses = few.few_uses in
    let statements_few = is.limits.statements in
    record {
      count = omega (arith, count, statements_few);
      few_uses = omega (arith, uses, statements_few);
      costs = costs_low p l is;
      slots = All-from_recursion (λ (m : Making). m.weight ≤ 65536) problem.slots few.slots;
      uses = All-from_recursion (λ (u : Use). u.weight ≤ 65536) problem.uses few.uses;
      outputs = All-from_recursion (λ (o : Output). o.weight ≤ 65536) problem.outputs few.outputs;
      guards = All-from_recursion (λ (guard : Guard). guard.weight ≤ 65536) problem.guards few.guards;
      indexes = All-from_recursion (λ (i : Index). i.weight ≤ 65536) problem.indexes few.indexes;
    }
