-- The parts of a program name its own slots, and the labels of what it makes are those of the labelling.
use Rattle.std.proofs.Common.{◌≡◌, ℕ, ◌*◌, ◌<◌, Bool, true, ◌&&◌, List, [], ◌∷◌, ◌++◌, map, sym, subst, subst₂}
use Rattle.std.specs.List.{AllByRecursion, list_all}
use Rattle.std.proofs.lemmas.Bool.{and_parts, ltb-true}
use Rattle.vd_base.specs.declared.ids.SlotId.{SlotId}
use Rattle.vd_base.specs.declared.rows.Row.{Row}
use Rattle.vd_base.specs.declared.rows.Row.TheVariants as row
use Rattle.vd_core.specs.declared.normal.Right.{Right}
use Rattle.vd_core.specs.declared.normal.Right.TheVariants.{Lit, Turn, Copy, Apply, Input, Declassify, Endorse, Load, Get}
use Rattle.vd_core.specs.declared.normal.Stmt.{Stmt, roll-Stmt, map-Stmt, ind-Stmt}
use Rattle.vd_core.specs.declared.normal.Stmt.TheOpen.{Stmt-F}
use Rattle.vd_core.specs.declared.normal.Stmt.TheFolds.{fold-roll-Stmt}
use Rattle.vd_constraints.specs.declared.labels.Labels.{Labels}
use Rattle.vd_constraints.specs.Scoped.{is_below, right_below, stmt_below, slots_below, block_below}
use Rattle.vd_space.specs.declared.problem.Making.{Making}
use Rattle.vd_space.specs.declared.problem.Output.{Output}
use Rattle.vd_space.specs.declared.problem.Guard.{Guard}
use Rattle.vd_space.specs.Reading.{Parts, Read, no_parts, joined, all_parts, making_of, use_of, row_of, guard_of, binding_parts, read_step, read_stmt}
use Rattle.vd_space.specs.Spaces.{IsUse, IsIndex}

both : {X : Type 0} (P : X → Type 0) (xs ys : List X) → AllByRecursion P xs → AllByRecursion P ys → AllByRecursion P (xs ++ ys)
both P [] ys first second = second
both P (x ∷ xs) ys first second = (first.0, both P xs ys first.1 second)

below : (n : ℕ) (x : SlotId) → is_below n x ≡ true → x.0 < n
below n x is = ltb-true x.0 n is

module _ (n : ℕ) (P : Making → Type 0) (l : Labels) (makes : (row : Row) (weight : ℕ) (x : SlotId) → x.0 < n → P (making_of l row weight x)) where
  pub record PartsFit (parts : Parts) : Type 0 where
    pub slots : AllByRecursion P parts.slots
    pub uses : AllByRecursion (IsUse n) parts.uses
    pub outputs : AllByRecursion (λ (o : Output). o.slot.0 < n) parts.outputs
    pub guards : AllByRecursion (λ (guard : Guard). guard.slot.0 < n) parts.guards
    pub indexes : AllByRecursion (IsIndex n) parts.indexes

  none_fit : PartsFit no_parts
  none_fit = record { slots = tt; uses = tt; outputs = tt; guards = tt; indexes = tt }

  joined_fit : (a b : Parts) → PartsFit a → PartsFit b → PartsFit (joined a b)
  joined_fit a b first second = record {
    slots = both P a.slots b.slots first.slots second.slots;
    uses = both (IsUse n) a.uses b.uses first.uses second.uses;
    outputs = both (λ (o : Output). o.slot.0 < n) a.outputs b.outputs first.outputs second.outputs;
    guards = both (λ (guard : Guard). guard.slot.0 < n) a.guards b.guards first.guards second.guards;
    indexes = both (IsIndex n) a.indexes b.indexes first.indexes second.indexes;
  }

  uses_fit : (weight : ℕ) (x : SlotId) (ys : List SlotId) → x.0 < n → list_all (is_below n) ys ≡ true → AllByRecursion (IsUse n) (map (use_of weight x) ys)
  uses_fit weight x [] low all = tt
  uses_fit weight x (y ∷ ys) low all =
      let parts = and_parts (is_below n y) (list_all (is_below n) ys) all in
      (record { source = below n y parts.0; target = low }, uses_fit weight x ys low parts.1)

  one_use : (weight : ℕ) (x y : SlotId) → x.0 < n → is_below n y ≡ true → AllByRecursion (IsUse n) (use_of weight x y ∷ [])
  one_use weight x y low is = (record { source = below n y is; target = low }, tt)

  binding_fits : (weight : ℕ) (x : SlotId) (r : Right) → x.0 < n → right_below n r ≡ true → PartsFit (binding_parts l weight x r)
  binding_fits weight x (Lit k) low all = record { slots = (makes (row_of (Lit k)) weight x low, tt); uses = tt; outputs = tt; guards = tt; indexes = tt }
  binding_fits weight x Turn low all = record { slots = (makes (row_of Turn) weight x low, tt); uses = tt; outputs = tt; guards = tt; indexes = tt }
  binding_fits weight x (Copy y) low all = record { slots = (makes (row_of (Copy y)) weight x low, tt); uses = one_use weight x y low all; outputs = tt; guards = tt; indexes = tt }
  binding_fits weight x (Apply op ys) low all = record { slots = (makes (row_of (Apply op ys)) weight x low, tt); uses = uses_fit weight x ys low all; outputs = tt; guards = tt; indexes = tt }
  binding_fits weight x (Input h) low all = record { slots = (makes (row_of (Input h)) weight x low, tt); uses = tt; outputs = tt; guards = tt; indexes = tt }
  binding_fits weight x (Declassify y to) low all = record { slots = (makes (row_of (Declassify y to)) weight x low, tt); uses = one_use weight x y low all; outputs = tt; guards = tt; indexes = tt }
  binding_fits weight x (Endorse y to) low all = record { slots = (makes (row_of (Endorse y to)) weight x low, tt); uses = one_use weight x y low all; outputs = tt; guards = tt; indexes = tt }
  binding_fits weight x (Load v) low all = record { slots = (makes (row_of (Load v)) weight x low, tt); uses = one_use weight x v low all; outputs = tt; guards = tt; indexes = tt }
  binding_fits weight x (Get v i) low all =
      let parts = and_parts (is_below n v) (is_below n i) all in
      record { slots = (makes (row_of (Get v i)) weight x low, tt); uses = one_use weight x v low parts.0; outputs = tt; guards = tt; indexes = (record { array = below n v parts.0; index = below n i parts.1 }, tt) }

  abbrev Fits : Bool → Read → Type 0
  Fits low read = low ≡ true → (weight : ℕ) → PartsFit (read.parts weight)

  abbrev M : Type 0
  M = (s : Stmt) × Fits (slots_below n s) (read_stmt l s)

  abbrev statements : List M → List Stmt
  statements = map {B = Stmt} (λ (m : M). m.0)

  abbrev layer : Stmt-F M → Stmt-F Stmt
  layer = map-Stmt M Stmt (λ m. m.0)

  all_fit : (ms : List M) → block_below n (statements ms) ≡ true → (weight : ℕ) → PartsFit (all_parts (map (read_stmt l) (statements ms)) weight)
  all_fit [] low weight = none_fit
  all_fit (m ∷ ms) low weight =
      let parts = and_parts (slots_below n m.0) (block_below n (statements ms)) low in
      joined_fit ((read_stmt l m.0).parts weight) (all_parts (map (read_stmt l) (statements ms)) weight) (m.1 parts.0 weight) (all_fit ms parts.1 weight)

  step : (y : Stmt-F M) → Fits (stmt_below n (map-Stmt Stmt Bool (slots_below n) (layer y))) (read_step l (map-Stmt Stmt Read (read_stmt l) (layer y)))
  step (Stmt-F.Let x r) low weight = let parts = and_parts (is_below n x) (right_below n r) low in binding_fits weight x r (below n x parts.0) parts.1
  step (Stmt-F.NewVar v y) low weight =
      let parts = and_parts (is_below n v) (is_below n y) low in
      record { slots = (makes row.Variable weight v (below n v parts.0), tt); uses = one_use weight v y (below n v parts.0) parts.1; outputs = tt; guards = tt; indexes = tt }
  step (Stmt-F.NewArray v cells) low weight = record { slots = (makes row.Variable weight v (below n v low), tt); uses = tt; outputs = tt; guards = tt; indexes = tt }
  step (Stmt-F.Store v y) low weight =
      let parts = and_parts (is_below n v) (is_below n y) low in
      record { slots = tt; uses = one_use weight v y (below n v parts.0) parts.1; outputs = tt; guards = tt; indexes = tt }
  step (Stmt-F.Put v i y) low weight =
      let whole = and_parts (is_below n v && is_below n i) (is_below n y) low in
      let parts = and_parts (is_below n v) (is_below n i) whole.0 in
      record { slots = tt; uses = one_use weight v y (below n v parts.0) whole.1; outputs = tt; guards = tt; indexes = (record { array = below n v parts.0; index = below n i parts.1 }, tt) }
  step (Stmt-F.Output y h offset) low weight = record { slots = tt; uses = tt; outputs = (below n y low, tt); guards = tt; indexes = tt }
  step (Stmt-F.If y a b offset) low weight =
      let whole = and_parts (is_below n y && block_below n (statements a)) (block_below n (statements b)) low in
      let parts = and_parts (is_below n y) (block_below n (statements a)) whole.0 in
      let ra = map (read_stmt l) (statements a) in
      let rb = map (read_stmt l) (statements b) in
      let guard : Parts = record no_parts { guards = guard_of y weight (ra ++ rb) ∷ [] } in
      let guard_fits : PartsFit guard = record { slots = tt; uses = tt; outputs = tt; guards = (below n y parts.0, tt); indexes = tt } in
      joined_fit guard (joined (all_parts ra weight) (all_parts rb weight)) guard_fits (joined_fit (all_parts ra weight) (all_parts rb weight) (all_fit a parts.1 weight) (all_fit b whole.1 weight))
  step (Stmt-F.For count body) low weight = all_fit body low (weight * count)

  stmt_fits_in : (s : Stmt) → Fits (slots_below n s) (read_stmt l s)
  stmt_fits_in = ind-Stmt (λ s. Fits (slots_below n s) (read_stmt l s)) (λ x y is. subst (λ z. Fits (slots_below n (roll-Stmt z)) (read_stmt l (roll-Stmt z))) is (at_roll y))
    where
      at_roll : (y : Stmt-F M) → Fits (slots_below n (roll-Stmt (layer y))) (read_stmt l (roll-Stmt (layer y)))
      at_roll y = subst₂ Fits (sym (fold-roll-Stmt Bool (stmt_below n) (layer y))) (sym (fold-roll-Stmt Read (read_step l) (layer y))) (step y)

  pub body_fits : (body : List Stmt) → block_below n body ≡ true → (weight : ℕ) → PartsFit (all_parts (map (read_stmt l) body) weight)
  body_fits [] low weight = none_fit
  body_fits (s ∷ body) low weight =
      let parts = and_parts (slots_below n s) (block_below n body) low in
      joined_fit ((read_stmt l s).parts weight) (all_parts (map (read_stmt l) body) weight) (stmt_fits_in s parts.0 weight) (body_fits body parts.1 weight)
