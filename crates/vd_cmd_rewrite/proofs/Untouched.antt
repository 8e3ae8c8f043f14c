-- A program without branches is not turned, and one without divisions is not lengthened.
use Rattle.std.proofs.Common.{◌≡◌, Bool, true, false, true≢false, ◌&&◌, ◌||◌, if◌then◌else◌, List, [], ◌∷◌, map, Option, Some, None, refl, sym, ap, ◌∙◌, subst}
use Rattle.std.specs.List.{list_any}
use Rattle.vd_base.specs.declared.ids.SlotId.{SlotId}
use Rattle.vd_base.specs.declared.operations.Op.{Op}
use Rattle.vd_base.specs.declared.operations.Op.TheVariants.{Add, Sub, Mul, Scale, Div, Rem, And, Or, Xor, Not, Flip, Shl, Shr, Eq, Ne, Lt, Le, Min, Max, Mux}
use Rattle.vd_core.specs.declared.normal.Right.{Right}
use Rattle.vd_core.specs.declared.normal.Right.TheVariants.{Lit, Turn, Copy, Apply, Input, Declassify, Endorse, Load, Get}
use Rattle.vd_core.specs.declared.normal.Slot.{Slot}
use Rattle.vd_core.specs.declared.normal.NormalForm.{NormalForm}
use Rattle.vd_core.specs.declared.normal.Stmt.{Stmt, roll-Stmt, map-Stmt, ind-Stmt}
use Rattle.vd_core.specs.declared.normal.Stmt.TheOpen.{Stmt-F}
use Rattle.vd_core.specs.declared.normal.Stmt.TheFolds.{fold-Stmt, fold-roll-Stmt}
use Rattle.vd_constraints.specs.declared.labels.Labels.{Labels}
use Rattle.vd_space.specs.Reading.{problem_of}
use Rattle.vd_rewrite.specs.Rewriting.{Rewriting, Lets, some_changed, is_within, rewriting_step, rewriting, kept_let, marked}
use Rattle.vd_mux.specs.BooleanGuards.{has_boolean_guards}
use Rattle.vd_mux.specs.Hidden.{hidden_marks, turn_of}
use Rattle.vd_mux.specs.Selections.{some_hidden, with_selections, turned}
use Rattle.vd_long.specs.Lengthened.{is_division, parts_of, some_true, lengthens_step, some_lengthened, with_long_divisions, is_nested}
use Rattle.vd_long.specs.Marks.{long_marks, lengthen_of}
use Rattle.vd_cmd_rewrite.specs.Plain.{branch_step, holds_branch, some_branch, op_divides, right_divides, division_step, holds_division, some_division}

-- neither of two, where not one of them
neither : (a b : Bool) → (if a then true else b) ≡ false → (a ≡ false) × (b ≡ false)
neither true b h = absurd (true≢false h)
neither false b h = (refl, h)

either : (a b : Bool) → (a || b) ≡ false → (a ≡ false) × (b ≡ false)
either true b h = absurd (true≢false h)
either false b h = (refl, h)

-- ---- branches

module _ (hides : SlotId → Bool) (lets : Lets) (old : List Slot) where
  abbrev the : Stmt → Rewriting
  the = rewriting hides lets old

  abbrev Stays : Stmt → Type 0
  Stays s = holds_branch s ≡ false → (the s).is_changed ≡ false

  abbrev M : Type 0
  M = (s : Stmt) × Stays s

  abbrev stmts : List M → List Stmt
  stmts ms = map (λ (m : M). m.0) ms

  all_stay : (ms : List M) → list_any (λ c. c) (map holds_branch (stmts ms)) ≡ false → some_changed (map the (stmts ms)) ≡ false
  all_stay [] h = refl
  all_stay (m ∷ ms) h =
      let p = either (holds_branch m.0) (list_any (λ c. c) (map holds_branch (stmts ms))) h in
      ap (λ (c : Bool). c || some_changed (map the (stmts ms))) (m.1 p.0) ∙ all_stay ms p.1

  abbrev layer : Stmt-F M → Stmt-F Stmt
  layer = map-Stmt M Stmt (λ m. m.0)

  step : (y : Stmt-F M) → branch_step (map-Stmt Stmt Bool holds_branch (layer y)) ≡ false → (rewriting_step hides lets old (map-Stmt Stmt Rewriting the (layer y))).is_changed ≡ false
  step (Stmt-F.Let x r) h = refl
  step (Stmt-F.NewVar v x) h = refl
  step (Stmt-F.NewArray v n) h = refl
  step (Stmt-F.Store v x) h = refl
  step (Stmt-F.Put v i x) h = refl
  step (Stmt-F.Output x host offset) h = refl
  step (Stmt-F.If g a b offset) h = absurd (true≢false h)
  step (Stmt-F.For n body) h = all_stay body h

  stays : (s : Stmt) → Stays s
  stays = ind-Stmt Stays (λ x y is. subst (λ z. Stays (roll-Stmt z)) is
      (λ h. ap (λ (r : Rewriting). r.is_changed) (fold-roll-Stmt Rewriting (rewriting_step hides lets old) (layer y)) ∙ step y (sym (fold-roll-Stmt Bool branch_step (layer y)) ∙ h)))

  body_stays : (body : List Stmt) → some_branch body ≡ false → some_changed (map the body) ≡ false
  body_stays [] h = refl
  body_stays (s ∷ ss) h =
      let p = either (holds_branch s) (some_branch ss) h in
      ap (λ (c : Bool). c || some_changed (map the ss)) (stays s p.0) ∙ body_stays ss p.1

pub not_turned : (p : NormalForm) (l : Labels) → some_branch p.body ≡ false → turn_of p l ≡ p
not_turned p l none = by (has_boolean_guards p)
  where
    same : turned (marked (hidden_marks p l)) p ≡ p
    same =
        ap (λ (b : Bool). if b && is_within (with_selections (marked (hidden_marks p l)) p) then with_selections (marked (hidden_marks p l)) p else p)
        (body_stays (marked (hidden_marks p l)) (kept_let p.slots) p.slots p.body none)

    by : (b : Bool) → (if b then turned (marked (hidden_marks p l)) p else p) ≡ p
    by true = same
    by false = refl

-- ---- divisions

op_is_none : (op : Op) (xs : List SlotId) → op_divides op ≡ false → is_division (parts_of (Apply op xs)) ≡ false
op_is_none Add xs h = refl
op_is_none Sub xs h = refl
op_is_none Mul xs h = refl
op_is_none (Scale k) xs h = refl
op_is_none Div xs h = absurd (true≢false h)
op_is_none Rem xs h = absurd (true≢false h)
op_is_none And xs h = refl
op_is_none Or xs h = refl
op_is_none Xor xs h = refl
op_is_none Not xs h = refl
op_is_none Flip xs h = refl
op_is_none (Shl k) xs h = refl
op_is_none (Shr k) xs h = refl
op_is_none Eq xs h = refl
op_is_none Ne xs h = refl
op_is_none Lt xs h = refl
op_is_none Le xs h = refl
op_is_none Min xs h = refl
op_is_none Max xs h = refl
op_is_none Mux xs h = refl

right_is_none : (r : Right) → right_divides r ≡ false → is_division (parts_of r) ≡ false
right_is_none (Lit n) h = refl
right_is_none Turn h = refl
right_is_none (Copy x) h = refl
right_is_none (Apply op xs) h = op_is_none op xs h
right_is_none (Input host) h = refl
right_is_none (Declassify x to) h = refl
right_is_none (Endorse x to) h = refl
right_is_none (Load v) h = refl
right_is_none (Get v i) h = refl

and_false : (a b : Bool) → b ≡ false → (a && b) ≡ false
and_false true b h = h
and_false false b h = refl

both_false : (a b : Bool) → a ≡ false → b ≡ false → (if a then true else b) ≡ false
both_false true b h h' = absurd (true≢false h)
both_false false b h h' = h'

module _ (long : SlotId → Bool) where
  abbrev lengthens : Stmt → Bool
  lengthens = fold-Stmt Bool (lengthens_step long)

  abbrev Kept : Stmt → Type 0
  Kept s = holds_division s ≡ false → lengthens s ≡ false

  abbrev K : Type 0
  K = (s : Stmt) × Kept s

  abbrev of_stmts : List K → List Stmt
  of_stmts ms = map (λ (m : K). m.0) ms

  all_kept : (ms : List K) → list_any (λ c. c) (map holds_division (of_stmts ms)) ≡ false → some_true (map lengthens (of_stmts ms)) ≡ false
  all_kept [] h = refl
  all_kept (m ∷ ms) h =
      let p = either (holds_division m.0) (list_any (λ c. c) (map holds_division (of_stmts ms))) h in
      both_false (lengthens m.0) (some_true (map lengthens (of_stmts ms))) (m.1 p.0) (all_kept ms p.1)

  abbrev plain_layer : Stmt-F K → Stmt-F Stmt
  plain_layer = map-Stmt K Stmt (λ m. m.0)

  kept_step : (y : Stmt-F K) → division_step (map-Stmt Stmt Bool holds_division (plain_layer y)) ≡ false → lengthens_step long (map-Stmt Stmt Bool lengthens (plain_layer y)) ≡ false
  kept_step (Stmt-F.Let x r) h = and_false (long x) (is_division (parts_of r)) (right_is_none r h)
  kept_step (Stmt-F.NewVar v x) h = refl
  kept_step (Stmt-F.NewArray v n) h = refl
  kept_step (Stmt-F.Store v x) h = refl
  kept_step (Stmt-F.Put v i x) h = refl
  kept_step (Stmt-F.Output x host offset) h = refl
  kept_step (Stmt-F.If g a b offset) h =
      let p = neither (list_any (λ c. c) (map holds_division (of_stmts a))) (list_any (λ c. c) (map holds_division (of_stmts b))) h in
      both_false (some_true (map lengthens (of_stmts a))) (some_true (map lengthens (of_stmts b))) (all_kept a p.0) (all_kept b p.1)
  kept_step (Stmt-F.For n body) h = all_kept body h

  kept : (s : Stmt) → Kept s
  kept = ind-Stmt Kept (λ x y is. subst (λ z. Kept (roll-Stmt z)) is
      (λ h. fold-roll-Stmt Bool (lengthens_step long) (plain_layer y) ∙ kept_step y (sym (fold-roll-Stmt Bool division_step (plain_layer y)) ∙ h)))

  body_kept : (body : List Stmt) → some_division body ≡ false → some_lengthened long body ≡ false
  body_kept [] h = refl
  body_kept (s ∷ ss) h =
      let p = either (holds_division s) (some_division ss) h in
      both_false (lengthens s) (some_lengthened long ss) (kept s p.0) (body_kept ss p.1)

pub not_lengthened : (p : NormalForm) (l : Labels) → some_division p.body ≡ false → lengthen_of p l ≡ p
not_lengthened p l none =
    ap (λ (b : Bool). if b && (is_within (with_long_divisions (marked (long_marks (problem_of p l))) p) && is_nested (with_long_divisions (marked (long_marks (problem_of p l))) p)) then with_long_divisions (marked (long_marks (problem_of p l))) p else p)
    (body_kept (marked (long_marks (problem_of p l))) p.body none)
