-- Which divisions are left of a program with loops.
use Rattle.std.proofs.Common.{◌≡◌, ℕ, Bool, true, false, true≢false, ◌&&◌, not, if◌then◌else◌, List, [], ◌∷◌, ◌++◌, append_assoc, append-nil, map, Option, Some, None, refl, sym, ap, ◌∙◌, subst, rules}
use Rattle.vd_base.specs.declared.ids.SlotId.{SlotId}
use Rattle.vd_base.specs.declared.ids.HostId.{HostId}
use Rattle.vd_base.specs.declared.operations.Op.{Op}
use Rattle.vd_base.specs.declared.operations.Op.TheVariants.{Add, Sub, Mul, Scale, Div, Rem, And, Or, Xor, Not, Flip, Shl, Shr, Eq, Ne, Lt, Le, Min, Max, Mux}
use Rattle.vd_core.specs.declared.normal.Right.{Right}
use Rattle.vd_core.specs.declared.normal.Right.TheVariants as right
use Rattle.vd_core.specs.declared.normal.Slot.{Slot}
use Rattle.vd_core.specs.declared.normal.Stmt.{Stmt, Let, NewVar, NewArray, Store, Put, Output, If, For, roll-Stmt, map-Stmt, ind-Stmt}
use Rattle.vd_core.specs.declared.normal.Stmt.TheFolds.{the_lemmas, fold-Stmt, fold-roll-Stmt}
use Rattle.vd_core.specs.declared.normal.Stmt.TheOpen.{Stmt-F}
use Rattle.vd_rewrite.specs.Rewriting.{Made, slot, entry_of, moved, moved_right, Rewriting, run_all, emptied, block_more, kept_let, rewriting_step, rewriting}
use Rattle.vd_long.specs.Template.{place_at, placed_slot, placed_right}
use Rattle.vd_long.specs.Lengthened.{step_made, steps_made, looped, Template, quotient_template, remainder_template, template_made, Parts, parts_of, parts_made, long_let, nothing_hidden, is_division, some_true, lengthens_step, some_lengthened}
use Rattle.vd_long.specs.DivisionsLeft.{division_of, divisions_step, divisions_in, divisions_where, divisions}

abbrev all : SlotId → Bool
all x = true

module _ (test : SlotId → Bool) where
  in_let : (x : SlotId) (r : Right) → divisions_in test (Let x r) ≡ (if test x then division_of r else [])
  in_let x r = search (rules, the_lemmas)

  in_var : (v x : SlotId) → divisions_in test (NewVar v x) ≡ []
  in_var v x = search (rules, the_lemmas)

  in_array : (v : SlotId) (n : ℕ) → divisions_in test (NewArray v n) ≡ []
  in_array v n = search (rules, the_lemmas)

  in_store : (v x : SlotId) → divisions_in test (Store v x) ≡ []
  in_store v x = search (rules, the_lemmas)

  in_put : (v i x : SlotId) → divisions_in test (Put v i x) ≡ []
  in_put v i x = search (rules, the_lemmas)

  in_output : (x : SlotId) (h : HostId) (offset : ℕ) → divisions_in test (Output x h offset) ≡ []
  in_output x h offset = search (rules, the_lemmas)

  in_if : (x : SlotId) (a b : List Stmt) (offset : ℕ) → divisions_in test (If x a b offset) ≡ divisions_where test a ++ divisions_where test b
  in_if x a b offset = search (rules, the_lemmas)

  in_for : (n : ℕ) (body : List Stmt) → divisions_in test (For n body) ≡ divisions_where test body
  in_for n body = search (rules, the_lemmas)

-- one statement more
one_more : (xs : List Stmt) (x : Stmt) → divisions (xs ++ x ∷ []) ≡ divisions xs ++ divisions_in all x
one_more [] x = append-nil (divisions_in all x)
one_more (y ∷ ys) x = ap (λ z. divisions_in all y ++ z) (one_more ys x) ∙ sym (append_assoc (divisions_in all y) (divisions ys) (divisions_in all x))

none_more : (xs : List Stmt) (x : Stmt) → divisions_in all x ≡ [] → divisions (xs ++ x ∷ []) ≡ divisions xs
none_more xs x none = one_more xs x ∙ ap (λ z. divisions xs ++ z) none ∙ append-nil (divisions xs)

also_none : (xs : List Stmt) (x : Stmt) → divisions_in all x ≡ [] → divisions (xs ++ x ∷ []) ≡ divisions xs ++ []
also_none xs x none = one_more xs x ∙ ap (λ z. divisions xs ++ z) none

-- a right side with other slots
moved_same : (f : SlotId → SlotId) (o : Op) (xs : List SlotId) → division_of (right.Apply o (map f xs)) ≡ division_of (right.Apply o xs)
moved_same f Div [] = refl
moved_same f Div (a ∷ []) = refl
moved_same f Div (a ∷ b ∷ []) = refl
moved_same f Div (a ∷ b ∷ c ∷ xs) = refl
moved_same f Rem [] = refl
moved_same f Rem (a ∷ []) = refl
moved_same f Rem (a ∷ b ∷ []) = refl
moved_same f Rem (a ∷ b ∷ c ∷ xs) = refl
moved_same f Add xs = refl
moved_same f Sub xs = refl
moved_same f Mul xs = refl
moved_same f (Scale k) xs = refl
moved_same f And xs = refl
moved_same f Or xs = refl
moved_same f Xor xs = refl
moved_same f Not xs = refl
moved_same f Flip xs = refl
moved_same f (Shl k) xs = refl
moved_same f (Shr k) xs = refl
moved_same f Eq xs = refl
moved_same f Ne xs = refl
moved_same f Lt xs = refl
moved_same f Le xs = refl
moved_same f Min xs = refl
moved_same f Max xs = refl
moved_same f Mux xs = refl

kept_same : (table : List ℕ) (r : Right) → division_of (moved_right table r) ≡ division_of r
kept_same table (right.Apply o xs) = moved_same (moved table) o xs
kept_same table (right.Lit n) = refl
kept_same table right.Turn = refl
kept_same table (right.Copy x) = refl
kept_same table (right.Input host) = refl
kept_same table (right.Declassify x to) = refl
kept_same table (right.Endorse x to) = refl
kept_same table (right.Load v) = refl
kept_same table (right.Get v i) = refl

placed_same : (at : ℕ → ℕ) (r : Right) → division_of (placed_right at r) ≡ division_of r
placed_same at (right.Apply o xs) = moved_same (placed_slot at) o xs
placed_same at (right.Lit n) = refl
placed_same at right.Turn = refl
placed_same at (right.Copy x) = refl
placed_same at (right.Input host) = refl
placed_same at (right.Declassify x to) = refl
placed_same at (right.Endorse x to) = refl
placed_same at (right.Load v) = refl
placed_same at (right.Get v i) = refl

-- the divisions of the steps of a template
abbrev step_divides : Stmt-F Stmt → List Op
step_divides (Stmt-F.Let p r) = division_of r
step_divides other = []

abbrev steps_divide : List (Stmt-F Stmt) → List Op
steps_divide [] = []
steps_divide (s ∷ ss) = step_divides s ++ steps_divide ss

module _ (at : ℕ → ℕ) (offset block : ℕ) where
  step_adds : (s : Stmt-F Stmt) (m : Made) → divisions (step_made at offset block s m).body ≡ divisions m.body ++ step_divides s
  step_adds (Stmt-F.Let p r) m =
      one_more m.body (Let (placed_slot at p) (placed_right at r)) ∙ ap (λ z. divisions m.body ++ z) (in_let all (placed_slot at p) (placed_right at r) ∙ placed_same at r)
  step_adds (Stmt-F.NewVar p j) m = also_none m.body (NewVar (placed_slot at p) (placed_slot at j)) (in_var all (placed_slot at p) (placed_slot at j))
  step_adds (Stmt-F.NewArray p cells) m = sym (append-nil (divisions m.body))
  step_adds (Stmt-F.Store p j) m = also_none m.body (Store (placed_slot at p) (placed_slot at j)) (in_store all (placed_slot at p) (placed_slot at j))
  step_adds (Stmt-F.Put p i j) m = sym (append-nil (divisions m.body))
  step_adds (Stmt-F.Output p h o) m = sym (append-nil (divisions m.body))
  step_adds (Stmt-F.If p a b o) m = sym (append-nil (divisions m.body))
  step_adds (Stmt-F.For n b) m = sym (append-nil (divisions m.body))

  steps_add : (ss : List (Stmt-F Stmt)) (m : Made) → divisions (steps_made at offset block ss m).body ≡ divisions m.body ++ steps_divide ss
  steps_add [] m = sym (append-nil (divisions m.body))
  steps_add (s ∷ ss) m =
      steps_add ss (step_made at offset block s m) ∙ ap (λ z. z ++ steps_divide ss) (step_adds s m) ∙ append_assoc (divisions m.body) (step_divides s) (steps_divide ss)

  steps_none : (ss : List (Stmt-F Stmt)) → steps_divide ss ≡ [] → (m : Made) → divisions (steps_made at offset block ss m).body ≡ divisions m.body
  steps_none ss none m = steps_add ss m ∙ ap (λ z. divisions m.body ++ z) none ∙ append-nil (divisions m.body)

  looped_none : (ss : List (Stmt-F Stmt)) → steps_divide ss ≡ [] → (m : Made) → divisions (looped at offset block ss m).body ≡ divisions m.body
  looped_none ss none m =
      let inner = steps_made at offset block ss (emptied m) in
      none_more m.body (For 32 inner.body) (in_for all 32 inner.body ∙ steps_none ss none (emptied m))

-- a template without a division
pub record DividesNothing (t : Template) : Type 0 where
  pub start : steps_divide t.start ≡ []
  pub turn : steps_divide t.turn ≡ []
  pub behind : steps_divide t.behind ≡ []
  pub last : division_of t.last ≡ []

quotient_none : DividesNothing quotient_template
quotient_none = record { start = refl; turn = refl; behind = refl; last = refl }

remainder_none : DividesNothing remainder_template
remainder_none = record { start = refl; turn = refl; behind = refl; last = refl }

template_none : (t : Template) → DividesNothing t → (old : List Slot) (x : SlotId) (a b block : ℕ) (m : Made) → divisions (template_made t old x a b block m).body ≡ divisions m.body
template_none t law old x a b block m =
    let at = place_at m.next a b in
    let offset = (entry_of old x).offset in
    let first = steps_made at offset block t.start m in
    let second = looped at offset block t.turn first in
    let done = steps_made at offset block t.behind second in
    none_more done.body (Let (slot done.next) (placed_right at t.last)) (in_let all (slot done.next) (placed_right at t.last) ∙ placed_same at t.last ∙ law.last)
    ∙ steps_none at offset block t.behind law.behind second ∙ looped_none at offset block t.turn law.turn first ∙ steps_none at offset block t.start law.start m

-- a right side is no division, or one that becomes a template
pub data Divides (r : Right) : Type 0 where
  No : parts_of r ≡ None → division_of r ≡ [] → Divides r
  Yes : (p : Parts) → parts_of r ≡ Some p → DividesNothing p.template → Divides r

divides : (r : Right) → Divides r
divides (right.Apply Div []) = No refl refl
divides (right.Apply Div (a ∷ [])) = No refl refl
divides (right.Apply Div (a ∷ b ∷ [])) = Yes (record { template = quotient_template; dividend = a; divisor = b }) refl quotient_none
divides (right.Apply Div (a ∷ b ∷ c ∷ xs)) = No refl refl
divides (right.Apply Rem []) = No refl refl
divides (right.Apply Rem (a ∷ [])) = No refl refl
divides (right.Apply Rem (a ∷ b ∷ [])) = Yes (record { template = remainder_template; dividend = a; divisor = b }) refl remainder_none
divides (right.Apply Rem (a ∷ b ∷ c ∷ xs)) = No refl refl
divides (right.Apply Add xs) = No refl refl
divides (right.Apply Sub xs) = No refl refl
divides (right.Apply Mul xs) = No refl refl
divides (right.Apply (Scale k) xs) = No refl refl
divides (right.Apply And xs) = No refl refl
divides (right.Apply Or xs) = No refl refl
divides (right.Apply Xor xs) = No refl refl
divides (right.Apply Not xs) = No refl refl
divides (right.Apply Flip xs) = No refl refl
divides (right.Apply (Shl k) xs) = No refl refl
divides (right.Apply (Shr k) xs) = No refl refl
divides (right.Apply Eq xs) = No refl refl
divides (right.Apply Ne xs) = No refl refl
divides (right.Apply Lt xs) = No refl refl
divides (right.Apply Le xs) = No refl refl
divides (right.Apply Min xs) = No refl refl
divides (right.Apply Max xs) = No refl refl
divides (right.Apply Mux xs) = No refl refl
divides (right.Lit n) = No refl refl
divides right.Turn = No refl refl
divides (right.Copy x) = No refl refl
divides (right.Input host) = No refl refl
divides (right.Declassify x to) = No refl refl
divides (right.Endorse x to) = No refl refl
divides (right.Load v) = No refl refl
divides (right.Get v i) = No refl refl

either : (a b : Bool) → (if a then true else b) ≡ false → (a ≡ false) × (b ≡ false)
either true b e = absurd (true≢false e)
either false b e = (refl, e)

module _ (long : SlotId → Bool) (old : List Slot) where
  abbrev stays : SlotId → Bool
  stays x = not (long x)

  abbrev the : Stmt → Rewriting
  the = rewriting nothing_hidden (long_let long old) old

  kept_adds : (x : SlotId) (r : Right) (block : ℕ) (m : Made) → divisions (kept_let old x r block m).body ≡ divisions m.body ++ division_of r
  kept_adds x r block m =
      one_more m.body (Let (slot m.next) (moved_right m.table r)) ∙ ap (λ z. divisions m.body ++ z) (in_let all (slot m.next) (moved_right m.table r) ∙ kept_same m.table r)

  let_adds : (x : SlotId) (r : Right) (block : ℕ) (m : Made) → divisions (long_let long old x r block m).body ≡ divisions m.body ++ (if stays x then division_of r else [])
  let_adds x r block m = by (long x) (divides r)
    where
      by : (c : Bool) → Divides r → divisions (if c then parts_made old x r (parts_of r) block m else kept_let old x r block m).body ≡ divisions m.body ++ (if not c then division_of r else [])
      by false d = kept_adds x r block m
      by true (No none nothing) = ap (λ (o : Option Parts). divisions (parts_made old x r o block m).body) none ∙ kept_adds x r block m ∙ ap (λ z. divisions m.body ++ z) nothing
      by true (Yes p some law) =
          ap (λ (o : Option Parts). divisions (parts_made old x r o block m).body) some
          ∙ template_none p.template law old x (moved m.table p.dividend).0 (moved m.table p.divisor).0 block m ∙ sym (append-nil (divisions m.body))

  let_same : (x : SlotId) (r : Right) → (long x && is_division (parts_of r)) ≡ false → division_of r ≡ (if stays x then division_of r else [])
  let_same x r e = by (long x) (divides r) e
    where
      by : (c : Bool) → Divides r → (c && is_division (parts_of r)) ≡ false → division_of r ≡ (if not c then division_of r else [])
      by false d e = refl
      by true (No none nothing) e = nothing
      by true (Yes p some law) e = absurd (true≢false (sym (ap is_division some) ∙ e))

  -- what is made of a statement has the divisions that stay, and where none becomes a loop these are all
  pub record Lengthens (r : Rewriting) (left : List Op) (whole : List Op) (changed : Bool) : Type 0 where
    pub leaves : (block : ℕ) (m : Made) → divisions (r.run [] block m).body ≡ divisions m.body ++ left
    pub same : changed ≡ false → whole ≡ left

  abbrev is_changed : Stmt → Bool
  is_changed s = fold-Stmt Bool (lengthens_step long) s

  abbrev Meant : Stmt → Type 0
  Meant s = Lengthens (the s) (divisions_in stays s) (divisions_in all s) (is_changed s)

  abbrev M : Type 0
  M = (s : Stmt) × Meant s

  abbrev stmts : List M → List Stmt
  stmts ms = map (λ (m : M). m.0) ms

  abbrev runs : List M → List Rewriting
  runs ms = map the (stmts ms)

  abbrev changes : List M → List Bool
  changes ms = map is_changed (stmts ms)

  all_left : (ms : List M) (block : ℕ) (m : Made) → divisions (run_all (runs ms) [] block m).body ≡ divisions m.body ++ divisions_where stays (stmts ms)
  all_left [] block m = sym (append-nil (divisions m.body))
  all_left (q ∷ ms) block m =
      all_left ms block ((the q.0).run [] block m)
      ∙ ap (λ z. z ++ divisions_where stays (stmts ms)) (q.1.leaves block m)
      ∙ append_assoc (divisions m.body) (divisions_in stays q.0) (divisions_where stays (stmts ms))

  all_same : (ms : List M) → some_true (changes ms) ≡ false → divisions (stmts ms) ≡ divisions_where stays (stmts ms)
  all_same [] e = refl
  all_same (q ∷ ms) e =
      let p = either (is_changed q.0) (some_true (changes ms)) e in
      ap (λ z. z ++ divisions (stmts ms)) (q.1.same p.0) ∙ ap (λ z. divisions_in stays q.0 ++ z) (all_same ms p.1)

  abbrev layer : Stmt-F M → Stmt-F Stmt
  layer = map-Stmt M Stmt (λ m. m.0)

  abbrev Layered : Stmt-F Stmt → Type 0
  Layered y =
      Lengthens (rewriting_step nothing_hidden (long_let long old) old (map-Stmt Stmt Rewriting the y)) (divisions_step stays (map-Stmt Stmt (List Op) (divisions_in stays) y))
      (divisions_step all (map-Stmt Stmt (List Op) (divisions_in all) y)) (lengthens_step long (map-Stmt Stmt Bool is_changed y))

  step : (y : Stmt-F M) → Layered (layer y)
  step (Stmt-F.Let x r) = record { leaves = λ block m. let_adds x r block m; same = λ e. let_same x r e }
  step (Stmt-F.NewVar v x) =
      record { leaves = λ block m. also_none m.body (NewVar (slot m.next) (moved m.table x)) (in_var all (slot m.next) (moved m.table x)); same = λ e. refl }
  step (Stmt-F.NewArray v cells) = record { leaves = λ block m. also_none m.body (NewArray (slot m.next) cells) (in_array all (slot m.next) cells); same = λ e. refl }
  step (Stmt-F.Store v x) =
      record { leaves = λ block m. also_none m.body (Store (moved m.table v) (moved m.table x)) (in_store all (moved m.table v) (moved m.table x)); same = λ e. refl }
  step (Stmt-F.Put v i x) =
      record {
        leaves = λ block m. also_none m.body (Put (moved m.table v) (moved m.table i) (moved m.table x)) (in_put all (moved m.table v) (moved m.table i) (moved m.table x));
        same = λ e. refl;
      }
  step (Stmt-F.Output x host offset) =
      record { leaves = λ block m. also_none m.body (Output (moved m.table x) host offset) (in_output all (moved m.table x) host offset); same = λ e. refl }
  step (Stmt-F.If guard a b offset) =
      record {
        leaves = λ block m.
            let p = run_all (runs a) [] m.blocks (block_more m) in
            let q = run_all (runs b) [] m.blocks (emptied p) in
            let place = moved m.table guard in
            one_more m.body (If place p.body q.body offset)
            ∙ ap (λ z. divisions m.body ++ z)
            (in_if all place p.body q.body offset ∙ ap (λ z. z ++ divisions q.body) (all_left a m.blocks (block_more m)) ∙ ap (λ z. divisions_where stays (stmts a) ++ z) (all_left b m.blocks (emptied p)));
        same = λ e.
            let p = either (some_true (changes a)) (some_true (changes b)) e in
            ap (λ z. z ++ divisions (stmts b)) (all_same a p.0) ∙ ap (λ z. divisions_where stays (stmts a) ++ z) (all_same b p.1);
      }
  step (Stmt-F.For count body) =
      record {
        leaves = λ block m.
            let p = run_all (runs body) [] block (emptied m) in
            one_more m.body (For count p.body) ∙ ap (λ z. divisions m.body ++ z) (in_for all count p.body ∙ all_left body block (emptied m));
        same = λ e. all_same body e;
      }

  at_roll : (y : Stmt-F Stmt) → Layered y → Meant (roll-Stmt y)
  at_roll y h =
      subst (λ (z : Rewriting). Lengthens z (divisions_in stays (roll-Stmt y)) (divisions_in all (roll-Stmt y)) (is_changed (roll-Stmt y))) (sym (fold-roll-Stmt Rewriting (rewriting_step nothing_hidden (long_let long old) old) y))
      (subst (λ (z : List Op). Lengthens new z (divisions_in all (roll-Stmt y)) (is_changed (roll-Stmt y))) (sym (fold-roll-Stmt (List Op) (divisions_step stays) y))
      (subst (λ (z : List Op). Lengthens new left z (is_changed (roll-Stmt y))) (sym (fold-roll-Stmt (List Op) (divisions_step all) y))
      (subst (λ (z : Bool). Lengthens new left whole z) (sym (fold-roll-Stmt Bool (lengthens_step long) y)) h)))
    where
      new : Rewriting
      new = rewriting_step nothing_hidden (long_let long old) old (map-Stmt Stmt Rewriting the y)

      left : List Op
      left = divisions_step stays (map-Stmt Stmt (List Op) (divisions_in stays) y)

      whole : List Op
      whole = divisions_step all (map-Stmt Stmt (List Op) (divisions_in all) y)

  meant : (s : Stmt) → Meant s
  meant = ind-Stmt Meant (λ x y is. subst (λ z. Meant (roll-Stmt z)) is (at_roll (layer y) (step y)))

  pub body_left : (body : List Stmt) (block : ℕ) (m : Made) → divisions (run_all (map the body) [] block m).body ≡ divisions m.body ++ divisions_where stays body
  body_left [] block m = sym (append-nil (divisions m.body))
  body_left (s ∷ ss) block m =
      body_left ss block ((the s).run [] block m)
      ∙ ap (λ z. z ++ divisions_where stays ss) ((meant s).leaves block m)
      ∙ append_assoc (divisions m.body) (divisions_in stays s) (divisions_where stays ss)

  pub body_same : (body : List Stmt) → some_lengthened long body ≡ false → divisions body ≡ divisions_where stays body
  body_same [] e = refl
  body_same (s ∷ ss) e =
      let p = either (is_changed s) (some_lengthened long ss) e in
      ap (λ z. z ++ divisions ss) ((meant s).same p.0) ∙ ap (λ z. divisions_in stays s ++ z) (body_same ss p.1)
