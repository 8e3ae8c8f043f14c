-- Which branches are left of a program with selections.
use Rattle.std.proofs.Common.{◌≡◌, ℕ, Bool, true, false, true≢false, ◌&&◌, ◌||◌, not, if◌then◌else◌, List, [], ◌∷◌, ◌++◌, append_assoc, append-nil, map, refl, sym, ap, ◌∙◌, subst, rules}
use Rattle.std.proofs.lemmas.Bool.{and_parts}
use Rattle.vd_base.specs.declared.ids.SlotId.{SlotId}
use Rattle.vd_base.specs.declared.ids.HostId.{HostId}
use Rattle.vd_base.specs.declared.operations.Kind.{Kind}
use Rattle.vd_core.specs.declared.normal.Right.{Right}
use Rattle.vd_core.specs.declared.normal.Right.TheVariants.{Lit, Turn, Copy, Apply, Input, Declassify, Endorse, Load, Get}
use Rattle.vd_core.specs.declared.normal.Slot.{Slot}
use Rattle.vd_core.specs.declared.normal.Stmt.{Stmt, Let, NewVar, NewArray, Store, Put, Output, If, For, roll-Stmt, map-Stmt, ind-Stmt}
use Rattle.vd_core.specs.declared.normal.Stmt.TheFolds.{the_lemmas, fold-roll-Stmt}
use Rattle.vd_core.specs.declared.normal.Stmt.TheOpen.{Stmt-F}
use Rattle.vd_rewrite.specs.declared.guard.Guard.{Guard}
use Rattle.vd_rewrite.specs.Rewriting.{Made, slot, entry_of, fresh, moved, moved_right, with_fresh, selection, selected, stored, Rewriting, is_pure_right, all_pure, some_changed, is_some, run_all, guard_of, both_run, emptied, block_more, kept_if, is_hidden, kept_let, rewriting_step, rewriting}
use Rattle.vd_mux.specs.Branches.{branches_step, branches_in, branches, is_calm_right, Left, all_calm, places_in, is_empty, goes, left_step, left_of, branches_left}

in_let : (x : SlotId) (r : Right) → branches_in (Let x r) ≡ []
in_let x r = search (rules, the_lemmas)

in_var : (v x : SlotId) → branches_in (NewVar v x) ≡ []
in_var v x = search (rules, the_lemmas)

in_array : (v : SlotId) (n : ℕ) → branches_in (NewArray v n) ≡ []
in_array v n = search (rules, the_lemmas)

in_store : (v x : SlotId) → branches_in (Store v x) ≡ []
in_store v x = search (rules, the_lemmas)

in_put : (v i x : SlotId) → branches_in (Put v i x) ≡ []
in_put v i x = search (rules, the_lemmas)

in_output : (x : SlotId) (h : HostId) (offset : ℕ) → branches_in (Output x h offset) ≡ []
in_output x h offset = search (rules, the_lemmas)

in_if : (x : SlotId) (a b : List Stmt) (offset : ℕ) → branches_in (If x a b offset) ≡ offset ∷ (branches a ++ branches b)
in_if x a b offset = search (rules, the_lemmas)

in_for : (n : ℕ) (body : List Stmt) → branches_in (For n body) ≡ branches body
in_for n body = search (rules, the_lemmas)

-- one statement more
one_more : (xs : List Stmt) (x : Stmt) → branches (xs ++ x ∷ []) ≡ branches xs ++ branches_in x
one_more [] x = append-nil (branches_in x)
one_more (y ∷ ys) x = ap (λ z. branches_in y ++ z) (one_more ys x) ∙ sym (append_assoc (branches_in y) (branches ys) (branches_in x))

none_more : (xs : List Stmt) (x : Stmt) → branches_in x ≡ [] → branches (xs ++ x ∷ []) ≡ branches xs
none_more xs x none = one_more xs x ∙ ap (λ z. branches xs ++ z) none ∙ append-nil (branches xs)

also_none : (xs : List Stmt) (x : Stmt) → branches_in x ≡ [] → branches (xs ++ x ∷ []) ≡ branches xs ++ []
also_none xs x none = one_more xs x ∙ ap (λ z. branches xs ++ z) none

calm_is_pure : (r : Right) → is_pure_right r ≡ is_calm_right r
calm_is_pure (Lit n) = refl
calm_is_pure Turn = refl
calm_is_pure (Copy x) = refl
calm_is_pure (Apply op xs) = refl
calm_is_pure (Input host) = refl
calm_is_pure (Declassify x to) = refl
calm_is_pure (Endorse x to) = refl
calm_is_pure (Load v) = refl
calm_is_pure (Get v i) = refl

selected_none : (kind : Kind) (block : ℕ) (v : SlotId) (gs : List Guard) (y : SlotId) (m : Made) → branches (selected kind block v gs y m).1.body ≡ branches m.body
selected_none kind block v [] y m = refl
selected_none kind block v (g ∷ gs) y m =
    let p = selected kind block v gs y m in
    let one = with_fresh (fresh kind g.offset block) (Load v) p.1 in
    let choice = selection g.first g.slot p.0 (slot p.1.next) in
    none_more one.body (Let (slot one.next) choice) (in_let (slot one.next) choice) ∙ none_more p.1.body (Let (slot p.1.next) (Load v)) (in_let (slot p.1.next) (Load v)) ∙ selected_none kind block v gs y m

stored_none : (kind : Kind) (block : ℕ) (v : SlotId) (gs : List Guard) (y : SlotId) (m : Made) → branches (stored kind block v gs y m).body ≡ branches m.body
stored_none kind block v gs y m =
    let p = selected kind block v gs y m in
    none_more p.1.body (Store v p.0) (in_store v p.0) ∙ selected_none kind block v gs y m

or_false : (a b : Bool) → (a || b) ≡ false → (a ≡ false) × (b ≡ false)
or_false true b e = absurd (true≢false e)
or_false false b e = (refl, e)

module _ (hides : SlotId → Bool) (old : List Slot) where
  abbrev the : Stmt → Rewriting
  the = rewriting hides (kept_let old) old

  -- what is made of a statement has the branches that are left of it, and none under a guard; where nothing is hidden all are left
  pub record Turns (r : Rewriting) (t : Left) (places : List ℕ) : Type 0 where
    pub calm : r.is_pure ≡ t.is_calm
    pub left : (block : ℕ) (m : Made) → branches (r.run [] block m).body ≡ branches m.body ++ t.places
    pub none : t.is_calm ≡ true → (g : Guard) (gs : List Guard) (block : ℕ) (m : Made) → branches (r.run (g ∷ gs) block m).body ≡ branches m.body
    pub same : r.is_changed ≡ false → places ≡ t.places

  abbrev Meant : Stmt → Type 0
  Meant s = Turns (the s) (left_of hides s) (branches_in s)

  abbrev M : Type 0
  M = (s : Stmt) × Meant s

  abbrev stmts : List M → List Stmt
  stmts ms = map (λ (m : M). m.0) ms

  abbrev runs : List M → List Rewriting
  runs ms = map the (stmts ms)

  abbrev lefts : List M → List Left
  lefts ms = map (left_of hides) (stmts ms)

  all_calm_is : (ms : List M) → all_pure (runs ms) ≡ all_calm (lefts ms)
  all_calm_is [] = refl
  all_calm_is (q ∷ ms) = ap (λ z. z && all_pure (runs ms)) q.1.calm ∙ ap (λ z. (left_of hides q.0).is_calm && z) (all_calm_is ms)

  some_is : (ms : List M) → (ns : List M) → (is_some (runs ms) || is_some (runs ns)) ≡ not (is_empty (lefts ms) && is_empty (lefts ns))
  some_is [] [] = refl
  some_is [] (n ∷ ns) = refl
  some_is (m ∷ ms) ns = refl

  hidden_goes : (guard : SlotId) (a b : List M) → is_hidden hides guard (runs a) (runs b) ≡ goes hides guard (lefts a) (lefts b)
  hidden_goes guard a b = rw (all_calm_is a, all_calm_is b, some_is a b) refl

  all_left : (ms : List M) (block : ℕ) (m : Made) → branches (run_all (runs ms) [] block m).body ≡ branches m.body ++ places_in (lefts ms)
  all_left [] block m = sym (append-nil (branches m.body))
  all_left (q ∷ ms) block m =
      all_left ms block ((the q.0).run [] block m)
      ∙ ap (λ z. z ++ places_in (lefts ms)) (q.1.left block m)
      ∙ append_assoc (branches m.body) (left_of hides q.0).places (places_in (lefts ms))

  all_none : (ms : List M) → all_calm (lefts ms) ≡ true → (g : Guard) (gs : List Guard) (block : ℕ) (m : Made) → branches (run_all (runs ms) (g ∷ gs) block m).body ≡ branches m.body
  all_none [] calm g gs block m = refl
  all_none (q ∷ ms) calm g gs block m =
      let p = and_parts (left_of hides q.0).is_calm (all_calm (lefts ms)) calm in
      all_none ms p.1 g gs block ((the q.0).run (g ∷ gs) block m) ∙ q.1.none p.0 g gs block m

  all_same : (ms : List M) → some_changed (runs ms) ≡ false → branches (stmts ms) ≡ places_in (lefts ms)
  all_same [] e = refl
  all_same (q ∷ ms) e =
      let p = or_false (the q.0).is_changed (some_changed (runs ms)) e in
      ap (λ z. z ++ branches (stmts ms)) (q.1.same p.0) ∙ ap (λ z. (left_of hides q.0).places ++ z) (all_same ms p.1)

  -- a branch that goes, and one that stays
  if_left : (c : Bool) (guard place : SlotId) (a b : List M) (offset block : ℕ) (m : Made) → (c ≡ true → (all_calm (lefts a) && all_calm (lefts b)) ≡ true)
      → branches (if c then both_run place (runs a) (runs b) offset [] block m else kept_if place (runs a) (runs b) offset m).body
      ≡ branches m.body ++ (if c then [] else offset ∷ (places_in (lefts a) ++ places_in (lefts b)))
  if_left true guard place a b offset block m calm =
      let p = and_parts (all_calm (lefts a)) (all_calm (lefts b)) (calm refl) in
      let m1 = run_all (runs a) (guard_of true place offset ∷ []) block m in
      all_none b p.1 (guard_of false place offset) [] block m1 ∙ all_none a p.0 (guard_of true place offset) [] block m ∙ sym (append-nil (branches m.body))
  if_left false guard place a b offset block m calm =
      let p = run_all (runs a) [] m.blocks (block_more m) in
      let q = run_all (runs b) [] m.blocks (emptied p) in
      one_more m.body (If place p.body q.body offset)
      ∙ ap (λ z. branches m.body ++ z) (in_if place p.body q.body offset ∙ ap (λ z. offset ∷ (z ++ branches q.body)) (all_left a m.blocks (block_more m)) ∙ ap (λ z. offset ∷ (places_in (lefts a) ++ z)) (all_left b m.blocks (emptied p)))

  both_none : (place : SlotId) (a b : List M) (offset : ℕ) → (all_calm (lefts a) && all_calm (lefts b)) ≡ true → (g : Guard) (gs : List Guard) (block : ℕ) (m : Made)
      → branches (both_run place (runs a) (runs b) offset (g ∷ gs) block m).body ≡ branches m.body
  both_none place a b offset calm g gs block m =
      let p = and_parts (all_calm (lefts a)) (all_calm (lefts b)) calm in
      let m1 = run_all (runs a) (g ∷ (gs ++ guard_of true place offset ∷ [])) block m in
      all_none b p.1 g (gs ++ guard_of false place offset ∷ []) block m1 ∙ all_none a p.0 g (gs ++ guard_of true place offset ∷ []) block m

  goes_calm : (guard : SlotId) (a b : List M) → is_hidden hides guard (runs a) (runs b) ≡ true → (all_calm (lefts a) && all_calm (lefts b)) ≡ true
  goes_calm guard a b e =
      let outer = and_parts (hides guard && (all_pure (runs a) && all_pure (runs b))) (is_some (runs a) || is_some (runs b)) e in
      let inner = and_parts (hides guard) (all_pure (runs a) && all_pure (runs b)) outer.0 in
      ap (λ z. z && all_calm (lefts b)) (sym (all_calm_is a)) ∙ ap (λ z. all_pure (runs a) && z) (sym (all_calm_is b)) ∙ inner.1

  abbrev layer : Stmt-F M → Stmt-F Stmt
  layer = map-Stmt M Stmt (λ m. m.0)

  abbrev Layered : Stmt-F Stmt → Type 0
  Layered y = Turns (rewriting_step hides (kept_let old) old (map-Stmt Stmt Rewriting the y)) (left_step hides (map-Stmt Stmt Left (left_of hides) y)) (branches_step (map-Stmt Stmt (List ℕ) branches_in y))

  if_turns : (guard : SlotId) (a b : List M) (offset : ℕ) → Layered (layer (Stmt-F.If guard a b offset))
  if_turns guard a b offset =
      record {
        calm = ap (λ z. z && all_pure (runs b)) (all_calm_is a) ∙ ap (λ z. all_calm (lefts a) && z) (all_calm_is b);
        left = λ block m.
            if_left (is_hidden hides guard (runs a) (runs b)) guard (moved m.table guard) a b offset block m (goes_calm guard a b)
            ∙ ap (λ (z : Bool). branches m.body ++ (if z then [] else offset ∷ (places_in (lefts a) ++ places_in (lefts b)))) (hidden_goes guard a b);
        none = λ calm g gs block m. both_none (moved m.table guard) a b offset calm g gs block m;
        same = λ e. kept e;
      }
    where
      kept : (is_hidden hides guard (runs a) (runs b) || some_changed (runs a) || some_changed (runs b)) ≡ false
          → offset ∷ (branches (stmts a) ++ branches (stmts b)) ≡ (if goes hides guard (lefts a) (lefts b) then [] else offset ∷ (places_in (lefts a) ++ places_in (lefts b)))
      kept e =
          let outer = or_false (is_hidden hides guard (runs a) (runs b) || some_changed (runs a)) (some_changed (runs b)) e in
          let inner = or_false (is_hidden hides guard (runs a) (runs b)) (some_changed (runs a)) outer.0 in
          ap (λ z. offset ∷ (z ++ branches (stmts b))) (all_same a inner.1) ∙ ap (λ z. offset ∷ (places_in (lefts a) ++ z)) (all_same b outer.1)
          ∙ ap (λ (z : Bool). if z then [] else offset ∷ (places_in (lefts a) ++ places_in (lefts b))) (sym (sym (hidden_goes guard a b) ∙ inner.0))

  step : (y : Stmt-F M) → Layered (layer y)
  step (Stmt-F.Let x r) =
      record {
        calm = calm_is_pure r;
        left = λ block m. also_none m.body (Let (slot m.next) (moved_right m.table r)) (in_let (slot m.next) (moved_right m.table r));
        none = λ calm g gs block m. none_more m.body (Let (slot m.next) (moved_right m.table r)) (in_let (slot m.next) (moved_right m.table r));
        same = λ e. refl;
      }
  step (Stmt-F.NewVar v x) =
      record {
        calm = refl;
        left = λ block m. also_none m.body (NewVar (slot m.next) (moved m.table x)) (in_var (slot m.next) (moved m.table x));
        none = λ calm g gs block m. none_more m.body (NewVar (slot m.next) (moved m.table x)) (in_var (slot m.next) (moved m.table x));
        same = λ e. refl;
      }
  step (Stmt-F.NewArray v cells) =
      record {
        calm = refl;
        left = λ block m. also_none m.body (NewArray (slot m.next) cells) (in_array (slot m.next) cells);
        none = λ calm g gs block m. absurd (true≢false (sym calm));
        same = λ e. refl;
      }
  step (Stmt-F.Store v x) =
      record {
        calm = refl;
        left = λ block m. stored_none (entry_of old v).kind block (moved m.table v) [] (moved m.table x) m ∙ sym (append-nil (branches m.body));
        none = λ calm g gs block m. stored_none (entry_of old v).kind block (moved m.table v) (g ∷ gs) (moved m.table x) m;
        same = λ e. refl;
      }
  step (Stmt-F.Put v i x) =
      record {
        calm = refl;
        left = λ block m. also_none m.body (Put (moved m.table v) (moved m.table i) (moved m.table x)) (in_put (moved m.table v) (moved m.table i) (moved m.table x));
        none = λ calm g gs block m. absurd (true≢false (sym calm));
        same = λ e. refl;
      }
  step (Stmt-F.Output x host offset) =
      record {
        calm = refl;
        left = λ block m. also_none m.body (Output (moved m.table x) host offset) (in_output (moved m.table x) host offset);
        none = λ calm g gs block m. absurd (true≢false (sym calm));
        same = λ e. refl;
      }
  step (Stmt-F.If guard a b offset) = if_turns guard a b offset
  step (Stmt-F.For count body) =
      record {
        calm = refl;
        left = λ block m.
            let p = run_all (runs body) [] block (emptied m) in
            one_more m.body (For count p.body) ∙ ap (λ z. branches m.body ++ z) (in_for count p.body ∙ all_left body block (emptied m));
        none = λ calm g gs block m. absurd (true≢false (sym calm));
        same = λ e. all_same body e;
      }

  at_roll : (y : Stmt-F Stmt) → Layered y → Meant (roll-Stmt y)
  at_roll y h =
      subst (λ (z : Rewriting). Turns z (left_of hides (roll-Stmt y)) (branches_in (roll-Stmt y))) (sym (fold-roll-Stmt Rewriting (rewriting_step hides (kept_let old) old) y))
      (subst (λ (z : Left). Turns (rewriting_step hides (kept_let old) old (map-Stmt Stmt Rewriting the y)) z (branches_in (roll-Stmt y))) (sym (fold-roll-Stmt Left (left_step hides) y))
      (subst (λ (z : List ℕ). Turns (rewriting_step hides (kept_let old) old (map-Stmt Stmt Rewriting the y)) (left_step hides (map-Stmt Stmt Left (left_of hides) y)) z) (sym (fold-roll-Stmt (List ℕ) branches_step y)) h))

  meant : (s : Stmt) → Meant s
  meant = ind-Stmt Meant (λ x y is. subst (λ z. Meant (roll-Stmt z)) is (at_roll (layer y) (step y)))

  pub body_left : (body : List Stmt) (block : ℕ) (m : Made) → branches (run_all (map the body) [] block m).body ≡ branches m.body ++ branches_left hides body
  body_left [] block m = sym (append-nil (branches m.body))
  body_left (s ∷ ss) block m =
      body_left ss block ((the s).run [] block m)
      ∙ ap (λ z. z ++ branches_left hides ss) ((meant s).left block m)
      ∙ append_assoc (branches m.body) (left_of hides s).places (branches_left hides ss)

  pub body_same : (body : List Stmt) → some_changed (map the body) ≡ false → branches body ≡ branches_left hides body
  body_same [] e = refl
  body_same (s ∷ ss) e =
      let p = or_false (the s).is_changed (some_changed (map the ss)) e in
      ap (λ z. z ++ branches ss) ((meant s).same p.0) ∙ ap (λ z. (left_of hides s).places ++ z) (body_same ss p.1)
