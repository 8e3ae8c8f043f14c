-- Each statement, once it is made anew, names what is in sight.
use Rattle.std.proofs.Common.{◌≡◌, ℕ, ◌+◌, Bool, true, false, ◌&&◌, ◌||◌, if◌then◌else◌, List, [], ◌∷◌, ◌++◌, length, map, refl, sym, ap, subst, arith}
use Rattle.std.proofs.lemmas.Bool.{and_parts}
use Rattle.vd_base.specs.declared.ids.SlotId.{SlotId}
use Rattle.vd_core.specs.declared.normal.Right.{Right}
use Rattle.vd_core.specs.declared.normal.Slot.{Slot}
use Rattle.vd_core.specs.declared.normal.Stmt.{Stmt, NewVar, NewArray, Store, Put, Output, If, For, roll-Stmt, map-Stmt, ind-Stmt}
use Rattle.vd_core.specs.declared.normal.Stmt.TheFolds.{fold-roll-Stmt}
use Rattle.vd_core.specs.declared.normal.Stmt.TheOpen.{Stmt-F}
use Rattle.vd_core.specs.Facts.{Sight, Seeing, is_binding, is_variable, is_array, with_binding, with_variable, with_array, right_sees, seeing_step, seeing_all, seeing, slots_of, slots_step, slots_made}
use Rattle.vd_semantics.specs.ProgramMeaning.{SlotState}
use Rattle.vd_rewrite.specs.declared.guard.Guard.{Guard}
use Rattle.vd_rewrite.specs.Rewriting.{Made, slot, entry_of, in_block, moved, moved_right, with_stmt, with_kept, Rewriting, is_some, run_all, guard_of, both_run, emptied, block_more, kept_if, kept_for, is_hidden, Lets, kept_let, rewriting_step, rewriting}
use Rattle.vd_rewrite.proofs.Tables.{Placed, Grown, Known, known_later}
use Rattle.vd_rewrite.proofs.Agree.{more_none, more_variable, more_array}
use Rattle.vd_rewrite.proofs.Meaning.{Counts, counts_split, Laws, Meaning, list_parts}
use Rattle.vd_rewrite.proofs.Statements.{parts, stmt_means, body_means}
use Rattle.vd_rewrite.proofs.Sights.{Shows, shows_fewer, shows_binding, shows_variable, shows_array, right_still, sight, Adds, stmt_adds, adds_none, adds_both, let_adds, GuardsIn, guards_more, guards_push, stored_adds, see_var, see_array, see_put, see_output, see_if, see_for}

-- what a Let becomes names what is in sight
abbrev pub LetSees : Lets → Type 0
LetSees lets = (x : SlotId) (r : Right) (block : ℕ) (m : Made) (seen start : Sight) → Known (length m.table) seen → x.0 ≡ length m.table → right_sees r seen ≡ true → (sight m start).all ≡ true → Shows m.table seen (sight m start).after
    → Adds m (lets x r block m) start × Shows (lets x r block m).table (with_binding x seen) (sight (lets x r block m) start).after

pub kept_sees : (old : List Slot) → LetSees (kept_let old)
kept_sees old x r block m seen start known is sees all shows =
    let entry = in_block block (entry_of old x) in
    let a = let_adds entry (moved_right m.table r) m start all (right_still m.table seen (sight m start).after r shows sees) in
    (a.0, subst (λ (z : Sight). Shows (m.table ++ m.next ∷ []) (with_binding x seen) z) (sym a.1) (shows_binding m.table m.next seen (sight m start).after x is known shows))

module _ (hides : SlotId → Bool) (lets : Lets) (old : List Slot) (Turns : Type 0) (Fine : ℕ → Type 0) (Holds : SlotState → Type 0) (good : Stmt-F Bool → Bool) (laws : Laws hides lets Turns Fine Holds good) (lets_see : LetSees lets) where
  abbrev the : Stmt → Rewriting
  the = rewriting hides lets old

  abbrev Sighted : Rewriting → Seeing → List ℕ → Type 0
  Sighted r v xs = (gs : List Guard) (block : ℕ) (m : Made) (seen start : Sight) → Placed m.table m.next → Known (length m.table) seen → Counts (length m.table) xs → (v seen).all ≡ true → (sight m start).all ≡ true
      → Shows m.table seen (sight m start).after → GuardsIn (sight m start).after gs → Adds m (r.run gs block m) start × Shows (r.run gs block m).table (v seen).after (sight (r.run gs block m) start).after

  abbrev M : Type 0
  M = (s : Stmt) × Sighted (the s) (seeing s) (slots_of s)

  abbrev stmts : List M → List Stmt
  stmts ms = map (λ (m : M). m.0) ms

  abbrev runs : List M → List Rewriting
  runs ms = map the (stmts ms)

  abbrev sights : List M → List Seeing
  sights ms = map seeing (stmts ms)

  means : (s : Stmt) → Meaning Turns Fine Holds (parts hides lets old Turns Fine Holds good laws s)
  means = stmt_means hides lets old Turns Fine Holds good laws

  all_see : (ms : List M) (gs : List Guard) (block : ℕ) (m : Made) (seen start : Sight) → Placed m.table m.next → Known (length m.table) seen → Counts (length m.table) (slots_made (stmts ms)) → (seeing_all (sights ms) seen).all ≡ true
      → (sight m start).all ≡ true → Shows m.table seen (sight m start).after → GuardsIn (sight m start).after gs
      → Adds m (run_all (runs ms) gs block m) start × Shows (run_all (runs ms) gs block m).table (seeing_all (sights ms) seen).after (sight (run_all (runs ms) gs block m) start).after
  all_see [] gs block m seen start p known counts sees all shows guards = (adds_none m start all, shows)
  all_see (q ∷ ms) gs block m seen start p known counts sees all shows guards =
      let m1 = (the q.0).run gs block m in
      let m2 = run_all (runs ms) gs block m1 in
      let fact = means q.0 in
      let seen1 = (seeing q.0 seen).after in
      let c = counts_split (length m.table) (slots_of q.0) (slots_made (stmts ms)) counts in
      let see = and_parts (seeing q.0 seen).all (seeing_all (sights ms) seen1).all sees in
      let g = fact.grows gs block m p in
      let one = q.1 gs block m seen start p known c.0 see.0 all shows guards in
      let known1 = subst (λ z. Known z seen1) (sym g.size) (fact.known (length m.table) seen known c.0) in
      let rest =
      all_see ms gs block m1 seen1 start g.placed known1 (subst (λ z. Counts z (slots_made (stmts ms))) (sym g.size) c.1) see.1 one.0.all one.1 (guards_more (sight m start).after (sight m1 start).after gs one.0.more guards) in
      (adds_both m m1 m2 start one.0 rest.0, rest.1)

  AllOf : (ms : List M) → Meaning Turns Fine Holds (list_parts Stmt (parts hides lets old Turns Fine Holds good laws) Turns Fine Holds (stmts ms))
  AllOf ms = body_means hides lets old Turns Fine Holds good laws (stmts ms)

  module _ (guard : SlotId) (a b : List M) (offset : ℕ) (m : Made) (seen start : Sight) (p : Placed m.table m.next) (known : Known (length m.table) seen)
      (counts : Counts (length m.table) (slots_made (stmts a) ++ slots_made (stmts b))) (see_g : is_binding seen guard ≡ true) (see_a : (seeing_all (sights a) seen).all ≡ true) (see_b : (seeing_all (sights b) seen).all ≡ true)
      (all : (sight m start).all ≡ true) (shows : Shows m.table seen (sight m start).after) where
    abbrev place : SlotId
    place = moved m.table guard

    c : Counts (length m.table) (slots_made (stmts a)) × Counts (length m.table + length (slots_made (stmts a))) (slots_made (stmts b))
    c = counts_split (length m.table) (slots_made (stmts a)) (slots_made (stmts b)) counts

    if_sees : (flat : Bool) (gs : List Guard) (block : ℕ) → GuardsIn (sight m start).after gs
        → let m' = if flat then both_run place (runs a) (runs b) offset gs block m else kept_if place (runs a) (runs b) offset m in Adds m m' start × Shows m'.table seen (sight m' start).after
    if_sees true gs block guards =
        let ga = gs ++ guard_of true place offset ∷ [] in
        let gb = gs ++ guard_of false place offset ∷ [] in
        let m1 = run_all (runs a) ga block m in
        let m2 = run_all (runs b) gb block m1 in
        let g = (AllOf a).grows ga block m p in
        let g2 = (AllOf b).grows gb block m1 g.placed in
        let new = (sight m start).after in
        let there : is_binding new place ≡ true = shows.bindings guard.0 see_g in
        let one = all_see a ga block m seen start p known c.0 see_a all shows (guards_push new gs (guard_of true place offset) there guards) in
        let known1 = known_later (length m.table) (length m1.table) seen known (let e = g.size in omega arith) in
        let shows1 = shows_fewer m.table m1.table (length m.table) seen seen new (sight m1 start).after known g.kept (more_none seen) one.0.more shows in
        let guards1 = guards_more new (sight m1 start).after gb one.0.more (guards_push new gs (guard_of false place offset) there guards) in
        let two = all_see b gb block m1 seen start g.placed known1 (subst (λ z. Counts z (slots_made (stmts b))) (sym g.size) c.1) see_b one.0.all shows1 guards1 in (
          adds_both m m1 m2 start one.0 two.0,
          shows_fewer m1.table m2.table (length m1.table) seen seen (sight m1 start).after (sight m2 start).after known1 g2.kept (more_none seen) two.0.more shows1,
        )
    if_sees false gs block guards =
        let x = run_all (runs a) [] m.blocks (block_more m) in
        let y = run_all (runs b) [] m.blocks (emptied x) in
        let m' = kept_if place (runs a) (runs b) offset m in
        let new = (sight m start).after in
        let g = (AllOf a).grows [] m.blocks (block_more m) p in
        let g2 = (AllOf b).grows [] m.blocks (emptied x) g.placed in
        let e1 = g.size in
        let known1 = known_later (length m.table) (length x.table) seen known (omega arith) in
        let one = all_see a [] m.blocks (block_more m) seen new p known c.0 see_a refl shows tt in
        let shows1 = shows_fewer m.table x.table (length m.table) seen seen new new known g.kept (more_none seen) (more_none new) shows in
        let two = all_see b [] m.blocks (emptied x) seen new g.placed known1 (subst (λ z. Counts z (slots_made (stmts b))) (sym g.size) c.1) see_b refl shows1 tt in
        let st =
        stmt_adds m m' (If place x.body y.body offset) (seeing_step (Stmt-F.If place (map seeing x.body) (map seeing y.body) offset)) start refl (see_if place x.body y.body offset) all
        (rw (shows.bindings guard.0 see_g, one.0.all, two.0.all) refl) (more_none new) in (
          st.0,
          subst (λ (z : Sight). Shows y.table seen z) (sym st.1) (shows_fewer x.table y.table (length x.table) seen seen new new known1 g2.kept (more_none seen) (more_none new) shows1),
        )

  abbrev layer : Stmt-F M → Stmt-F Stmt
  layer = map-Stmt M Stmt (λ m. m.0)

  abbrev Layered : Stmt-F Stmt → Type 0
  Layered y = Sighted (rewriting_step hides lets old (map-Stmt Stmt Rewriting the y)) (seeing_step (map-Stmt Stmt Seeing seeing y)) (slots_step (map-Stmt Stmt (List ℕ) slots_of y))

  step : (y : Stmt-F M) → Layered (layer y)
  step (Stmt-F.Let x r) gs block m seen start p known counts sees all shows guards = lets_see x r block m seen start known counts.0 sees all shows
  step (Stmt-F.NewVar v x) gs block m seen start p known counts sees all shows guards =
      let m' = with_kept (in_block block (entry_of old v)) (NewVar (slot m.next) (moved m.table x)) m in
      let new = (sight m start).after in
      let st = stmt_adds m m' (NewVar (slot m.next) (moved m.table x)) (seeing_step (Stmt-F.NewVar (slot m.next) (moved m.table x))) start refl (see_var (slot m.next) (moved m.table x)) all (shows.bindings x.0 sees) (more_variable (slot m.next) new) in
      (st.0, subst (λ (z : Sight). Shows m'.table (with_variable v seen) z) (sym st.1) (shows_variable m.table m.next seen new v counts.0 known shows))
  step (Stmt-F.NewArray v cells) gs block m seen start p known counts sees all shows guards =
      let m' = with_kept (in_block block (entry_of old v)) (NewArray (slot m.next) cells) m in
      let new = (sight m start).after in
      let st = stmt_adds m m' (NewArray (slot m.next) cells) (seeing_step (Stmt-F.NewArray (slot m.next) cells)) start refl (see_array (slot m.next) cells) all refl (more_array (slot m.next) new) in
      (st.0, subst (λ (z : Sight). Shows m'.table (with_array v seen) z) (sym st.1) (shows_array m.table m.next seen new v counts.0 known shows))
  step (Stmt-F.Store v x) gs block m seen start p known counts sees all shows guards =
      let h = and_parts (is_variable seen v) (is_binding seen x) sees in
      let new = (sight m start).after in
      let m' = (the (Store v x)).run gs block m in
      let a = stored_adds (entry_of old v).kind block (moved m.table v) gs (moved m.table x) m start all (shows.variables v.0 h.0) (shows.bindings x.0 h.1) guards in
      let g = (layered_grows (Stmt-F.Store v x)) gs block m p in
      (a, shows_fewer m.table _ (length m.table) seen seen new _ known g.kept (more_none seen) a.more shows)
    where
      layered_grows : (y : Stmt-F Stmt) (gs : List Guard) (block : ℕ) (m : Made) → Placed m.table m.next → Grown m ((rewriting_step hides lets old (map-Stmt Stmt Rewriting the y)).run gs block m) (length (slots_step (map-Stmt Stmt (List ℕ) slots_of y)))
      layered_grows y gs block m p =
          subst (λ (r : Rewriting). Grown m (r.run gs block m) (length (slots_step (map-Stmt Stmt (List ℕ) slots_of y)))) (fold-roll-Stmt Rewriting (rewriting_step hides lets old) y)
          (subst (λ (xs : List ℕ). Grown m ((the (roll-Stmt y)).run gs block m) (length xs)) (fold-roll-Stmt (List ℕ) slots_step y) ((means (roll-Stmt y)).grows gs block m p))
  step (Stmt-F.Put v i x) gs block m seen start p known counts sees all shows guards =
      let q = and_parts (is_array seen v && is_binding seen i) (is_binding seen x) sees in
      let h = and_parts (is_array seen v) (is_binding seen i) q.0 in
      let v' = moved m.table v in
      let i' = moved m.table i in
      let x' = moved m.table x in
      let new = (sight m start).after in
      let st = stmt_adds m (with_stmt (Put v' i' x') m) (Put v' i' x') (seeing_step (Stmt-F.Put v' i' x')) start refl (see_put v' i' x') all (rw (shows.arrays v.0 h.0, shows.bindings i.0 h.1, shows.bindings x.0 q.1) refl) (more_none new) in
      (st.0, subst (λ (z : Sight). Shows m.table seen z) (sym st.1) shows)
  step (Stmt-F.Output x host offset) gs block m seen start p known counts sees all shows guards =
      let x' = moved m.table x in
      let new = (sight m start).after in
      let st = stmt_adds m (with_stmt (Output x' host offset) m) (Output x' host offset) (seeing_step (Stmt-F.Output x' host offset)) start refl (see_output x' host offset) all (shows.bindings x.0 sees) (more_none new) in
      (st.0, subst (λ (z : Sight). Shows m.table seen z) (sym st.1) shows)
  step (Stmt-F.If guard a b offset) gs block m seen start p known counts sees all shows guards =
      let q = and_parts (is_binding seen guard && (seeing_all (sights a) seen).all) (seeing_all (sights b) seen).all sees in
      let h = and_parts (is_binding seen guard) (seeing_all (sights a) seen).all q.0 in
      if_sees guard a b offset m seen start p known counts h.0 h.1 q.1 all shows (is_some gs || is_hidden hides guard (runs a) (runs b)) gs block guards
  step (Stmt-F.For count body) gs block m seen start p known counts sees all shows guards =
      let x = run_all (runs body) [] block (emptied m) in
      let m' = kept_for count (runs body) block m in
      let new = (sight m start).after in
      let g = (AllOf body).grows [] block (emptied m) p in
      let one = all_see body [] block (emptied m) seen new p known counts sees refl shows tt in
      let st = stmt_adds m m' (For count x.body) (seeing_step (Stmt-F.For count (map seeing x.body))) start refl (see_for count x.body) all one.0.all (more_none new) in
      (st.0, subst (λ (z : Sight). Shows x.table seen z) (sym st.1) (shows_fewer m.table x.table (length m.table) seen seen new new known g.kept (more_none seen) (more_none new) shows))

  at_roll : (y : Stmt-F Stmt) → Layered y → Sighted (the (roll-Stmt y)) (seeing (roll-Stmt y)) (slots_of (roll-Stmt y))
  at_roll y h =
      subst (λ (z : Rewriting). Sighted z (seeing (roll-Stmt y)) (slots_of (roll-Stmt y))) (sym (fold-roll-Stmt Rewriting (rewriting_step hides lets old) y))
      (subst (λ (z : Seeing). Sighted (rewriting_step hides lets old (map-Stmt Stmt Rewriting the y)) z (slots_of (roll-Stmt y))) (sym (fold-roll-Stmt Seeing seeing_step y))
      (subst (λ (z : List ℕ). Sighted (rewriting_step hides lets old (map-Stmt Stmt Rewriting the y)) (seeing_step (map-Stmt Stmt Seeing seeing y)) z) (sym (fold-roll-Stmt (List ℕ) slots_step y)) h))

  stmt_sees : (s : Stmt) → Sighted (the s) (seeing s) (slots_of s)
  stmt_sees = ind-Stmt (λ s. Sighted (the s) (seeing s) (slots_of s)) (λ x y is. subst (λ z. Sighted (the (roll-Stmt z)) (seeing (roll-Stmt z)) (slots_of (roll-Stmt z))) is (at_roll (layer y) (step y)))

  abbrev with_sights : List Stmt → List M
  with_sights [] = []
  with_sights (s ∷ ss) = (s, stmt_sees s) ∷ with_sights ss

  with_stmts : (ss : List Stmt) → stmts (with_sights ss) ≡ ss
  with_stmts [] = refl
  with_stmts (s ∷ ss) = ap (λ (z : List Stmt). s ∷ z) (with_stmts ss)

  pub body_sees : (body : List Stmt) → Sighted (record { is_pure = true; is_changed = false; run = run_all (map the body) }) (seeing_all (map seeing body)) (slots_made body)
  body_sees body =
      subst (λ (z : List Stmt). Sighted (record { is_pure = true; is_changed = false; run = run_all (map the z) }) (seeing_all (map seeing z)) (slots_made z)) (with_stmts body) (all_see (with_sights body))
