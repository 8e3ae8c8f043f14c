-- Slots are made in program order, and cells and nesting stay as they are.
use Rattle.std.proofs.Common.{◌≡◌, ℕ, ◌+◌, ◌≤◌, max, Bool, true, false, ◌||◌, if◌then◌else◌, List, [], ◌∷◌, ◌++◌, append_assoc, append-nil, length, map, refl, sym, ap, ◌∙◌, subst, arith, rules}
use Rattle.std.specs.List.{list_all, range_with_len}
use Rattle.vd_base.specs.declared.ids.SlotId.{SlotId}
use Rattle.vd_base.specs.declared.ids.HostId.{HostId}
use Rattle.vd_base.specs.declared.operations.Kind.{Kind}
use Rattle.vd_core.specs.declared.normal.Right.{Right}
use Rattle.vd_core.specs.declared.normal.Right.TheVariants.{Load}
use Rattle.vd_core.specs.declared.normal.Slot.{Slot}
use Rattle.vd_core.specs.declared.normal.Stmt.{Stmt, Let, NewVar, NewArray, Store, Put, Output, If, For, roll-Stmt, map-Stmt, ind-Stmt}
use Rattle.vd_core.specs.declared.normal.Stmt.TheFolds.{the_lemmas, fold-roll-Stmt}
use Rattle.vd_core.specs.declared.normal.Stmt.TheOpen.{Stmt-F}
use Rattle.vd_core.specs.Facts.{slots_of, slots_made, nesting_step, nesting_of, nesting, cells_step, cells_of, cell_count, count_step, count_of, statement_count}
use Rattle.vd_rewrite.specs.declared.guard.Guard.{Guard}
use Rattle.vd_rewrite.specs.Rewriting.{Made, slot, entry_of, in_block, fresh, moved, with_stmt, with_kept, with_fresh, selection, selected, stored, Rewriting, is_some, run_all, guard_of, both_run, emptied, block_more, kept_if, kept_for, is_hidden, Lets, rewriting_step, rewriting}
use Rattle.vd_rewrite.proofs.Stores.{length_push}
use Rattle.vd_rewrite.proofs.Pushes.{range_more, slots_push, cells_push, nesting_push, count_push, sum_cons, all_push}

pub slots_let : (x : SlotId) (r : Right) → slots_of (Let x r) ≡ x.0 ∷ []
slots_let x r = search (rules, the_lemmas)

pub slots_var : (v x : SlotId) → slots_of (NewVar v x) ≡ v.0 ∷ []
slots_var v x = search (rules, the_lemmas)

slots_array : (v : SlotId) (n : ℕ) → slots_of (NewArray v n) ≡ v.0 ∷ []
slots_array v n = search (rules, the_lemmas)

pub slots_store : (v x : SlotId) → slots_of (Store v x) ≡ []
slots_store v x = search (rules, the_lemmas)

slots_put : (v i x : SlotId) → slots_of (Put v i x) ≡ []
slots_put v i x = search (rules, the_lemmas)

slots_output : (x : SlotId) (h : HostId) (offset : ℕ) → slots_of (Output x h offset) ≡ []
slots_output x h offset = search (rules, the_lemmas)

slots_if : (x : SlotId) (a b : List Stmt) (offset : ℕ) → slots_of (If x a b offset) ≡ slots_made a ++ slots_made b
slots_if x a b offset = search (rules, the_lemmas)

pub slots_for : (n : ℕ) (body : List Stmt) → slots_of (For n body) ≡ slots_made body
slots_for n body = search (rules, the_lemmas)

pub cells_let : (x : SlotId) (r : Right) → cells_of (Let x r) ≡ 0
cells_let x r = search (rules, the_lemmas)

pub cells_var : (v x : SlotId) → cells_of (NewVar v x) ≡ 0
cells_var v x = search (rules, the_lemmas)

cells_array : (v : SlotId) (n : ℕ) → cells_of (NewArray v n) ≡ n
cells_array v n = search (rules, the_lemmas)

pub cells_store : (v x : SlotId) → cells_of (Store v x) ≡ 0
cells_store v x = search (rules, the_lemmas)

cells_put : (v i x : SlotId) → cells_of (Put v i x) ≡ 0
cells_put v i x = search (rules, the_lemmas)

cells_output : (x : SlotId) (h : HostId) (offset : ℕ) → cells_of (Output x h offset) ≡ 0
cells_output x h offset = search (rules, the_lemmas)

cells_if : (x : SlotId) (a b : List Stmt) (offset : ℕ) → cells_of (If x a b offset) ≡ cell_count a + cell_count b
cells_if x a b offset = search (rules, the_lemmas)

pub cells_for : (n : ℕ) (body : List Stmt) → cells_of (For n body) ≡ cell_count body
cells_for n body = search (rules, the_lemmas)

pub nest_let : (x : SlotId) (r : Right) → nesting_of (Let x r) ≡ 0
nest_let x r = search (rules, the_lemmas)

pub nest_var : (v x : SlotId) → nesting_of (NewVar v x) ≡ 0
nest_var v x = search (rules, the_lemmas)

nest_array : (v : SlotId) (n : ℕ) → nesting_of (NewArray v n) ≡ 0
nest_array v n = search (rules, the_lemmas)

pub nest_store : (v x : SlotId) → nesting_of (Store v x) ≡ 0
nest_store v x = search (rules, the_lemmas)

nest_put : (v i x : SlotId) → nesting_of (Put v i x) ≡ 0
nest_put v i x = search (rules, the_lemmas)

nest_output : (x : SlotId) (h : HostId) (offset : ℕ) → nesting_of (Output x h offset) ≡ 0
nest_output x h offset = search (rules, the_lemmas)

nest_if : (x : SlotId) (a b : List Stmt) (offset : ℕ) → nesting_of (If x a b offset) ≡ max (nesting a) (nesting b)
nest_if x a b offset = search (rules, the_lemmas)

pub nest_for : (n : ℕ) (body : List Stmt) → nesting_of (For n body) ≡ 1 + nesting body
nest_for n body = search (rules, the_lemmas)

count_if : (x : SlotId) (a b : List Stmt) (offset : ℕ) → count_of (If x a b offset) ≡ 1 + statement_count a + statement_count b
count_if x a b offset = search (rules, the_lemmas)

pub count_for : (n : ℕ) (body : List Stmt) → count_of (For n body) ≡ 1 + statement_count body
count_for n body = search (rules, the_lemmas)

-- a statement counts
step_some : (y : Stmt-F ℕ) → 1 ≤ count_step y
step_some (Stmt-F.Let x r) = omega arith
step_some (Stmt-F.NewVar v x) = omega arith
step_some (Stmt-F.NewArray v n) = omega arith
step_some (Stmt-F.Store v x) = omega arith
step_some (Stmt-F.Put v i x) = omega arith
step_some (Stmt-F.Output x h offset) = omega arith
step_some (Stmt-F.If g a b offset) = omega arith
step_some (Stmt-F.For n body) = omega arith

pub some_count : (s : Stmt) → 1 ≤ count_of s
some_count = ind-Stmt (λ s. 1 ≤ count_of s) (λ x y is. subst (λ z. 1 ≤ count_of (roll-Stmt z)) is (let z = map-Stmt ((s : Stmt) × (1 ≤ count_of s)) Stmt (λ m. m.0) y in subst (λ n. 1 ≤ n) (sym (fold-roll-Stmt ℕ count_step z)) (step_some (map-Stmt Stmt ℕ count_of z))))

-- from m to m' the next slots were made, in order, each with an entry that passes; so many cells, and no more loops around one another than there were
pub record Makes (pass : Slot → Bool) (m m' : Made) (c n : ℕ) : Type 0 where
  pub count : ℕ
  pub next : m'.next ≡ m.next + count
  pub entries : length m'.slots ≡ length m.slots + count
  pub slots : slots_made m'.body ≡ slots_made m.body ++ range_with_len m.next count
  pub passes : list_all pass m.slots ≡ true → list_all pass m'.slots ≡ true
  pub cells : cell_count m'.body ≡ cell_count m.body + c
  pub nest : nesting m'.body ≤ max (nesting m.body) n
  pub more : m.next + m.blocks ≤ m'.next + m'.blocks
  pub few : m'.next + m'.blocks + statement_count m.body ≤ m.next + m.blocks + statement_count m'.body

module _ (pass : Slot → Bool) where
  pub makes_none : (m : Made) → Makes pass m m 0 0
  makes_none m = record { count = 0; next = omega arith; entries = omega arith; slots = sym (append-nil (slots_made m.body)); passes = λ h. h; cells = omega arith; nest = omega arith; more = omega arith; few = omega arith }

  pub makes_both : (m m1 m2 : Made) (c d n k : ℕ) → Makes pass m m1 c n → Makes pass m1 m2 d k → Makes pass m m2 (c + d) (max n k)
  makes_both m m1 m2 c d n k a b =
      let n1 = a.next in
      let n2 = b.next in
      let e1 = a.entries in
      let e2 = b.entries in
      let c1 = a.cells in
      let c2 = b.cells in
      let k1 = a.nest in
      let k2 = b.nest in
      let m1' = a.more in
      let m2' = b.more in
      let f1 = a.few in
      let f2 = b.few in
      record {
        count = a.count + b.count;
        next = omega arith;
        entries = omega arith;
        slots = b.slots ∙ ap (λ z. z ++ range_with_len m1.next b.count) a.slots ∙ append_assoc (slots_made m.body) (range_with_len m.next a.count) (range_with_len m1.next b.count)
            ∙ ap (λ z. slots_made m.body ++ z) (ap (λ z. range_with_len m.next a.count ++ range_with_len z b.count) a.next ∙ sym (range_more m.next a.count b.count));
        passes = λ h. b.passes (a.passes h);
        cells = omega arith;
        nest = omega arith;
        more = omega arith;
        few = omega arith;
      }

  pub makes_stmt : (m : Made) (x : Stmt) → slots_of x ≡ [] → cells_of x ≡ 0 → nesting_of x ≡ 0 → Makes pass m (with_stmt x m) 0 0
  makes_stmt m x is c n =
      record {
        count = 0;
        next = omega arith;
        entries = omega arith;
        slots = slots_push m.body x ∙ ap (λ z. slots_made m.body ++ z) is;
        passes = λ h. h;
        cells = let p = cells_push m.body x in omega arith;
        nest = let p = nesting_push m.body x in omega arith;
        more = omega arith;
        few = let p = count_push m.body x in let q = some_count x in omega arith;
      }

  pub makes_kept : (m : Made) (entry : Slot) (x : Stmt) (c : ℕ) → pass entry ≡ true → slots_of x ≡ m.next ∷ [] → cells_of x ≡ c → nesting_of x ≡ 0 → Makes pass m (with_kept entry x m) c 0
  makes_kept m entry x c ok is e n =
      record {
        count = 1;
        next = refl;
        entries = length_push m.slots entry;
        slots = slots_push m.body x ∙ ap (λ z. slots_made m.body ++ z) is;
        passes = λ h. all_push pass m.slots entry h ok;
        cells = let p = cells_push m.body x in omega arith;
        nest = let p = nesting_push m.body x in omega arith;
        more = omega arith;
        few = let p = count_push m.body x in let q = some_count x in omega arith;
      }

  makes_fresh : (m : Made) (entry : Slot) (r : Right) → pass entry ≡ true → Makes pass m (with_fresh entry r m) 0 0
  makes_fresh m entry r ok =
      let x = Let (slot m.next) r in
      let c = cells_let (slot m.next) r in
      let n = nest_let (slot m.next) r in
      record {
        count = 1;
        next = refl;
        entries = length_push m.slots entry;
        slots = slots_push m.body x ∙ ap (λ z. slots_made m.body ++ z) (slots_let (slot m.next) r);
        passes = λ h. all_push pass m.slots entry h ok;
        cells = let p = cells_push m.body x in omega arith;
        nest = let p = nesting_push m.body x in omega arith;
        more = omega arith;
        few = let p = count_push m.body x in let q = some_count x in omega arith;
      }

  makes_same : (m m' : Made) (c d n k : ℕ) → c ≡ d → n ≡ k → Makes pass m m' c n → Makes pass m m' d k
  makes_same m m' c d n k e f h = subst (λ z. Makes pass m m' z k) e (subst (λ z. Makes pass m m' c z) f h)

  pub makes_deeper : (m m' : Made) (c n k : ℕ) → n ≤ k → Makes pass m m' c n → Makes pass m m' c k
  makes_deeper m m' c n k le h =
      let e = h.nest in
      record { count = h.count; next = h.next; entries = h.entries; slots = h.slots; passes = h.passes; cells = h.cells; nest = omega arith; more = h.more; few = h.few }

  module _ (fresh_passes : (kind : Kind) (offset block : ℕ) → pass (fresh kind offset block) ≡ true) where
    selected_makes : (kind : Kind) (block : ℕ) (v : SlotId) (gs : List Guard) (y : SlotId) (m : Made) → Makes pass m (selected kind block v gs y m).1 0 0
    selected_makes kind block v [] y m = makes_none m
    selected_makes kind block v (g ∷ gs) y m =
        let p = selected kind block v gs y m in
        let one = with_fresh (fresh kind g.offset block) (Load v) p.1 in
        let choice = selection g.first g.slot p.0 (slot p.1.next) in
        makes_both m p.1 (with_fresh (fresh kind g.offset block) choice one) 0 0 0 0 (selected_makes kind block v gs y m)
        (makes_both p.1 one (with_fresh (fresh kind g.offset block) choice one) 0 0 0 0 (makes_fresh p.1 (fresh kind g.offset block) (Load v) (fresh_passes kind g.offset block)) (makes_fresh one (fresh kind g.offset block) choice (fresh_passes kind g.offset block)))

    stored_makes : (kind : Kind) (block : ℕ) (v : SlotId) (gs : List Guard) (y : SlotId) (m : Made) → Makes pass m (stored kind block v gs y m) 0 0
    stored_makes kind block v gs y m =
        let p = selected kind block v gs y m in
        makes_both m p.1 (with_stmt (Store v p.0) p.1) 0 0 0 0 (selected_makes kind block v gs y m) (makes_stmt p.1 (Store v p.0) (slots_store v p.0) (cells_store v p.0) (nest_store v p.0))

    module _ (hides : SlotId → Bool) (lets : Lets) (old : List Slot) (kept_passes : (x : SlotId) (block : ℕ) → pass (in_block block (entry_of old x)) ≡ true)
        (deep : ℕ) (lets_make : (x : SlotId) (r : Right) (block : ℕ) (m : Made) → Makes pass m (lets x r block m) 0 deep) where
      abbrev Shaped : Rewriting → ℕ → ℕ → Type 0
      Shaped r cells nest = (gs : List Guard) (block : ℕ) (m : Made) → Makes pass m (r.run gs block m) cells nest

      abbrev the : Stmt → Rewriting
      the = rewriting hides lets old

      abbrev M : Type 0
      M = (s : Stmt) × Shaped (the s) (cells_of s) (nesting_of s + deep)

      abbrev stmts : List M → List Stmt
      stmts ms = map (λ (m : M). m.0) ms

      abbrev runs : List M → List Rewriting
      runs ms = map the (stmts ms)

      all_make : (ms : List M) (gs : List Guard) (block : ℕ) (m : Made) → Makes pass m (run_all (runs ms) gs block m) (cell_count (stmts ms)) (nesting (stmts ms) + deep)
      all_make [] gs block m = makes_deeper m m 0 0 (0 + deep) (omega arith) (makes_none m)
      all_make (q ∷ ms) gs block m =
          let m1 = (the q.0).run gs block m in
          makes_same m (run_all (runs ms) gs block m1) (cells_of q.0 + cell_count (stmts ms)) (cell_count (q.0 ∷ stmts ms)) (max (nesting_of q.0 + deep) (nesting (stmts ms) + deep)) (nesting (q.0 ∷ stmts ms) + deep)
          (sym (sum_cons (cells_of q.0) (map cells_of (stmts ms)))) (omega arith)
          (makes_both m m1 (run_all (runs ms) gs block m1) (cells_of q.0) (cell_count (stmts ms)) (nesting_of q.0 + deep) (nesting (stmts ms) + deep) (q.1 gs block m) (all_make ms gs block m1))

      if_makes : (c : Bool) (place : SlotId) (a b : List M) (offset : ℕ) (gs : List Guard) (block : ℕ) (m : Made)
          → Makes pass m (if c then both_run place (runs a) (runs b) offset gs block m else kept_if place (runs a) (runs b) offset m) (cell_count (stmts a) + cell_count (stmts b)) (max (nesting (stmts a)) (nesting (stmts b)) + deep)
      if_makes true place a b offset gs block m =
          let m1 = run_all (runs a) (gs ++ guard_of true place offset ∷ []) block m in
          makes_same m (run_all (runs b) (gs ++ guard_of false place offset ∷ []) block m1) (cell_count (stmts a) + cell_count (stmts b)) (cell_count (stmts a) + cell_count (stmts b)) (max (nesting (stmts a) + deep) (nesting (stmts b) + deep))
          (max (nesting (stmts a)) (nesting (stmts b)) + deep) refl (omega arith) (makes_both m m1 (run_all (runs b) (gs ++ guard_of false place offset ∷ []) block m1) (cell_count (stmts a)) (cell_count (stmts b)) (nesting (stmts a) + deep) (nesting (stmts b) + deep)
          (all_make a (gs ++ guard_of true place offset ∷ []) block m) (all_make b (gs ++ guard_of false place offset ∷ []) block m1))
      if_makes false place a b offset gs block m =
          let p = run_all (runs a) [] m.blocks (block_more m) in
          let q = run_all (runs b) [] m.blocks (emptied p) in
          let x = all_make a [] m.blocks (block_more m) in
          let y = all_make b [] m.blocks (emptied p) in
          let n1 = x.next in
          let n2 = y.next in
          let e1 = x.entries in
          let e2 = y.entries in
          let all : slots_of (If place p.body q.body offset) ≡ range_with_len m.next (x.count + y.count) =
          slots_if place p.body q.body offset ∙ ap (λ z. z ++ slots_made q.body) x.slots ∙ ap (λ z. range_with_len m.next x.count ++ z) (y.slots ∙ ap (λ z. range_with_len z y.count) x.next) ∙ sym (range_more m.next x.count y.count) in
          record {
            count = x.count + y.count;
            next = omega arith;
            entries = omega arith;
            slots = slots_push m.body (If place p.body q.body offset) ∙ ap (λ z. slots_made m.body ++ z) all;
            passes = λ h. y.passes (x.passes h);
            cells = let c = cells_push m.body (If place p.body q.body offset) in let d = cells_if place p.body q.body offset in let c1 = x.cells in let c2 = y.cells in omega arith;
            nest = let c = nesting_push m.body (If place p.body q.body offset) in let d = nest_if place p.body q.body offset in let c1 = x.nest in let c2 = y.nest in omega arith;
            more = let a = x.more in let b = y.more in omega arith;
            few = let w = count_push m.body (If place p.body q.body offset) in let w' = count_if place p.body q.body offset in let a = x.few in let b = y.few in omega arith;
          }

      for_makes : (count : ℕ) (body : List M) (block : ℕ) (m : Made) → Makes pass m (kept_for count (runs body) block m) (cell_count (stmts body)) (1 + nesting (stmts body) + deep)
      for_makes count body block m =
          let p = run_all (runs body) [] block (emptied m) in
          let x = all_make body [] block (emptied m) in
          record {
            count = x.count;
            next = x.next;
            entries = x.entries;
            slots = slots_push m.body (For count p.body) ∙ ap (λ z. slots_made m.body ++ z) (slots_for count p.body ∙ x.slots);
            passes = x.passes;
            cells = let c = cells_push m.body (For count p.body) in let d = cells_for count p.body in let c1 = x.cells in omega arith;
            nest = let c = nesting_push m.body (For count p.body) in let d = nest_for count p.body in let c1 = x.nest in omega arith;
            more = x.more;
            few = let w = count_push m.body (For count p.body) in let w' = count_for count p.body in let a = x.few in omega arith;
          }

      abbrev layer : Stmt-F M → Stmt-F Stmt
      layer = map-Stmt M Stmt (λ m. m.0)

      abbrev Layered : Stmt-F Stmt → Type 0
      Layered y = Shaped (rewriting_step hides lets old (map-Stmt Stmt Rewriting the y)) (cells_step (map-Stmt Stmt ℕ cells_of y)) (nesting_step (map-Stmt Stmt ℕ nesting_of y) + deep)

      step : (y : Stmt-F M) → Layered (layer y)
      step (Stmt-F.Let x r) gs block m = makes_same m (lets x r block m) 0 0 deep (0 + deep) refl (omega arith) (lets_make x r block m)
      step (Stmt-F.NewVar v x) gs block m =
          let e = moved m.table x in
          let entry = in_block block (entry_of old v) in
          makes_deeper m (with_kept entry (NewVar (slot m.next) e) m) 0 0 (0 + deep) (omega arith) (makes_kept m entry (NewVar (slot m.next) e) 0 (kept_passes v block) (slots_var (slot m.next) e) (cells_var (slot m.next) e) (nest_var (slot m.next) e))
      step (Stmt-F.NewArray v cells) gs block m =
          let entry = in_block block (entry_of old v) in
          makes_deeper m (with_kept entry (NewArray (slot m.next) cells) m) cells 0 (0 + deep) (omega arith) (makes_kept m entry (NewArray (slot m.next) cells) cells (kept_passes v block) (slots_array (slot m.next) cells) (cells_array (slot m.next) cells) (nest_array (slot m.next) cells))
      step (Stmt-F.Store v x) gs block m =
          makes_deeper m (stored (entry_of old v).kind block (moved m.table v) gs (moved m.table x) m) 0 0 (0 + deep) (omega arith) (stored_makes (entry_of old v).kind block (moved m.table v) gs (moved m.table x) m)
      step (Stmt-F.Put v i x) gs block m =
          let v' = moved m.table v in
          let i' = moved m.table i in
          let x' = moved m.table x in
          makes_deeper m (with_stmt (Put v' i' x') m) 0 0 (0 + deep) (omega arith) (makes_stmt m (Put v' i' x') (slots_put v' i' x') (cells_put v' i' x') (nest_put v' i' x'))
      step (Stmt-F.Output x host offset) gs block m =
          let x' = moved m.table x in
          makes_deeper m (with_stmt (Output x' host offset) m) 0 0 (0 + deep) (omega arith) (makes_stmt m (Output x' host offset) (slots_output x' host offset) (cells_output x' host offset) (nest_output x' host offset))
      step (Stmt-F.If guard a b offset) gs block m = if_makes (is_some gs || is_hidden hides guard (runs a) (runs b)) (moved m.table guard) a b offset gs block m
      step (Stmt-F.For count body) gs block m = for_makes count body block m

      at_roll : (y : Stmt-F Stmt) → Layered y → Shaped (the (roll-Stmt y)) (cells_of (roll-Stmt y)) (nesting_of (roll-Stmt y) + deep)
      at_roll y h =
          subst (λ (z : Rewriting). Shaped z (cells_of (roll-Stmt y)) (nesting_of (roll-Stmt y) + deep)) (sym (fold-roll-Stmt Rewriting (rewriting_step hides lets old) y))
          (subst (λ z. Shaped (rewriting_step hides lets old (map-Stmt Stmt Rewriting the y)) z (nesting_of (roll-Stmt y) + deep)) (sym (fold-roll-Stmt ℕ cells_step y))
          (subst (λ z. Shaped (rewriting_step hides lets old (map-Stmt Stmt Rewriting the y)) (cells_step (map-Stmt Stmt ℕ cells_of y)) (z + deep)) (sym (fold-roll-Stmt ℕ nesting_step y)) h))

      stmt_makes : (s : Stmt) → Shaped (the s) (cells_of s) (nesting_of s + deep)
      stmt_makes = ind-Stmt (λ s. Shaped (the s) (cells_of s) (nesting_of s + deep)) (λ x y is. subst (λ z. Shaped (the (roll-Stmt z)) (cells_of (roll-Stmt z)) (nesting_of (roll-Stmt z) + deep)) is (at_roll (layer y) (step y)))

      pub body_makes : (body : List Stmt) (gs : List Guard) (block : ℕ) (m : Made) → Makes pass m (run_all (map the body) gs block m) (cell_count body) (nesting body + deep)
      body_makes [] gs block m = makes_deeper m m 0 0 (0 + deep) (omega arith) (makes_none m)
      body_makes (s ∷ ss) gs block m =
          let m1 = (the s).run gs block m in
          makes_same m (run_all (map the ss) gs block m1) (cells_of s + cell_count ss) (cell_count (s ∷ ss)) (max (nesting_of s + deep) (nesting ss + deep)) (nesting (s ∷ ss) + deep)
          (sym (sum_cons (cells_of s) (map cells_of ss))) (omega arith)
          (makes_both m m1 (run_all (map the ss) gs block m1) (cells_of s) (cell_count ss) (nesting_of s + deep) (nesting ss + deep) (stmt_makes s gs block m) (body_makes ss gs block m1))
