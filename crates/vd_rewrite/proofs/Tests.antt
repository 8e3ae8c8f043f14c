-- Tests of statements that a program made anew still meets.
use Rattle.std.proofs.Common.{◌≡◌, ℕ, Bool, true, false, ◌||◌, if◌then◌else◌, List, [], ◌∷◌, ◌++◌, map, refl, sym, ◌∙◌, subst, rules}
use Rattle.std.specs.List.{list_all}
use Rattle.std.proofs.lemmas.Bool.{and_parts}
use Rattle.vd_base.specs.declared.ids.SlotId.{SlotId}
use Rattle.vd_base.specs.declared.ids.HostId.{HostId}
use Rattle.vd_base.specs.declared.operations.Kind.{Kind}
use Rattle.vd_core.specs.declared.normal.Right.{Right}
use Rattle.vd_core.specs.declared.normal.Right.TheVariants.{Load}
use Rattle.vd_core.specs.declared.normal.Slot.{Slot}
use Rattle.vd_core.specs.declared.normal.Stmt.{Stmt, Let, NewVar, NewArray, Store, Put, Output, If, For, roll-Stmt, map-Stmt, ind-Stmt}
use Rattle.vd_core.specs.declared.normal.Stmt.TheFolds.{the_lemmas, fold-Stmt, fold-roll-Stmt}
use Rattle.vd_core.specs.declared.normal.Stmt.TheOpen.{Stmt-F}
use Rattle.vd_rewrite.specs.declared.guard.Guard.{Guard}
use Rattle.vd_rewrite.specs.Rewriting.{Made, slot, entry_of, fresh, moved, moved_right, with_fresh, selection, selected, Rewriting, is_some, run_all, guard_of, both_run, emptied, block_more, kept_if, is_hidden, Lets, rewriting_step, rewriting}
use Rattle.vd_rewrite.proofs.Pushes.{all_push}

-- a test that looks at no slot's number
pub record Looks (test : Stmt-F Bool → Bool) : Type 0 where
  pub lets : (x x' : SlotId) (table : List ℕ) (r : Right) → test (Stmt-F.Let x r) ≡ true → test (Stmt-F.Let x' (moved_right table r)) ≡ true
  pub load : (x v : SlotId) → test (Stmt-F.Let x (Load v)) ≡ true
  pub choice : (x : SlotId) (first : Bool) (g new old : SlotId) → test (Stmt-F.Let x (selection first g new old)) ≡ true
  pub variable : (v x : SlotId) → test (Stmt-F.NewVar v x) ≡ true
  pub array : (v : SlotId) (n : ℕ) → test (Stmt-F.NewArray v n) ≡ true
  pub store : (v x : SlotId) → test (Stmt-F.Store v x) ≡ true
  pub put : (v i x : SlotId) → test (Stmt-F.Put v i x) ≡ true
  pub output : (x x' : SlotId) (h : HostId) (offset : ℕ) → test (Stmt-F.Output x h offset) ≡ true → test (Stmt-F.Output x' h offset) ≡ true
  pub parts : (g : SlotId) (a b : List Bool) (offset : ℕ) → test (Stmt-F.If g a b offset) ≡ true → (list_all (λ b. b) a ≡ true) × (list_all (λ b. b) b ≡ true)
  pub branches : (g g' : SlotId) (a b a' b' : List Bool) (offset : ℕ) → test (Stmt-F.If g a b offset) ≡ true → list_all (λ b. b) a' ≡ true → list_all (λ b. b) b' ≡ true → test (Stmt-F.If g' a' b' offset) ≡ true
  pub loop : (n : ℕ) (a a' : List Bool) → test (Stmt-F.For n a) ≡ true → (list_all (λ b. b) a ≡ true → list_all (λ b. b) a' ≡ true) → test (Stmt-F.For n a') ≡ true

module _ (test : Stmt-F Bool → Bool) (looks : Looks test) where
  abbrev pub tested : Stmt → Bool
  tested = fold-Stmt Bool test

  abbrev pub all_tested : List Stmt → Bool
  all_tested body = list_all tested body

  pub all_mapped : (body : List Stmt) → all_tested body ≡ true → list_all (λ b. b) (map tested body) ≡ true
  all_mapped [] h = refl
  all_mapped (s ∷ ss) h =
      let p = and_parts (tested s) (all_tested ss) h in
      rw (p.0, all_mapped ss p.1) refl

  pub test_let : (x : SlotId) (r : Right) → tested (Let x r) ≡ test (Stmt-F.Let x r)
  test_let x r = search (rules, the_lemmas)

  pub test_var : (v x : SlotId) → tested (NewVar v x) ≡ test (Stmt-F.NewVar v x)
  test_var v x = search (rules, the_lemmas)

  test_array : (v : SlotId) (n : ℕ) → tested (NewArray v n) ≡ test (Stmt-F.NewArray v n)
  test_array v n = search (rules, the_lemmas)

  pub test_store : (v x : SlotId) → tested (Store v x) ≡ test (Stmt-F.Store v x)
  test_store v x = search (rules, the_lemmas)

  test_put : (v i x : SlotId) → tested (Put v i x) ≡ test (Stmt-F.Put v i x)
  test_put v i x = search (rules, the_lemmas)

  test_output : (x : SlotId) (h : HostId) (offset : ℕ) → tested (Output x h offset) ≡ test (Stmt-F.Output x h offset)
  test_output x h offset = search (rules, the_lemmas)

  test_if : (x : SlotId) (a b : List Stmt) (offset : ℕ) → tested (If x a b offset) ≡ test (Stmt-F.If x (map tested a) (map tested b) offset)
  test_if x a b offset = search (rules, the_lemmas)

  pub test_for : (n : ℕ) (body : List Stmt) → tested (For n body) ≡ test (Stmt-F.For n (map tested body))
  test_for n body = search (rules, the_lemmas)

  abbrev pub Keeps : Made → Made → Type 0
  Keeps m m' = all_tested m.body ≡ true → all_tested m'.body ≡ true

  fresh_keeps : (entry : Slot) (r : Right) (m : Made) → test (Stmt-F.Let (slot m.next) r) ≡ true → Keeps m (with_fresh entry r m)
  fresh_keeps entry r m ok h = all_push tested m.body (Let (slot m.next) r) h (test_let (slot m.next) r ∙ ok)

  pub kept_keeps : (x : Stmt) (body : List Stmt) → tested x ≡ true → all_tested body ≡ true → all_tested (body ++ x ∷ []) ≡ true
  kept_keeps x body ok h = all_push tested body x h ok

  selected_keeps : (kind : Kind) (block : ℕ) (v : SlotId) (gs : List Guard) (y : SlotId) (m : Made) → Keeps m (selected kind block v gs y m).1
  selected_keeps kind block v [] y m h = h
  selected_keeps kind block v (g ∷ gs) y m h =
      let p = selected kind block v gs y m in
      let one = with_fresh (fresh kind g.offset block) (Load v) p.1 in
      fresh_keeps (fresh kind g.offset block) (selection g.first g.slot p.0 (slot p.1.next)) one (looks.choice (slot one.next) g.first g.slot p.0 (slot p.1.next))
      (fresh_keeps (fresh kind g.offset block) (Load v) p.1 (looks.load (slot p.1.next) v) (selected_keeps kind block v gs y m h))

  module _ (hides : SlotId → Bool) (lets : Lets) (old : List Slot) (lets_keep : (x : SlotId) (r : Right) (block : ℕ) (m : Made) → test (Stmt-F.Let x r) ≡ true → Keeps m (lets x r block m)) where
    abbrev the : Stmt → Rewriting
    the = rewriting hides lets old

    abbrev Tested : Rewriting → Bool → Type 0
    Tested r b = b ≡ true → (gs : List Guard) (block : ℕ) (m : Made) → Keeps m (r.run gs block m)

    abbrev M : Type 0
    M = (s : Stmt) × Tested (the s) (tested s)

    abbrev stmts : List M → List Stmt
    stmts ms = map (λ (m : M). m.0) ms

    abbrev runs : List M → List Rewriting
    runs ms = map the (stmts ms)

    abbrev bools : List M → List Bool
    bools ms = map tested (stmts ms)

    all_keep : (ms : List M) → list_all (λ b. b) (bools ms) ≡ true → (gs : List Guard) (block : ℕ) (m : Made) → Keeps m (run_all (runs ms) gs block m)
    all_keep [] ok gs block m h = h
    all_keep (q ∷ ms) ok gs block m h =
        let p = and_parts (tested q.0) (list_all (λ b. b) (bools ms)) ok in
        all_keep ms p.1 gs block ((the q.0).run gs block m) (q.1 p.0 gs block m h)

    if_keeps : (c : Bool) (guard place : SlotId) (a b : List M) (offset : ℕ) → test (Stmt-F.If guard (bools a) (bools b) offset) ≡ true → (gs : List Guard) (block : ℕ) (m : Made)
        → Keeps m (if c then both_run place (runs a) (runs b) offset gs block m else kept_if place (runs a) (runs b) offset m)
    if_keeps true guard place a b offset ok gs block m h =
        let p = looks.parts guard (bools a) (bools b) offset ok in
        let m1 = run_all (runs a) (gs ++ guard_of true place offset ∷ []) block m in
        all_keep b p.1 (gs ++ guard_of false place offset ∷ []) block m1 (all_keep a p.0 (gs ++ guard_of true place offset ∷ []) block m h)
    if_keeps false guard place a b offset ok gs block m h =
        let p = looks.parts guard (bools a) (bools b) offset ok in
        let x = run_all (runs a) [] m.blocks (block_more m) in
        let y = run_all (runs b) [] m.blocks (emptied x) in
        let ax = all_mapped x.body (all_keep a p.0 [] m.blocks (block_more m) refl) in
        let ay = all_mapped y.body (all_keep b p.1 [] m.blocks (emptied x) refl) in
        all_push tested m.body (If place x.body y.body offset) h (test_if place x.body y.body offset ∙ looks.branches guard place (bools a) (bools b) (map tested x.body) (map tested y.body) offset ok ax ay)

    abbrev layer : Stmt-F M → Stmt-F Stmt
    layer = map-Stmt M Stmt (λ m. m.0)

    abbrev Layered : Stmt-F Stmt → Type 0
    Layered y = Tested (rewriting_step hides lets old (map-Stmt Stmt Rewriting the y)) (test (map-Stmt Stmt Bool tested y))

    step : (y : Stmt-F M) → Layered (layer y)
    step (Stmt-F.Let x r) ok gs block m h = lets_keep x r block m ok h
    step (Stmt-F.NewVar v x) ok gs block m h =
        let e = moved m.table x in all_push tested m.body (NewVar (slot m.next) e) h (test_var (slot m.next) e ∙ looks.variable (slot m.next) e)
    step (Stmt-F.NewArray v cells) ok gs block m h = all_push tested m.body (NewArray (slot m.next) cells) h (test_array (slot m.next) cells ∙ looks.array (slot m.next) cells)
    step (Stmt-F.Store v x) ok gs block m h =
        let p = selected (entry_of old v).kind block (moved m.table v) gs (moved m.table x) m in
        all_push tested p.1.body (Store (moved m.table v) p.0) (selected_keeps (entry_of old v).kind block (moved m.table v) gs (moved m.table x) m h) (test_store (moved m.table v) p.0 ∙ looks.store (moved m.table v) p.0)
    step (Stmt-F.Put v i x) ok gs block m h =
        let v' = moved m.table v in let i' = moved m.table i in let x' = moved m.table x in all_push tested m.body (Put v' i' x') h (test_put v' i' x' ∙ looks.put v' i' x')
    step (Stmt-F.Output x host offset) ok gs block m h =
        let x' = moved m.table x in all_push tested m.body (Output x' host offset) h (test_output x' host offset ∙ looks.output x x' host offset ok)
    step (Stmt-F.If guard a b offset) ok gs block m h = if_keeps (is_some gs || is_hidden hides guard (runs a) (runs b)) guard (moved m.table guard) a b offset ok gs block m h
    step (Stmt-F.For count body) ok gs block m h =
        let x = run_all (runs body) [] block (emptied m) in
        all_push tested m.body (For count x.body) h
        (test_for count x.body ∙ looks.loop count (bools body) (map tested x.body) ok (λ all. all_mapped x.body (all_keep body all [] block (emptied m) refl)))

    at_roll : (y : Stmt-F Stmt) → Layered y → Tested (the (roll-Stmt y)) (tested (roll-Stmt y))
    at_roll y h =
        subst (λ (z : Rewriting). Tested z (tested (roll-Stmt y))) (sym (fold-roll-Stmt Rewriting (rewriting_step hides lets old) y))
        (subst (λ (z : Bool). Tested (rewriting_step hides lets old (map-Stmt Stmt Rewriting the y)) z) (sym (fold-roll-Stmt Bool test y)) h)

    stmt_keeps : (s : Stmt) → Tested (the s) (tested s)
    stmt_keeps = ind-Stmt (λ s. Tested (the s) (tested s)) (λ x y is. subst (λ z. Tested (the (roll-Stmt z)) (tested (roll-Stmt z))) is (at_roll (layer y) (step y)))

    pub body_keeps : (body : List Stmt) → all_tested body ≡ true → (gs : List Guard) (block : ℕ) (m : Made) → Keeps m (run_all (map the body) gs block m)
    body_keeps [] ok gs block m h = h
    body_keeps (s ∷ ss) ok gs block m h =
        let p = and_parts (tested s) (all_tested ss) ok in
        body_keeps ss p.1 gs block ((the s).run gs block m) (stmt_keeps s p.0 gs block m h)
