-- A test that each statement meets as it is made is met by all statements.
use Rattle.std.proofs.Common.{◌≡◌, ℕ, Bool, true, ◌&&◌, List, [], ◌∷◌, ◌++◌, map, refl, ◌∙◌, rules}
use Rattle.std.specs.List.{list_all}
use Rattle.std.proofs.lemmas.List.Folds.{list_all-append, list_all-map}
use Rattle.vd_base.specs.declared.ids.SlotId.{SlotId}
use Rattle.vd_base.specs.declared.ids.HostId.{HostId}
use Rattle.vd_core.specs.declared.normal.Right.{Right}
use Rattle.vd_core.specs.declared.normal.Right.TheVariants.{Turn}
use Rattle.vd_core.specs.declared.normal.Stmt.{Stmt, Let, NewVar, NewArray, Store, Put, Output, If, For}
use Rattle.vd_core.specs.declared.normal.Stmt.TheOpen.{Stmt-F}
use Rattle.vd_core.specs.declared.normal.Stmt.TheFolds.{the_lemmas}
use Rattle.vd_core.specs.declared.source.Source.{Source}
use Rattle.vd_core.specs.Facts.{meets, all_meet}
use Rattle.vd_elaborate.specs.declared.anf.spot.Spot.{Spot}
use Rattle.vd_elaborate.specs.Normal.{Made, slot, emptied, main_made}
use Rattle.vd_elaborate.proofs.Tests.{Tests}
use Rattle.vd_elaborate.proofs.Laws.{IsFine, Laws}
use Rattle.vd_elaborate.proofs.AnfWellformedWalk.{main_keeps, source_passes}

-- a right side that an expression makes
abbrev pub IsMade : Tests → Right → Type 0
IsMade tests r = IsFine tests (λ p. Unit {0}) r

-- that each statement as it is made meets the test
pub record Meeting (tests : Tests) (test : Stmt-F Bool → Bool) : Type 0 where
  pub right : (x : SlotId) (r : Right) → IsMade tests r → test (Stmt-F.Let x r) ≡ true
  pub turn : (x : SlotId) → test (Stmt-F.Let x Turn) ≡ true
  pub variable : (v x : SlotId) → test (Stmt-F.NewVar v x) ≡ true
  pub array : (v : SlotId) (n : ℕ) → test (Stmt-F.NewArray v n) ≡ true
  pub store : (v x : SlotId) → test (Stmt-F.Store v x) ≡ true
  pub put : (v i x : SlotId) → test (Stmt-F.Put v i x) ≡ true
  pub output : (x : SlotId) (h : HostId) (offset : ℕ) → tests.host h.0 ≡ true → test (Stmt-F.Output x h offset) ≡ true
  pub branches : (x : SlotId) (a b : List Bool) (offset : ℕ) → test (Stmt-F.If x a b offset) ≡ true
  pub loop : (n : ℕ) (body : List Bool) → test (Stmt-F.For n body) ≡ true

module _ (tests : Tests) (test : Stmt-F Bool → Bool) (met : Meeting tests test) where
  push : (m : Made) (x : Stmt) → meets test x ≡ true → all_meet test m.body ≡ true → all_meet test (m.body ++ x ∷ []) ≡ true
  push m x e h = list_all-append (meets test) m.body (x ∷ []) ∙ rw (h, e) refl

  meets_let : (x : SlotId) (r : Right) → meets test (Let x r) ≡ (test (Stmt-F.Let x r) && true)
  meets_let x r = search (rules, the_lemmas)

  meets_var : (v x : SlotId) → meets test (NewVar v x) ≡ (test (Stmt-F.NewVar v x) && true)
  meets_var v x = search (rules, the_lemmas)

  meets_array : (v : SlotId) (n : ℕ) → meets test (NewArray v n) ≡ (test (Stmt-F.NewArray v n) && true)
  meets_array v n = search (rules, the_lemmas)

  meets_store : (v x : SlotId) → meets test (Store v x) ≡ (test (Stmt-F.Store v x) && true)
  meets_store v x = search (rules, the_lemmas)

  meets_put : (v i x : SlotId) → meets test (Put v i x) ≡ (test (Stmt-F.Put v i x) && true)
  meets_put v i x = search (rules, the_lemmas)

  meets_output : (x : SlotId) (h : HostId) (offset : ℕ) → meets test (Output x h offset) ≡ (test (Stmt-F.Output x h offset) && true)
  meets_output x h offset = search (rules, the_lemmas)

  meets_if : (x : SlotId) (a b : List Stmt) (offset : ℕ) → meets test (If x a b offset)
      ≡ (test (Stmt-F.If x (map (meets test) a) (map (meets test) b) offset) && (list_all (λ c. c) (map (meets test) a) && list_all (λ c. c) (map (meets test) b)))
  meets_if x a b offset = search (rules, the_lemmas)

  meets_for : (n : ℕ) (body : List Stmt) → meets test (For n body) ≡ (test (Stmt-F.For n (map (meets test) body)) && list_all (λ c. c) (map (meets test) body))
  meets_for n body = search (rules, the_lemmas)

  with_true : (b : Bool) → b ≡ true → (b && true) ≡ true
  with_true b e = rw e refl

  let_meets : (x : SlotId) (r : Right) → test (Stmt-F.Let x r) ≡ true → meets test (Let x r) ≡ true
  let_meets x r e = meets_let x r ∙ with_true (test (Stmt-F.Let x r)) e

  all_here : (body : List Stmt) → all_meet test body ≡ true → list_all (λ c. c) (map (meets test) body) ≡ true
  all_here body h = list_all-map (λ c. c) (meets test) body ∙ h

  if_meets : (x : SlotId) (a b : List Stmt) (offset : ℕ) → all_meet test a ≡ true → all_meet test b ≡ true → meets test (If x a b offset) ≡ true
  if_meets x a b offset ha hb = meets_if x a b offset ∙ rw (met.branches x (map (meets test) a) (map (meets test) b) offset, all_here a ha, all_here b hb) refl

  for_meets : (n : ℕ) (body : List Stmt) → all_meet test body ≡ true → meets test (For n body) ≡ true
  for_meets n body h = meets_for n body ∙ rw (met.loop n (map (meets test) body), all_here body h) refl

  abbrev Keeps : Unit {0} → Made → Made → Type 0
  Keeps w m m' = all_meet test m.body ≡ true → all_meet test m'.body ≡ true

  abbrev Here : Unit {0} → Made → Spot → Type 0
  Here w m p = Unit {0}

  every_laws : Laws tests (Unit {0}) Keeps Here (λ w m. tt)
  every_laws = record {
    none = λ w m h. h;
    after = λ w m m1 m2 a b h. b (a h);
    stays = λ w m m' p k h. tt;
    enters = λ w m e p h. tt;
    right = λ w m entry r ok fine. push m (Let (slot m.next) r) (let_meets (slot m.next) r (met.right (slot m.next) r fine));
    right_here = λ w m entry r fine. tt;
    variable = λ w m entry k ok h. push m (NewVar (slot m.next) (slot k)) (meets_var (slot m.next) (slot k) ∙ with_true _ (met.variable (slot m.next) (slot k)));
    variable_here = λ w m entry k. tt;
    array = λ w m entry n ok. push m (NewArray (slot m.next) n) (meets_array (slot m.next) n ∙ with_true _ (met.array (slot m.next) n));
    array_here = λ w m entry n. tt;
    renamed = λ w m k x label ok h. h;
    stores = λ w m v k a b. push m (Store (slot v) (slot k)) (meets_store (slot v) (slot k) ∙ with_true _ (met.store (slot v) (slot k)));
    puts = λ w m v i k a b c. push m (Put (slot v) (slot i) (slot k)) (meets_put (slot v) (slot i) (slot k) ∙ with_true _ (met.put (slot v) (slot i) (slot k)));
    outputs = λ w m k host offset a ok. push m (Output (slot k) host offset) (meets_output (slot k) host offset ∙ with_true _ (met.output (slot k) host offset ok));
    branches = λ w m k offset a b h oa ob. push m (If (slot k) a.body b.body offset) (if_meets (slot k) a.body b.body offset (oa refl) (ob refl));
    loops = λ w m count entry a ok o. push m (For count a.body) (for_meets count a.body (o (push (emptied m) (Let (slot m.next) Turn) (let_meets (slot m.next) Turn (met.turn (slot m.next))) refl)));
    turn_here = λ w m entry. tt;
    turn_stays = λ w m entry p h. tt;
  }

  pub all_met : (source : Source) → source_passes tests source ≡ true → all_meet test (main_made source).body ≡ true
  all_met source ok = main_keeps tests (Unit {0}) Keeps Here (λ w m. tt) every_laws source ok tt refl
