-- What is kept at each thing that is made is kept by the whole let-normal form.
use Rattle.std.proofs.Common.{◌≡◌, ℕ, ◌+◌, Bool, true, false, ◌&&◌, List, [], ◌∷◌, ◌++◌, map, Option, Some, None, refl, sym, subst, subst₂}
use Rattle.vd_base.specs.declared.operations.Kind.{Kind}
use Rattle.vd_base.specs.declared.operations.Kind.TheVariants.{Word}
use Rattle.vd_base.specs.Names.{Named, at_name, bound, place_of}
use Rattle.vd_core.specs.declared.normal.Right.TheVariants.{Copy}
use Rattle.vd_core.specs.declared.normal.Slot.{Slot}
use Rattle.vd_core.specs.declared.normal.Stmt as stmt
use Rattle.vd_core.specs.declared.source.Ident.{Ident}
use Rattle.vd_core.specs.declared.source.WrittenLabel.{WrittenLabel}
use Rattle.vd_core.specs.declared.source.Statement.{Statement, roll-Statement, map-Statement, ind-Statement}
use Rattle.vd_core.specs.declared.source.Statement.TheOpen.{Statement-F}
use Rattle.vd_core.specs.declared.source.Statement.TheFolds.{fold-roll-Statement}
use Rattle.vd_core.specs.declared.source.Function.{Function}
use Rattle.vd_core.specs.declared.source.Source.{Source}
use Rattle.vd_semantics.specs.Functions.{in_text_order}
use Rattle.vd_semantics.specs.SourceMeaning.{parameter_names, host_names}
use Rattle.vd_elaborate.specs.declared.anf.here.Here.{Here}
use Rattle.vd_elaborate.specs.declared.anf.spot.Spot.{Spot}
use Rattle.vd_elaborate.specs.declared.anf.spot.Spot.TheVariants.{Binding, Variable, Array}
use Rattle.vd_elaborate.specs.Normal.{Made, slot, host_id, named_slot, with_slot, with_stmt, with_name_at, emitted, kind_at, Inlining, lowering, emptied, Place, StatementLowering, statements_made, inner_made, loop_made, copied, stored, put_made, if_made, for_made, statement_lowering, lowering_of, inlining_of, inlinings_of, main_made}
use Rattle.vd_elaborate.proofs.Tests.{Tests, all_true, label_passes, passes, statement_passes, passes_statement, passes_function, functions_pass}
use Rattle.vd_elaborate.proofs.Laws.{entry_passes, turned, Laws}
use Rattle.vd_elaborate.proofs.ExprWalk.{left, right, Makes, Bindings, Shown, shown_stay, at_shown, then_makes, emit_makes, CallKeeps, Calls, expr_keeps}

module _ (hosts : List (List ℕ)) (tests : Tests) (W : Type 0) (Keeps : W → Made → Made → Type 0) (At : W → Made → Spot → Type 0) (inside : W → Made → W) (laws : Laws tests W Keeps At inside) where
  abbrev MakesSlot : W → Made → ℕ × Made → Type 0
  MakesSlot = Makes hosts tests W Keeps At inside laws

  abbrev InSight : W → Made → Named Spot → Type 0
  InSight = Shown hosts tests W Keeps At inside laws

  abbrev KeptCalls : Named Inlining → Type 0
  KeptCalls = Calls hosts tests W Keeps At inside laws

  abbrev KeptCall : Inlining → Type 0
  KeptCall = CallKeeps hosts tests W Keeps At inside laws

  expr_makes : (e : _) → passes hosts tests e ≡ true → (is : Named Inlining) → KeptCalls is → (names : Named Spot) (here : Here) (w : W) (m : Made) → InSight w m names → MakesSlot w m ((lowering hosts e).run is names here m)
  expr_makes = expr_keeps hosts tests W Keeps At inside laws

  in_sight_stays : (w : W) (m m' : Made) (names : Named Spot) → Keeps w m m' → InSight w m names → InSight w m' names
  in_sight_stays = shown_stay hosts tests W Keeps At inside laws

  at_sight : (w : W) (m : Made) (names : Named Spot) (x : List ℕ) (p : Spot) → InSight w m names → at_name names x ≡ Some p → At w m p
  at_sight = at_shown hosts tests W Keeps At inside laws

  abbrev Leaves : W → Made → Place → Type 0
  Leaves w m p = Keeps w m p.made × InSight w p.made p.names

  abbrev StatementKeeps : StatementLowering → Type 0
  StatementKeeps l = (is : Named Inlining) → KeptCalls is → (block : ℕ) (w : W) (p : Place) → InSight w p.made p.names → Leaves w p.made (l is block p)

  abbrev M : Type 0
  M = (s : Statement) × (passes_statement hosts tests s ≡ true → StatementKeeps (lowering_of hosts s))

  abbrev made_of : List M → List StatementLowering
  made_of ms = map (lowering_of hosts) (map (λ (m : M). m.0) ms)

  abbrev all_pass : List M → Bool
  all_pass ms = all_true (map (passes_statement hosts tests) (map (λ (m : M). m.0) ms))

  statements_keep : (ms : List M) → all_pass ms ≡ true → StatementKeeps (statements_made (made_of ms))
  statements_keep [] ok is h block w p shown = (laws.none w p.made, shown)
  statements_keep (m ∷ ms) ok is h block w p shown =
      let q = lowering_of hosts m.0 is block p in
      let one = m.1 (left (passes_statement hosts tests m.0) (all_pass ms) ok) is h block w p shown in
      let rest = statements_keep ms (right (passes_statement hosts tests m.0) (all_pass ms) ok) is h block w q one.1 in
      (laws.after w p.made q.made (statements_made (made_of ms) is block q).made one.0 rest.0, rest.1)

  push_sight : (w : W) (m : Made) (names : Named Spot) (x : List ℕ) (p : Spot) → InSight w m names → At w m p → InSight w m (names ++ (x, p) ∷ [])
  push_sight w m [] x p s h = (h, tt)
  push_sight w m (e ∷ es) x p s h = (s.0, push_sight w m es x p s.1 h)

  copy_makes : (b : Bool) (here : Here) (w : W) (m : Made) (p : ℕ × Made) → MakesSlot w m p → MakesSlot w m (copied b here p)
  copy_makes true here w m p a =
      then_makes hosts tests W Keeps At inside laws w m p.1 (emitted here (kind_at p.1 p.0) (Copy (slot p.0)) p.1) a.0
      (emit_makes hosts tests W Keeps At inside laws w p.1 here (kind_at p.1 p.0) (Copy (slot p.0)) a.1)
  copy_makes false here w m p a = a

  store_keeps : (o : Option Spot) (w : W) (m : Made) (p : ℕ × Made) → MakesSlot w m p → ((v : Spot) → o ≡ Some v → At w p.1 v) → Keeps w m (stored o p)
  store_keeps None w m p a h = a.0
  store_keeps (Some (Binding k)) w m p a h = a.0
  store_keeps (Some (Variable k)) w m p a h = laws.after w m p.1 (with_stmt (stmt.Store (slot k) (slot p.0)) p.1) a.0 (laws.stores w p.1 k p.0 (h (Variable k) refl) a.1)
  store_keeps (Some (Array k)) w m p a h = a.0

  put_keeps : (o : Option Spot) (w : W) (m : Made) (i : ℕ) (p : ℕ × Made) → MakesSlot w m p → At w p.1 (Binding i) → ((v : Spot) → o ≡ Some v → At w p.1 v) → Keeps w m (put_made o i p)
  put_keeps None w m i p a index h = a.0
  put_keeps (Some (Binding k)) w m i p a index h = a.0
  put_keeps (Some (Variable k)) w m i p a index h = a.0
  put_keeps (Some (Array k)) w m i p a index h =
      laws.after w m p.1 (with_stmt (stmt.Put (slot k) (slot i) (slot p.0)) p.1) a.0 (laws.puts w p.1 k i p.0 (h (Array k) refl) index a.1)

  named_passes : (here : Here) (x : Ident) (kind : Kind) (label : Option WrittenLabel) → label_passes tests label ≡ true → entry_passes tests (named_slot here x kind label).label ≡ true
  named_passes here x kind None ok = refl
  named_passes here x kind (Some l) ok = ok

  enter_sight : (w : W) (m e : Made) (names : Named Spot) → InSight w m names → InSight (inside w m) (emptied e) names
  enter_sight w m e [] h = tt
  enter_sight w m e (q ∷ qs) h = (laws.enters w m e q.1 h.0, enter_sight w m e qs h.1)

  turn_sight : (w : W) (m : Made) (entry : Slot) (names : Named Spot) → InSight w m names → InSight (inside w m) (turned entry m) names
  turn_sight w m entry [] h = tt
  turn_sight w m entry (q ∷ qs) h = (laws.turn_stays w m entry q.1 h.0, turn_sight w m entry qs h.1)

  abbrev layer : Statement-F M → Statement-F Statement
  layer = map-Statement M Statement (λ m. m.0)

  step : (y : Statement-F M) → statement_passes hosts tests (map-Statement Statement Bool (passes_statement hosts tests) (layer y)) ≡ true
      → StatementKeeps (statement_lowering hosts (map-Statement Statement StatementLowering (lowering_of hosts) (layer y)))
  step (Statement-F.Let at x label e) ok is h block w p shown =
      let here : Here = record { offset = at.start; block = block } in
      let r = (lowering hosts e).run is p.names here p.made in
      let q = copied ((lowering hosts e).plain p.names) here r in
      let a = copy_makes ((lowering hosts e).plain p.names) here w p.made r (expr_makes e (left (passes hosts tests e) (label_passes tests label) ok) is h p.names here w p.made shown) in
      let n = laws.renamed w q.1 q.0 x label (right (passes hosts tests e) (label_passes tests label) ok) in
      let m' = with_name_at q.0 x label q.1 in
      let all = laws.after w p.made q.1 m' a.0 n in
      (all, push_sight w m' p.names x.name (Binding q.0) (in_sight_stays w p.made m' p.names all shown) (laws.stays w q.1 m' (Binding q.0) n a.1))
  step (Statement-F.Var at x kind label e) ok is h block w p shown =
      let here : Here = record { offset = at.start; block = block } in
      let q = (lowering hosts e).run is p.names here p.made in
      let a = expr_makes e (left (passes hosts tests e) (label_passes tests label) ok) is h p.names here w p.made shown in
      let entry = named_slot here x kind label in
      let v = laws.variable w q.1 entry q.0 (named_passes here x kind label (right (passes hosts tests e) (label_passes tests label) ok)) a.1 in
      let m' = (with_slot entry (stmt.NewVar (slot q.1.next) (slot q.0)) q.1).1 in
      let all = laws.after w p.made q.1 m' a.0 v in
      (all, push_sight w m' p.names x.name (Variable q.1.next) (in_sight_stays w p.made m' p.names all shown) (laws.variable_here w q.1 entry q.0))
  step (Statement-F.Array at x kind size label) ok is h block w p shown =
      let here : Here = record { offset = at.start; block = block } in
      let entry = named_slot here x kind label in
      let m' = (with_slot entry (stmt.NewArray (slot p.made.next) size) p.made).1 in
      let all = laws.array w p.made entry size (named_passes here x kind label ok) in
      (all, push_sight w m' p.names x.name (Array p.made.next) (in_sight_stays w p.made m' p.names all shown) (laws.array_here w p.made entry size))
  step (Statement-F.Store x e) ok is h block w p shown =
      let here : Here = record { offset = x.span.start; block = block } in
      let q = (lowering hosts e).run is p.names here p.made in
      let a = expr_makes e ok is h p.names here w p.made shown in
      let all = store_keeps (at_name p.names x.name) w p.made q a (λ v eq. at_sight w q.1 p.names x.name v (in_sight_stays w p.made q.1 p.names a.0 shown) eq) in
      (all, in_sight_stays w p.made (stored (at_name p.names x.name) q) p.names all shown)
  step (Statement-F.Put x i e) ok is h block w p shown =
      let here : Here = record { offset = x.span.start; block = block } in
      let q = (lowering hosts i).run is p.names here p.made in
      let r = (lowering hosts e).run is p.names here q.1 in
      let a = expr_makes i (left (passes hosts tests i) (passes hosts tests e) ok) is h p.names here w p.made shown in
      let b = expr_makes e (right (passes hosts tests i) (passes hosts tests e) ok) is h p.names here w q.1 (in_sight_stays w p.made q.1 p.names a.0 shown) in
      let ab = laws.after w p.made q.1 r.1 a.0 b.0 in
      let all = put_keeps (at_name p.names x.name) w p.made q.0 r (ab, b.1) (laws.stays w q.1 r.1 (Binding q.0) b.0 a.1) (λ v eq. at_sight w r.1 p.names x.name v (in_sight_stays w p.made r.1 p.names ab shown) eq) in
      (all, in_sight_stays w p.made (put_made (at_name p.names x.name) q.0 r) p.names all shown)
  step (Statement-F.Output at e host) ok is h block w p shown =
      let here : Here = record { offset = at.start; block = block } in
      let q = (lowering hosts e).run is p.names here p.made in
      let a = expr_makes e (left (passes hosts tests e) (tests.host (place_of hosts host.name)) ok) is h p.names here w p.made shown in
      let m' = with_stmt (stmt.Output (slot q.0) (host_id hosts host) at.start) q.1 in
      let all = laws.after w p.made q.1 m' a.0 (laws.outputs w q.1 q.0 (host_id hosts host) at.start a.1 (right (passes hosts tests e) (tests.host (place_of hosts host.name)) ok)) in
      (all, in_sight_stays w p.made m' p.names all shown)
  step (Statement-F.If at c a b) ok is h block w p shown =
      let here : Here = record { offset = at.start; block = block } in
      let q = (lowering hosts c).run is p.names here p.made in
      let blocks_ok = right (passes hosts tests c) (all_pass a && all_pass b) ok in
      let g = expr_makes c (left (passes hosts tests c) (all_pass a && all_pass b) ok) is h p.names here w p.made shown in
      let seen = in_sight_stays w p.made q.1 p.names g.0 shown in
      let m : Made = record { next = q.1.next; slots = q.1.slots; blocks = q.1.blocks + 1; body = q.1.body } in
      let x = inner_made (made_of a) is q.1.blocks p.names m in
      let y = inner_made (made_of b) is q.1.blocks p.names x in
      let u = inside w q.1 in
      let oa = statements_keep a (left (all_pass a) (all_pass b) blocks_ok) is h q.1.blocks u (record { names = p.names; made = emptied m }) (enter_sight w q.1 m p.names seen) in
      let ob = statements_keep b (right (all_pass a) (all_pass b) blocks_ok) is h q.1.blocks u (record { names = p.names; made = emptied x }) (enter_sight w q.1 x p.names seen) in
      let m' = if_made at.start q (made_of a) (made_of b) is p.names in
      let all = laws.after w p.made q.1 m' g.0 (laws.branches w q.1 q.0 at.start x y g.1 oa.0 ob.0) in
      (all, in_sight_stays w p.made m' p.names all shown)
  step (Statement-F.For at x count body) ok is h block w p shown =
      let here : Here = record { offset = at.start; block = block } in
      let entry = named_slot here x Word None in
      let start = turned entry p.made in
      let u = inside w p.made in
      let made = loop_made x (made_of body) is here p.names p.made in
      let o = statements_keep body ok is h block u (record { names = p.names ++ (x.name, Binding p.made.next) ∷ []; made = start })
      (push_sight u start p.names x.name (Binding p.made.next) (turn_sight w p.made entry p.names shown) (laws.turn_here w p.made entry)) in
      let all = laws.loops w p.made count entry made refl o.0 in
      (all, in_sight_stays w p.made (for_made count made p.made) p.names all shown)

  at_roll : (y : Statement-F M) → passes_statement hosts tests (roll-Statement (layer y)) ≡ true → StatementKeeps (lowering_of hosts (roll-Statement (layer y)))
  at_roll y = subst₂ (λ (b : Bool) (l : StatementLowering). b ≡ true → StatementKeeps l)
      (sym (fold-roll-Statement Bool (statement_passes hosts tests) (layer y)))
      (sym (fold-roll-Statement StatementLowering (statement_lowering hosts) (layer y))) (step y)

  pub statement_keeps : (s : Statement) → passes_statement hosts tests s ≡ true → StatementKeeps (lowering_of hosts s)
  statement_keeps = ind-Statement (λ s. passes_statement hosts tests s ≡ true → StatementKeeps (lowering_of hosts s))
      (λ x y is. subst (λ z. passes_statement hosts tests (roll-Statement z) ≡ true → StatementKeeps (lowering_of hosts (roll-Statement z))) is (at_roll y))

  body_keeps : (ss : List Statement) → all_true (map (passes_statement hosts tests) ss) ≡ true → StatementKeeps (statements_made (map (lowering_of hosts) ss))
  body_keeps [] ok is h block w p shown = (laws.none w p.made, shown)
  body_keeps (s ∷ ss) ok is h block w p shown =
      let q = lowering_of hosts s is block p in
      let others = all_true (map (passes_statement hosts tests) ss) in
      let one = statement_keeps s (left (passes_statement hosts tests s) others ok) is h block w p shown in
      let rest = body_keeps ss (right (passes_statement hosts tests s) others ok) is h block w q one.1 in
      (laws.after w p.made q.made (statements_made (map (lowering_of hosts) ss) is block q).made one.0 rest.0, rest.1)

  bound_shown : (w : W) (m : Made) (xs : List (List ℕ)) (ks : List ℕ) → Bindings hosts tests W Keeps At inside laws w m ks → InSight w m (bound Binding xs ks)
  bound_shown w m [] ks h = tt
  bound_shown w m (x ∷ xs) [] h = tt
  bound_shown w m (x ∷ xs) (k ∷ ks) h = (h.0, bound_shown w m xs ks h.1)

  function_keeps : (f : Function) → passes_function hosts tests f ≡ true → (is : Named Inlining) → KeptCalls is → KeptCall (inlining_of hosts f is)
  function_keeps f ok is h w here ks m known =
      let names = bound Binding (parameter_names f.parameters) ks in
      let p = statements_made (map (lowering_of hosts) f.body) is here.block (record { names = names; made = m }) in
      let body_ok = all_true (map (passes_statement hosts tests) f.body) in
      let body = body_keeps f.body (left body_ok (passes hosts tests f.gives) ok) is h here.block w (record { names = names; made = m }) (bound_shown w m (parameter_names f.parameters) ks known) in
      let gives = expr_makes f.gives (right body_ok (passes hosts tests f.gives) ok) is h p.names here w p.made body.1 in
      let q = (lowering hosts f.gives).run is p.names here p.made in
      (laws.after w m p.made q.1 body.0 gives.0, gives.1)

  calls_push : (x : List ℕ) (i : Inlining) → KeptCall i → (is : Named Inlining) → KeptCalls is → KeptCalls (is ++ (x, i) ∷ [])
  calls_push x i c [] h = (c, tt)
  calls_push x i c (j ∷ js) h = (h.0, calls_push x i c js h.1)

  pub all_calls : (fs : List Function) → functions_pass hosts tests fs ≡ true → (is : Named Inlining) → KeptCalls is → KeptCalls (in_text_order (inlining_of hosts) is fs)
  all_calls [] ok is h = h
  all_calls (f ∷ fs) ok is h =
      let one = left (passes_function hosts tests f) (functions_pass hosts tests fs) ok in
      let others = right (passes_function hosts tests f) (functions_pass hosts tests fs) ok in
      all_calls fs others (is ++ (f.name.name, inlining_of hosts f is) ∷ []) (calls_push f.name.name (inlining_of hosts f is) (function_keeps f one is h) is h)

abbrev pub empty : Made
empty = record { next = 0; slots = []; blocks = 1; body = [] }

abbrev pub source_passes : Tests → Source → Bool
source_passes tests source = functions_pass (host_names source.hosts) tests source.functions && all_true (map (passes_statement (host_names source.hosts) tests) source.main)

pub main_keeps : (tests : Tests) (W : Type 0) (Keeps : W → Made → Made → Type 0) (At : W → Made → Spot → Type 0) (inside : W → Made → W) → Laws tests W Keeps At inside
    → (source : Source) → source_passes tests source ≡ true → (w : W) → Keeps w empty (main_made source)
main_keeps tests W Keeps At inside laws source ok w =
    let hosts = host_names source.hosts in
    let fs = functions_pass hosts tests source.functions in
    let ss = all_true (map (passes_statement hosts tests) source.main) in
    (body_keeps hosts tests W Keeps At inside laws source.main (right fs ss ok) (inlinings_of hosts source.functions)
    (all_calls hosts tests W Keeps At inside laws source.functions (left fs ss ok) [] tt) 0 w (record { names = []; made = empty }) tt).0
