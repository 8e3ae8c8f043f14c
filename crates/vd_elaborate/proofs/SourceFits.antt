-- What a source without faults makes is of its size.
use Rattle.std.proofs.Common.{◌≡◌, ℕ, ◌+◌, Bool, true, false, List, [], ◌∷◌, ◌++◌, map, Option, Some, None, Ok, refl, sym, ap, ◌∙◌, subst, subst₂, if◌then◌else◌, arith}
use Rattle.vd_base.specs.declared.ids.Span.{Span}
use Rattle.vd_base.specs.declared.operations.Kind.{Kind}
use Rattle.vd_base.specs.declared.operations.Kind.TheVariants.{Word, Bool as Truth}
use Rattle.vd_base.specs.Names.{Named, at_name, bound}
use Rattle.vd_core.specs.declared.normal.Right.TheVariants.{Turn, Copy}
use Rattle.vd_core.specs.declared.normal.Stmt.{Stmt, Let, NewVar, NewArray, Store, Put, Output}
use Rattle.vd_core.specs.declared.source.Statement.{Statement, roll-Statement, map-Statement, ind-Statement}
use Rattle.vd_core.specs.declared.source.Statement.TheOpen.{Statement-F}
use Rattle.vd_core.specs.declared.source.Statement.TheFolds.{fold-roll-Statement}
use Rattle.vd_core.specs.declared.source.Function.{Function}
use Rattle.vd_core.specs.declared.source.Source.{Source}
use Rattle.vd_semantics.specs.Functions.{in_text_order}
use Rattle.vd_semantics.specs.SourceMeaning.{parameter_names, host_names}
use Rattle.vd_elaborate.specs.declared.anf.here.Here.{Here}
use Rattle.vd_elaborate.specs.declared.anf.spot.Spot.{Spot}
use Rattle.vd_elaborate.specs.declared.anf.spot.Spot.TheVariants as spot
use Rattle.vd_elaborate.specs.Normal.{Made, slot, host_id, named_slot, kind_at, Inlining, lowering, emptied, Place, StatementLowering, statements_made, inner_made, loop_made, copied, stored, put_made, statement_lowering, lowering_of, inlining_of, inlinings_of, main_made}
use Rattle.vd_resolve.specs.Faults as fault
use Rattle.vd_resolve.specs.declared.symbol.Symbol.{Symbol}
use Rattle.vd_resolve.specs.declared.symbol.Symbol.TheVariants as symbol
use Rattle.vd_resolve.specs.declared.symbol.Signature.{Signature}
use Rattle.vd_resolve.specs.declared.size.Size.{Size}
use Rattle.vd_resolve.specs.Rules.{Names, Scope, and_then, declared, is_new, known, distinct, hosts_check, written_label_check, typing, Checking, is_stored, is_put, in_sequence, block_check, is_kind, statement_check, checking, parameters_check, signature_of, function_names, function_check, functions_check, bodies_check, source_check}
use Rattle.vd_resolve.specs.Sizes.{nothing, one, also, Variables, sizing, expr_size, StatementSizing, statements_after, block_size, with_value, statement_sizing, statement_size, parameter_variables, function_size, function_sizes, source_size}
use Rattle.vd_elaborate.specs.Calls.{Calls, total, calls, statement_calls, calls_of, function_calls, inlined_calls}
use Rattle.vd_elaborate.proofs.Laws.{turned}
use Rattle.vd_elaborate.proofs.AnfWellformedSteps.{passed, declared_is, ok_is, err_is}
use Rattle.vd_elaborate.proofs.Counts.{let_one, var_one, store_one, put_one, output_one, array_is}
use Rattle.vd_elaborate.proofs.Fits.{Fits, fits_none, fits_same, fits_then, fits_next, fits_one, fits_array, fits_if, fits_for}
use Rattle.vd_elaborate.proofs.Alike.{Alike, MaybeAlike, alike_at, alike_push, parameters_alike, CallFits, Callees, callee_push}
use Rattle.vd_elaborate.proofs.ExprFits.{then_emit, expr_fits}

-- what is made is of that size, and the same names are in sight
record Stays (xs : List Stmt) (p : Place) (s : Size × Variables) (c : ℕ) (env : Named Symbol) : Type 0 where
  pub fits : Fits xs p.made.body s.0 c
  pub alike : Alike env p.names s.1

abbrev StatementFits : Checking → StatementSizing → StatementLowering → Calls → Type 0
StatementFits c z l k = (scope : Scope) (env after : Named Symbol) → c scope env ≡ Ok after → (is : Named Inlining) (sizes : Named Size) (inside : Named ℕ) → Callees scope.functions is sizes inside
    → (names : Named Spot) (vars : Variables) → Alike env names vars → (block : ℕ) (m : Made) → Stays m.body (l is block (record { names = names; made = m })) (z sizes vars) (k inside) after

copy_fits : (a b : Bool) → a ≡ b → (here : Here) (xs : List Stmt) (p : ℕ × Made) (s : Size) (c : ℕ) → Fits xs p.1.body s c → Fits xs (copied a here p).1.body (if b then also s one else s) c
copy_fits true b h here xs p s c f = rw (← h) (then_emit here (kind_at p.1 p.0) (Copy (slot p.0)) xs p.1 s c f)
copy_fits false b h here xs p s c f = rw (← h) f

store_fits : (at : Span) (kind : Kind) (s : Option Symbol) (o : Option Spot) (b : Option Bool) (u : Unit {0}) → MaybeAlike s o b → is_stored at kind s ≡ Ok u
    → (xs : List Stmt) (p : ℕ × Made) (z : Size) (c : ℕ) → Fits xs p.1.body z c → Fits xs (stored o p).body (also z one) c
store_fits at kind None None None u h e xs p z c f = absurd (err_is (fault.Unknown at) u e)
store_fits at kind (Some (symbol.Constant k)) (Some (spot.Binding j)) (Some b) u h e xs p z c f = absurd (err_is (fault.Kind at) u e)
store_fits at kind (Some (symbol.Variable k)) (Some (spot.Variable j)) (Some b) u h e xs p z c f =
    fits_next xs p.1.body (p.1.body ++ Store (slot j) (slot p.0) ∷ []) z one c f (fits_one p.1.body (Store (slot j) (slot p.0)) (store_one (slot j) (slot p.0)))
store_fits at kind (Some (symbol.Array k)) (Some (spot.Array j)) (Some b) u h e xs p z c f = absurd (err_is (fault.Kind at) u e)
store_fits at kind (Some s) (Some o) None u h e xs p z c f = absurd h
store_fits at kind s o b u h e xs p z c f = absurd h

put_fits : (at : Span) (index kind : Kind) (s : Option Symbol) (o : Option Spot) (b : Option Bool) (u : Unit {0}) → MaybeAlike s o b → is_put at index kind s ≡ Ok u
    → (xs : List Stmt) (i : ℕ) (p : ℕ × Made) (z : Size) (c : ℕ) → Fits xs p.1.body z c → Fits xs (put_made o i p).body (also z one) c
put_fits at index kind None None None u h e xs i p z c f = absurd (err_is (fault.Unknown at) u e)
put_fits at index kind (Some (symbol.Constant k)) (Some (spot.Binding j)) (Some b) u h e xs i p z c f = absurd (err_is (fault.Kind at) u e)
put_fits at index kind (Some (symbol.Variable k)) (Some (spot.Variable j)) (Some b) u h e xs i p z c f = absurd (err_is (fault.Kind at) u e)
put_fits at index kind (Some (symbol.Array k)) (Some (spot.Array j)) (Some b) u h e xs i p z c f =
    fits_next xs p.1.body (p.1.body ++ Put (slot j) (slot i) (slot p.0) ∷ []) z one c f (fits_one p.1.body (Put (slot j) (slot i) (slot p.0)) (put_one (slot j) (slot i) (slot p.0)))
put_fits at index kind (Some s) (Some o) None u h e xs i p z c f = absurd h
put_fits at index kind s o b u h e xs i p z c f = absurd h

module _ (hosts : List (List ℕ)) where
  abbrev IsFit : Statement → Type 0
  IsFit s = StatementFits (checking s) (statement_size s) (lowering_of hosts s) (calls_of s)

  abbrev M : Type 0
  M = (s : Statement) × IsFit s

  abbrev statements : List M → List Statement
  statements ms = map (λ (m : M). m.0) ms

  -- statements in order, after what has a size
  all_fit : (ms : List M) (scope : Scope) (env after : Named Symbol) → in_sequence (map checking (statements ms)) scope env ≡ Ok after
      → (is : Named Inlining) (sizes : Named Size) (inside : Named ℕ) → Callees scope.functions is sizes inside → (names : Named Spot) (vars : Variables) → Alike env names vars
      → (block : ℕ) (xs : List Stmt) (m : Made) (s : Size) (c : ℕ) → Fits xs m.body s c
      → Stays xs (statements_made (map (lowering_of hosts) (statements ms)) is block (record { names = names; made = m })) (statements_after s (map statement_size (statements ms)) sizes vars) (c + total (map calls_of (statements ms)) inside) after
  all_fit [] scope env after p is sizes inside h names vars alike block xs m s c f = record { fits = fits_same xs m.body s c (c + 0) (omega arith) f; alike = subst (λ z. Alike z names vars) (ok_is env after p) alike }
  all_fit (q ∷ qs) scope env after p is sizes inside h names vars alike block xs m s c f =
      let t = passed (checking q.0 scope env) (λ next. in_sequence (map checking (statements qs)) scope next) after p in
      let one_place = lowering_of hosts q.0 is block (record { names = names; made = m }) in
      let sized = statement_size q.0 sizes vars in
      let first = q.1 scope env t.0 t.1 is sizes inside h names vars alike block m in
      let called = calls_of q.0 inside in
      let others = total (map calls_of (statements qs)) inside in
      let last = all_fit qs scope t.0 after t.2 is sizes inside h one_place.names sized.1 first.alike block xs one_place.made (also s sized.0) (c + called) (fits_then xs m.body one_place.made.body s sized.0 c called f first.fits) in
      subst (λ z. Stays xs (statements_made (map (lowering_of hosts) (statements qs)) is block one_place) (statements_after (also s sized.0) (map statement_size (statements qs)) sizes sized.1) z after) (regroup c called others) last
    where
      regroup : (a b c : ℕ) → a + b + c ≡ a + (b + c)
      regroup a b c = omega arith

  -- statements in order, from none
  some_fit : (ms : List M) (scope : Scope) (env after : Named Symbol) → in_sequence (map checking (statements ms)) scope env ≡ Ok after
      → (is : Named Inlining) (sizes : Named Size) (inside : Named ℕ) → Callees scope.functions is sizes inside → (names : Named Spot) (vars : Variables) → Alike env names vars
      → (block : ℕ) (m : Made)
      → Stays m.body (statements_made (map (lowering_of hosts) (statements ms)) is block (record { names = names; made = m })) (statements_after nothing (map statement_size (statements ms)) sizes vars) (total (map calls_of (statements ms)) inside) after
  some_fit ms scope env after p is sizes inside h names vars alike block m =
      let place : Place = record { names = names; made = m } in
      subst (λ z. Stays m.body (statements_made (map (lowering_of hosts) (statements ms)) is block place) (statements_after nothing (map statement_size (statements ms)) sizes vars) z after) (zero_add (total (map calls_of (statements ms)) inside))
      (all_fit ms scope env after p is sizes inside h names vars alike block m.body m nothing 0 (fits_none m.body))
    where
      zero_add : (n : ℕ) → 0 + n ≡ n
      zero_add n = omega arith

  -- a block's statements, from none
  block_fits : (ms : List M) (scope : Scope) (env after : Named Symbol) → block_check (map checking (statements ms)) scope env ≡ Ok after
      → (is : Named Inlining) (sizes : Named Size) (inside : Named ℕ) → Callees scope.functions is sizes inside → (names : Named Spot) (vars : Variables) → Alike env names vars
      → (block : ℕ) (m : Made) → Fits [] (inner_made (map (lowering_of hosts) (statements ms)) is block names m).body (block_size (map statement_size (statements ms)) sizes vars) (total (map calls_of (statements ms)) inside)
  block_fits ms scope env after p is sizes inside h names vars alike block m =
      let t = passed {B = Named Symbol} (in_sequence (map checking (statements ms)) scope env) (λ inner. Ok env) after p in
      (some_fit ms scope env t.0 t.1 is sizes inside h names vars alike block (emptied m)).fits

  block_leaves : (cs : List Checking) (scope : Scope) (env after : Named Symbol) → block_check cs scope env ≡ Ok after → env ≡ after
  block_leaves cs scope env after p =
      let t = passed {B = Named Symbol} (in_sequence cs scope env) (λ inner. Ok env) after p in
      ok_is env after t.2

  abbrev layer : Statement-F M → Statement-F Statement
  layer = map-Statement M Statement (λ m. m.0)

  step : (y : Statement-F M) → StatementFits (statement_check (map-Statement Statement Checking checking (layer y)))
      (statement_sizing (map-Statement Statement StatementSizing statement_size (layer y)))
      (statement_lowering hosts (map-Statement Statement StatementLowering (lowering_of hosts) (layer y)))
      (statement_calls (map-Statement Statement Calls calls_of (layer y)))
  step (Statement-F.Let at x label e) scope env after p is sizes inside h names vars alike block m =
      let here : Here = record { offset = at.start; block = block } in
      let s = passed (typing e scope env) (λ kind. and_then (declared x (symbol.Constant kind) env) (λ next. and_then (written_label_check label scope.principals) (λ done. Ok next))) after p in
      let t = passed (declared x (symbol.Constant s.0) env) (λ next. and_then (written_label_check label scope.principals) (λ done. Ok next)) after s.2 in
      let u = passed {B = Named Symbol} (written_label_check label scope.principals) (λ done. Ok t.0) after t.2 in
      let q = (lowering hosts e).run is names here m in
      let c = copied ((lowering hosts e).plain names) here q in
      let made = expr_fits hosts e in
      let grown : after ≡ env ++ (x.name, symbol.Constant s.0) ∷ [] = sym (ok_is t.0 after u.2) ∙ (declared_is x (symbol.Constant s.0) env t.0 t.1).1 in
      record {
        fits = copy_fits ((lowering hosts e).plain names) ((sizing e).plain vars) (made.plain scope env s.0 s.1 names vars alike) here m.body q (expr_size e sizes vars) (calls e inside) (made.fits scope env s.0 s.1 is sizes inside h names vars alike here m);
        alike = subst (λ z. Alike z (names ++ (x.name, spot.Binding c.0) ∷ []) (vars ++ (x.name, false) ∷ [])) (sym grown) (alike_push env names vars x.name (symbol.Constant s.0) (spot.Binding c.0) false alike refl);
      }
  step (Statement-F.Var at x kind label e) scope env after p is sizes inside h names vars alike block m =
      let here : Here = record { offset = at.start; block = block } in
      let s = passed (typing e scope env) (λ given. and_then (declared x (symbol.Variable kind) env) (λ next. and_then (is_kind x.span kind given) (λ fits. and_then (written_label_check label scope.principals) (λ done. Ok next)))) after p in
      let t = passed (declared x (symbol.Variable kind) env) (λ next. and_then (is_kind x.span kind s.0) (λ fits. and_then (written_label_check label scope.principals) (λ done. Ok next))) after s.2 in
      let v = passed (is_kind x.span kind s.0) (λ fits. and_then (written_label_check label scope.principals) (λ done. Ok t.0)) after t.2 in
      let u = passed {B = Named Symbol} (written_label_check label scope.principals) (λ done. Ok t.0) after v.2 in
      let q = (lowering hosts e).run is names here m in
      let grown : after ≡ env ++ (x.name, symbol.Variable kind) ∷ [] = sym (ok_is t.0 after u.2) ∙ (declared_is x (symbol.Variable kind) env t.0 t.1).1 in
      let x_made = NewVar (slot q.1.next) (slot q.0) in
      record {
        fits = fits_next m.body q.1.body (q.1.body ++ x_made ∷ []) (expr_size e sizes vars) one (calls e inside) ((expr_fits hosts e).fits scope env s.0 s.1 is sizes inside h names vars alike here m) (fits_one q.1.body x_made (var_one (slot q.1.next) (slot q.0)));
        alike = subst (λ z. Alike z (names ++ (x.name, spot.Variable q.1.next) ∷ []) (vars ++ (x.name, true) ∷ [])) (sym grown) (alike_push env names vars x.name (symbol.Variable kind) (spot.Variable q.1.next) true alike refl);
      }
  step (Statement-F.Array at x kind size label) scope env after p is sizes inside h names vars alike block m =
      let t = passed (declared x (symbol.Array kind) env) (λ next. and_then (written_label_check label scope.principals) (λ done. Ok next)) after p in
      let u = passed {B = Named Symbol} (written_label_check label scope.principals) (λ done. Ok t.0) after t.2 in
      let grown : after ≡ env ++ (x.name, symbol.Array kind) ∷ [] = sym (ok_is t.0 after u.2) ∙ (declared_is x (symbol.Array kind) env t.0 t.1).1 in
      record {
        fits = fits_array m.body (NewArray (slot m.next) size) size (array_is (slot m.next) size);
        alike = subst (λ z. Alike z (names ++ (x.name, spot.Array m.next) ∷ []) (vars ++ (x.name, false) ∷ [])) (sym grown) (alike_push env names vars x.name (symbol.Array kind) (spot.Array m.next) false alike refl);
      }
  step (Statement-F.Store x e) scope env after p is sizes inside h names vars alike block m =
      let here : Here = record { offset = x.span.start; block = block } in
      let s = passed (typing e scope env) (λ kind. and_then (is_stored x.span kind (at_name env x.name)) (λ done. Ok env)) after p in
      let t = passed {B = Named Symbol} (is_stored x.span s.0 (at_name env x.name)) (λ done. Ok env) after s.2 in
      record {
        fits = store_fits x.span s.0 (at_name env x.name) (at_name names x.name) (at_name vars x.name) t.0 (alike_at env names vars x.name alike) t.1 m.body ((lowering hosts e).run is names here m) (expr_size e sizes vars) (calls e inside) ((expr_fits hosts e).fits scope env s.0 s.1 is sizes inside h names vars alike here m);
        alike = subst (λ z. Alike z names vars) (ok_is env after t.2) alike;
      }
  step (Statement-F.Put x i e) scope env after p is sizes inside h names vars alike block m =
      let here : Here = record { offset = x.span.start; block = block } in
      let s = passed (typing i scope env) (λ at. and_then (typing e scope env) (λ kind. and_then (is_put x.span at kind (at_name env x.name)) (λ done. Ok env))) after p in
      let t = passed (typing e scope env) (λ kind. and_then (is_put x.span s.0 kind (at_name env x.name)) (λ done. Ok env)) after s.2 in
      let u = passed {B = Named Symbol} (is_put x.span s.0 t.0 (at_name env x.name)) (λ done. Ok env) after t.2 in
      let q = (lowering hosts i).run is names here m in
      let r = (lowering hosts e).run is names here q.1 in
      record {
        fits = put_fits x.span s.0 t.0 (at_name env x.name) (at_name names x.name) (at_name vars x.name) u.0 (alike_at env names vars x.name alike) u.1 m.body q.0 r (also (expr_size i sizes vars) (expr_size e sizes vars)) (calls i inside + calls e inside)
            (fits_then m.body q.1.body r.1.body (expr_size i sizes vars) (expr_size e sizes vars) (calls i inside) (calls e inside) ((expr_fits hosts i).fits scope env s.0 s.1 is sizes inside h names vars alike here m) ((expr_fits hosts e).fits scope env t.0 t.1 is sizes inside h names vars alike here q.1));
        alike = subst (λ z. Alike z names vars) (ok_is env after u.2) alike;
      }
  step (Statement-F.Output at e host) scope env after p is sizes inside h names vars alike block m =
      let here : Here = record { offset = at.start; block = block } in
      let s = passed (typing e scope env) (λ kind. and_then (known scope.hosts host) (λ done. Ok env)) after p in
      let t = passed {B = Named Symbol} (known scope.hosts host) (λ done. Ok env) after s.2 in
      let q = (lowering hosts e).run is names here m in
      let x_made = Output (slot q.0) (host_id hosts host) at.start in
      record {
        fits = fits_next m.body q.1.body (q.1.body ++ x_made ∷ []) (expr_size e sizes vars) one (calls e inside) ((expr_fits hosts e).fits scope env s.0 s.1 is sizes inside h names vars alike here m) (fits_one q.1.body x_made (output_one (slot q.0) (host_id hosts host) at.start));
        alike = subst (λ z. Alike z names vars) (ok_is env after t.2) alike;
      }
  step (Statement-F.If at c a b) scope env after p is sizes inside h names vars alike block m =
      let here : Here = record { offset = at.start; block = block } in
      let s = passed (typing c scope env) (λ kind. and_then (is_kind at Truth kind) (λ fits. and_then (block_check (map checking (statements a)) scope env) (λ next. block_check (map checking (statements b)) scope next))) after p in
      let t = passed (is_kind at Truth s.0) (λ fits. and_then (block_check (map checking (statements a)) scope env) (λ next. block_check (map checking (statements b)) scope next)) after s.2 in
      let u = passed (block_check (map checking (statements a)) scope env) (λ next. block_check (map checking (statements b)) scope next) after t.2 in
      let same : env ≡ u.0 = block_leaves (map checking (statements a)) scope env u.0 u.1 in
      let q = (lowering hosts c).run is names here m in
      let m1 : Made = record { next = q.1.next; slots = q.1.slots; blocks = q.1.blocks + 1; body = q.1.body } in
      let x = inner_made (map (lowering_of hosts) (statements a)) is q.1.blocks names m1 in
      let y = inner_made (map (lowering_of hosts) (statements b)) is q.1.blocks names x in
      let second = subst (λ z. block_check (map checking (statements b)) scope z ≡ Ok after) (sym same) u.2 in
      record {
        fits = fits_if m.body q.1.body x.body y.body q.0 at.start (expr_size c sizes vars) (block_size (map statement_size (statements a)) sizes vars) (block_size (map statement_size (statements b)) sizes vars)
            (calls c inside) (total (map calls_of (statements a)) inside) (total (map calls_of (statements b)) inside)
            ((expr_fits hosts c).fits scope env s.0 s.1 is sizes inside h names vars alike here m)
            (block_fits a scope env u.0 u.1 is sizes inside h names vars alike q.1.blocks m1)
            (block_fits b scope env after second is sizes inside h names vars alike q.1.blocks x);
        alike = subst (λ z. Alike z names vars) (block_leaves (map checking (statements b)) scope env after second) alike;
      }
  step (Statement-F.For at x count body) scope env after p is sizes inside h names vars alike block m =
      let here : Here = record { offset = at.start; block = block } in
      let s = passed (declared x (symbol.Constant Word) env) (λ inner. and_then (block_check (map checking (statements body)) scope inner) (λ left. Ok env)) after p in
      let t = passed {B = Named Symbol} (block_check (map checking (statements body)) scope s.0) (λ left. Ok env) after s.2 in
      let u = passed {B = Named Symbol} (in_sequence (map checking (statements body)) scope s.0) (λ inner. Ok s.0) t.0 t.1 in
      let grown : s.0 ≡ env ++ (x.name, symbol.Constant Word) ∷ [] = (declared_is x (symbol.Constant Word) env s.0 s.1).1 in
      let turn = Let (slot m.next) Turn in
      let made = loop_made x (map (lowering_of hosts) (statements body)) is here names m in
      let inner_alike = subst (λ z. Alike z (names ++ (x.name, spot.Binding m.next) ∷ []) (vars ++ (x.name, false) ∷ [])) (sym grown) (alike_push env names vars x.name (symbol.Constant Word) (spot.Binding m.next) false alike refl) in
      let inner = block_size (map statement_size (statements body)) sizes (with_value x.name false vars) in
      let called = total (map calls_of (statements body)) inside in
      let rest = (some_fit body scope s.0 u.0 u.1 is sizes inside h (names ++ (x.name, spot.Binding m.next) ∷ []) (with_value x.name false vars) inner_alike block (turned (named_slot here x Word None) m)).fits in
      let first = fits_then [] (turn ∷ []) made.body one inner 0 called (fits_one [] turn (let_one (slot m.next) Turn)) rest in
      record {
        fits = fits_for m.body made.body count (also one inner) called (fits_same [] made.body (also one inner) (0 + called) called (omega arith) first);
        alike = subst (λ z. Alike z names vars) (ok_is env after t.2) alike;
      }

  at_roll : (y : Statement-F M) → IsFit (roll-Statement (layer y))
  at_roll y = subst (λ c. StatementFits c (statement_size (roll-Statement (layer y))) (lowering_of hosts (roll-Statement (layer y))) (calls_of (roll-Statement (layer y)))) (sym (fold-roll-Statement Checking statement_check (layer y)))
      (subst (λ k. StatementFits (statement_check (map-Statement Statement Checking checking (layer y))) (statement_size (roll-Statement (layer y))) (lowering_of hosts (roll-Statement (layer y))) k) (sym (fold-roll-Statement Calls statement_calls (layer y)))
      (subst₂ (λ z l. StatementFits (statement_check (map-Statement Statement Checking checking (layer y))) z l (statement_calls (map-Statement Statement Calls calls_of (layer y)))) (sym (fold-roll-Statement StatementSizing statement_sizing (layer y)))
      (sym (fold-roll-Statement StatementLowering (statement_lowering hosts) (layer y))) (step y)))

  statement_fits : (s : Statement) → IsFit s
  statement_fits = ind-Statement IsFit (λ x y is. subst (λ z. IsFit (roll-Statement z)) is (at_roll y))

  with_facts : List Statement → List M
  with_facts ss = map {B = M} (λ s. (s, statement_fits s)) ss

  facts_of : (ss : List Statement) → statements (with_facts ss) ≡ ss
  unfolding with_facts
  facts_of [] = refl
  facts_of (s ∷ ss) = ap (λ z. s ∷ z) (facts_of ss)

  body_fits : (ss : List Statement) (scope : Scope) (env after : Named Symbol) → in_sequence (map checking ss) scope env ≡ Ok after
      → (is : Named Inlining) (sizes : Named Size) (inside : Named ℕ) → Callees scope.functions is sizes inside → (names : Named Spot) (vars : Variables) → Alike env names vars
      → (block : ℕ) (m : Made) → Stays m.body (statements_made (map (lowering_of hosts) ss) is block (record { names = names; made = m })) (statements_after nothing (map statement_size ss) sizes vars) (total (map calls_of ss) inside) after
  body_fits ss scope env after =
      subst (λ zs. in_sequence (map checking zs) scope env ≡ Ok after
      → (is : Named Inlining) (sizes : Named Size) (inside : Named ℕ) → Callees scope.functions is sizes inside → (names : Named Spot) (vars : Variables) → Alike env names vars
      → (block : ℕ) (m : Made) → Stays m.body (statements_made (map (lowering_of hosts) zs) is block (record { names = names; made = m })) (statements_after nothing (map statement_size zs) sizes vars) (total (map calls_of zs) inside) after)
      (facts_of ss) (λ p is sizes inside h names vars alike block m. some_fit (with_facts ss) scope env after p is sizes inside h names vars alike block m)

  function_fits : (f : Function) (scope : Scope) (u : Unit {0}) → function_check scope f ≡ Ok u → (is : Named Inlining) (sizes : Named Size) (inside : Named ℕ) → Callees scope.functions is sizes inside
      → CallFits (signature_of f) (inlining_of hosts f is) (function_size sizes f) (function_calls f inside)
  function_fits f scope u p is sizes inside h here ks m n =
      let r = passed (parameters_check [] f.parameters) (λ env. and_then (in_sequence (map checking f.body) scope env) (λ inner. and_then (typing f.gives scope inner) (λ kind. is_kind f.at_return f.kind kind))) u p in
      let s = passed (in_sequence (map checking f.body) scope r.0) (λ inner. and_then (typing f.gives scope inner) (λ kind. is_kind f.at_return f.kind kind)) u r.2 in
      let t = passed (typing f.gives scope s.0) (λ kind. is_kind f.at_return f.kind kind) u s.2 in
      let names = bound spot.Binding (parameter_names f.parameters) ks in
      let vars = parameter_variables f.parameters in
      let alike = parameters_alike f.parameters [] r.0 r.1 [] [] ks tt n in
      let place = statements_made (map (lowering_of hosts) f.body) is here.block (record { names = names; made = m }) in
      let sized = statements_after nothing (map statement_size f.body) sizes vars in
      let body = body_fits f.body scope r.0 s.0 s.1 is sizes inside h names vars alike here.block m in
      let q = (lowering hosts f.gives).run is place.names here place.made in
      fits_then m.body place.made.body q.1.body sized.0 (expr_size f.gives sizes sized.1) (total (map calls_of f.body) inside) (calls f.gives inside) body.fits ((expr_fits hosts f.gives).fits scope s.0 t.0 t.1 is sizes inside h place.names sized.1 body.alike here place.made)

  functions_fit : (fs : List Function) (ps hs : Names) (before after : Named Signature) → functions_check ps hs before fs ≡ Ok after → (is : Named Inlining) (sizes : Named Size) (inside : Named ℕ) → Callees before is sizes inside
      → Callees after (in_text_order (inlining_of hosts) is fs) (function_sizes sizes fs) (in_text_order function_calls inside fs)
  functions_fit [] ps hs before after p is sizes inside h = subst (λ z. Callees z is sizes inside) (ok_is before after p) h
  functions_fit (f ∷ fs) ps hs before after p is sizes inside h =
      let scope : Scope = record { principals = ps; hosts = hs; functions = before; later = function_names (f ∷ fs) } in
      let r = passed (is_new f.name before) (λ fresh. and_then (function_check scope f) (λ done. functions_check ps hs (before ++ (f.name.name, signature_of f) ∷ []) fs)) after p in
      let s = passed (function_check scope f) (λ done. functions_check ps hs (before ++ (f.name.name, signature_of f) ∷ []) fs) after r.2 in
      functions_fit fs ps hs (before ++ (f.name.name, signature_of f) ∷ []) after s.2 (is ++ (f.name.name, inlining_of hosts f is) ∷ []) (sizes ++ (f.name.name, function_size sizes f) ∷ []) (inside ++ (f.name.name, function_calls f inside) ∷ [])
      (callee_push before is sizes inside f.name.name (signature_of f) (inlining_of hosts f is) (function_size sizes f) (function_calls f inside) h (function_fits f scope s.0 s.1 is sizes inside h))

pub main_fits : (source : Source) → source_check source ≡ Ok tt → Fits [] (main_made source).body (source_size source) (inlined_calls source)
main_fits source p =
    let hosts = host_names source.hosts in
    let s = passed (distinct [] source.principals) (λ principals. and_then (hosts_check principals [] source.hosts) (λ hosts. bodies_check principals hosts source.functions source.main)) tt p in
    let t = passed (hosts_check s.0 [] source.hosts) (λ hosts. bodies_check s.0 hosts source.functions source.main) tt s.2 in
    let r = passed (functions_check s.0 t.0 [] source.functions) (λ functions. and_then (block_check (map checking source.main) (record { principals = s.0; hosts = t.0; functions = functions; later = [] }) []) (λ left. Ok tt)) tt t.2 in
    let scope : Scope = record { principals = s.0; hosts = t.0; functions = r.0; later = [] } in
    let b = passed {B = Unit {0}} (block_check (map checking source.main) scope []) (λ left. Ok tt) tt r.2 in
    let u = passed {B = Named Symbol} (in_sequence (map checking source.main) scope []) (λ inner. Ok []) b.0 b.1 in
    let m : Made = record { next = 0; slots = []; blocks = 1; body = [] } in
    (body_fits hosts source.main scope [] u.0 u.1 (inlinings_of hosts source.functions) (function_sizes [] source.functions) (in_text_order function_calls [] source.functions) (functions_fit hosts source.functions s.0 t.0 [] r.0 r.1 [] [] [] tt) [] [] tt 0 m).fits
