-- Statements keep the kinds of slots, and what goes into slots of the kind Bool is 0 or 1.
use Rattle.std.proofs.Common.{◌≡◌, ℕ, ◌+◌, Bool, true, false, true≢false, if◌then◌else◌, List, [], ◌∷◌, ◌++◌, length, map, slice_index_or, Option, Some, None, Ok, Err, refl, sym, ap, ◌∙◌, subst, subst₂, arith}
use Rattle.vd_base.specs.declared.operations.Kind.{Kind}
use Rattle.vd_base.specs.declared.operations.Kind.TheVariants.{Word, Bool as Truth}
use Rattle.vd_base.specs.declared.ids.Span.{Span}
use Rattle.vd_base.specs.Names.{Named, at_name, bound}
use Rattle.vd_core.specs.declared.normal.Right.TheVariants.{Turn, Copy}
use Rattle.vd_core.specs.declared.normal.Slot.{Slot}
use Rattle.vd_core.specs.declared.normal.Stmt as stmt
use Rattle.vd_core.specs.Facts.{all_meet}
use Rattle.vd_core.specs.declared.source.Ident.{Ident}
use Rattle.vd_core.specs.declared.source.Parameter.{Parameter}
use Rattle.vd_core.specs.declared.source.Function.{Function}
use Rattle.vd_core.specs.declared.source.Statement.{Statement, roll-Statement, map-Statement, ind-Statement}
use Rattle.vd_core.specs.declared.source.Statement.TheOpen.{Statement-F}
use Rattle.vd_core.specs.declared.source.Statement.TheFolds.{fold-roll-Statement}
use Rattle.vd_semantics.specs.Functions.{in_text_order}
use Rattle.vd_semantics.specs.SourceMeaning.{parameter_names}
use Rattle.vd_elaborate.specs.declared.anf.here.Here.{Here}
use Rattle.vd_elaborate.specs.declared.anf.spot.Spot.{Spot}
use Rattle.vd_elaborate.specs.declared.anf.spot.Spot.TheVariants as spot
use Rattle.vd_elaborate.specs.Normal.{Made, Place, slot, host_id, named_slot, with_slot, with_stmt, with_name_at, emitted, kind_at, emptied, Inlining, StatementLowering, statements_made, inner_made, loop_made, copied, stored, put_made, if_made, for_made, lowering, statement_lowering, lowering_of, inlining_of}
use Rattle.vd_resolve.specs.Faults as fault
use Rattle.vd_resolve.specs.declared.symbol.Symbol.{Symbol}
use Rattle.vd_resolve.specs.declared.symbol.Symbol.TheVariants as symbol
use Rattle.vd_resolve.specs.declared.symbol.Signature.{Signature}
use Rattle.vd_resolve.specs.Rules.{Names, Scope, and_then, kind_eq, declared, known, written_label_check, typing, Checking, is_stored, is_put, element_kind, in_sequence, block_check, is_kind, statement_check, checking, parameters_check, signature_of, function_names, function_check, is_new, functions_check}
use Rattle.vd_mux.specs.BooleanGuards.{is_truth_kind}
use Rattle.vd_elaborate.proofs.Front.{passed, err_is, ok_is, accepted, declared_is}
use Rattle.vd_cmd_rewrite.proofs.SlotKinds.{truth_by, test_by, Agrees, Has, Sound, Grows, Keeps, Makes, grows_none, grows_after, has_stays, agrees_back, kind_is, then_keeps, then_makes, push_met, slot_grows, slot_has, slot_sound, stmt_keeps, let_met, var_met, array_met, store_met, put_met, output_met, if_met, for_met, emit, name_keeps}
use Rattle.vd_cmd_rewrite.proofs.Beside.{look_up, push_beside}
use Rattle.vd_cmd_rewrite.proofs.Typed.{FitsSpot, Shows, shows_stay, Bindings, FitsCall, Calls, kinds_same, array_shown, expr_typed}

-- after a statement: what is made, and the names in sight
pub record Steps (m : Made) (after : Named Symbol) (p : Place) : Type 0 where
  pub sound : Sound p.made
  pub grows : Grows m p.made
  pub shows : Shows p.made after p.names

is_wanted : (at : Span) (wanted kind : Kind) (u : Unit {0}) → is_kind at wanted kind ≡ Ok u → wanted ≡ kind
is_wanted at wanted kind u e = kinds_same wanted kind (accepted (kind_eq wanted kind) (fault.Kind at) (Ok tt) u e).0

-- of the same kind, if the one is 0 or 1 so is the other
same_truth : (m : Made) (kinds : ℕ → Kind) (v x : ℕ) (kind : Kind) → Agrees kinds m → Has m v kind → Has m x kind → truth_by kinds (slot v) ≡ true → truth_by kinds (slot x) ≡ true
same_truth m kinds v x kind a hv hx is = ap is_truth_kind (kind_is m kinds x kind a hx ∙ sym (kind_is m kinds v kind a hv)) ∙ is

-- ---- copies, variables, arrays

copy_makes : (b : Bool) (here : Here) (m : Made) (p : ℕ × Made) (kind : Kind) → Makes m p kind → Makes m (copied b here p) kind
copy_makes false here m p kind h = h
copy_makes true here m p kind h =
    then_makes m p.1 (emitted here (kind_at p.1 p.0) (Copy (slot p.0)) p.1) kind h.grows
    (subst (λ (k : Kind). Makes p.1 (emitted here (kind_at p.1 p.0) (Copy (slot p.0)) p.1) k) h.has.is
    (emit here (kind_at p.1 p.0) (Copy (slot p.0)) p.1 h.sound (λ kinds a is. ap is_truth_kind (a p.0 h.has.low) ∙ is)))

variable_makes : (entry : Slot) (q : ℕ × Made) → Sound q.1 → Has q.1 q.0 entry.kind → Makes q.1 (with_slot entry (stmt.NewVar (slot q.1.next) (slot q.0)) q.1) entry.kind
variable_makes entry q sound h =
    let s = stmt.NewVar (slot q.1.next) (slot q.0) in
    let m' = (with_slot entry s q.1).1 in
    let grows = slot_grows entry s q.1 sound in
    let has = slot_has entry s q.1 sound in
    record {
      sound = slot_sound entry s q.1 sound (λ kinds a. var_met kinds (slot q.1.next) (slot q.0) (same_truth m' kinds q.1.next q.0 entry.kind a has (has_stays q.1 m' q.0 entry.kind grows h)));
      grows = grows;
      has = has;
    }

array_makes : (entry : Slot) (size : ℕ) (m : Made) → Sound m → Makes m (with_slot entry (stmt.NewArray (slot m.next) size) m) entry.kind
array_makes entry size m sound =
    let s = stmt.NewArray (slot m.next) size in
    record { sound = slot_sound entry s m sound (λ kinds a. array_met kinds (slot m.next) size); grows = slot_grows entry s m sound; has = slot_has entry s m sound }

-- ---- writes

store_spot : (p : ℕ × Made) (kind : Kind) → Sound p.1 → Has p.1 p.0 kind → (v : Spot) → FitsSpot p.1 (symbol.Variable kind) v → Keeps p.1 (stored (Some v) p)
store_spot p kind sound h (spot.Variable k) hv = stmt_keeps (stmt.Store (slot k) (slot p.0)) p.1 sound (λ kinds a. store_met kinds (slot k) (slot p.0) (same_truth p.1 kinds k p.0 kind a hv h))
store_spot p kind sound h (spot.Binding k) hv = absurd hv
store_spot p kind sound h (spot.Array k) hv = absurd hv

store_keeps : (at : Span) (x : List ℕ) (env : Named Symbol) (names : Named Spot) (p : ℕ × Made) (kind : Kind) (u : Unit {0}) (o : Option Symbol) → at_name env x ≡ o → is_stored at kind o ≡ Ok u → Sound p.1 → Has p.1 p.0 kind → Shows p.1 env names
    → Keeps p.1 (stored (at_name names x) p)
store_keeps at x env names p kind u None is e sound h shows = absurd (err_is (fault.Unknown at) u e)
store_keeps at x env names p kind u (Some (symbol.Constant given)) is e sound h shows = absurd (err_is (fault.Kind at) u e)
store_keeps at x env names p kind u (Some (symbol.Array given)) is e sound h shows = absurd (err_is (fault.Kind at) u e)
store_keeps at x env names p kind u (Some (symbol.Variable given)) is e sound h shows =
    let same = kinds_same kind given (accepted (kind_eq kind given) (fault.Kind at) (Ok tt) u e).0 in
    let f = look_up (FitsSpot p.1) env names x (symbol.Variable given) shows is in
    subst (λ (o : Option Spot). Keeps p.1 (stored o p)) (sym f.1) (store_spot p kind sound h f.0 (subst (λ (k : Kind). FitsSpot p.1 (symbol.Variable k) f.0) (sym same) f.2))

put_spot : (i : ℕ) (p : ℕ × Made) (kind : Kind) → Sound p.1 → Has p.1 p.0 kind → (v : Spot) → FitsSpot p.1 (symbol.Array kind) v → Keeps p.1 (put_made (Some v) i p)
put_spot i p kind sound h (spot.Array k) hv = stmt_keeps (stmt.Put (slot k) (slot i) (slot p.0)) p.1 sound (λ kinds a. put_met kinds (slot k) (slot i) (slot p.0) (same_truth p.1 kinds k p.0 kind a hv h))
put_spot i p kind sound h (spot.Binding k) hv = absurd hv
put_spot i p kind sound h (spot.Variable k) hv = absurd hv

put_keeps : (at : Span) (x : List ℕ) (index : Kind) (env : Named Symbol) (names : Named Spot) (i : ℕ) (p : ℕ × Made) (kind : Kind) (u : Unit {0}) → is_put at index kind (at_name env x) ≡ Ok u → Sound p.1 → Has p.1 p.0 kind → Shows p.1 env names
    → Keeps p.1 (put_made (at_name names x) i p)
put_keeps at x index env names i p kind u e sound h shows =
    let s = passed (element_kind at index (at_name env x)) (λ given. if kind_eq kind given then Ok tt else Err (fault.Kind at)) u e in
    let same = kinds_same kind s.0 (accepted (kind_eq kind s.0) (fault.Kind at) (Ok tt) u s.2).0 in
    let f = array_shown at x index env names p.1 s.0 s.1 shows in
    subst (λ (o : Option Spot). Keeps p.1 (put_made o i p)) (sym f.1) (put_spot i p kind sound h f.0 (subst (λ (k : Kind). FitsSpot p.1 (symbol.Array k) f.0) (sym same) f.2))

-- ---- blocks

-- an inner block begins, whatever its number
entered : (m e : Made) → Sound m → e.next ≡ m.next → e.slots ≡ m.slots → e.body ≡ [] → Keeps m e
entered m e sound next slots body =
    record {
      sound =
          record {
            sized = subst₂ (λ (z : List Slot) (n : ℕ). length z ≡ n) (sym slots) (sym next) sound.sized;
            met = λ kinds a. subst (λ (z : List stmt.Stmt). all_meet (test_by kinds) z ≡ true) (sym body) refl;
          };
      grows = record { next = omega (arith, next); kinds = λ k lt. ap (λ (z : List Slot). slice_index_or (map (λ (s : Slot). s.kind) z) k Word) slots };
    }

module _ (hosts : List (List ℕ)) where
  abbrev pub StatementTyped : Checking → StatementLowering → Type 0
  StatementTyped c l = (scope : Scope) (env after : Named Symbol) → c scope env ≡ Ok after → (is : Named Inlining) → Calls scope.functions is → (block : ℕ) (p : Place) → Sound p.made → Shows p.made env p.names → Steps p.made after (l is block p)

  abbrev M : Type 0
  M = (s : Statement) × StatementTyped (checking s) (lowering_of hosts s)

  abbrev checked : List M → List Checking
  checked ms = map checking (map (λ (m : M). m.0) ms)

  abbrev made_of : List M → List StatementLowering
  made_of ms = map (lowering_of hosts) (map (λ (m : M). m.0) ms)

  all_typed : (ms : List M) → StatementTyped (in_sequence (checked ms)) (statements_made (made_of ms))
  all_typed [] scope env after e is calls block p sound shows = record { sound = sound; grows = grows_none p.made; shows = subst (λ (z : Named Symbol). Shows p.made z p.names) (ok_is env after e) shows }
  all_typed (m ∷ ms) scope env after e is calls block p sound shows =
      let s = passed (checking m.0 scope env) (λ next. in_sequence (checked ms) scope next) after e in
      let q = lowering_of hosts m.0 is block p in
      let one = m.1 scope env s.0 s.1 is calls block p sound shows in
      let rest = all_typed ms scope s.0 after s.2 is calls block q one.sound one.shows in
      record { sound = rest.sound; grows = grows_after p.made q.made (statements_made (made_of ms) is block q).made one.grows rest.grows; shows = rest.shows }

  -- the statements of a block
  block_typed : (ms : List M) (scope : Scope) (env after : Named Symbol) → block_check (checked ms) scope env ≡ Ok after → (is : Named Inlining) → Calls scope.functions is → (block : ℕ) (names : Named Spot) (m : Made) → Sound m → Shows m env names
      → Keeps m (statements_made (made_of ms) is block (record { names = names; made = m })).made × (env ≡ after)
  block_typed ms scope env after e is calls block names m sound shows =
      let s = passed {B = Named Symbol} (in_sequence (checked ms) scope env) (λ inner. Ok env) after e in
      let all = all_typed ms scope env s.0 s.1 is calls block (record { names = names; made = m }) sound shows in
      (record { sound = all.sound; grows = all.grows }, ok_is env after s.2)

  -- an If of what was made of its branches
  if_keeps : (q : ℕ × Made) (offset : ℕ) (x y : Made) → Sound q.1 → Has q.1 q.0 Truth → Sound x → Grows q.1 x → Sound y → Grows x y
      → Keeps q.1 (record { next = y.next; slots = y.slots; blocks = y.blocks; body = q.1.body ++ stmt.If (slot q.0) x.body y.body offset ∷ [] })
  if_keeps q offset x y sound h sound_x grows_x sound_y grows_y =
      let grows = grows_after q.1 x y grows_x grows_y in
      record {
        sound =
            record {
              sized = sound_y.sized;
              met = λ kinds a. push_met (test_by kinds) q.1.body (stmt.If (slot q.0) x.body y.body offset)
                  (if_met kinds (slot q.0) x.body y.body offset (ap is_truth_kind (kind_is q.1 kinds q.0 Truth (agrees_back q.1 y kinds grows a) h)) (sound_x.met kinds (agrees_back x y kinds grows_y a)) (sound_y.met kinds a))
                  (sound.met kinds (agrees_back q.1 y kinds grows a));
            };
        grows = record { next = grows.next; kinds = grows.kinds };
      }

  for_keeps : (count : ℕ) (m a : Made) → Sound m → Sound a → Grows m a → Keeps m (for_made count a m)
  for_keeps count m a sound sound_a grows =
      record {
        sound =
            record {
              sized = sound_a.sized;
              met = λ kinds agrees. push_met (test_by kinds) m.body (stmt.For count a.body) (for_met kinds count a.body (sound_a.met kinds agrees)) (sound.met kinds (agrees_back m a kinds grows agrees));
            };
        grows = record { next = grows.next; kinds = grows.kinds };
      }

  -- the names in sight, with one more
  push_shows : (m : Made) (env after : Named Symbol) (names : Named Spot) (x : Ident) (s : Symbol) (v : Spot) → declared x s env ≡ Ok after → Shows m env names → FitsSpot m s v → Shows m after (names ++ (x.name, v) ∷ [])
  push_shows m env after names x s v e shows fits =
      subst (λ (z : Named Symbol). Shows m z (names ++ (x.name, v) ∷ [])) (sym (declared_is x s env after e).1) (push_beside (FitsSpot m) env names x.name s v shows fits)

  stays : (m m' : Made) (env after : Named Symbol) (names : Named Spot) → env ≡ after → Keeps m m' → Shows m env names → Steps m after (record { names = names; made = m' })
  stays m m' env after names e keeps shows =
      record { sound = keeps.sound; grows = keeps.grows; shows = subst (λ (z : Named Symbol). Shows m' z names) e (shows_stay m m' keeps.grows env names shows) }

  abbrev layer : Statement-F M → Statement-F Statement
  layer = map-Statement M Statement (λ m. m.0)

  step : (y : Statement-F M) → StatementTyped (statement_check (map-Statement Statement Checking checking (layer y))) (statement_lowering hosts (map-Statement Statement StatementLowering (lowering_of hosts) (layer y)))
  step (Statement-F.Let at x label e) scope env after c is calls block p sound shows =
      let here : Here = record { offset = at.start; block = block } in
      let s = passed (typing e scope env) (λ kind. and_then (declared x (symbol.Constant kind) env) (λ next. and_then (written_label_check label scope.principals) (λ done. Ok next))) after c in
      let t = passed (declared x (symbol.Constant s.0) env) (λ next. and_then (written_label_check label scope.principals) (λ done. Ok next)) after s.2 in
      let u = passed {B = Named Symbol} (written_label_check label scope.principals) (λ done. Ok t.0) after t.2 in
      let r = (lowering hosts e).run is p.names here p.made in
      let b = (lowering hosts e).plain p.names in
      let q = copied b here r in
      let one = copy_makes b here p.made r s.0 (expr_typed hosts e scope env s.0 s.1 is calls p.names here p.made sound shows) in
      let named = name_keeps q.0 x label q.1 one.sound in
      let m' = with_name_at q.0 x label q.1 in
      let grows = grows_after p.made q.1 m' one.grows named.grows in
      record {
        sound = named.sound;
        grows = grows;
        shows =
            subst (λ (z : Named Symbol). Shows m' z (p.names ++ (x.name, spot.Binding q.0) ∷ [])) (ok_is t.0 after u.2)
            (push_shows m' env t.0 p.names x (symbol.Constant s.0) (spot.Binding q.0) t.1 (shows_stay p.made m' grows env p.names shows) (has_stays q.1 m' q.0 s.0 named.grows one.has));
      }
  step (Statement-F.Var at x kind label e) scope env after c is calls block p sound shows =
      let here : Here = record { offset = at.start; block = block } in
      let s = passed (typing e scope env) (λ given. and_then (declared x (symbol.Variable kind) env) (λ next. and_then (is_kind x.span kind given) (λ fits. and_then (written_label_check label scope.principals) (λ done. Ok next)))) after c in
      let t = passed (declared x (symbol.Variable kind) env) (λ next. and_then (is_kind x.span kind s.0) (λ fits. and_then (written_label_check label scope.principals) (λ done. Ok next))) after s.2 in
      let v = passed (is_kind x.span kind s.0) (λ fits. and_then (written_label_check label scope.principals) (λ done. Ok t.0)) after t.2 in
      let u = passed {B = Named Symbol} (written_label_check label scope.principals) (λ done. Ok t.0) after v.2 in
      let q = (lowering hosts e).run is p.names here p.made in
      let one = expr_typed hosts e scope env s.0 s.1 is calls p.names here p.made sound shows in
      let entry = named_slot here x kind label in
      let new = variable_makes entry q one.sound (subst (λ (k : Kind). Has q.1 q.0 k) (sym (is_wanted x.span kind s.0 v.0 v.1)) one.has) in
      let m' = (with_slot entry (stmt.NewVar (slot q.1.next) (slot q.0)) q.1).1 in
      let grows = grows_after p.made q.1 m' one.grows new.grows in
      record {
        sound = new.sound;
        grows = grows;
        shows =
            subst (λ (z : Named Symbol). Shows m' z (p.names ++ (x.name, spot.Variable q.1.next) ∷ [])) (ok_is t.0 after u.2)
            (push_shows m' env t.0 p.names x (symbol.Variable kind) (spot.Variable q.1.next) t.1 (shows_stay p.made m' grows env p.names shows) new.has);
      }
  step (Statement-F.Array at x kind size label) scope env after c is calls block p sound shows =
      let here : Here = record { offset = at.start; block = block } in
      let t = passed (declared x (symbol.Array kind) env) (λ next. and_then (written_label_check label scope.principals) (λ done. Ok next)) after c in
      let u = passed {B = Named Symbol} (written_label_check label scope.principals) (λ done. Ok t.0) after t.2 in
      let entry = named_slot here x kind label in
      let new = array_makes entry size p.made sound in
      let m' = (with_slot entry (stmt.NewArray (slot p.made.next) size) p.made).1 in
      record {
        sound = new.sound;
        grows = new.grows;
        shows =
            subst (λ (z : Named Symbol). Shows m' z (p.names ++ (x.name, spot.Array p.made.next) ∷ [])) (ok_is t.0 after u.2)
            (push_shows m' env t.0 p.names x (symbol.Array kind) (spot.Array p.made.next) t.1 (shows_stay p.made m' new.grows env p.names shows) new.has);
      }
  step (Statement-F.Store x e) scope env after c is calls block p sound shows =
      let here : Here = record { offset = x.span.start; block = block } in
      let s = passed (typing e scope env) (λ kind. and_then (is_stored x.span kind (at_name env x.name)) (λ done. Ok env)) after c in
      let t = passed {B = Named Symbol} (is_stored x.span s.0 (at_name env x.name)) (λ done. Ok env) after s.2 in
      let q = (lowering hosts e).run is p.names here p.made in
      let one = expr_typed hosts e scope env s.0 s.1 is calls p.names here p.made sound shows in
      let keeps = store_keeps x.span x.name env p.names q s.0 t.0 (at_name env x.name) refl t.1 one.sound one.has (shows_stay p.made q.1 one.grows env p.names shows) in
      stays p.made (stored (at_name p.names x.name) q) env after p.names (ok_is env after t.2) (then_keeps p.made q.1 (stored (at_name p.names x.name) q) one.grows keeps) shows
  step (Statement-F.Put x i e) scope env after c is calls block p sound shows =
      let here : Here = record { offset = x.span.start; block = block } in
      let s = passed (typing i scope env) (λ at. and_then (typing e scope env) (λ kind. and_then (is_put x.span at kind (at_name env x.name)) (λ done. Ok env))) after c in
      let t = passed (typing e scope env) (λ kind. and_then (is_put x.span s.0 kind (at_name env x.name)) (λ done. Ok env)) after s.2 in
      let u = passed {B = Named Symbol} (is_put x.span s.0 t.0 (at_name env x.name)) (λ done. Ok env) after t.2 in
      let q = (lowering hosts i).run is p.names here p.made in
      let r = (lowering hosts e).run is p.names here q.1 in
      let one = expr_typed hosts i scope env s.0 s.1 is calls p.names here p.made sound shows in
      let two = expr_typed hosts e scope env t.0 t.1 is calls p.names here q.1 one.sound (shows_stay p.made q.1 one.grows env p.names shows) in
      let grows = grows_after p.made q.1 r.1 one.grows two.grows in
      let keeps = put_keeps x.span x.name s.0 env p.names q.0 r t.0 u.0 u.1 two.sound two.has (shows_stay p.made r.1 grows env p.names shows) in
      stays p.made (put_made (at_name p.names x.name) q.0 r) env after p.names (ok_is env after u.2) (then_keeps p.made r.1 (put_made (at_name p.names x.name) q.0 r) grows keeps) shows
  step (Statement-F.Output at e host) scope env after c is calls block p sound shows =
      let here : Here = record { offset = at.start; block = block } in
      let s = passed (typing e scope env) (λ kind. and_then (known scope.hosts host) (λ done. Ok env)) after c in
      let t = passed {B = Named Symbol} (known scope.hosts host) (λ done. Ok env) after s.2 in
      let q = (lowering hosts e).run is p.names here p.made in
      let one = expr_typed hosts e scope env s.0 s.1 is calls p.names here p.made sound shows in
      let out = stmt.Output (slot q.0) (host_id hosts host) at.start in
      let keeps = stmt_keeps out q.1 one.sound (λ kinds a. output_met kinds (slot q.0) (host_id hosts host) at.start) in
      stays p.made (with_stmt out q.1) env after p.names (ok_is env after t.2) (then_keeps p.made q.1 (with_stmt out q.1) one.grows keeps) shows
  step (Statement-F.If at guard a b) scope env after c is calls block p sound shows =
      let here : Here = record { offset = at.start; block = block } in
      let s = passed (typing guard scope env) (λ kind. and_then (is_kind at Truth kind) (λ fits. and_then (block_check (checked a) scope env) (λ next. block_check (checked b) scope next))) after c in
      let t = passed (is_kind at Truth s.0) (λ fits. and_then (block_check (checked a) scope env) (λ next. block_check (checked b) scope next)) after s.2 in
      let u = passed (block_check (checked a) scope env) (λ next. block_check (checked b) scope next) after t.2 in
      let q = (lowering hosts guard).run is p.names here p.made in
      let one = expr_typed hosts guard scope env s.0 s.1 is calls p.names here p.made sound shows in
      let m : Made = record { next = q.1.next; slots = q.1.slots; blocks = q.1.blocks + 1; body = q.1.body } in
      let x = inner_made (made_of a) is q.1.blocks p.names m in
      let y = inner_made (made_of b) is q.1.blocks p.names x in
      let seen = shows_stay p.made q.1 one.grows env p.names shows in
      let in_a = entered q.1 (emptied m) one.sound refl refl refl in
      let done_a = block_typed a scope env u.0 u.1 is calls q.1.blocks p.names (emptied m) in_a.sound (shows_stay q.1 (emptied m) in_a.grows env p.names seen) in
      let grows_x = grows_after q.1 (emptied m) x in_a.grows done_a.0.grows in
      let in_b = entered x (emptied x) done_a.0.sound refl refl refl in
      let seen_b = subst (λ (z : Named Symbol). Shows (emptied x) z p.names) done_a.1 (shows_stay q.1 (emptied x) (grows_after q.1 x (emptied x) grows_x in_b.grows) env p.names seen) in
      let done_b = block_typed b scope u.0 after u.2 is calls q.1.blocks p.names (emptied x) in_b.sound seen_b in
      let keeps = if_keeps q at.start x y one.sound (subst (λ (k : Kind). Has q.1 q.0 k) (sym (is_wanted at Truth s.0 t.0 t.1)) one.has) done_a.0.sound grows_x done_b.0.sound (grows_after x (emptied x) y in_b.grows done_b.0.grows) in
      let m' = if_made at.start q (made_of a) (made_of b) is p.names in
      stays p.made m' env after p.names (done_a.1 ∙ done_b.1) (then_keeps p.made q.1 m' one.grows keeps) shows
  step (Statement-F.For at x count body) scope env after c is calls block p sound shows =
      let here : Here = record { offset = at.start; block = block } in
      let s = passed (declared x (symbol.Constant Word) env) (λ inner. and_then (block_check (checked body) scope inner) (λ left. Ok env)) after c in
      let t = passed {B = Named Symbol} (block_check (checked body) scope s.0) (λ left. Ok env) after s.2 in
      let entry = named_slot here x Word None in
      let turn = stmt.Let (slot p.made.next) Turn in
      let start = (with_slot entry turn (emptied p.made)).1 in
      let inside = entered p.made (emptied p.made) sound refl refl refl in
      let has = slot_has entry turn (emptied p.made) inside.sound in
      let grows = slot_grows entry turn (emptied p.made) inside.sound in
      let begun = slot_sound entry turn (emptied p.made) inside.sound (λ kinds a. let_met kinds (slot p.made.next) Turn (λ is. absurd (true≢false (sym (sym (ap is_truth_kind (kind_is start kinds p.made.next Word a has)) ∙ is))))) in
      let seen = push_shows start env s.0 p.names x (symbol.Constant Word) (spot.Binding p.made.next) s.1 (shows_stay p.made start (grows_after p.made (emptied p.made) start inside.grows grows) env p.names shows) has in
      let done = block_typed body scope s.0 t.0 t.1 is calls block (p.names ++ (x.name, spot.Binding p.made.next) ∷ []) start begun seen in
      let made = loop_made x (made_of body) is here p.names p.made in
      let all = for_keeps count p.made made sound done.0.sound (grows_after p.made start made (grows_after p.made (emptied p.made) start inside.grows grows) done.0.grows) in
      stays p.made (for_made count made p.made) env after p.names (ok_is env after t.2) all shows

  at_roll : (y : Statement-F M) → StatementTyped (checking (roll-Statement (layer y))) (lowering_of hosts (roll-Statement (layer y)))
  at_roll y = subst₂ StatementTyped (sym (fold-roll-Statement Checking statement_check (layer y))) (sym (fold-roll-Statement StatementLowering (statement_lowering hosts) (layer y))) (step y)

  statement_typed : (s : Statement) → StatementTyped (checking s) (lowering_of hosts s)
  statement_typed = ind-Statement (λ s. StatementTyped (checking s) (lowering_of hosts s)) (λ x y is. subst (λ z. StatementTyped (checking (roll-Statement z)) (lowering_of hosts (roll-Statement z))) is (at_roll y))

  pub body_typed : (ss : List Statement) → StatementTyped (in_sequence (map checking ss)) (statements_made (map (lowering_of hosts) ss))
  body_typed [] scope env after e is calls block p sound shows = record { sound = sound; grows = grows_none p.made; shows = subst (λ (z : Named Symbol). Shows p.made z p.names) (ok_is env after e) shows }
  body_typed (s ∷ ss) scope env after e is calls block p sound shows =
      let t = passed (checking s scope env) (λ next. in_sequence (map checking ss) scope next) after e in
      let q = lowering_of hosts s is block p in
      let one = statement_typed s scope env t.0 t.1 is calls block p sound shows in
      let rest = body_typed ss scope t.0 after t.2 is calls block q one.sound one.shows in
      record { sound = rest.sound; grows = grows_after p.made q.made (statements_made (map (lowering_of hosts) ss) is block q).made one.grows rest.grows; shows = rest.shows }

  -- ---- functions

  one_behind : {A : Type 0} (xs : List A) (y : A) (ys : List A) → (xs ++ y ∷ []) ++ ys ≡ xs ++ y ∷ ys
  one_behind [] y ys = refl
  one_behind {A = A} (x ∷ xs) y ys = ap (λ (z : List A). x ∷ z) (one_behind xs y ys)

  behind : {A : Type 0} (xs : List A) → xs ++ [] ≡ xs
  behind [] = refl
  behind {A = A} (x ∷ xs) = ap (λ (z : List A). x ∷ z) (behind xs)

  parameters_shown : (ps : List Parameter) (m : Made) (env after : Named Symbol) (names : Named Spot) (ks : List ℕ) → parameters_check env ps ≡ Ok after → Shows m env names → Bindings m ks (map (λ (p : Parameter). p.kind) ps) → Shows m after (names ++ bound spot.Binding (parameter_names ps) ks)
  parameters_shown [] m env after names [] e shows h = subst₂ (λ (a : Named Symbol) (b : Named Spot). Shows m a b) (ok_is env after e) (sym (behind names)) shows
  parameters_shown [] m env after names (k ∷ ks) e shows h = absurd h
  parameters_shown (p ∷ ps) m env after names [] e shows h = absurd h
  parameters_shown (p ∷ ps) m env after names (k ∷ ks) e shows h =
      let s = passed (declared p.name (symbol.Constant p.kind) env) (λ next. parameters_check next ps) after e in
      let more = push_shows m env s.0 names p.name (symbol.Constant p.kind) (spot.Binding k) s.1 shows h.0 in
      subst (λ (z : Named Spot). Shows m after z) (one_behind names (p.name.name, spot.Binding k) (bound spot.Binding (parameter_names ps) ks))
      (parameters_shown ps m s.0 after (names ++ (p.name.name, spot.Binding k) ∷ []) ks s.2 more h.1)

  function_typed : (f : Function) (scope : Scope) (u : Unit {0}) → function_check scope f ≡ Ok u → (is : Named Inlining) → Calls scope.functions is → FitsCall (signature_of f) (inlining_of hosts f is)
  function_typed f scope u e is calls here ks m sound h =
      let r = passed (parameters_check [] f.parameters) (λ env. and_then (in_sequence (map checking f.body) scope env) (λ inner. and_then (typing f.gives scope inner) (λ kind. is_kind f.at_return f.kind kind))) u e in
      let s = passed (in_sequence (map checking f.body) scope r.0) (λ inner. and_then (typing f.gives scope inner) (λ kind. is_kind f.at_return f.kind kind)) u r.2 in
      let t = passed (typing f.gives scope s.0) (λ kind. is_kind f.at_return f.kind kind) u s.2 in
      let names = bound spot.Binding (parameter_names f.parameters) ks in
      let start : Place = record { names = names; made = m } in
      let p = statements_made (map (lowering_of hosts) f.body) is here.block start in
      let body = body_typed f.body scope r.0 s.0 s.1 is calls here.block start sound (parameters_shown f.parameters m [] r.0 [] ks r.1 tt h) in
      let gives = expr_typed hosts f.gives scope s.0 t.0 t.1 is calls p.names here p.made body.sound body.shows in
      let q = (lowering hosts f.gives).run is p.names here p.made in
      then_makes m p.made q f.kind body.grows (subst (λ (k : Kind). Makes p.made q k) (sym (is_wanted f.at_return f.kind t.0 u t.2)) gives)

  pub functions_typed : (fs : List Function) (ps hs : Names) (before after : Named Signature) → functions_check ps hs before fs ≡ Ok after → (is : Named Inlining) → Calls before is → Calls after (in_text_order (inlining_of hosts) is fs)
  functions_typed [] ps hs before after e is calls = subst (λ (z : Named Signature). Calls z is) (ok_is before after e) calls
  functions_typed (f ∷ fs) ps hs before after e is calls =
      let scope : Scope = record { principals = ps; hosts = hs; functions = before; later = function_names (f ∷ fs) } in
      let r = passed (is_new f.name before) (λ fresh. and_then (function_check scope f) (λ done. functions_check ps hs (before ++ (f.name.name, signature_of f) ∷ []) fs)) after e in
      let s = passed (function_check scope f) (λ done. functions_check ps hs (before ++ (f.name.name, signature_of f) ∷ []) fs) after r.2 in
      functions_typed fs ps hs (before ++ (f.name.name, signature_of f) ∷ []) after s.2 (is ++ (f.name.name, inlining_of hosts f is) ∷ [])
      (push_beside FitsCall before is f.name.name (signature_of f) (inlining_of hosts f is) calls (function_typed f scope s.0 s.1 is calls))
