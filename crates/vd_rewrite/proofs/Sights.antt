-- What a program made anew names is in sight.
use Rattle.std.proofs.Common.{◌≡◌, ◌⊎◌, inl, inr, ℕ, ◌<◌, nat_eq, Bool, true, false, ◌||◌, List, [], ◌∷◌, ◌++◌, length, map, slice_index, refl, sym, ap, ◌∙◌, subst, rules}
use Rattle.std.specs.List.{list_all, list_any}
use Rattle.std.proofs.lemmas.Bool.{and_parts, eqb-true, eq-eqb}
use Rattle.vd_base.specs.declared.ids.SlotId.{SlotId}
use Rattle.vd_base.specs.declared.ids.HostId.{HostId}
use Rattle.vd_base.specs.declared.operations.Kind.{Kind}
use Rattle.vd_core.specs.declared.normal.Right.{Right}
use Rattle.vd_core.specs.declared.normal.Right.TheVariants.{Lit, Turn, Copy, Apply, Input, Declassify, Endorse, Load, Get}
use Rattle.vd_core.specs.declared.normal.Slot.{Slot}
use Rattle.vd_core.specs.declared.normal.Stmt.{Stmt, Let, NewVar, NewArray, Store, Put, Output, If, For}
use Rattle.vd_core.specs.declared.normal.Stmt.TheFolds.{the_lemmas}
use Rattle.vd_core.specs.declared.normal.Stmt.TheOpen.{Stmt-F}
use Rattle.vd_core.specs.Facts.{Sight, Seen, Seeing, is_binding, is_variable, is_array, with_binding, with_variable, with_array, right_sees, seeing_step, seeing_all, seeing}
use Rattle.vd_rewrite.specs.declared.guard.Guard.{Guard}
use Rattle.vd_rewrite.specs.Rewriting.{Made, slot, fresh, moved, moved_right, with_stmt, with_kept, with_fresh, selection, selected, stored}
use Rattle.vd_rewrite.proofs.Stores.{item_old, item_last}
use Rattle.vd_rewrite.proofs.Tables.{Known, either_of, or_later}
use Rattle.vd_rewrite.proofs.Agree.{More, more_none, more_both, more_binding}

-- each new number is in the new sight what the old one is in the old
pub record Shows (table : List ℕ) (seen new : Sight) : Type 0 where
  pub bindings : (k : ℕ) → is_binding seen (slot k) ≡ true → is_binding new (slot (slice_index table k)) ≡ true
  pub variables : (k : ℕ) → is_variable seen (slot k) ≡ true → is_variable new (slot (slice_index table k)) ≡ true
  pub arrays : (k : ℕ) → is_array seen (slot k) ≡ true → is_array new (slot (slice_index table k)) ≡ true

pub shows_fewer : (table table' : List ℕ) (n : ℕ) (seen later new new' : Sight) → Known n seen → ((k : ℕ) → k < n → slice_index table' k ≡ slice_index table k) → More seen later → More new new' → Shows table later new → Shows table' seen new'
shows_fewer table table' n seen later new new' known same more more' h =
    record {
      bindings = λ k b. subst (λ z. is_binding new' (slot z) ≡ true) (sym (same k (known.bindings k b))) (more'.bindings (slice_index table k) (h.bindings k (more.bindings k b)));
      variables = λ k b. subst (λ z. is_variable new' (slot z) ≡ true) (sym (same k (known.variables k b))) (more'.variables (slice_index table k) (h.variables k (more.variables k b)));
      arrays = λ k b. subst (λ z. is_array new' (slot z) ≡ true) (sym (same k (known.arrays k b))) (more'.arrays (slice_index table k) (h.arrays k (more.arrays k b)));
    }

self_seen : (k : ℕ) (list : List ℕ) → list_any (nat_eq k) (k ∷ list) ≡ true
self_seen k list = ap (λ z. z || list_any (nat_eq k) list) (eq-eqb k k refl)

-- one thing more, at the next number
module _ (table : List ℕ) (next : ℕ) (seen new : Sight) (x : SlotId) (is : x.0 ≡ length table) (known : Known (length table) seen) (h : Shows table seen new) where
  abbrev table' : List ℕ
  table' = table ++ next ∷ []

  there : (k : ℕ) → nat_eq k x.0 ≡ true → slice_index table' k ≡ next
  there k e = ap (λ z. slice_index table' z) (eqb-true k x.0 e ∙ is) ∙ item_last table next

  push : (seens news : List ℕ) → ((k : ℕ) → list_any (nat_eq k) seens ≡ true → k < length table) → ((k : ℕ) → list_any (nat_eq k) seens ≡ true → list_any (nat_eq (slice_index table k)) news ≡ true)
      → (k : ℕ) → list_any (nat_eq k) (x.0 ∷ seens) ≡ true → list_any (nat_eq (slice_index table' k)) (next ∷ news) ≡ true
  push seens news low f k b = at (either_of (nat_eq k x.0) (list_any (nat_eq k) seens) b)
    where
      at : (nat_eq k x.0 ≡ true) ⊎ (list_any (nat_eq k) seens ≡ true) → list_any (nat_eq (slice_index table' k)) (next ∷ news) ≡ true
      at (inl e) = subst (λ z. list_any (nat_eq z) (next ∷ news) ≡ true) (sym (there k e)) (self_seen next news)
      at (inr e) =
          subst (λ z. list_any (nat_eq z) (next ∷ news) ≡ true) (sym (item_old table next k (low k e))) (or_later (nat_eq (slice_index table k) next) (list_any (nat_eq (slice_index table k)) news) (f k e))

  same : (seens news : List ℕ) → ((k : ℕ) → list_any (nat_eq k) seens ≡ true → k < length table) → ((k : ℕ) → list_any (nat_eq k) seens ≡ true → list_any (nat_eq (slice_index table k)) news ≡ true)
      → (k : ℕ) → list_any (nat_eq k) seens ≡ true → list_any (nat_eq (slice_index table' k)) news ≡ true
  same seens news low f k b = subst (λ z. list_any (nat_eq z) news ≡ true) (sym (item_old table next k (low k b))) (f k b)

  pub shows_binding : Shows table' (with_binding x seen) (with_binding (slot next) new)
  shows_binding = record { bindings = push seen.bindings new.bindings known.bindings h.bindings; variables = same seen.variables new.variables known.variables h.variables; arrays = same seen.arrays new.arrays known.arrays h.arrays }

  pub shows_variable : Shows table' (with_variable x seen) (with_variable (slot next) new)
  shows_variable = record { bindings = same seen.bindings new.bindings known.bindings h.bindings; variables = push seen.variables new.variables known.variables h.variables; arrays = same seen.arrays new.arrays known.arrays h.arrays }

  pub shows_array : Shows table' (with_array x seen) (with_array (slot next) new)
  shows_array = record { bindings = same seen.bindings new.bindings known.bindings h.bindings; variables = same seen.variables new.variables known.variables h.variables; arrays = push seen.arrays new.arrays known.arrays h.arrays }

operands_see : (table : List ℕ) (seen new : Sight) (xs : List SlotId) → Shows table seen new → list_all (is_binding seen) xs ≡ true → list_all (is_binding new) (map (moved table) xs) ≡ true
operands_see table seen new [] h ok = refl
operands_see table seen new (x ∷ xs) h ok =
    let p = and_parts (is_binding seen x) (list_all (is_binding seen) xs) ok in rw (h.bindings x.0 p.0, operands_see table seen new xs h p.1) refl

pub right_still : (table : List ℕ) (seen new : Sight) (r : Right) → Shows table seen new → right_sees r seen ≡ true → right_sees (moved_right table r) new ≡ true
right_still table seen new (Lit n) h ok = refl
right_still table seen new Turn h ok = refl
right_still table seen new (Copy x) h ok = h.bindings x.0 ok
right_still table seen new (Apply o xs) h ok = operands_see table seen new xs h ok
right_still table seen new (Input host) h ok = refl
right_still table seen new (Declassify x to) h ok = h.bindings x.0 ok
right_still table seen new (Endorse x to) h ok = h.bindings x.0 ok
right_still table seen new (Load v) h ok = h.variables v.0 ok
right_still table seen new (Get v i) h ok =
    let p = and_parts (is_array seen v) (is_binding seen i) ok in rw (h.arrays v.0 p.0, h.bindings i.0 p.1) refl

-- what is seen of a list of statements so far
abbrev pub sight : Made → Sight → Seen
sight m start = seeing_all (map seeing m.body) start

-- from m to m' everything is in sight, and no less than before
pub record Adds (m m' : Made) (start : Sight) : Type 0 where
  pub all : (sight m' start).all ≡ true
  pub more : More (sight m start).after (sight m' start).after

see_push : (xs : List Stmt) (x : Stmt) (start : Sight) → (seeing_all (map seeing xs) start).all ≡ true → (seeing x (seeing_all (map seeing xs) start).after).all ≡ true → (seeing_all (map seeing (xs ++ x ∷ [])) start).all ≡ true
see_push [] x start h h' = rw h' refl
see_push (y ∷ ys) x start h h' =
    let p = and_parts (seeing y start).all (seeing_all (map seeing ys) (seeing y start).after).all h in
    rw (p.0, see_push ys x (seeing y start).after p.1 h') refl

see_after : (xs : List Stmt) (x : Stmt) (start : Sight) → (seeing_all (map seeing (xs ++ x ∷ [])) start).after ≡ (seeing x (seeing_all (map seeing xs) start).after).after
see_after [] x start = refl
see_after (y ∷ ys) x start = see_after ys x (seeing y start).after

-- a statement more, which sees what it names and leaves this sight
pub stmt_adds : (m m' : Made) (x : Stmt) (v : Seeing) (start : Sight) → m'.body ≡ m.body ++ x ∷ [] → seeing x ≡ v → (sight m start).all ≡ true → (v (sight m start).after).all ≡ true → More (sight m start).after (v (sight m start).after).after
    → Adds m m' start × ((sight m' start).after ≡ (v (sight m start).after).after)
stmt_adds m m' x v start body is all ok more =
    let b = ap (λ (z : List Stmt). (seeing_all (map seeing z) start).all) body in
    let a = ap (λ (z : List Stmt). (seeing_all (map seeing z) start).after) body in
    let e : (sight m' start).after ≡ (v (sight m start).after).after = a ∙ see_after m.body x start ∙ ap (λ (z : Seeing). (z (sight m start).after).after) is in (
      record { all = b ∙ see_push m.body x start all (ap (λ (z : Seeing). (z (sight m start).after).all) is ∙ ok); more = subst (λ (z : Sight). More (sight m start).after z) (sym e) more },
      e,
    )

pub see_let : (x : SlotId) (r : Right) → seeing (Let x r) ≡ seeing_step (Stmt-F.Let x r)
see_let x r = search (rules, the_lemmas)

pub see_var : (v x : SlotId) → seeing (NewVar v x) ≡ seeing_step (Stmt-F.NewVar v x)
see_var v x = search (rules, the_lemmas)

pub see_array : (v : SlotId) (n : ℕ) → seeing (NewArray v n) ≡ seeing_step (Stmt-F.NewArray v n)
see_array v n = search (rules, the_lemmas)

pub see_store : (v x : SlotId) → seeing (Store v x) ≡ seeing_step (Stmt-F.Store v x)
see_store v x = search (rules, the_lemmas)

pub see_put : (v i x : SlotId) → seeing (Put v i x) ≡ seeing_step (Stmt-F.Put v i x)
see_put v i x = search (rules, the_lemmas)

pub see_output : (x : SlotId) (h : HostId) (offset : ℕ) → seeing (Output x h offset) ≡ seeing_step (Stmt-F.Output x h offset)
see_output x h offset = search (rules, the_lemmas)

pub see_if : (x : SlotId) (a b : List Stmt) (offset : ℕ) → seeing (If x a b offset) ≡ seeing_step (Stmt-F.If x (map seeing a) (map seeing b) offset)
see_if x a b offset = search (rules, the_lemmas)

pub see_for : (n : ℕ) (body : List Stmt) → seeing (For n body) ≡ seeing_step (Stmt-F.For n (map seeing body))
see_for n body = search (rules, the_lemmas)

pub adds_none : (m : Made) (start : Sight) → (sight m start).all ≡ true → Adds m m start
adds_none m start h = record { all = h; more = more_none (sight m start).after }

pub adds_both : (m m1 m2 : Made) (start : Sight) → Adds m m1 start → Adds m1 m2 start → Adds m m2 start
adds_both m m1 m2 start a b = record { all = b.all; more = more_both (sight m start).after (sight m1 start).after (sight m2 start).after a.more b.more }

-- a new slot
fresh_adds : (entry : Slot) (r : Right) (m : Made) (start : Sight) → (sight m start).all ≡ true → right_sees r (sight m start).after ≡ true
    → Adds m (with_fresh entry r m) start × ((sight (with_fresh entry r m) start).after ≡ with_binding (slot m.next) (sight m start).after)
fresh_adds entry r m start all ok = stmt_adds m (with_fresh entry r m) (Let (slot m.next) r) (seeing_step (Stmt-F.Let (slot m.next) r)) start refl (see_let (slot m.next) r) all ok (more_binding (slot m.next) (sight m start).after)

-- a kept one
pub let_adds : (entry : Slot) (r : Right) (m : Made) (start : Sight) → (sight m start).all ≡ true → right_sees r (sight m start).after ≡ true
    → Adds m (with_kept entry (Let (slot m.next) r) m) start × ((sight (with_kept entry (Let (slot m.next) r) m) start).after ≡ with_binding (slot m.next) (sight m start).after)
let_adds entry r m start all ok = stmt_adds m (with_kept entry (Let (slot m.next) r) m) (Let (slot m.next) r) (seeing_step (Stmt-F.Let (slot m.next) r)) start refl (see_let (slot m.next) r) all ok (more_binding (slot m.next) (sight m start).after)

abbrev pub GuardsIn : Sight → List Guard → Type 0
GuardsIn new [] = Unit {0}
GuardsIn new (g ∷ gs) = (is_binding new g.slot ≡ true) × GuardsIn new gs

pub guards_more : (new new' : Sight) (gs : List Guard) → More new new' → GuardsIn new gs → GuardsIn new' gs
guards_more new new' [] more h = tt
guards_more new new' (g ∷ gs) more h = (more.bindings g.slot.0 h.0, guards_more new new' gs more h.1)

pub guards_push : (new : Sight) (gs : List Guard) (g : Guard) → is_binding new g.slot ≡ true → GuardsIn new gs → GuardsIn new (gs ++ g ∷ [])
guards_push new [] g is h = (is, tt)
guards_push new (g' ∷ gs) g is h = (h.0, guards_push new gs g is h.1)

choice_sees : (new : Sight) (first : Bool) (g y o : SlotId) → is_binding new g ≡ true → is_binding new y ≡ true → is_binding new o ≡ true → right_sees (selection first g y o) new ≡ true
choice_sees new true g y o a b c = rw (a, b, c) refl
choice_sees new false g y o a b c = rw (a, b, c) refl

selected_adds : (kind : Kind) (block : ℕ) (v : SlotId) (gs : List Guard) (y : SlotId) (m : Made) (start : Sight) → (sight m start).all ≡ true → is_variable (sight m start).after v ≡ true → is_binding (sight m start).after y ≡ true
    → GuardsIn (sight m start).after gs → Adds m (selected kind block v gs y m).1 start × (is_binding (sight (selected kind block v gs y m).1 start).after (selected kind block v gs y m).0 ≡ true)
selected_adds kind block v [] y m start all sv sy sg = (adds_none m start all, sy)
selected_adds kind block v (g ∷ gs) y m start all sv sy sg =
    let p = selected kind block v gs y m in
    let r = selected_adds kind block v gs y m start all sv sy sg.1 in
    let entry = fresh kind g.offset block in
    let one = with_fresh entry (Load v) p.1 in
    let two = with_fresh entry (selection g.first g.slot p.0 (slot p.1.next)) one in
    let s1 = (sight p.1 start).after in
    let a = fresh_adds entry (Load v) p.1 start r.0.all (r.0.more.variables v.0 sv) in
    let s2 = (sight one start).after in
    let new : is_binding s2 p.0 ≡ true = a.0.more.bindings p.0.0 r.1 in
    let old : is_binding s2 (slot p.1.next) ≡ true = subst (λ (z : Sight). is_binding z (slot p.1.next) ≡ true) (sym a.1) (self_seen p.1.next s1.bindings) in
    let guard : is_binding s2 g.slot ≡ true = a.0.more.bindings g.slot.0 (r.0.more.bindings g.slot.0 sg.0) in
    let b = fresh_adds entry (selection g.first g.slot p.0 (slot p.1.next)) one start a.0.all (choice_sees s2 g.first g.slot p.0 (slot p.1.next) guard new old) in (
      adds_both m p.1 two start r.0 (adds_both p.1 one two start a.0 b.0),
      subst (λ (z : Sight). is_binding z (slot one.next) ≡ true) (sym b.1) (self_seen one.next s2.bindings),
    )

pub stored_adds : (kind : Kind) (block : ℕ) (v : SlotId) (gs : List Guard) (y : SlotId) (m : Made) (start : Sight) → (sight m start).all ≡ true → is_variable (sight m start).after v ≡ true → is_binding (sight m start).after y ≡ true
    → GuardsIn (sight m start).after gs → Adds m (stored kind block v gs y m) start
stored_adds kind block v gs y m start all sv sy sg =
    let p = selected kind block v gs y m in
    let r = selected_adds kind block v gs y m start all sv sy sg in
    let s1 = (sight p.1 start).after in
    let a = stmt_adds p.1 (with_stmt (Store v p.0) p.1) (Store v p.0) (seeing_step (Stmt-F.Store v p.0)) start refl (see_store v p.0) r.0.all (rw (r.0.more.variables v.0 sv, r.1) refl) (more_none s1) in
    adds_both m p.1 (with_stmt (Store v p.0) p.1) start r.0 a.0
