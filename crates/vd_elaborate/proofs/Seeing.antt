-- Each slot of a let-normal form is made before it is named, as what it is used for.
use Rattle.std.proofs.Common.{◌≡◌, ℕ, Bool, true, false, ◌&&◌, ◌||◌, nat_eq, List, [], ◌∷◌, ◌++◌, map, refl, ap, ◌∙◌, rules, arith}
use Rattle.std.specs.List.{list_all, list_any}
use Rattle.vd_base.specs.declared.ids.SlotId.{SlotId}
use Rattle.vd_base.specs.declared.ids.HostId.{HostId}
use Rattle.vd_core.specs.declared.normal.Right.{Right}
use Rattle.vd_core.specs.declared.normal.Right.TheVariants.{Lit, Turn, Copy, Apply, Input, Declassify, Endorse, Load, Get}
use Rattle.vd_core.specs.declared.normal.Slot.{Slot}
use Rattle.vd_core.specs.declared.normal.Stmt.{Stmt, Let, NewVar, NewArray, Store, Put, Output, If, For}
use Rattle.vd_core.specs.declared.normal.Stmt.TheOpen.{Stmt-F}
use Rattle.vd_core.specs.declared.normal.Stmt.TheFolds.{the_lemmas}
use Rattle.vd_core.specs.declared.source.Source.{Source}
use Rattle.vd_core.specs.Facts.{Sight, Seen, Seeing, nothing_seen, is_binding, is_variable, is_array, with_binding, with_variable, with_array, right_sees, seeing_step, seeing, statements_see, SlotsMadeBefore}
use Rattle.vd_elaborate.specs.declared.anf.spot.Spot.{Spot}
use Rattle.vd_elaborate.specs.declared.anf.spot.Spot.TheVariants.{Binding, Variable, Array}
use Rattle.vd_elaborate.specs.Normal.{Made, slot, with_slot, with_stmt, emptied, for_made, normal_form}
use Rattle.vd_elaborate.proofs.Laws.{AllHere, IsFine, with_if, block_more, turned, Laws}
use Rattle.vd_elaborate.proofs.AnfWellformedWalk.{main_keeps}
use Rattle.vd_elaborate.proofs.Plain.{always, source_always}

abbrev sees : Sight → Spot → Bool
sees sight (Binding k) = is_binding sight (slot k)
sees sight (Variable k) = is_variable sight (slot k)
sees sight (Array k) = is_array sight (slot k)

-- whatever is in the one sight is in the other
abbrev Within : Sight → Sight → Type 0
Within a b = (p : Spot) → sees a p ≡ true → sees b p ≡ true

equal : (n : ℕ) → nat_eq n n ≡ true
equal n = grind arith

or_true : (a b : Bool) → b ≡ true → (a || b) ≡ true
or_true true b e = refl
or_true false b e = e

newest : (k : ℕ) (ks : List ℕ) → list_any (nat_eq k) (k ∷ ks) ≡ true
newest k ks = rw (equal k) refl

within_binding : (x : SlotId) (s : Sight) → Within s (with_binding x s)
within_binding x s (Binding k) h = or_true (nat_eq k x.0) (is_binding s (slot k)) h
within_binding x s (Variable k) h = h
within_binding x s (Array k) h = h

within_variable : (x : SlotId) (s : Sight) → Within s (with_variable x s)
within_variable x s (Binding k) h = h
within_variable x s (Variable k) h = or_true (nat_eq k x.0) (is_variable s (slot k)) h
within_variable x s (Array k) h = h

within_array : (x : SlotId) (s : Sight) → Within s (with_array x s)
within_array x s (Binding k) h = h
within_array x s (Variable k) h = h
within_array x s (Array k) h = or_true (nat_eq k x.0) (is_array s (slot k)) h

and_assoc : (a b c : Bool) → (a && (b && c)) ≡ ((a && b) && c)
and_assoc true b c = refl
and_assoc false b c = refl

see_push : (xs : List Stmt) (x : Stmt) (s : Sight) → ◌≡◌ {A = Seen} (statements_see (xs ++ x ∷ []) s)
    (record { all = (statements_see xs s).all && (seeing x (statements_see xs s).after).all; after = (seeing x (statements_see xs s).after).after })
see_push [] x s = and_end (seeing x s)
  where
    and_end : (t : Seen) → ◌≡◌ {A = Seen} (record { all = t.all && true; after = t.after }) (record { all = true && t.all; after = t.after })
    and_end t = (elim t.all as (λ b. ◌≡◌ {A = Seen} (record { all = b && true; after = t.after }) (record { all = true && b; after = t.after })) [ true ↦ refl | false ↦ refl ])
see_push (y ∷ ys) x s =
    let rest = see_push ys x (seeing y s).after in
    rw (rest, ← and_assoc (seeing y s).all (statements_see ys (seeing y s).after).all (seeing x (statements_see ys (seeing y s).after).after).all) refl

abbrev at : Sight → Made → Sight
at w m = (statements_see m.body w).after

abbrev Here : Sight → Made → Spot → Type 0
Here w m p = sees (at w m) p ≡ true

-- from m to m' all that is named is in sight, and what was in sight stays
record Keeps (w : Sight) (m m' : Made) : Type 0 where
  pub all : (statements_see m.body w).all ≡ true → (statements_see m'.body w).all ≡ true
  pub within : Within (at w m) (at w m')

-- one more statement, of which f says what it sees
push : (x : Stmt) (f : Seeing) → seeing x ≡ f → (w : Sight) (m m' : Made) → m'.body ≡ m.body ++ x ∷ [] → (f (at w m)).all ≡ true → Within (at w m) (f (at w m)).after → Keeps w m m'
push x f is w m m' body ok more =
    let now = statements_see m.body w in
    let seen : ◌≡◌ {A = Seen} (statements_see m'.body w) (record { all = now.all && (f now.after).all; after = (f now.after).after }) =
    ap (λ b. statements_see b w) body ∙ see_push m.body x w ∙ ap (λ (g : Seeing). let s : Seen = record { all = now.all && (g now.after).all; after = (g now.after).after } in s) is in
    record {
      all = λ o. ap (λ (s : Seen). s.all) seen ∙ rw (o, ok) refl;
      within = λ p h. ap (λ (s : Seen). sees s.after p) seen ∙ more p h;
    }

-- what is in sight after it
push_at : (x : Stmt) (f : Seeing) → seeing x ≡ f → (w : Sight) (m m' : Made) → m'.body ≡ m.body ++ x ∷ [] → at w m' ≡ (f (at w m)).after
push_at x f is w m m' body = ap (λ b. (statements_see b w).after) body ∙ ap (λ (s : Seen). s.after) (see_push m.body x w) ∙ ap (λ (g : Seeing). (g (at w m)).after) is

see_let : (k : ℕ) (r : Right) → seeing (Let (slot k) r) ≡ seeing_step (Stmt-F.Let (slot k) r)
see_let k r = search (rules, the_lemmas)

see_var : (v x : ℕ) → seeing (NewVar (slot v) (slot x)) ≡ seeing_step (Stmt-F.NewVar (slot v) (slot x))
see_var v x = search (rules, the_lemmas)

see_array : (v n : ℕ) → seeing (NewArray (slot v) n) ≡ seeing_step (Stmt-F.NewArray (slot v) n)
see_array v n = search (rules, the_lemmas)

see_store : (v x : ℕ) → seeing (Store (slot v) (slot x)) ≡ seeing_step (Stmt-F.Store (slot v) (slot x))
see_store v x = search (rules, the_lemmas)

see_put : (v i x : ℕ) → seeing (Put (slot v) (slot i) (slot x)) ≡ seeing_step (Stmt-F.Put (slot v) (slot i) (slot x))
see_put v i x = search (rules, the_lemmas)

see_output : (x : ℕ) (h : HostId) (offset : ℕ) → seeing (Output (slot x) h offset) ≡ seeing_step (Stmt-F.Output (slot x) h offset)
see_output x h offset = search (rules, the_lemmas)

see_if : (x : ℕ) (a b : List Stmt) (offset : ℕ) → seeing (If (slot x) a b offset) ≡ seeing_step (Stmt-F.If (slot x) (map seeing a) (map seeing b) offset)
see_if x a b offset = search (rules, the_lemmas)

see_for : (n : ℕ) (body : List Stmt) → seeing (For n body) ≡ seeing_step (Stmt-F.For n (map seeing body))
see_for n body = search (rules, the_lemmas)

all_seen : (s : Sight) (xs : List SlotId) → AllHere (λ p. sees s p ≡ true) xs → list_all (is_binding s) xs ≡ true
all_seen s [] h = refl
all_seen s (x ∷ xs) h = rw (h.0, all_seen s xs h.1) refl

fine_sees : (s : Sight) (r : Right) → IsFine always (λ p. sees s p ≡ true) r → right_sees r s ≡ true
fine_sees s (Lit n) h = refl
fine_sees s Turn h = absurd h
fine_sees s (Copy x) h = h
fine_sees s (Apply o xs) h = all_seen s xs h.2
fine_sees s (Input host) h = refl
fine_sees s (Declassify x to) h = h.0
fine_sees s (Endorse x to) h = h.0
fine_sees s (Load v) h = h
fine_sees s (Get v i) h = rw (h.0, h.1) refl

let_keeps : (w : Sight) (m : Made) (entry : Slot) (r : Right) → right_sees r (at w m) ≡ true → Keeps w m (with_slot entry (Let (slot m.next) r) m).1
let_keeps w m entry r h = push (Let (slot m.next) r) (seeing_step (Stmt-F.Let (slot m.next) r)) (see_let m.next r) w m (with_slot entry (Let (slot m.next) r) m).1 refl h (within_binding (slot m.next) (at w m))

let_here : (w : Sight) (m : Made) (entry : Slot) (r : Right) → Here w (with_slot entry (Let (slot m.next) r) m).1 (Binding m.next)
let_here w m entry r =
    rw (push_at (Let (slot m.next) r) (seeing_step (Stmt-F.Let (slot m.next) r)) (see_let m.next r) w m (with_slot entry (Let (slot m.next) r) m).1 refl) (newest m.next (at w m).bindings)

then_keeps : (w : Sight) (m m1 m2 : Made) → Keeps w m m1 → Keeps w m1 m2 → Keeps w m m2
then_keeps w m m1 m2 a b = record { all = λ h. b.all (a.all h); within = λ p h. b.within p (a.within p h) }

if_keeps : (w : Sight) (m : Made) (k offset : ℕ) (a b : Made) → Here w m (Binding k) → Keeps (at w m) (block_more m) a → Keeps (at w m) (emptied a) b → Keeps w m (with_if k offset m a b)
if_keeps w m k offset a b h oa ob =
    push (If (slot k) a.body b.body offset) (seeing_step (Stmt-F.If (slot k) (map seeing a.body) (map seeing b.body) offset)) (see_if k a.body b.body offset) w m (with_if k offset m a b) refl
    (rw (h, oa.all refl, ob.all refl) refl) (λ p i. i)

for_keeps : (w : Sight) (m : Made) (count : ℕ) (entry : Slot) (a : Made) → Keeps (at w m) (turned entry m) a → Keeps w m (for_made count a m)
for_keeps w m count entry a o =
    let inside = then_keeps (at w m) (emptied m) (turned entry m) a (let_keeps (at w m) (emptied m) entry Turn refl) o in
    push (For count a.body) (seeing_step (Stmt-F.For count (map seeing a.body))) (see_for count a.body) w m (for_made count a m) refl (inside.all refl) (λ p i. i)

seeing_laws : Laws always Sight Keeps Here at
seeing_laws = record {
  none = λ w m. record { all = λ h. h; within = λ p h. h };
  after = then_keeps;
  stays = λ w m m' p k h. k.within p h;
  enters = λ w m e p h. h;
  right = λ w m entry r ok fine. let_keeps w m entry r (fine_sees (at w m) r fine);
  right_here = λ w m entry r fine. let_here w m entry r;
  variable = λ w m entry k ok h.
      push (NewVar (slot m.next) (slot k)) (seeing_step (Stmt-F.NewVar (slot m.next) (slot k))) (see_var m.next k) w m (with_slot entry (NewVar (slot m.next) (slot k)) m).1 refl h (within_variable (slot m.next) (at w m));
  variable_here = λ w m entry k.
      rw (push_at (NewVar (slot m.next) (slot k)) (seeing_step (Stmt-F.NewVar (slot m.next) (slot k))) (see_var m.next k) w m (with_slot entry (NewVar (slot m.next) (slot k)) m).1 refl) (newest m.next (at w m).variables);
  array = λ w m entry n ok.
      push (NewArray (slot m.next) n) (seeing_step (Stmt-F.NewArray (slot m.next) n)) (see_array m.next n) w m (with_slot entry (NewArray (slot m.next) n) m).1 refl refl (within_array (slot m.next) (at w m));
  array_here = λ w m entry n.
      rw (push_at (NewArray (slot m.next) n) (seeing_step (Stmt-F.NewArray (slot m.next) n)) (see_array m.next n) w m (with_slot entry (NewArray (slot m.next) n) m).1 refl) (newest m.next (at w m).arrays);
  renamed = λ w m k x label ok. record { all = λ h. h; within = λ p h. h };
  stores = λ w m v k a b.
      push (Store (slot v) (slot k)) (seeing_step (Stmt-F.Store (slot v) (slot k))) (see_store v k) w m (with_stmt (Store (slot v) (slot k)) m) refl (rw (a, b) refl) (λ p h. h);
  puts = λ w m v i k a b c.
      push (Put (slot v) (slot i) (slot k)) (seeing_step (Stmt-F.Put (slot v) (slot i) (slot k))) (see_put v i k) w m (with_stmt (Put (slot v) (slot i) (slot k)) m) refl (rw (a, b, c) refl) (λ p h. h);
  outputs = λ w m k host offset a ok.
      push (Output (slot k) host offset) (seeing_step (Stmt-F.Output (slot k) host offset)) (see_output k host offset) w m (with_stmt (Output (slot k) host offset) m) refl a (λ p h. h);
  branches = if_keeps;
  loops = λ w m count entry a ok o. for_keeps w m count entry a o;
  turn_here = λ w m entry. let_here (at w m) (emptied m) entry Turn;
  turn_stays = λ w m entry p h. (let_keeps (at w m) (emptied m) entry Turn refl).within p h;
}

pub made_before : (source : Source) → SlotsMadeBefore (normal_form source)
made_before source = (main_keeps always Sight Keeps Here at seeing_laws source (source_always source) nothing_seen).all refl
