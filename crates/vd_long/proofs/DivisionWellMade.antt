-- A program with loops in the place of divisions is well made.
use Rattle.std.proofs.Common.{◌≡◌, ◌⊎◌, inl, inr, ℕ, zero, suc, ◌+◌, max, nat_eq, nat_le, Bool, true, false, true≢false, ◌&&◌, ◌||◌, if◌then◌else◌, List, [], ◌∷◌, ◌++◌, length, map, refl, sym, ap, ◌∙◌, subst, arith}
use Rattle.std.specs.List.{list_all, list_any}
use Rattle.std.proofs.lemmas.Bool.{and_parts, leb-true, eq-eqb, eqb-true}
use Rattle.std.proofs.lemmas.List.Sums.{list_all-from_AllPass}
use Rattle.vd_base.specs.Words.{IsWord}
use Rattle.vd_base.specs.declared.ids.SlotId.{SlotId}
use Rattle.vd_base.specs.declared.operations.Kind.{Kind}
use Rattle.vd_base.specs.declared.operations.Kind.TheVariants.{Word}
use Rattle.vd_base.specs.declared.operations.Op.{Op}
use Rattle.vd_base.specs.Limits.{most_statements, most_weights, most_nesting}
use Rattle.vd_core.specs.declared.normal.Right.{Right}
use Rattle.vd_core.specs.declared.normal.Right.TheVariants.{Lit, Turn, Copy, Apply, Input, Declassify, Endorse, Load, Get}
use Rattle.vd_core.specs.declared.normal.Slot.{Slot}
use Rattle.vd_core.specs.declared.normal.NormalForm.{NormalForm}
use Rattle.vd_core.specs.declared.normal.Stmt.{Stmt, Let, NewVar, Store, For}
use Rattle.vd_core.specs.declared.normal.Stmt.TheFolds.{fold-Stmt}
use Rattle.vd_core.specs.declared.normal.Stmt.TheOpen.{Stmt-F}
use Rattle.vd_core.specs.Facts.{Sight, Seen, is_binding, is_variable, with_binding, with_variable, right_sees, seeing, seeing_step, slots_of, slots_made, cells_of, nesting_of, nesting, statement_count, weight_sum, of_rights, operands_fit, shift_fits, right_is_declared, host_is_declared, blocks_meet, turns_step, IsWellMade}
use Rattle.vd_rewrite.specs.Rewriting.{Made, slot, entry_of, in_block, unnamed, fresh, moved, emptied, kept_let}
use Rattle.vd_long.specs.Template.{place_at, placed_slot, placed_right}
use Rattle.vd_core.specs.Numbers.{numbers_fit}
use Rattle.vd_long.specs.Lengthened.{kind_of_right, step_made, steps_made, looped, Template, quotient_template, remainder_template, template_made, long_let, nothing_hidden, with_long_divisions, some_lengthened, lengthened}
use Rattle.vd_rewrite.specs.Rewriting.{with_new}
use Rattle.vd_rewrite.proofs.Front.{length_push, Known, either_of, or_later, more_none, more_binding, more_variable, slots_push, cells_push, nesting_push, count_push, all_push, Makes, makes_none, makes_both, makes_stmt, makes_kept, makes_deeper, slots_let, slots_var, slots_store, slots_for, cells_let, cells_var, cells_store, cells_for, nest_let, nest_var, nest_store, nest_for, some_count, count_for, Looks, all_mapped, kept_keeps, test_let, test_var, test_store, test_for, Shows, shows_fewer, shows_binding, sight, SightAdds as Adds, stmt_adds, adds_none, adds_both, sight_let_adds as let_adds, see_let, see_var, see_store, see_for, LetsFit, kept_fits, entry_passes, item_passes, operands_look, shifts_look, declared_look, hosts_look, turns_look, rewritten_well_made}
use Rattle.vd_long.proofs.Numbers.{Words}
use Rattle.vd_long.proofs.DivisionMade.{IsDivision, TemplateLaw, operands_seen, long_cases, long_laws}

-- ---- slots in order

-- the steps of a template make the slots i + 2, i + 3, and so on, and are Lets, NewVars and Stores
abbrev pub steps_follow : ℕ → List (Stmt-F Stmt) → Bool
steps_follow i [] = true
steps_follow i (Stmt-F.Let p r ∷ ss) = nat_eq p.0 (suc (suc i)) && steps_follow (suc i) ss
steps_follow i (Stmt-F.NewVar p j ∷ ss) = nat_eq p.0 (suc (suc i)) && steps_follow (suc i) ss
steps_follow i (Stmt-F.NewArray p n ∷ ss) = false
steps_follow i (Stmt-F.Store p j ∷ ss) = steps_follow i ss
steps_follow i (Stmt-F.Put p j q ∷ ss) = false
steps_follow i (Stmt-F.Output p h o ∷ ss) = false
steps_follow i (Stmt-F.If p a b o ∷ ss) = false
steps_follow i (Stmt-F.For n b ∷ ss) = false

abbrev pub news : List (Stmt-F Stmt) → ℕ
news [] = 0
news (Stmt-F.Let p r ∷ ss) = suc (news ss)
news (Stmt-F.NewVar p j ∷ ss) = suc (news ss)
news (Stmt-F.NewArray p n ∷ ss) = news ss
news (Stmt-F.Store p j ∷ ss) = news ss
news (Stmt-F.Put p j q ∷ ss) = news ss
news (Stmt-F.Output p h o ∷ ss) = news ss
news (Stmt-F.If p a b o ∷ ss) = news ss
news (Stmt-F.For n b ∷ ss) = news ss

module _ (pass : Slot → Bool) (fresh_passes : (kind : Kind) (offset block : ℕ) → pass (fresh kind offset block) ≡ true) (n a b offset block : ℕ) where
  abbrev at : ℕ → ℕ
  at = place_at n a b

  new_makes : (m : Made) (kind : Kind) (x : Stmt) → slots_of x ≡ m.next ∷ [] → cells_of x ≡ 0 → nesting_of x ≡ 0 → Makes pass m (with_new (fresh kind offset block) x m) 0 0
  new_makes m kind x is c e =
      record {
        count = 1;
        next = refl;
        entries = length_push m.slots (fresh kind offset block);
        slots = slots_push m.body x ∙ ap (λ z. slots_made m.body ++ z) is;
        passes = λ h. all_push pass m.slots (fresh kind offset block) h (fresh_passes kind offset block);
        cells = let p = cells_push m.body x in omega arith;
        nest = let p = nesting_push m.body x in omega arith;
        more = omega arith;
        few = let p = count_push m.body x in let q = some_count x in omega arith;
      }

  follows : (i : ℕ) (p : SlotId) (m : Made) → nat_eq p.0 (suc (suc i)) ≡ true → m.next ≡ n + i → at p.0 ∷ [] ≡ m.next ∷ []
  follows i p m e is = ap (λ (z : ℕ). z ∷ []) (ap at (eqb-true p.0 (suc (suc i)) e) ∙ sym is)

  steps_make : (ss : List (Stmt-F Stmt)) (i : ℕ) (m : Made) → steps_follow i ss ≡ true → m.next ≡ n + i → Makes pass m (steps_made at offset block ss m) 0 0 × ((steps_made at offset block ss m).next ≡ n + (i + news ss))
  steps_make [] i m ok is = (makes_none pass m, is ∙ omega arith)
  steps_make (Stmt-F.Let p r ∷ ss) i m ok is =
      let h = and_parts (nat_eq p.0 (suc (suc i))) (steps_follow (suc i) ss) ok in
      let x = Let (placed_slot at p) (placed_right at r) in
      let m1 = step_made at offset block (Stmt-F.Let p r) m in
      let one = new_makes m (kind_of_right r) x (slots_let (placed_slot at p) (placed_right at r) ∙ follows i p m h.0 is) (cells_let (placed_slot at p) (placed_right at r)) (nest_let (placed_slot at p) (placed_right at r)) in
      let rest = steps_make ss (suc i) m1 h.1 (omega (arith, is)) in
      let e = rest.1 in
      (makes_both pass m m1 (steps_made at offset block ss m1) 0 0 0 0 one rest.0, omega (arith, e))
  steps_make (Stmt-F.NewVar p j ∷ ss) i m ok is =
      let h = and_parts (nat_eq p.0 (suc (suc i))) (steps_follow (suc i) ss) ok in
      let x = NewVar (placed_slot at p) (placed_slot at j) in
      let m1 = step_made at offset block (Stmt-F.NewVar p j) m in
      let one = new_makes m Word x (slots_var (placed_slot at p) (placed_slot at j) ∙ follows i p m h.0 is) (cells_var (placed_slot at p) (placed_slot at j)) (nest_var (placed_slot at p) (placed_slot at j)) in
      let rest = steps_make ss (suc i) m1 h.1 (omega (arith, is)) in
      let e = rest.1 in
      (makes_both pass m m1 (steps_made at offset block ss m1) 0 0 0 0 one rest.0, omega (arith, e))
  steps_make (Stmt-F.Store p j ∷ ss) i m ok is =
      let v = placed_slot at p in
      let w = placed_slot at j in
      let m1 = step_made at offset block (Stmt-F.Store p j) m in
      let one = makes_stmt pass m (Store v w) (slots_store v w) (cells_store v w) (nest_store v w) in
      let rest = steps_make ss i m1 ok is in
      (makes_both pass m m1 (steps_made at offset block ss m1) 0 0 0 0 one rest.0, rest.1)
  steps_make (Stmt-F.NewArray p k ∷ ss) i m ok is = absurd (true≢false (sym ok))
  steps_make (Stmt-F.Put p j q ∷ ss) i m ok is = absurd (true≢false (sym ok))
  steps_make (Stmt-F.Output p h o ∷ ss) i m ok is = absurd (true≢false (sym ok))
  steps_make (Stmt-F.If p a' b' o ∷ ss) i m ok is = absurd (true≢false (sym ok))
  steps_make (Stmt-F.For k b' ∷ ss) i m ok is = absurd (true≢false (sym ok))

  loop_makes : (ss : List (Stmt-F Stmt)) (i : ℕ) (m : Made) → steps_follow i ss ≡ true → m.next ≡ n + i → Makes pass m (looped at offset block ss m) 0 1 × ((looped at offset block ss m).next ≡ n + (i + news ss))
  loop_makes ss i m ok is =
      let inner = steps_made at offset block ss (emptied m) in
      let r = steps_make ss i (emptied m) ok is in
      let x = r.0 in (
        record {
          count = x.count;
          next = x.next;
          entries = x.entries;
          slots = slots_push m.body (For 32 inner.body) ∙ ap (λ z. slots_made m.body ++ z) (slots_for 32 inner.body ∙ x.slots);
          passes = x.passes;
          cells = let c = cells_push m.body (For 32 inner.body) in let d = cells_for 32 inner.body in let c1 = x.cells in omega arith;
          nest = let c = nesting_push m.body (For 32 inner.body) in let d = nest_for 32 inner.body in let c1 = x.nest in omega arith;
          more = x.more;
          few = let w = count_push m.body (For 32 inner.body) in let w' = count_for 32 inner.body in let c1 = x.few in omega arith;
        },
        r.1,
      )

-- the numbers of a template's slots
pub record InOrder (t : Template) : Type 0 where
  pub start : steps_follow 0 t.start ≡ true
  pub turn : steps_follow (news t.start) t.turn ≡ true
  pub behind : steps_follow (news t.start + news t.turn) t.behind ≡ true

pub template_makes : (pass : Slot → Bool) → ((kind : Kind) (offset block : ℕ) → pass (fresh kind offset block) ≡ true) → (t : Template) → InOrder t → (old : List Slot) (x : SlotId) (a b block : ℕ) (m : Made)
    → pass (in_block block (entry_of old x)) ≡ true → Makes pass m (template_made t old x a b block m) 0 1
template_makes pass fresh_passes t order old x a b block m ok =
    let at = place_at m.next a b in
    let offset = (entry_of old x).offset in
    let m1 = steps_made at offset block t.start m in
    let m2 = looped at offset block t.turn m1 in
    let m3 = steps_made at offset block t.behind m2 in
    let r1 = steps_make pass fresh_passes m.next a b offset block t.start 0 m order.start (omega arith) in
    let e1 = r1.1 in
    let r2 = loop_makes pass fresh_passes m.next a b offset block t.turn (news t.start) m1 order.turn (omega (arith, e1)) in
    let e2 = r2.1 in
    let r3 = steps_make pass fresh_passes m.next a b offset block t.behind (news t.start + news t.turn) m2 order.behind (omega (arith, e2)) in
    let last = Let (slot m3.next) (placed_right at t.last) in
    let final = makes_kept pass m3 (in_block block (entry_of old x)) last 0 ok (slots_let (slot m3.next) (placed_right at t.last)) (cells_let (slot m3.next) (placed_right at t.last)) (nest_let (slot m3.next) (placed_right at t.last)) in
    makes_deeper pass m (template_made t old x a b block m) 0 (max 0 (max 1 (max 0 0))) 1 (omega arith)
    (makes_both pass m m1 (template_made t old x a b block m) 0 0 0 (max 1 (max 0 0)) r1.0
    (makes_both pass m1 m2 (template_made t old x a b block m) 0 0 1 (max 0 0) r2.0 (makes_both pass m2 m3 (template_made t old x a b block m) 0 0 0 0 r3.0 final)))

-- ---- tests

abbrev pub step_passes : (Stmt-F Bool → Bool) → (ℕ → ℕ) → Stmt-F Stmt → Bool
step_passes test at (Stmt-F.Let p r) = test (Stmt-F.Let (placed_slot at p) (placed_right at r))
step_passes test at (Stmt-F.NewVar p j) = test (Stmt-F.NewVar (placed_slot at p) (placed_slot at j))
step_passes test at (Stmt-F.NewArray p k) = true
step_passes test at (Stmt-F.Store p j) = test (Stmt-F.Store (placed_slot at p) (placed_slot at j))
step_passes test at (Stmt-F.Put p j q) = true
step_passes test at (Stmt-F.Output p h o) = true
step_passes test at (Stmt-F.If p a b o) = true
step_passes test at (Stmt-F.For k b) = true

abbrev pub steps_pass : (Stmt-F Bool → Bool) → (ℕ → ℕ) → List (Stmt-F Stmt) → Bool
steps_pass test at [] = true
steps_pass test at (x ∷ xs) = step_passes test at x && steps_pass test at xs

pub record Passes (test : Stmt-F Bool → Bool) (t : Template) : Type 0 where
  pub start : (at : ℕ → ℕ) → steps_pass test at t.start ≡ true
  pub turn : (at : ℕ → ℕ) → steps_pass test at t.turn ≡ true
  pub behind : (at : ℕ → ℕ) → steps_pass test at t.behind ≡ true
  pub last : (at : ℕ → ℕ) (to : SlotId) → test (Stmt-F.Let to (placed_right at t.last)) ≡ true
  pub loop : (bs : List Bool) → list_all (λ b. b) bs ≡ true → test (Stmt-F.For 32 bs) ≡ true

module _ (test : Stmt-F Bool → Bool) (looks : Looks test) (at : ℕ → ℕ) (offset block : ℕ) where
  abbrev ok : List Stmt → Bool
  ok body = list_all (fold-Stmt Bool test) body

  step_keeps : (x : Stmt-F Stmt) (m : Made) → step_passes test at x ≡ true → ok m.body ≡ true → ok (step_made at offset block x m).body ≡ true
  step_keeps (Stmt-F.Let p r) m h k = kept_keeps test looks (Let (placed_slot at p) (placed_right at r)) m.body (test_let test looks (placed_slot at p) (placed_right at r) ∙ h) k
  step_keeps (Stmt-F.NewVar p j) m h k = kept_keeps test looks (NewVar (placed_slot at p) (placed_slot at j)) m.body (test_var test looks (placed_slot at p) (placed_slot at j) ∙ h) k
  step_keeps (Stmt-F.NewArray p n) m h k = k
  step_keeps (Stmt-F.Store p j) m h k = kept_keeps test looks (Store (placed_slot at p) (placed_slot at j)) m.body (test_store test looks (placed_slot at p) (placed_slot at j) ∙ h) k
  step_keeps (Stmt-F.Put p j q) m h k = k
  step_keeps (Stmt-F.Output p h' o) m h k = k
  step_keeps (Stmt-F.If p a b o) m h k = k
  step_keeps (Stmt-F.For n b) m h k = k

  steps_keep : (ss : List (Stmt-F Stmt)) (m : Made) → steps_pass test at ss ≡ true → ok m.body ≡ true → ok (steps_made at offset block ss m).body ≡ true
  steps_keep [] m h k = k
  steps_keep (x ∷ ss) m h k =
      let p = and_parts (step_passes test at x) (steps_pass test at ss) h in steps_keep ss (step_made at offset block x m) p.1 (step_keeps x m p.0 k)

  loop_keeps : ((bs : List Bool) → list_all (λ b. b) bs ≡ true → test (Stmt-F.For 32 bs) ≡ true) → (ss : List (Stmt-F Stmt)) (m : Made) → steps_pass test at ss ≡ true → ok m.body ≡ true → ok (looped at offset block ss m).body ≡ true
  loop_keeps loop ss m h k =
      let inner = steps_made at offset block ss (emptied m) in
      kept_keeps test looks (For 32 inner.body) m.body (test_for test looks 32 inner.body ∙ loop (map (fold-Stmt Bool test) inner.body) (all_mapped test looks inner.body (steps_keep ss (emptied m) h refl))) k

template_passes : (test : Stmt-F Bool → Bool) (looks : Looks test) (t : Template) → Passes test t → (old : List Slot) (x : SlotId) (a b block : ℕ) (m : Made)
    → list_all (fold-Stmt Bool test) m.body ≡ true → list_all (fold-Stmt Bool test) (template_made t old x a b block m).body ≡ true
template_passes test looks t p old x a b block m h =
    let at = place_at m.next a b in
    let offset = (entry_of old x).offset in
    let m1 = steps_made at offset block t.start m in
    let m2 = looped at offset block t.turn m1 in
    let m3 = steps_made at offset block t.behind m2 in
    kept_keeps test looks (Let (slot m3.next) (placed_right at t.last)) m3.body (test_let test looks (slot m3.next) (placed_right at t.last) ∙ p.last at (slot m3.next))
    (steps_keep test looks at offset block t.behind m2 (p.behind at) (loop_keeps test looks at offset block p.loop t.turn m1 (p.turn at) (steps_keep test looks at offset block t.start m (p.start at) h)))

-- ---- sight

-- what a template sees, at the new numbers
pub record ShowsAt (at : ℕ → ℕ) (seen new : Sight) : Type 0 where
  pub bindings : (k : ℕ) → is_binding seen (slot k) ≡ true → is_binding new (slot (at k)) ≡ true
  pub variables : (k : ℕ) → is_variable seen (slot k) ≡ true → is_variable new (slot (at k)) ≡ true

self_seen : (k : ℕ) (list : List ℕ) → list_any (nat_eq k) (k ∷ list) ≡ true
self_seen k list = ap (λ z. z || list_any (nat_eq k) list) (eq-eqb k k refl)

push_seen : (at : ℕ → ℕ) (p : ℕ) (seens news' : List ℕ) → ((k : ℕ) → list_any (nat_eq k) seens ≡ true → list_any (nat_eq (at k)) news' ≡ true) → (k : ℕ) → list_any (nat_eq k) (p ∷ seens) ≡ true → list_any (nat_eq (at k)) (at p ∷ news') ≡ true
push_seen at p seens news' f k h = by (either_of (nat_eq k p) (list_any (nat_eq k) seens) h)
  where
    by : (nat_eq k p ≡ true) ⊎ (list_any (nat_eq k) seens ≡ true) → list_any (nat_eq (at k)) (at p ∷ news') ≡ true
    by (inl e) = subst (λ z. list_any (nat_eq (at z)) (at p ∷ news') ≡ true) (sym (eqb-true k p e)) (self_seen (at p) news')
    by (inr e) = or_later (nat_eq (at k) (at p)) (list_any (nat_eq (at k)) news') (f k e)

operands_placed : (at : ℕ → ℕ) (seen new : Sight) (xs : List SlotId) → ShowsAt at seen new → list_all (is_binding seen) xs ≡ true → list_all (is_binding new) (map (placed_slot at) xs) ≡ true
operands_placed at seen new [] h ok = refl
operands_placed at seen new (x ∷ xs) h ok =
    let p = and_parts (is_binding seen x) (list_all (is_binding seen) xs) ok in rw (h.bindings x.0 p.0, operands_placed at seen new xs h p.1) refl

-- right sides of templates
abbrev is_simple : Right → Bool
is_simple (Lit n) = true
is_simple Turn = false
is_simple (Copy x) = true
is_simple (Apply o xs) = true
is_simple (Input h) = false
is_simple (Declassify x to) = false
is_simple (Endorse x to) = false
is_simple (Load v) = true
is_simple (Get v i) = false

right_placed : (at : ℕ → ℕ) (seen new : Sight) (r : Right) → ShowsAt at seen new → is_simple r ≡ true → right_sees r seen ≡ true → right_sees (placed_right at r) new ≡ true
right_placed at seen new (Lit n) h s ok = refl
right_placed at seen new Turn h s ok = absurd (true≢false (sym s))
right_placed at seen new (Copy x) h s ok = h.bindings x.0 ok
right_placed at seen new (Apply o xs) h s ok = operands_placed at seen new xs h ok
right_placed at seen new (Input host) h s ok = absurd (true≢false (sym s))
right_placed at seen new (Declassify x to) h s ok = absurd (true≢false (sym s))
right_placed at seen new (Endorse x to) h s ok = absurd (true≢false (sym s))
right_placed at seen new (Load v) h s ok = h.variables v.0 ok
right_placed at seen new (Get v i) h s ok = absurd (true≢false (sym s))

-- what is in sight of a template after its steps, if each names what is in sight
abbrev pub step_seen : Stmt-F Stmt → Sight → Seen
step_seen (Stmt-F.Let p r) seen = record { all = is_simple r && right_sees r seen; after = with_binding p seen }
step_seen (Stmt-F.NewVar p j) seen = record { all = is_binding seen j; after = with_variable p seen }
step_seen (Stmt-F.NewArray p n) seen = record { all = false; after = seen }
step_seen (Stmt-F.Store p j) seen = record { all = is_variable seen p && is_binding seen j; after = seen }
step_seen (Stmt-F.Put p j q) seen = record { all = false; after = seen }
step_seen (Stmt-F.Output p h o) seen = record { all = false; after = seen }
step_seen (Stmt-F.If p a b o) seen = record { all = false; after = seen }
step_seen (Stmt-F.For n b) seen = record { all = false; after = seen }

abbrev pub steps_seen : List (Stmt-F Stmt) → Sight → Seen
steps_seen [] seen = record { all = true; after = seen }
steps_seen (x ∷ xs) seen =
    let one = step_seen x seen in
    let rest = steps_seen xs one.after in
    record { all = one.all && rest.all; after = rest.after }

abbrev pub operands_only : Sight
operands_only = record { bindings = 1 ∷ 0 ∷ []; variables = []; arrays = [] }

pub record Sees (t : Template) : Type 0 where
  pub start : (steps_seen t.start operands_only).all ≡ true
  pub turn : (steps_seen t.turn (steps_seen t.start operands_only).after).all ≡ true
  pub behind : (steps_seen t.behind (steps_seen t.start operands_only).after).all ≡ true
  pub last : (is_simple t.last && right_sees t.last (steps_seen t.behind (steps_seen t.start operands_only).after).after) ≡ true

module _ (at : ℕ → ℕ) (offset block : ℕ) where
  step_sees : (x : Stmt-F Stmt) (m : Made) (seen start : Sight) → (step_seen x seen).all ≡ true → (sight m start).all ≡ true → ShowsAt at seen (sight m start).after
      → Adds m (step_made at offset block x m) start × ShowsAt at (step_seen x seen).after (sight (step_made at offset block x m) start).after
  step_sees (Stmt-F.Let p r) m seen start ok all shows =
      let new = (sight m start).after in
      let h = and_parts (is_simple r) (right_sees r seen) ok in
      let m' = step_made at offset block (Stmt-F.Let p r) m in
      let x = placed_slot at p in
      let st = stmt_adds m m' (Let x (placed_right at r)) (seeing_step (Stmt-F.Let x (placed_right at r))) start refl (see_let x (placed_right at r)) all (right_placed at seen new r shows h.0 h.1) (more_binding x new) in
      (st.0, subst (λ (z : Sight). ShowsAt at (with_binding p seen) z) (sym st.1) (record { bindings = push_seen at p.0 seen.bindings new.bindings shows.bindings; variables = shows.variables }))
  step_sees (Stmt-F.NewVar p j) m seen start ok all shows =
      let new = (sight m start).after in
      let m' = step_made at offset block (Stmt-F.NewVar p j) m in
      let v = placed_slot at p in
      let w = placed_slot at j in
      let st = stmt_adds m m' (NewVar v w) (seeing_step (Stmt-F.NewVar v w)) start refl (see_var v w) all (shows.bindings j.0 ok) (more_variable v new) in
      (st.0, subst (λ (z : Sight). ShowsAt at (with_variable p seen) z) (sym st.1) (record { bindings = shows.bindings; variables = push_seen at p.0 seen.variables new.variables shows.variables }))
  step_sees (Stmt-F.Store p j) m seen start ok all shows =
      let new = (sight m start).after in
      let h = and_parts (is_variable seen p) (is_binding seen j) ok in
      let m' = step_made at offset block (Stmt-F.Store p j) m in
      let v = placed_slot at p in
      let w = placed_slot at j in
      let st = stmt_adds m m' (Store v w) (seeing_step (Stmt-F.Store v w)) start refl (see_store v w) all (rw (shows.variables p.0 h.0, shows.bindings j.0 h.1) refl) (more_none new) in
      (st.0, subst (λ (z : Sight). ShowsAt at seen z) (sym st.1) shows)
  step_sees (Stmt-F.NewArray p n) m seen start ok all shows = absurd (true≢false (sym ok))
  step_sees (Stmt-F.Put p j q) m seen start ok all shows = absurd (true≢false (sym ok))
  step_sees (Stmt-F.Output p h o) m seen start ok all shows = absurd (true≢false (sym ok))
  step_sees (Stmt-F.If p a b o) m seen start ok all shows = absurd (true≢false (sym ok))
  step_sees (Stmt-F.For n b) m seen start ok all shows = absurd (true≢false (sym ok))

  steps_see : (ss : List (Stmt-F Stmt)) (m : Made) (seen start : Sight) → (steps_seen ss seen).all ≡ true → (sight m start).all ≡ true → ShowsAt at seen (sight m start).after
      → Adds m (steps_made at offset block ss m) start × ShowsAt at (steps_seen ss seen).after (sight (steps_made at offset block ss m) start).after
  steps_see [] m seen start ok all shows = (adds_none m start all, shows)
  steps_see (x ∷ ss) m seen start ok all shows =
      let h = and_parts (step_seen x seen).all (steps_seen ss (step_seen x seen).after).all ok in
      let m1 = step_made at offset block x m in
      let one = step_sees x m seen start h.0 all shows in
      let rest = steps_see ss m1 (step_seen x seen).after start h.1 one.0.all one.1 in
      (adds_both m m1 (steps_made at offset block ss m1) start one.0 rest.0, rest.1)

  loop_sees : (ss : List (Stmt-F Stmt)) (m : Made) (seen start : Sight) → (steps_seen ss seen).all ≡ true → (sight m start).all ≡ true → ShowsAt at seen (sight m start).after
      → Adds m (looped at offset block ss m) start × ShowsAt at seen (sight (looped at offset block ss m) start).after
  loop_sees ss m seen start ok all shows =
      let new = (sight m start).after in
      let inner = steps_made at offset block ss (emptied m) in
      let one = steps_see ss (emptied m) seen new ok refl shows in
      let st = stmt_adds m (looped at offset block ss m) (For 32 inner.body) (seeing_step (Stmt-F.For 32 (map seeing inner.body))) start refl (see_for 32 inner.body) all one.0.all (more_none new) in
      (st.0, subst (λ (z : Sight). ShowsAt at seen z) (sym st.1) shows)

shows_operands : (next a b : ℕ) (new : Sight) → is_binding new (slot a) ≡ true → is_binding new (slot b) ≡ true → ShowsAt (place_at next a b) operands_only new
shows_operands next a b new ha hb = record { bindings = at; variables = λ k h. absurd (true≢false (sym h)) }
  where
    at : (k : ℕ) → is_binding operands_only (slot k) ≡ true → is_binding new (slot (place_at next a b k)) ≡ true
    at zero h = ha
    at (suc zero) h = hb
    at (suc (suc k)) h = by (either_of (nat_eq (suc (suc k)) 1) (list_any (nat_eq (suc (suc k))) (0 ∷ [])) h)
      where
        by : (nat_eq (suc (suc k)) 1 ≡ true) ⊎ (list_any (nat_eq (suc (suc k))) (0 ∷ []) ≡ true) → is_binding new (slot (place_at next a b (suc (suc k)))) ≡ true
        by (inl e) = let z = eqb-true (suc (suc k)) 1 e in absurd (omega (arith, z))
        by (inr e) = last (either_of (nat_eq (suc (suc k)) 0) false e)
          where
            last : (nat_eq (suc (suc k)) 0 ≡ true) ⊎ (false ≡ true) → is_binding new (slot (place_at next a b (suc (suc k)))) ≡ true
            last (inl e') = let z = eqb-true (suc (suc k)) 0 e' in absurd (omega (arith, z))
            last (inr e') = absurd (true≢false (sym e'))

template_sees : (t : Template) (o : Op) (count : ℕ) → TemplateLaw t o count → Sees t → (old : List Slot) (x : SlotId) (a b : SlotId) (block : ℕ) (m : Made) (seen start : Sight) → Known (length m.table) seen → x.0 ≡ length m.table → is_binding seen a ≡ true → is_binding seen b ≡ true
    → (sight m start).all ≡ true → Shows m.table seen (sight m start).after
    → let m' = template_made t old x (moved m.table a).0 (moved m.table b).0 block m in Adds m m' start × Shows m'.table (with_binding x seen) (sight m' start).after
template_sees t o count law sees old x a b block m seen start known is sa sb all shows =
    let a' = (moved m.table a).0 in
    let b' = (moved m.table b).0 in
    let at = place_at m.next a' b' in
    let offset = (entry_of old x).offset in
    let m1 = steps_made at offset block t.start m in
    let m2 = looped at offset block t.turn m1 in
    let m3 = steps_made at offset block t.behind m2 in
    let new = (sight m start).after in
    let s1 = (steps_seen t.start operands_only).after in
    let r1 = steps_see at offset block t.start m operands_only start sees.start all (shows_operands m.next a' b' new (shows.bindings a.0 sa) (shows.bindings b.0 sb)) in
    let r2 = loop_sees at offset block t.turn m1 s1 start sees.turn r1.0.all r1.1 in
    let r3 = steps_see at offset block t.behind m2 s1 start sees.behind r2.0.all r2.1 in
    let three = adds_both m m1 m3 start r1.0 (adds_both m1 m2 m3 start r2.0 r3.0) in
    let new3 = (sight m3 start).after in
    let h = and_parts (is_simple t.last) (right_sees t.last (steps_seen t.behind s1).after) sees.last in
    let last = let_adds (in_block block (entry_of old x)) (placed_right at t.last) m3 start three.all (right_placed at (steps_seen t.behind s1).after new3 t.last r3.1 h.0 h.1) in
    let e = law.table at offset block m in
    let shows3 = shows_fewer m.table m.table (length m.table) seen seen new new3 known (λ k lt. refl) (more_none seen) three.more shows in (
      adds_both m m3 (template_made t old x a' b' block m) start three last.0,
      subst (λ (z : Sight). Shows (m3.table ++ m3.next ∷ []) (with_binding x seen) z) (sym last.1)
          (subst (λ (z : List ℕ). Shows (z ++ m3.next ∷ []) (with_binding x seen) (with_binding (slot m3.next) new3)) (sym e) (shows_binding m.table m3.next seen new3 x is known shows3)),
    )

-- ---- the templates themselves

pub record Fits (t : Template) (principals : List (List ℕ)) (hosts : ℕ) : Type 0 where
  pub order : InOrder t
  pub operands : Passes (λ s. of_rights operands_fit s && blocks_meet s) t
  pub shifts : Passes (λ s. of_rights shift_fits s && blocks_meet s) t
  pub rights : Passes (λ s. of_rights (right_is_declared principals) s && blocks_meet s) t
  pub known : Passes (λ s. host_is_declared hosts s && blocks_meet s) t
  pub turns : Passes turns_step t
  pub sees : Sees t

quotient_fits : (principals : List (List ℕ)) (hosts : ℕ) → Fits quotient_template principals hosts
quotient_fits principals hosts =
    record {
      order = record { start = refl; turn = refl; behind = refl };
      operands = record { start = λ at. refl; turn = λ at. refl; behind = λ at. refl; last = λ at to. refl; loop = λ bs h. h };
      shifts = record { start = λ at. refl; turn = λ at. refl; behind = λ at. refl; last = λ at to. refl; loop = λ bs h. h };
      rights = record { start = λ at. refl; turn = λ at. refl; behind = λ at. refl; last = λ at to. refl; loop = λ bs h. h };
      known = record { start = λ at. refl; turn = λ at. refl; behind = λ at. refl; last = λ at to. refl; loop = λ bs h. h };
      turns = record { start = λ at. refl; turn = λ at. refl; behind = λ at. refl; last = λ at to. refl; loop = λ bs h. refl };
      sees = record { start = refl; turn = refl; behind = refl; last = refl };
    }

remainder_fits : (principals : List (List ℕ)) (hosts : ℕ) → Fits remainder_template principals hosts
remainder_fits principals hosts =
    record {
      order = record { start = refl; turn = refl; behind = refl };
      operands = record { start = λ at. refl; turn = λ at. refl; behind = λ at. refl; last = λ at to. refl; loop = λ bs h. h };
      shifts = record { start = λ at. refl; turn = λ at. refl; behind = λ at. refl; last = λ at to. refl; loop = λ bs h. h };
      rights = record { start = λ at. refl; turn = λ at. refl; behind = λ at. refl; last = λ at to. refl; loop = λ bs h. h };
      known = record { start = λ at. refl; turn = λ at. refl; behind = λ at. refl; last = λ at to. refl; loop = λ bs h. h };
      turns = record { start = λ at. refl; turn = λ at. refl; behind = λ at. refl; last = λ at to. refl; loop = λ bs h. refl };
      sees = record { start = refl; turn = refl; behind = refl; last = refl };
    }

-- ---- the whole program

-- a division of two operands has a template that fits
pub fits_all : (principals : List (List ℕ)) (hosts : ℕ) (r : Right) → (d : IsDivision r) → (d.template ≡ quotient_template) ⊎ (d.template ≡ remainder_template) → Fits d.template principals hosts
fits_all principals hosts r d (inl e) = subst (λ (t : Template). Fits t principals hosts) (sym e) (quotient_fits principals hosts)
fits_all principals hosts r d (inr e) = subst (λ (t : Template). Fits t principals hosts) (sym e) (remainder_fits principals hosts)

long_fits : (lengthens : SlotId → Bool) (old : List Slot) (principals : List (List ℕ)) (hosts : ℕ) → list_all (entry_passes principals) old ≡ true → LetsFit (long_let lengthens old) principals hosts 1
long_fits lengthens old principals hosts pass =
    let kept = kept_fits old principals hosts pass in
    let fits : (r : Right) (d : IsDivision r) → Fits d.template principals hosts = λ r d. fits_all principals hosts r d d.which in
    record {
      makes = λ x r block m.
          long_cases lengthens old (λ (m' : Made). Makes (entry_passes principals) m m' 0 1) x r block m (makes_deeper (entry_passes principals) m (kept_let old x r block m) 0 0 1 (omega arith) (kept.makes x r block m))
          (λ d. template_makes (entry_passes principals) (λ k o b. refl) d.template (fits r d).order old x (moved m.table d.a).0 (moved m.table d.b).0 block m (item_passes (entry_passes principals) old unnamed x.0 pass refl));
      operands = λ x r block m ok h.
          long_cases lengthens old (λ (m' : Made). list_all (fold-Stmt Bool (λ s. of_rights operands_fit s && blocks_meet s)) m'.body ≡ true) x r block m (kept.operands x r block m ok h)
          (λ d. template_passes (λ s. of_rights operands_fit s && blocks_meet s) operands_look d.template (fits r d).operands old x (moved m.table d.a).0 (moved m.table d.b).0 block m h);
      shifts = λ x r block m ok h.
          long_cases lengthens old (λ (m' : Made). list_all (fold-Stmt Bool (λ s. of_rights shift_fits s && blocks_meet s)) m'.body ≡ true) x r block m (kept.shifts x r block m ok h)
          (λ d. template_passes (λ s. of_rights shift_fits s && blocks_meet s) shifts_look d.template (fits r d).shifts old x (moved m.table d.a).0 (moved m.table d.b).0 block m h);
      rights = λ x r block m ok h.
          long_cases lengthens old (λ (m' : Made). list_all (fold-Stmt Bool (λ s. of_rights (right_is_declared principals) s && blocks_meet s)) m'.body ≡ true) x r block m (kept.rights x r block m ok h)
          (λ d. template_passes (λ s. of_rights (right_is_declared principals) s && blocks_meet s) (declared_look principals) d.template (fits r d).rights old x (moved m.table d.a).0 (moved m.table d.b).0 block m h);
      known = λ x r block m ok h.
          long_cases lengthens old (λ (m' : Made). list_all (fold-Stmt Bool (λ s. host_is_declared hosts s && blocks_meet s)) m'.body ≡ true) x r block m (kept.known x r block m ok h)
          (λ d. template_passes (λ s. host_is_declared hosts s && blocks_meet s) (hosts_look hosts) d.template (fits r d).known old x (moved m.table d.a).0 (moved m.table d.b).0 block m h);
      turns = λ x r block m ok h.
          long_cases lengthens old (λ (m' : Made). list_all (fold-Stmt Bool turns_step) m'.body ≡ true) x r block m (kept.turns x r block m ok h)
          (λ d. template_passes turns_step turns_look d.template (fits r d).turns old x (moved m.table d.a).0 (moved m.table d.b).0 block m h);
      sees = λ x r block m seen start known is sees all shows.
          long_cases lengthens old (λ (m' : Made). Adds m m' start × Shows m'.table (with_binding x seen) (sight m' start).after) x r block m (kept.sees x r block m seen start known is sees all shows)
          (λ d. let both = operands_seen r d seen sees in template_sees d.template d.op d.count d.law (fits r d).sees old x d.a d.b block m seen start known is both.0 both.1 all shows);
    }

pub lengthened_well_made : (lengthens : SlotId → Bool) (program : NormalForm) → IsWellMade program → IsWellMade (lengthened lengthens program)
lengthened_well_made lengthens program well =
    by (some_lengthened lengthens program.body) (nat_le (statement_count (with_long_divisions lengthens program).body) most_statements) (nat_le (weight_sum (with_long_divisions lengthens program).body) most_weights)
    (nat_le (nesting (with_long_divisions lengthens program).body) most_nesting) refl refl refl
  where
    by : (c a b d : Bool) → nat_le (statement_count (with_long_divisions lengthens program).body) most_statements ≡ a → nat_le (weight_sum (with_long_divisions lengthens program).body) most_weights ≡ b
        → nat_le (nesting (with_long_divisions lengthens program).body) most_nesting ≡ d → IsWellMade (if c && ((a && b) && d) then with_long_divisions lengthens program else program)
    by true true true true ea eb ed =
        rewritten_well_made nothing_hidden (long_let lengthens program.slots) ⊥ IsWord Words numbers_fit (long_laws lengthens program.slots) program well 1
        (long_fits lengthens program.slots program.principals (length program.hosts) (list_all-from_AllPass (entry_passes program.principals) program.slots well.known_principals.slots))
        (λ le. leb-true (nesting (with_long_divisions lengthens program).body) most_nesting ed) (leb-true (statement_count (with_long_divisions lengthens program).body) most_statements ea)
        (leb-true (weight_sum (with_long_divisions lengthens program).body) most_weights eb)
    by true true true false ea eb ed = well
    by true true false d ea eb ed = well
    by true false b d ea eb ed = well
    by false a b d ea eb ed = well
