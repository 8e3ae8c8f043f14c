-- Each statement of a program whose rules hold is made anew with labels at which the rules hold.
use Rattle.std.proofs.Common.{◌≡◌, ℕ, ◌+◌, ◌<◌, ◌≤◌, Bool, true, false, true≢false, ◌&&◌, ◌||◌, if◌then◌else◌, List, [], ◌∷◌, ◌++◌, Option, map, length, slice_get, slice_index, refl, sym, ap, ◌∙◌, subst, subst₂, arith}
use Rattle.std.specs.Prelude.{All}
use Rattle.std.proofs.lemmas.Bool.{and_parts}
use Rattle.std.proofs.lemmas.List.{length-append}
use Rattle.std.proofs.lemmas.List.Elements.{All-append}
use Rattle.vd_base.specs.declared.ids.SlotId.{SlotId}
use Rattle.vd_base.specs.declared.ids.HostId.{HostId}
use Rattle.vd_core.specs.declared.normal.NormalForm.{NormalForm}
use Rattle.vd_core.specs.declared.normal.Right.{Right}
use Rattle.vd_core.specs.declared.normal.Slot.{Slot as Entry}
use Rattle.vd_core.specs.declared.normal.Stmt.{Stmt, Let, NewVar, NewArray, Store, Put, Output, If, For, roll-Stmt, map-Stmt, ind-Stmt}
use Rattle.vd_core.specs.declared.normal.Stmt.TheFolds.{fold-roll-Stmt}
use Rattle.vd_core.specs.declared.normal.Stmt.TheOpen.{Stmt-F}
use Rattle.vd_core.specs.Facts.{Sight, Seeing, is_binding, is_variable, is_array, right_sees, seeing_step, seeing_all, seeing, slots_of, slots_step, slots_made}
use Rattle.vd_formula.specs.declared.label.Label.{Label}
use Rattle.vd_constraints.specs.declared.labels.Labels.{Labels}
use Rattle.vd_constraints.specs.declared.system.Check.{Check}
use Rattle.vd_constraints.specs.declared.system.Lower.{Lower}
use Rattle.vd_constraints.specs.declared.system.Place.{Place}
use Rattle.vd_constraints.specs.declared.system.Place.TheVariants.{Slot, Block}
use Rattle.vd_constraints.specs.Systems.{Constraints, IsLabelOver}
use Rattle.vd_constraints.specs.Satisfies.{label_at, HoldsRule, HoldsCheck}
use Rattle.vd_constraints.specs.Rules.{flows, host_label, written_at, offset_of, right_rules, right_checks, output_rules, output_checks, with_rules, with_checks, with_block, with_optional, with_stored, with_put, with_branch, in_order, stmt_step, with_stmt, with_body}
use Rattle.vd_rewrite.specs.declared.guard.Guard.{Guard}
use Rattle.vd_rewrite.specs.Rewriting.{Made, slot, entry_of, in_block, moved, moved_right, with_stmt as with_step, with_kept, selected, Rewriting, is_some, run_all, guard_of, both_run, emptied, block_more, closed, kept_if, kept_for, is_hidden, kept_let, rewriting_step, rewriting, with_made}
use Rattle.vd_rewrite.proofs.Front.{Placed, Grown, Known, known_later, Counts, counts_split, Laws, Meaning, list_parts, parts, stmt_means, body_means, let_grown, let_adds, let_gives}
use Rattle.vd_cmd_rewrite.proofs.Asked.{each, front, back, Flows, flows_self, flows_on, Outer, outer_of, OutputFits, RightFits, OptionalFits, slot_label, flows_met, flows_of, right_of, Holds, more_rules, fewer_rules, fewer_checks, optional_of, optional_blocks, Step, asks_if, asks_for}
use Rattle.vd_cmd_rewrite.proofs.Labelled.{put, put_here, put_before, put_over, names_over, Over, old, Tied, Final, Later, later_both, final_back, Stands, body_asks, Labelled, labelled_none, labelled_both, goes_push, step_labelled, tied_anyway, later_anyway, final_anyway, later_kept, kept_labelled, written_same, let_asked, var_asked, array_asked, store_asked, put_asked, output_asked, right_moves, GuardsFlow, guards_later, guards_on, guards_more, selected_labelled}

module _ (hides : SlotId → Bool) (p : NormalForm) (l : Labels) (slots_over : (k : ℕ) → k < length p.slots → IsLabelOver (length p.principals) (slot_label l k)) (blocks_over : (b : ℕ) → b < length l.blocks → IsLabelOver (length p.principals) (label_at l (Block b))) where
  abbrev pub the : Stmt → Rewriting
  the = rewriting hides (kept_let p.slots) p.slots

  abbrev own : ℕ → Label
  own k = slot_label l k

  abbrev names : ℕ
  names = length p.principals

  -- how the table grows says nothing of words
  abbrev good : Stmt-F Bool → Bool
  good y = false

  laws : Laws hides (kept_let p.slots) (Unit {0}) (λ n. Unit {0}) (λ s. Unit {0}) good
  laws =
      record {
        grown = λ x r block m placed. let_grown p.slots x r block m placed;
        pure = λ x r block m seen turn s0 pure placed known sees. let_adds p.slots x r block m turn s0 pure;
        gives = λ x r block m seen turn s0 s placed known sees holds agree. let_gives p.slots x r block m seen turn s0 s sees agree;
        keeps = λ x met turn s fine holds. tt;
        fine = λ count body met n lt. tt;
        hidden = λ g h. tt;
        guard = λ u g a b offset met s holds. absurd (true≢false (sym met));
      }

  means : (s : Stmt) → Meaning (Unit {0}) (λ n. Unit {0}) (λ s. Unit {0}) (parts hides (kept_let p.slots) p.slots (Unit {0}) (λ n. Unit {0}) (λ s. Unit {0}) good laws s)
  means = stmt_means hides (kept_let p.slots) p.slots (Unit {0}) (λ n. Unit {0}) (λ s. Unit {0}) good laws

  -- ---- what the old program asks
  pub record Old (c : Constraints) : Type 0 where
    pub holds : Holds l c
    pub blocks : c.blocks ≤ length l.blocks

  old_rules : (rs : List Lower) (c : Constraints) → Old (with_rules rs c) → Old c × All (HoldsRule l) rs
  old_rules rs c o = let f = fewer_rules l rs c o.holds in (record { holds = f.0; blocks = o.blocks }, f.1)

  old_checks : (cs : List Check) (c : Constraints) → Old (with_checks cs c) → Old c × All (HoldsCheck l) cs
  old_checks cs c o = let f = fewer_checks l cs c o.holds in (record { holds = f.0; blocks = o.blocks }, f.1)

  old_optional : (w : Option Label) (x : Place) (offset : ℕ) (c : Constraints) → Old (with_optional w x offset c) → Old c × OptionalFits w (label_at l x)
  old_optional w x offset c o = let f = optional_of l w x offset c o.holds in (record { holds = f.0; blocks = subst (λ (k : ℕ). k ≤ length l.blocks) (optional_blocks w x offset c) o.blocks }, f.1)

  old_let : (x : SlotId) (r : Right) (pc : Place) (c : Constraints) → Old (stmt_step (Stmt-F.Let x r) p pc c) → Old c × OptionalFits (written_at p x) (own x.0) × RightFits p r (label_at l pc) (own x.0) own
  old_let x r pc c o =
      let c1 = with_rules (right_rules p pc x r) c in
      let a = old_optional (written_at p x) (Slot x) (offset_of p x) (with_checks (right_checks p pc x r) c1) o in
      let b = old_checks (right_checks p pc x r) c1 a.0 in
      let d = old_rules (right_rules p pc x r) c b.0 in
      (d.0, a.1, right_of l p pc x r d.1 b.1)

  old_stored : (v y : SlotId) (pc : Place) (c : Constraints) → Old (with_stored pc v y c) → Old c × Flows (own y.0) (own v.0) × Flows (label_at l pc) (own v.0)
  old_stored v y pc c o =
      let d = old_rules (flows (Slot y) (Slot v) ++ flows pc (Slot v)) c o in
      (d.0, flows_of l (Slot y) (Slot v) (front (HoldsRule l) (flows (Slot y) (Slot v)) (flows pc (Slot v)) d.1), flows_of l pc (Slot v) (back (HoldsRule l) (flows (Slot y) (Slot v)) (flows pc (Slot v)) d.1))

  old_var : (v y : SlotId) (pc : Place) (c : Constraints) → Old (stmt_step (Stmt-F.NewVar v y) p pc c) → Old c × OptionalFits (written_at p v) (own v.0) × Flows (own y.0) (own v.0) × Flows (label_at l pc) (own v.0)
  old_var v y pc c o =
      let a = old_optional (written_at p v) (Slot v) (offset_of p v) (with_stored pc v y c) o in
      let b = old_stored v y pc c a.0 in
      (b.0, a.1, b.1, b.2)

  old_array : (v : SlotId) (size : ℕ) (pc : Place) (c : Constraints) → Old (stmt_step (Stmt-F.NewArray v size) p pc c) → Old c × OptionalFits (written_at p v) (own v.0) × Flows (label_at l pc) (own v.0)
  old_array v size pc c o =
      let a = old_optional (written_at p v) (Slot v) (offset_of p v) (with_rules (flows pc (Slot v)) c) o in
      let b = old_rules (flows pc (Slot v)) c a.0 in
      (b.0, a.1, flows_of l pc (Slot v) b.1)

  old_put : (v i y : SlotId) (pc : Place) (c : Constraints) → Old (with_put pc v i y c) → Old c × Flows (own y.0) (own v.0) × Flows (own i.0) (own v.0) × Flows (label_at l pc) (own v.0)
  old_put v i y pc c o =
      let one = flows (Slot y) (Slot v) in
      let two = flows (Slot i) (Slot v) in
      let d = old_rules (one ++ two ++ flows pc (Slot v)) c o in
      let e = front (HoldsRule l) (one ++ two) (flows pc (Slot v)) d.1 in
      (d.0, flows_of l (Slot y) (Slot v) (front (HoldsRule l) one two e), flows_of l (Slot i) (Slot v) (back (HoldsRule l) one two e), flows_of l pc (Slot v) (back (HoldsRule l) (one ++ two) (flows pc (Slot v)) d.1))

  old_output : (y : SlotId) (h : HostId) (offset : ℕ) (pc : Place) (c : Constraints) → Old (stmt_step (Stmt-F.Output y h offset) p pc c) → Old c × OutputFits (host_label p h) (label_at l pc) (own y.0)
  old_output y h offset pc c o =
      let rs = output_rules (host_label p h) pc (Slot y) in
      let cs = output_checks (host_label p h) pc (Slot y) offset in
      let a = old_checks cs (with_rules rs c) o in
      let b = old_rules rs c a.0 in
      let r = each (HoldsRule l) rs b.1 in
      let k = each (HoldsCheck l) cs a.1 in
      (b.0, record { integ = r.0; block = r.1.0; conf = k.0; asked = k.1.0 })

  pub record Branch (x : SlotId) (pc : Place) (c : Constraints) : Type 0 where
    pub before : Old c
    pub guard : Flows (own x.0) (label_at l (Block c.blocks))
    pub around : Flows (label_at l pc) (label_at l (Block c.blocks))
    pub low : c.blocks < length l.blocks

  old_branch : (g : SlotId) (pc : Place) (c : Constraints) → Old (with_branch (Slot g) pc c) → Branch g pc c
  old_branch g pc c o =
      let b = Block c.blocks in
      let d = old_rules (flows (Slot g) b ++ flows pc b) (with_block c) o in
      let more = d.0.blocks in
      record {
        before = record { holds = record { rules = d.0.holds.rules; checks = d.0.holds.checks }; blocks = omega (arith, more) };
        guard = flows_of l (Slot g) b (front (HoldsRule l) (flows (Slot g) b) (flows pc b) d.1);
        around = flows_of l pc b (back (HoldsRule l) (flows (Slot g) b) (flows pc b) d.1);
        low = omega (arith, more);
      }

  -- ---- where new statements are put
  pub record Inside (gs : List Guard) (block : ℕ) (pc : Place) (m : Made) (f g : ℕ → Label) : Type 0 where
    pub low : block < m.blocks
    pub over : IsLabelOver names (label_at l pc)
    pub flow : Flows (g block) (label_at l pc)
    pub guards : GuardsFlow p l m f gs (label_at l pc)

  inside_later : (gs : List Guard) (block : ℕ) (pc : Place) (m m' : Made) (f g f' g' : ℕ → Label) → Later p l m m' f g f' g' → Inside gs block pc m f g → Inside gs block pc m' f' g'
  inside_later gs block pc m m' f g f' g' a h =
      let b = a.blocks in
      let low = h.low in
      record {
        low = omega (arith, b, low);
        over = h.over;
        flow = subst (λ (z : Label). Flows z (label_at l pc)) (sym (a.labels block h.low)) h.flow;
        guards = guards_later p l m m' f g f' g' gs (label_at l pc) a h.guards;
      }

  -- labels for what is made
  pub record Result (block : ℕ) (m m' : Made) (f g : ℕ → Label) : Type 0 where
    pub slots : ℕ → Label
    pub blocks : ℕ → Label
    pub is : Labelled p l block m m' f g slots blocks

  abbrev pub Walks : Rewriting → Seeing → List ℕ → Step → Type 0
  Walks r v xs w = (gs : List Guard) (block : ℕ) (m : Made) (f g : ℕ → Label) (seen : Sight) (pc : Place) (c : Constraints) → Placed m.table m.next → Known (length m.table) seen → Counts (length m.table) xs → length m.table + length xs ≤ length p.slots
      → (v seen).all ≡ true → Tied p l m f g → Inside gs block pc m f g → Old (w p pc c) → Result block m (r.run gs block m) f g

  record Fact (r : Rewriting) (v : Seeing) (xs : List ℕ) (w : Step) : Type 0 where
    pub drops : (pc : Place) (c : Constraints) → Old (w p pc c) → Old c
    pub walks : Walks r v xs w

  abbrev M : Type 0
  M = (s : Stmt) × Fact (the s) (seeing s) (slots_of s) (with_stmt s)

  abbrev stmts : List M → List Stmt
  stmts ms = map (λ (m : M). m.0) ms

  abbrev runs : List M → List Rewriting
  runs ms = map the (stmts ms)

  abbrev sights : List M → List Seeing
  sights ms = map seeing (stmts ms)

  abbrev steps : List M → List Step
  steps ms = map with_stmt (stmts ms)

  all_drop : (ms : List M) (pc : Place) (c : Constraints) → Old (in_order (steps ms) p pc c) → Old c
  all_drop [] pc c o = o
  all_drop (q ∷ ms) pc c o = q.1.drops pc c (all_drop ms pc (with_stmt q.0 p pc c) o)

  all_walk : (ms : List M) (gs : List Guard) (block : ℕ) (m : Made) (f g : ℕ → Label) (seen : Sight) (pc : Place) (c : Constraints) → Placed m.table m.next → Known (length m.table) seen → Counts (length m.table) (slots_made (stmts ms))
      → length m.table + length (slots_made (stmts ms)) ≤ length p.slots → (seeing_all (sights ms) seen).all ≡ true → Tied p l m f g → Inside gs block pc m f g → Old (in_order (steps ms) p pc c) → Result block m (run_all (runs ms) gs block m) f g
  all_walk [] gs block m f g seen pc c placed known counts room sees tied inside o = record { slots = f; blocks = g; is = labelled_none p l block m f g tied }
  all_walk (q ∷ ms) gs block m f g seen pc c placed known counts room sees tied inside o =
      let m1 = (the q.0).run gs block m in
      let m2 = run_all (runs ms) gs block m1 in
      let fact = means q.0 in
      let seen1 = (seeing q.0 seen).after in
      let cs = counts_split (length m.table) (slots_of q.0) (slots_made (stmts ms)) counts in
      let see = and_parts (seeing q.0 seen).all (seeing_all (sights ms) seen1).all sees in
      let grown = fact.grows gs block m placed in
      let size : length m1.table ≡ length m.table + length (slots_of q.0) = grown.size in
      let both = length-append (slots_of q.0) (slots_made (stmts ms)) in
      let room' : length m.table + length (slots_of q.0 ++ slots_made (stmts ms)) ≤ length p.slots = room in
      let c1 = with_stmt q.0 p pc c in
      let one = q.1.walks gs block m f g seen pc c placed known cs.0 (omega (arith, room', both)) see.0 tied inside (all_drop ms pc c1 o) in
      let known1 = subst (λ (z : ℕ). Known z seen1) (sym grown.size) (fact.known (length m.table) seen known cs.0) in
      let two =
      all_walk ms gs block m1 one.slots one.blocks seen1 pc c1 grown.placed known1 (subst (λ (z : ℕ). Counts z (slots_made (stmts ms))) (sym grown.size) cs.1) (omega (arith, room', both, size)) see.1 one.is.tied
      (inside_later gs block pc m m1 f g one.slots one.blocks one.is.later inside) o in
      record { slots = two.slots; blocks = two.blocks; is = labelled_both p l block m m1 m2 f g one.slots one.blocks two.slots two.blocks one.is two.is }

  AllOf : (ms : List M)
      → Meaning (Unit {0}) (λ n. Unit {0}) (λ s. Unit {0}) (list_parts Stmt (parts hides (kept_let p.slots) p.slots (Unit {0}) (λ n. Unit {0}) (λ s. Unit {0}) good laws) (Unit {0}) (λ n. Unit {0}) (λ s. Unit {0}) (stmts ms))
  AllOf ms = body_means hides (kept_let p.slots) p.slots (Unit {0}) (λ n. Unit {0}) (λ s. Unit {0}) good laws (stmts ms)

  -- ---- an If
  module _ (guard : SlotId) (a b : List M) (offset : ℕ) (gs : List Guard) (block : ℕ) (m : Made) (f g : ℕ → Label) (seen : Sight) (pc : Place) (c : Constraints) (placed : Placed m.table m.next) (known : Known (length m.table) seen)
      (counts : Counts (length m.table) (slots_made (stmts a) ++ slots_made (stmts b))) (room : length m.table + length (slots_made (stmts a) ++ slots_made (stmts b)) ≤ length p.slots) (see_g : is_binding seen guard ≡ true)
      (see_a : (seeing_all (sights a) seen).all ≡ true) (see_b : (seeing_all (sights b) seen).all ≡ true) (tied : Tied p l m f g) (inside : Inside gs block pc m f g)
      (asked : Old (in_order (steps b) p (Block c.blocks) (in_order (steps a) p (Block c.blocks) (with_branch (Slot guard) pc c)))) where
    abbrev place : SlotId
    place = moved m.table guard

    abbrev inner : Label
    inner = label_at l (Block c.blocks)

    abbrev c1 : Constraints
    c1 = with_branch (Slot guard) pc c

    abbrev c2 : Constraints
    c2 = in_order (steps a) p (Block c.blocks) c1

    after_a : Old c2
    after_a = all_drop b (Block c.blocks) c2 asked

    branch : Branch guard pc c
    branch = old_branch guard pc c (all_drop a (Block c.blocks) c1 after_a)

    inner_over : IsLabelOver names inner
    inner_over = blocks_over c.blocks branch.low

    cs : Counts (length m.table) (slots_made (stmts a)) × Counts (length m.table + length (slots_made (stmts a))) (slots_made (stmts b))
    cs = counts_split (length m.table) (slots_made (stmts a)) (slots_made (stmts b)) counts

    both : length (slots_made (stmts a) ++ slots_made (stmts b)) ≡ length (slots_made (stmts a)) + length (slots_made (stmts b))
    both = length-append (slots_made (stmts a)) (slots_made (stmts b))

    room_a : length m.table + length (slots_made (stmts a)) ≤ length p.slots
    room_a = omega (arith, room, both)

    place_known : guard.0 < length m.table
    place_known = known.bindings guard.0 see_g

    -- the block around may go where the branch is
    around : Flows (g block) inner
    around = flows_on names (g block) (label_at l pc) inner (tied.blocks_over block inside.low) inside.over inner_over inside.flow branch.around

    told : Flows (f place.0) inner
    told = subst (λ (z : Label). Flows z inner) (sym (tied.same guard.0 place_known)) branch.guard

    inside_branch : (first : Bool) → Inside (gs ++ guard_of first place offset ∷ []) block (Block c.blocks) m f g
    inside_branch first =
        record {
          low = inside.low;
          over = inner_over;
          flow = around;
          guards = guards_more p l m f gs (guard_of first place offset) inner (guards_on p l m f g gs (label_at l pc) inner tied inside.over inner_over branch.around inside.guards) (tied.low guard.0 place_known) told;
        }

    flat_walks : Result block m (both_run place (runs a) (runs b) offset gs block m) f g
    flat_walks =
        let ga = gs ++ guard_of true place offset ∷ [] in
        let gb = gs ++ guard_of false place offset ∷ [] in
        let m1 = run_all (runs a) ga block m in
        let m2 = run_all (runs b) gb block m1 in
        let grown = (AllOf a).grows ga block m placed in
        let size : length m1.table ≡ length m.table + length (slots_made (stmts a)) = grown.size in
        let one = all_walk a ga block m f g seen (Block c.blocks) c1 placed known cs.0 room_a see_a tied (inside_branch true) after_a in
        let known1 = known_later (length m.table) (length m1.table) seen known (omega (arith, size)) in
        let two =
        all_walk b gb block m1 one.slots one.blocks seen (Block c.blocks) c2 grown.placed known1 (subst (λ (z : ℕ). Counts z (slots_made (stmts b))) (sym grown.size) cs.1) (let r = room in let e = both in omega (arith, r, e, size)) see_b one.is.tied
        (inside_later gb block (Block c.blocks) m m1 f g one.slots one.blocks one.is.later (inside_branch false)) asked in
        record { slots = two.slots; blocks = two.blocks; is = labelled_both p l block m m1 m2 f g one.slots one.blocks two.slots two.blocks one.is two.is }

    -- the block of the branches is new
    abbrev g0 : ℕ → Label
    g0 = put g m.blocks inner

    begun_tied : Tied p l (block_more m) f g0
    begun_tied = record { sized = tied.sized; slots_over = tied.slots_over; blocks_over = put_over (Over p l) g m.blocks inner inner_over tied.blocks_over; low = tied.low; same = tied.same }

    begun_later : Later p l m (block_more m) f g f g0
    begun_later = record { next = omega arith; blocks = omega arith; entries = λ k lt. refl; slots = λ k lt. refl; labels = λ k lt. put_before g m.blocks inner k lt }

    begun_inside : Inside [] m.blocks (Block c.blocks) (block_more m) f g0
    begun_inside = record { low = omega arith; over = inner_over; flow = subst (λ (z : Label). Flows z inner) (sym (put_here g m.blocks inner)) (flows_self inner); guards = tt }

    -- the new If asks what holds
    if_asked : (x y : Made) (f1 g1 f2 g2 : ℕ → Label) → Labelled p l m.blocks (block_more m) x f g0 f1 g1 → Labelled p l m.blocks (emptied x) y f1 g1 f2 g2 → (s : Stmt) → s ≡ If place x.body y.body offset → Labelled p l block m (closed m s y) f g f2 g2
    if_asked x y f1 g1 f2 g2 one two s is =
        let m' = closed m s y in
        let to_y : Later p l x y f1 g1 f2 g2 = record { next = two.later.next; blocks = two.later.blocks; entries = two.later.entries; slots = two.later.slots; labels = two.later.labels } in
        let all : Later p l (block_more m) y f g0 f2 g2 = later_both p l (block_more m) x y f g0 f1 g1 f2 g2 one.later to_y in
        let whole : Later p l m y f g f2 g2 = later_both p l m (block_more m) y f g f g0 f2 g2 begun_later all in
        record {
          tied = tied_anyway p l y (m.body ++ s ∷ []) f2 g2 two.tied;
          later = record { next = whole.next; blocks = whole.blocks; entries = whole.entries; slots = whole.slots; labels = whole.labels };
          goes = goes_push p l block m m' s f2 g2 refl (λ last final h sys st.
              let q = with_made p last in
              let hy = final_anyway p l y (m.body ++ s ∷ []) f2 g2 last final h in
              let hx = final_back p l x y f1 g1 f2 g2 last final to_y hy in
              let hb = final_back p l (block_more m) y f g0 f2 g2 last final all hy in
              let sb = with_branch (Slot place) (Block block) sys in
              let new_block : label_at final (Block sys.blocks) ≡ inner = ap (λ (k : ℕ). label_at final (Block k)) st.1 ∙ hb.blocks m.blocks (omega arith) ∙ put_here g m.blocks inner in
              let this_block : label_at final (Block block) ≡ g block = hb.blocks block (let low = inside.low in omega (arith, low)) ∙ put_before g m.blocks inner block inside.low in
              let this_guard : slot_label final place.0 ≡ f place.0 = hb.slots place.0 (tied.low guard.0 place_known) in
              let met =
              All-append (HoldsRule final) (flows (Slot place) (Block sys.blocks)) (flows (Block block) (Block sys.blocks)) (flows_met final (Slot place) (Block sys.blocks) (subst₂ Flows (sym this_guard) (sym new_block) told))
              (flows_met final (Block block) (Block sys.blocks) (subst₂ Flows (sym this_block) (sym new_block) around)) in
              let head : Stands p l final sb (m.blocks + 1) =
              (more_rules final (flows (Slot place) (Block sys.blocks) ++ flows (Block block) (Block sys.blocks)) (with_block sys) (record { rules = st.0.rules; checks = st.0.checks }) met, ap (λ (k : ℕ). k + 1) st.1) in
              let first = one.goes last final hx sb head in
              let second = two.goes last final hy (body_asks p l last m.blocks x.body sb) first in
              let there : Stands p l final (in_order (map with_stmt y.body) q (Block sys.blocks) (in_order (map with_stmt x.body) q (Block sys.blocks) sb)) y.blocks =
              subst (λ (k : ℕ). Stands p l final (in_order (map with_stmt y.body) q (Block k) (in_order (map with_stmt x.body) q (Block k) sb)) y.blocks) (sym st.1) second in
              subst (λ (z : Stmt). Stands p l final (with_stmt z q (Block block) sys) y.blocks) (sym is) (subst (λ (w : Step). Stands p l final (w q (Block block) sys) y.blocks) (sym (asks_if place x.body y.body offset)) there));
        }

    kept_walks : Result block m (kept_if place (runs a) (runs b) offset m) f g
    kept_walks =
        let x = run_all (runs a) [] m.blocks (block_more m) in
        let y = run_all (runs b) [] m.blocks (emptied x) in
        let grown = (AllOf a).grows [] m.blocks (block_more m) placed in
        let size : length x.table ≡ length m.table + length (slots_made (stmts a)) = grown.size in
        let one = all_walk a [] m.blocks (block_more m) f g0 seen (Block c.blocks) c1 placed known cs.0 room_a see_a begun_tied begun_inside after_a in
        let known1 = known_later (length m.table) (length x.table) seen known (omega (arith, size)) in
        let tied1 = tied_anyway p l x [] one.slots one.blocks one.is.tied in
        let later1 = later_anyway p l (block_more m) x [] [] f g0 one.slots one.blocks one.is.later in
        let two =
        all_walk b [] m.blocks (emptied x) one.slots one.blocks seen (Block c.blocks) c2 grown.placed known1 (subst (λ (z : ℕ). Counts z (slots_made (stmts b))) (sym grown.size) cs.1) (let r = room in let e = both in omega (arith, r, e, size)) see_b tied1
        (inside_later [] m.blocks (Block c.blocks) (block_more m) (emptied x) f g0 one.slots one.blocks later1 begun_inside) asked in
        record { slots = two.slots; blocks = two.blocks; is = if_asked x y one.slots one.blocks two.slots two.blocks one.is two.is (If place x.body y.body offset) refl }

    if_walks : (flat : Bool) → Result block m (if flat then both_run place (runs a) (runs b) offset gs block m else kept_if place (runs a) (runs b) offset m) f g
    if_walks true = flat_walks
    if_walks false = kept_walks

  -- ---- a loop
  for_walks : (count : ℕ) (body : List M) (gs : List Guard) (block : ℕ) (m : Made) (f g : ℕ → Label) (seen : Sight) (pc : Place) (c : Constraints) → Placed m.table m.next → Known (length m.table) seen → Counts (length m.table) (slots_made (stmts body))
      → length m.table + length (slots_made (stmts body)) ≤ length p.slots → (seeing_all (sights body) seen).all ≡ true → Tied p l m f g → Inside gs block pc m f g → Old (in_order (steps body) p pc c) → Result block m (kept_for count (runs body) block m) f g
  for_walks count body gs block m f g seen pc c placed known counts room sees tied inside o =
      let x = run_all (runs body) [] block (emptied m) in
      let s = For count x.body in
      let one = all_walk body [] block (emptied m) f g seen pc c placed known counts room sees (tied_anyway p l m [] f g tied) (record { low = inside.low; over = inside.over; flow = inside.flow; guards = tt }) o in
      let a = one.is.later in
      record {
        slots = one.slots;
        blocks = one.blocks;
        is =
            record {
              tied = tied_anyway p l x (m.body ++ s ∷ []) one.slots one.blocks one.is.tied;
              later = record { next = a.next; blocks = a.blocks; entries = a.entries; slots = a.slots; labels = a.labels };
              goes = goes_push p l block m (closed m s x) s one.slots one.blocks refl (λ last final h sys st.
                  subst (λ (w : Step). Stands p l final (w (with_made p last) (Block block) sys) x.blocks) (sym (asks_for count x.body))
                  (one.is.goes last final (final_anyway p l x (m.body ++ s ∷ []) one.slots one.blocks last final h) sys st));
            };
      }

  -- ---- a slot made anew
  module _ (gs : List Guard) (block : ℕ) (m : Made) (f g : ℕ → Label) (pc : Place) (x : SlotId) (is : x.0 ≡ length m.table) (room : length m.table + 1 ≤ length p.slots) (tied : Tied p l m f g) (inside : Inside gs block pc m f g) where
    abbrev label : Label
    label = own (length m.table)

    abbrev entry : Entry
    entry = in_block block (entry_of p.slots x)

    low : x.0 < length p.slots
    low = omega (arith, is, room)

    over : IsLabelOver names label
    over = slots_over (length m.table) (omega (arith, room))

    -- what the end says of what was before
    module _ (s : Stmt) (last : Made) (final : Labels) (h : Final p l (with_kept entry s m) (put f m.next label) g last final) where
      before : Final p l m f g last final
      before = final_back p l m (with_kept entry s m) f g (put f m.next label) g last final (later_kept p l entry s m f g label tied) h

      table_same : (k : ℕ) → k < length m.table → slot_label final (slice_index m.table k) ≡ own k
      table_same k lt = before.slots (slice_index m.table k) (tied.low k lt) ∙ tied.same k lt

      own_same : slot_label final m.next ≡ own x.0
      own_same = h.slots m.next (omega arith) ∙ put_here f m.next label ∙ sym (ap own is)

      block_same : label_at final (Block block) ≡ g block
      block_same = before.blocks block inside.low

      written : OptionalFits (written_at p x) (own x.0) → OptionalFits (written_at (with_made p last) (slot m.next)) (slot_label final m.next)
      written w = subst₂ OptionalFits (sym (written_same p l block x m last tied.sized low (h.entries m.next (omega arith)))) (sym own_same) w

      from_block : Flows (label_at l pc) (own x.0) → Flows (label_at final (Block block)) (slot_label final m.next)
      from_block flow = subst₂ Flows (sym block_same) (sym own_same) (flows_on names (g block) (label_at l pc) (own x.0) (tied.blocks_over block inside.low) inside.over (slots_over x.0 low) inside.flow flow)

    let_walks : (r : Right) (seen : Sight) (c : Constraints) → Known (length m.table) seen → right_sees r seen ≡ true → Old (stmt_step (Stmt-F.Let x r) p pc c) → Result block m (kept_let p.slots x r block m) f g
    let_walks r seen c known sees o =
        let it = old_let x r pc c o in
        let right = moved_right m.table r in
        let s = Let (slot m.next) right in
        let m' = with_kept entry s m in
        record {
          slots = put f m.next label;
          blocks = g;
          is = kept_labelled p l block entry s m f g tied over (let_asked p l block m m' (put f m.next label) g refl (slot m.next) right (λ last final h.
              let outer = subst (λ (z : Label). Outer names z (label_at l pc)) (sym (block_same s last final h)) (outer_of names (g block) (label_at l pc) (tied.blocks_over block inside.low) inside.over inside.flow) in (
                written s last final h it.1,
                subst (λ (z : Label). RightFits (with_made p last) right (label_at final (Block block)) z (slot_label final)) (sym (own_same s last final h))
                    (right_moves p l m.table seen known (slot_label final) (table_same s last final h) (label_at l pc) (label_at final (Block block)) outer (own x.0) r (slots_over x.0 low) sees it.2),
              )));
        }

    var_walks : (y : SlotId) (c : Constraints) → y.0 < length m.table → Old (stmt_step (Stmt-F.NewVar x y) p pc c) → Result block m (with_kept entry (NewVar (slot m.next) (moved m.table y)) m) f g
    var_walks y c ly o =
        let it = old_var x y pc c o in
        let s = NewVar (slot m.next) (moved m.table y) in
        record {
          slots = put f m.next label;
          blocks = g;
          is = kept_labelled p l block entry s m f g tied over (var_asked p l block m (with_kept entry s m) (put f m.next label) g refl (slot m.next) (moved m.table y) (λ last final h.
              (written s last final h it.1, subst₂ Flows (sym (table_same s last final h y.0 ly)) (sym (own_same s last final h)) it.2, from_block s last final h it.3)));
        }

    array_walks : (size : ℕ) (c : Constraints) → Old (stmt_step (Stmt-F.NewArray x size) p pc c) → Result block m (with_kept entry (NewArray (slot m.next) size) m) f g
    array_walks size c o =
        let it = old_array x size pc c o in
        let s = NewArray (slot m.next) size in
        record {
          slots = put f m.next label;
          blocks = g;
          is = kept_labelled p l block entry s m f g tied over (array_asked p l block m (with_kept entry s m) (put f m.next label) g refl (slot m.next) size (λ last final h.
              (written s last final h it.1, from_block s last final h it.2)));
        }

  -- ---- statements without a slot
  module _ (gs : List Guard) (block : ℕ) (m : Made) (f g : ℕ → Label) (pc : Place) (few : length m.table ≤ length p.slots) (tied : Tied p l m f g) (inside : Inside gs block pc m f g) where
    store_walks : (v y : SlotId) (c : Constraints) → v.0 < length m.table → y.0 < length m.table → Old (with_stored pc v y c)
        → let q = selected (entry_of p.slots v).kind block (moved m.table v) gs (moved m.table y) m in Result block m (with_step (Store (moved m.table v) q.0) q.1) f g
    store_walks v y c lv ly o =
        let it = old_stored v y pc c o in
        let x = own v.0 in
        let v' = moved m.table v in
        let over = slots_over v.0 (omega (arith, lv, few)) in
        let q = selected (entry_of p.slots v).kind block v' gs (moved m.table y) m in
        let same = tied.same v.0 lv in
        let r =
        selected_labelled p l (entry_of p.slots v).kind block v' gs (moved m.table y) m f g x over tied (tied.low v.0 lv) same (tied.low y.0 ly) (subst (λ (z : Label). Flows z x) (sym (tied.same y.0 ly)) it.1)
        (guards_on p l m f g gs (label_at l pc) x tied inside.over over it.2 inside.guards) in
        let s = Store v' q.0 in
        let more = r.is.later.next in
        let blocks = r.is.later.blocks in
        let vl = tied.low v.0 lv in
        let bl = inside.low in
        let last_step =
        step_labelled p l block s q.1 r.slots g r.is.tied (store_asked p l block q.1 (with_step s q.1) r.slots g refl v' q.0 (λ last final h.
        let var : slot_label final v'.0 ≡ x = h.slots v'.0 (omega (arith, more, vl)) ∙ r.is.later.slots v'.0 (tied.low v.0 lv) ∙ same in (
          subst₂ Flows (sym (h.slots q.0.0 r.low)) (sym var) r.flow,
          subst₂ Flows (sym (h.blocks block (omega (arith, blocks, bl)))) (sym var) (flows_on names (g block) (label_at l pc) x (tied.blocks_over block inside.low) inside.over over inside.flow it.2),
        ))) in
        record { slots = r.slots; blocks = g; is = labelled_both p l block m q.1 (with_step s q.1) f g r.slots g r.slots g r.is last_step }

    put_walks : (v i y : SlotId) (c : Constraints) → v.0 < length m.table → i.0 < length m.table → y.0 < length m.table → Old (with_put pc v i y c) → Result block m (with_step (Put (moved m.table v) (moved m.table i) (moved m.table y)) m) f g
    put_walks v i y c lv li ly o =
        let it = old_put v i y pc c o in
        let over = slots_over v.0 (omega (arith, lv, few)) in
        let s = Put (moved m.table v) (moved m.table i) (moved m.table y) in
        record {
          slots = f;
          blocks = g;
          is = step_labelled p l block s m f g tied (put_asked p l block m (with_step s m) f g refl (moved m.table v) (moved m.table i) (moved m.table y) (λ last final h.
              let same : (k : ℕ) → k < length m.table → slot_label final (slice_index m.table k) ≡ own k = λ k lt. h.slots (slice_index m.table k) (tied.low k lt) ∙ tied.same k lt in (
                subst₂ Flows (sym (same y.0 ly)) (sym (same v.0 lv)) it.1,
                subst₂ Flows (sym (same i.0 li)) (sym (same v.0 lv)) it.2,
                subst₂ Flows (sym (h.blocks block inside.low)) (sym (same v.0 lv)) (flows_on names (g block) (label_at l pc) (own v.0) (tied.blocks_over block inside.low) inside.over over inside.flow it.3),
              )));
        }

    output_walks : (y : SlotId) (host : HostId) (offset : ℕ) (c : Constraints) → y.0 < length m.table → Old (stmt_step (Stmt-F.Output y host offset) p pc c) → Result block m (with_step (Output (moved m.table y) host offset) m) f g
    output_walks y host offset c ly o =
        let it = old_output y host offset pc c o in
        let s = Output (moved m.table y) host offset in
        record {
          slots = f;
          blocks = g;
          is = step_labelled p l block s m f g tied (output_asked p l block m (with_step s m) f g refl (moved m.table y) host offset (λ last final h.
              let same : slot_label final (slice_index m.table y.0) ≡ own y.0 = h.slots (slice_index m.table y.0) (tied.low y.0 ly) ∙ tied.same y.0 ly in
              let outer = subst (λ (z : Label). Outer names z (label_at l pc)) (sym (h.blocks block inside.low)) (outer_of names (g block) (label_at l pc) (tied.blocks_over block inside.low) inside.over inside.flow) in
              subst (λ (z : Label). OutputFits (host_label p host) (label_at final (Block block)) z) (sym same)
              (record { integ = it.1.integ; block = outer.integ (host_label p host).integ it.1.block; conf = it.1.conf; asked = outer.conf (host_label p host).conf (names_over p (slice_get p.labels host.0)) it.1.asked })));
        }

  -- ---- all statements
  abbrev layer : Stmt-F M → Stmt-F Stmt
  layer = map-Stmt M Stmt (λ m. m.0)

  abbrev Layered : Stmt-F Stmt → Type 0
  Layered y = Fact (rewriting_step hides (kept_let p.slots) p.slots (map-Stmt Stmt Rewriting the y)) (seeing_step (map-Stmt Stmt Seeing seeing y)) (slots_step (map-Stmt Stmt (List ℕ) slots_of y)) (stmt_step (map-Stmt Stmt Step with_stmt y))

  step : (y : Stmt-F M) → Layered (layer y)
  step (Stmt-F.Let x r) =
      record {
        drops = λ pc c o. (old_let x r pc c o).0;
        walks = λ gs block m f g seen pc c placed known counts room sees tied inside o. let_walks gs block m f g pc x counts.0 room tied inside r seen c known sees o;
      }
  step (Stmt-F.NewVar v y) =
      record {
        drops = λ pc c o. (old_var v y pc c o).0;
        walks = λ gs block m f g seen pc c placed known counts room sees tied inside o. var_walks gs block m f g pc v counts.0 room tied inside y c (known.bindings y.0 sees) o;
      }
  step (Stmt-F.NewArray v size) =
      record {
        drops = λ pc c o. (old_array v size pc c o).0;
        walks = λ gs block m f g seen pc c placed known counts room sees tied inside o. array_walks gs block m f g pc v counts.0 room tied inside size c o;
      }
  step (Stmt-F.Store v y) =
      record {
        drops = λ pc c o. (old_stored v y pc c o).0;
        walks = λ gs block m f g seen pc c placed known counts room sees tied inside o.
            let h = and_parts (is_variable seen v) (is_binding seen y) sees in
            store_walks gs block m f g pc (omega (arith, room)) tied inside v y c (known.variables v.0 h.0) (known.bindings y.0 h.1) o;
      }
  step (Stmt-F.Put v i y) =
      record {
        drops = λ pc c o. (old_put v i y pc c o).0;
        walks = λ gs block m f g seen pc c placed known counts room sees tied inside o.
            let q = and_parts (is_array seen v && is_binding seen i) (is_binding seen y) sees in
            let h = and_parts (is_array seen v) (is_binding seen i) q.0 in
            put_walks gs block m f g pc (omega (arith, room)) tied inside v i y c (known.arrays v.0 h.0) (known.bindings i.0 h.1) (known.bindings y.0 q.1) o;
      }
  step (Stmt-F.Output y host offset) =
      record {
        drops = λ pc c o. (old_output y host offset pc c o).0;
        walks = λ gs block m f g seen pc c placed known counts room sees tied inside o. output_walks gs block m f g pc (omega (arith, room)) tied inside y host offset c (known.bindings y.0 sees) o;
      }
  step (Stmt-F.If guard a b offset) =
      record {
        drops = λ pc c o.
            (old_branch guard pc c (all_drop a (Block c.blocks) (with_branch (Slot guard) pc c) (all_drop b (Block c.blocks) (in_order (steps a) p (Block c.blocks) (with_branch (Slot guard) pc c)) o))).before;
        walks = λ gs block m f g seen pc c placed known counts room sees tied inside o.
            let q = and_parts (is_binding seen guard && (seeing_all (sights a) seen).all) (seeing_all (sights b) seen).all sees in
            let h = and_parts (is_binding seen guard) (seeing_all (sights a) seen).all q.0 in
            if_walks guard a b offset gs block m f g seen pc c placed known counts room h.0 h.1 q.1 tied inside o (is_some gs || is_hidden hides guard (runs a) (runs b));
      }
  step (Stmt-F.For count body) =
      record {
        drops = λ pc c o. all_drop body pc c o;
        walks = λ gs block m f g seen pc c placed known counts room sees tied inside o. for_walks count body gs block m f g seen pc c placed known counts room sees tied inside o;
      }

  at_roll : (y : Stmt-F Stmt) → Layered y → Fact (the (roll-Stmt y)) (seeing (roll-Stmt y)) (slots_of (roll-Stmt y)) (with_stmt (roll-Stmt y))
  at_roll y h =
      subst (λ (z : Rewriting). Fact z (seeing (roll-Stmt y)) (slots_of (roll-Stmt y)) (with_stmt (roll-Stmt y))) (sym (fold-roll-Stmt Rewriting (rewriting_step hides (kept_let p.slots) p.slots) y))
      (subst (λ (z : Seeing). Fact (rewriting_step hides (kept_let p.slots) p.slots (map-Stmt Stmt Rewriting the y)) z (slots_of (roll-Stmt y)) (with_stmt (roll-Stmt y))) (sym (fold-roll-Stmt Seeing seeing_step y))
      (subst (λ (z : List ℕ). Fact (rewriting_step hides (kept_let p.slots) p.slots (map-Stmt Stmt Rewriting the y)) (seeing_step (map-Stmt Stmt Seeing seeing y)) z (with_stmt (roll-Stmt y))) (sym (fold-roll-Stmt (List ℕ) slots_step y))
      (subst (λ (z : Step). Fact (rewriting_step hides (kept_let p.slots) p.slots (map-Stmt Stmt Rewriting the y)) (seeing_step (map-Stmt Stmt Seeing seeing y)) (slots_step (map-Stmt Stmt (List ℕ) slots_of y)) z) (sym (fold-roll-Stmt Step stmt_step y)) h)))

  stmt_walks : (s : Stmt) → Fact (the s) (seeing s) (slots_of s) (with_stmt s)
  stmt_walks = ind-Stmt (λ s. Fact (the s) (seeing s) (slots_of s) (with_stmt s)) (λ x y is. subst (λ z. Fact (the (roll-Stmt z)) (seeing (roll-Stmt z)) (slots_of (roll-Stmt z)) (with_stmt (roll-Stmt z))) is (at_roll (layer y) (step y)))

  abbrev with_facts : List Stmt → List M
  with_facts [] = []
  with_facts (s ∷ ss) = (s, stmt_walks s) ∷ with_facts ss

  with_stmts : (ss : List Stmt) → stmts (with_facts ss) ≡ ss
  with_stmts [] = refl
  with_stmts (s ∷ ss) = ap (λ (z : List Stmt). s ∷ z) (with_stmts ss)

  abbrev pub BodyFact : List Stmt → Type 0
  BodyFact body = ((pc : Place) (c : Constraints) → Old (with_body body p pc c) → Old c) × Walks (record { is_pure = true; is_changed = false; run = run_all (map the body) }) (seeing_all (map seeing body)) (slots_made body) (with_body body)

  pub body_walks : (body : List Stmt) → BodyFact body
  body_walks body = subst BodyFact (with_stmts body) (all_drop (with_facts body), all_walk (with_facts body))

  pub body_grows : (body : List Stmt) (gs : List Guard) (block : ℕ) (m : Made) → Placed m.table m.next → Grown m (run_all (map the body) gs block m) (length (slots_made body))
  body_grows body = (body_means hides (kept_let p.slots) p.slots (Unit {0}) (λ n. Unit {0}) (λ s. Unit {0}) good laws body).grows
