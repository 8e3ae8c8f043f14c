-- Each statement, once it is made anew, does what it did.
use Rattle.std.proofs.Common.{◌≡◌, ◌⊎◌, inl, inr, ℕ, zero, suc, ◌+◌, ◌%◌, ◌<◌, ◌≤◌, nat_eq, Bool, true, false, true≢false, ◌&&◌, ◌||◌, if◌then◌else◌, List, [], ◌∷◌, ◌++◌, length, map, slice_index, slice_set, replicate, refl, sym, ap, ap₂, ◌∙◌, subst, arith}
use Rattle.std.specs.List.{concat}
use Rattle.std.proofs.lemmas.Bool.{and_parts, cases_eq}
use Rattle.std.proofs.lemmas.List.{length-append}
use Rattle.vd_base.specs.declared.ids.SlotId.{SlotId}
use Rattle.vd_base.specs.declared.ids.HostId.{HostId}
use Rattle.vd_core.specs.declared.normal.Right.{Right}
use Rattle.vd_core.specs.declared.normal.Slot.{Slot}
use Rattle.vd_core.specs.declared.normal.Stmt.{Stmt, NewVar, NewArray, Store, Put, Output, If, For, roll-Stmt, map-Stmt, ind-Stmt}
use Rattle.vd_core.specs.declared.normal.Stmt.TheFolds.{fold-roll-Stmt}
use Rattle.vd_core.specs.declared.normal.Stmt.TheOpen.{Stmt-F}
use Rattle.vd_core.specs.Facts.{Sight, Seeing, is_binding, is_variable, is_array, with_binding, with_variable, with_array, seeing_step, seeing_all, seeing, slots_step, slots_of, meets, blocks_meet}
use Rattle.vd_semantics.specs.Turns.{turns}
use Rattle.vd_semantics.specs.World.{after_output}
use Rattle.vd_semantics.specs.ProgramMeaning.{SlotState, word_at, array_at, right_word, after_right, with_word, with_array as put_array, in_world, Effect, in_order, stmt_effect, effect}
use Rattle.vd_rewrite.specs.declared.guard.Guard.{Guard}
use Rattle.vd_rewrite.specs.Rewriting.{Made, slot, entry_of, in_block, moved, with_stmt, with_kept, selected, stored, Rewriting, all_pure, is_some, run_all, guard_of, both_run, emptied, block_more, kept_if, kept_for, is_hidden, Lets, rewriting_step, rewriting}
use Rattle.vd_rewrite.proofs.Stores.{item_put, item_put_other, item_old, item_last, length_push, pushed}
use Rattle.vd_rewrite.proofs.Tables.{Placed, placed_push, placed_later, placed_apart, Grown, grown_both, Known, known_later, known_binding, known_variable, known_array, either_of}
use Rattle.vd_rewrite.proofs.Chain.{word, state, wanted, is_wanted, all_wanted, Adds, adds_word, Selects, selects_all}
use Rattle.vd_rewrite.proofs.Agree.{Agree, More, more_none, more_binding, more_variable, more_array, agree_fewer, agree_adds, agree_world, agree_binding, agree_variable, agree_array, agree_store, agree_put, GuardsAt, guards_low, guards_later, guards_push, wanted_push, wanted_stays}
use Rattle.vd_rewrite.proofs.Meaning.{effect_var, effect_array, effect_put, effect_output, effect_if, effect_for, Counts, counts_split, Laws, Parts, Stays, adds_stays, store_state, Under, Meaning, list_parts, all_mean}

-- a kept slot
pub kept_grown : (entry : Slot) (st : Stmt) (m : Made) → Placed m.table m.next → Grown m (with_kept entry st m) 1
kept_grown entry st m p =
    record { placed = placed_push m.table m.next (m.next + 1) p (omega arith); next = omega arith; size = length_push m.table m.next; kept = λ k h. item_old m.table m.next k h }

or_first : (a b : Bool) → a ≡ true → (a || b) ≡ true
or_first true b h = refl
or_first false b h = absurd (true≢false (sym h))

some_push : (gs : List Guard) (g : Guard) → is_some (gs ++ g ∷ []) ≡ true
some_push [] g = refl
some_push (g' ∷ gs) g = refl

abbrev the_parts : Effect → Rewriting → Seeing → List ℕ → Bool → Parts
the_parts e r v n b = record { effect = e; run = r; sees = v; slots = n; meets = b }

module _ (hides : SlotId → Bool) (lets : Lets) (old : List Slot) (Turns : Type 0) (Fine : ℕ → Type 0) (Holds : SlotState → Type 0) (good : Stmt-F Bool → Bool) (laws : Laws hides lets Turns Fine Holds good) where
  abbrev test : Stmt-F Bool → Bool
  test y = good y && blocks_meet y

  abbrev pub parts : Stmt → Parts
  parts s = record { effect = effect s; run = rewriting hides lets old s; sees = seeing s; slots = slots_of s; meets = meets good s }

  abbrev Meant' : Parts → Type 0
  Meant' = Meaning Turns Fine Holds

  abbrev M : Type 0
  M = (s : Stmt) × Meant' (parts s)

  abbrev stmts : List M → List Stmt
  stmts ms = map (λ (m : M). m.0) ms

  abbrev layer : Stmt-F M → Stmt-F Stmt
  layer = map-Stmt M Stmt (λ m. m.0)

  abbrev layer_parts : Stmt-F Stmt → Parts
  layer_parts y =
      record {
        effect = stmt_effect (map-Stmt Stmt Effect effect y);
        run = rewriting_step hides lets old (map-Stmt Stmt Rewriting (rewriting hides lets old) y);
        sees = seeing_step (map-Stmt Stmt Seeing seeing y);
        slots = slots_step (map-Stmt Stmt (List ℕ) slots_of y);
        meets = test (map-Stmt Stmt Bool (meets good) y);
      }

  parts_roll : (y : Stmt-F Stmt) → parts (roll-Stmt y) ≡ layer_parts y
  parts_roll y =
      let e = fold-roll-Stmt Effect stmt_effect y in
      let r = fold-roll-Stmt Rewriting (rewriting_step hides lets old) y in
      let v = fold-roll-Stmt Seeing seeing_step y in
      let n = fold-roll-Stmt (List ℕ) slots_step y in
      let b = fold-roll-Stmt Bool test y in
      ap (λ (z : Effect). the_parts z (rewriting hides lets old (roll-Stmt y)) (seeing (roll-Stmt y)) (slots_of (roll-Stmt y)) (meets good (roll-Stmt y))) e
      ∙ ap (λ (z : Rewriting). the_parts (layer_parts y).effect z (seeing (roll-Stmt y)) (slots_of (roll-Stmt y)) (meets good (roll-Stmt y))) r
      ∙ ap (λ (z : Seeing). the_parts (layer_parts y).effect (layer_parts y).run z (slots_of (roll-Stmt y)) (meets good (roll-Stmt y))) v
      ∙ ap (λ (z : List ℕ). the_parts (layer_parts y).effect (layer_parts y).run (layer_parts y).sees z (meets good (roll-Stmt y))) n
      ∙ ap (λ (z : Bool). the_parts (layer_parts y).effect (layer_parts y).run (layer_parts y).sees (layer_parts y).slots z) b

  keeps_at : (y : Stmt-F Stmt) → (layer_parts y).meets ≡ true → (turn : ℕ) (s : SlotState) → Fine turn → Holds s → Holds ((layer_parts y).effect turn s)
  keeps_at y = subst (λ (p : Parts). p.meets ≡ true → (turn : ℕ) (s : SlotState) → Fine turn → Holds s → Holds (p.effect turn s)) (parts_roll y) (laws.keeps (roll-Stmt y))

  let_means : (x : SlotId) (r : Right) → Meant' (layer_parts (Stmt-F.Let x r))
  let_means x r =
      record {
        grows = λ gs block m p. laws.grown x r block m p;
        known = λ n seen known counts. known_binding n seen x counts.0 known;
        more = λ seen. more_binding x seen;
        stays = λ pure gs some block m seen turn s0 p known counts sees at. adds_stays m (lets x r block m) seen gs turn s0 p known (laws.pure x r block m seen turn s0 pure p known sees);
        keeps = keeps_at (Stmt-F.Let x r);
        means = λ gs block m seen turn s0 s p known counts sees met fine holds at under wants a.
            let m' = lets x r block m in
            let s' = state m turn s0 in
            let t = state m' turn s0 in
            let g = laws.grown x r block m p in
            let l = laws.gives x r block m seen turn s0 s p known sees holds a in
            let n = slice_index m'.table (length m.table) in
            let w = right_word r turn s in
            agree_world m'.table (with_binding x seen) (with_word x w s) (in_world s'.world t) (after_right r s.world) t.world l.world
            (agree_binding m.table m'.table m.next n seen s s' x counts.0 p known refl g.kept a w (in_world s'.world t) refl l.arrays l.below l.word);
      }

  var_state : (entry : Slot) (x : SlotId) (m : Made) (turn : ℕ) (s0 : SlotState)
      → state (with_kept entry (NewVar (slot m.next) x) m) turn s0 ≡ with_word (slot m.next) (word (state m turn s0) x.0) (state m turn s0)
  var_state entry x m turn s0 = pushed m.body (NewVar (slot m.next) x) (stmt_effect (Stmt-F.NewVar (slot m.next) x)) (effect_var (slot m.next) x) turn s0

  var_means : (v x : SlotId) → Meant' (layer_parts (Stmt-F.NewVar v x))
  var_means v x =
      record {
        grows = λ gs block m p. kept_grown (in_block block (entry_of old v)) (NewVar (slot m.next) (moved m.table x)) m p;
        known = λ n seen known counts. known_variable n seen v counts.0 known;
        more = λ seen. more_variable v seen;
        stays = λ pure gs some block m seen turn s0 p known counts sees at.
            let m' = with_kept (in_block block (entry_of old v)) (NewVar (slot m.next) (moved m.table x)) m in
            let s' = state m turn s0 in
            adds_stays m m' seen gs turn s0 p known
            (subst (λ (z : SlotState). Adds m.next s' z) (sym (var_state (in_block block (entry_of old v)) (moved m.table x) m turn s0)) (adds_word m.next m.next (word s' (slice_index m.table x.0)) s' (omega arith)));
        keeps = keeps_at (Stmt-F.NewVar v x);
        means = λ gs block m seen turn s0 s p known counts sees met fine holds at under wants a.
            let m' = with_kept (in_block block (entry_of old v)) (NewVar (slot m.next) (moved m.table x)) m in
            let s' = state m turn s0 in
            let w' = word s' (slice_index m.table x.0) in
            let t = with_word (slot m.next) w' s' in
            subst (λ (z : SlotState). Agree m'.table (with_variable v seen) (with_word v (word s x.0) s) z) (sym (var_state (in_block block (entry_of old v)) (moved m.table x) m turn s0))
            (agree_variable m.table m'.table m.next m.next seen s s' v counts.0 p known (item_last m.table m.next) (λ k h. item_old m.table m.next k h) a (word s x.0) t refl refl
            (λ j lt. item_put_other 0 s'.words m.next j w' (λ e. omega (arith, e, lt))) (item_put 0 s'.words m.next w' ∙ a.bindings x.0 sees));
      }

  array_means : (v : SlotId) (cells : ℕ) → Meant' (layer_parts (Stmt-F.NewArray v cells))
  array_means v cells =
      record {
        grows = λ gs block m p. kept_grown (in_block block (entry_of old v)) (NewArray (slot m.next) cells) m p;
        known = λ n seen known counts. known_array n seen v counts.0 known;
        more = λ seen. more_array v seen;
        stays = λ pure gs some block m seen turn s0 p known counts sees at. absurd (true≢false (sym pure));
        keeps = keeps_at (Stmt-F.NewArray v cells);
        means = λ gs block m seen turn s0 s p known counts sees met fine holds at under wants a.
            let m' = with_kept (in_block block (entry_of old v)) (NewArray (slot m.next) cells) m in
            let s' = state m turn s0 in
            subst (λ (z : SlotState). Agree m'.table (with_array v seen) (put_array v (replicate cells 0) s) z)
            (sym (pushed m.body (NewArray (slot m.next) cells) (stmt_effect (Stmt-F.NewArray (slot m.next) cells)) (effect_array (slot m.next) cells) turn s0))
            (agree_array m.table m'.table m.next m.next seen s s' v counts.0 p known (item_last m.table m.next) (λ k h. item_old m.table m.next k h) a (replicate cells 0) (omega arith));
      }

  -- what a Store becomes
  module _ (v x : SlotId) (gs : List Guard) (block : ℕ) (m : Made) (seen : Sight) (p : Placed m.table m.next) (known : Known (length m.table) seen) (sees : (is_variable seen v && is_binding seen x) ≡ true) (at : GuardsAt m.table seen gs) where
    abbrev chosen : SlotId × Made
    chosen = selected (entry_of old v).kind block (moved m.table v) gs (moved m.table x) m

    see_v : is_variable seen v ≡ true
    see_v = (and_parts (is_variable seen v) (is_binding seen x) sees).0

    see_x : is_binding seen x ≡ true
    see_x = (and_parts (is_variable seen v) (is_binding seen x) sees).1

    selects : Selects gs (moved m.table x) (moved m.table v) m chosen
    selects =
        selects_all (entry_of old v).kind block (moved m.table v) gs (moved m.table x) m (p.below v.0 (known.variables v.0 see_v)) (p.below x.0 (known.bindings x.0 see_x))
        (guards_low m.table m.next seen gs p known at)

    abbrev after : Made
    after = with_stmt (Store (moved m.table v) chosen.0) chosen.1

    store_stays : (turn : ℕ) (s0 : SlotState) → Stays m after seen gs turn s0
    store_stays turn s0 =
        let s' = state m turn s0 in
        let s1 = state chosen.1 turn s0 in
        let w = word s1 chosen.0.0 in
        let adds = selects.adds turn s0 in
        let place = slice_index m.table v.0 in
        let e = store_state (moved m.table v) chosen.0 chosen.1 turn s0 in
        record {
          world = ap (λ (z : SlotState). z.world) e ∙ adds.world;
          arrays = ap (λ (z : SlotState). z.arrays) e ∙ adds.arrays;
          bindings = λ k h.
              ap (λ (z : SlotState). word z (slice_index m.table k)) e
              ∙ item_put_other 0 s1.words place (slice_index m.table k) w (λ z. known.apart k h (subst (λ j. is_variable seen (slot j) ≡ true) (placed_apart m.table m.next v.0 k p (known.variables v.0 see_v) (known.bindings k h) z) see_v))
              ∙ adds.below (slice_index m.table k) (p.below k (known.bindings k h));
          inactive = λ off j lt. ap (λ (z : SlotState). word z j) e ∙ by_place s1 w adds (selects.word turn s0 ∙ ap (λ (b : Bool). if b then word s' (slice_index m.table x.0) else word s' place) off) j lt (cases_eq place j);
        }
      where
        by_place : (s1 : SlotState) (w : ℕ) → Adds m.next (state m turn s0) s1 → w ≡ word (state m turn s0) (slice_index m.table v.0) → (j : ℕ) → j < m.next
            → (slice_index m.table v.0 ≡ j) ⊎ (slice_index m.table v.0 ≡ j → ⊥) → word (with_word (moved m.table v) w s1) j ≡ word (state m turn s0) j
        by_place s1 w adds is j lt (inl z) =
            subst (λ j. word (with_word (moved m.table v) w s1) j ≡ word (state m turn s0) j) z (item_put 0 s1.words (slice_index m.table v.0) w ∙ is)
        by_place s1 w adds is j lt (inr z) = item_put_other 0 s1.words (slice_index m.table v.0) j w z ∙ adds.below j lt

    store_agrees : (turn : ℕ) (s0 s : SlotState) → all_wanted (state m turn s0) gs ≡ true → Agree m.table seen s (state m turn s0) → Agree after.table seen (with_word v (word s x.0) s) (state after turn s0)
    store_agrees turn s0 s wants a =
        let s' = state m turn s0 in
        let s1 = state chosen.1 turn s0 in
        let w = word s1 chosen.0.0 in
        let adds = selects.adds turn s0 in
        let same : w ≡ word s x.0 = selects.word turn s0 ∙ ap (λ (b : Bool). if b then word s' (slice_index m.table x.0) else word s' (slice_index m.table v.0)) wants ∙ a.bindings x.0 see_x in
        subst (λ (z : List ℕ). Agree z seen (with_word v (word s x.0) s) (state after turn s0)) (sym selects.table)
        (subst (λ (z : SlotState). Agree m.table seen (with_word v (word s x.0) s) z) (sym (store_state (moved m.table v) chosen.0 chosen.1 turn s0))
        (agree_store m.table m.next seen s s1 v p known (agree_adds m.table m.next seen s s' s1 p known adds.world adds.arrays adds.below a) see_v (word s x.0) w same))

  store_grown : (v x : SlotId) (gs : List Guard) (kind : _) (block : ℕ) (m : Made) → Placed m.table m.next → Grown m (stored kind block v gs x m) 0
  store_grown v x gs kind block m p = grown (chain_grown gs)
    where
      chain_grown : (gs : List Guard) → ((selected kind block v gs x m).1.table ≡ m.table) × (m.next ≤ (selected kind block v gs x m).1.next)
      chain_grown [] = (refl, omega arith)
      chain_grown (g ∷ gs) = let r = chain_grown gs in let le = r.1 in (r.0, omega arith)

      grown : ((selected kind block v gs x m).1.table ≡ m.table) × (m.next ≤ (selected kind block v gs x m).1.next) → Grown m (stored kind block v gs x m) 0
      grown r =
          record {
            placed = subst (λ (z : List ℕ). Placed z (selected kind block v gs x m).1.next) (sym r.0) (placed_later m.table m.next (selected kind block v gs x m).1.next p r.1);
            next = r.1;
            size = ap (λ (z : List ℕ). length z) r.0 ∙ omega arith;
            kept = λ k h. ap (λ (z : List ℕ). slice_index z k) r.0;
          }

  store_means : (v x : SlotId) → Meant' (layer_parts (Stmt-F.Store v x))
  store_means v x =
      record {
        grows = λ gs block m p. store_grown (moved m.table v) (moved m.table x) gs (entry_of old v).kind block m p;
        known = λ n seen known counts. known_later n (n + 0) seen known (omega arith);
        more = λ seen. more_none seen;
        stays = λ pure gs some block m seen turn s0 p known counts sees at. store_stays v x gs block m seen p known sees at turn s0;
        keeps = keeps_at (Stmt-F.Store v x);
        means = λ gs block m seen turn s0 s p known counts sees met fine holds at under wants a. store_agrees v x gs block m seen p known sees at turn s0 s wants a;
      }

  put_means : (v i x : SlotId) → Meant' (layer_parts (Stmt-F.Put v i x))
  put_means v i x =
      record {
        grows = λ gs block m p. record { placed = p; next = omega arith; size = omega arith; kept = λ k h. refl };
        known = λ n seen known counts. known_later n (n + 0) seen known (omega arith);
        more = λ seen. more_none seen;
        stays = λ pure gs some block m seen turn s0 p known counts sees at. absurd (true≢false (sym pure));
        keeps = keeps_at (Stmt-F.Put v i x);
        means = λ gs block m seen turn s0 s p known counts sees met fine holds at under wants a.
            let s' = state m turn s0 in
            let q = and_parts (is_array seen v && is_binding seen i) (is_binding seen x) sees in
            let h = and_parts (is_array seen v) (is_binding seen i) q.0 in
            let place = moved m.table v in
            subst (λ (z : SlotState). Agree m.table seen (put_array v (slice_set (array_at s v) (word_at s i) (word_at s x)) s) z)
            (sym (pushed m.body (Put place (moved m.table i) (moved m.table x)) (stmt_effect (Stmt-F.Put place (moved m.table i) (moved m.table x))) (effect_put place (moved m.table i) (moved m.table x)) turn s0))
            (agree_put m.table m.next seen s s' v p known a h.0 (slice_set (array_at s v) (word_at s i) (word_at s x)) (slice_set (array_at s' place) (word_at s' (moved m.table i)) (word_at s' (moved m.table x)))
            (ap₂ (λ (xs : List ℕ) (k : ℕ). slice_set xs k (word_at s' (moved m.table x))) (a.arrays v.0 h.0) (a.bindings i.0 h.1) ∙ ap (slice_set (array_at s v) (word_at s i)) (a.bindings x.0 q.1)));
      }

  output_means : (x : SlotId) (host : HostId) (offset : ℕ) → Meant' (layer_parts (Stmt-F.Output x host offset))
  output_means x host offset =
      record {
        grows = λ gs block m p. record { placed = p; next = omega arith; size = omega arith; kept = λ k h. refl };
        known = λ n seen known counts. known_later n (n + 0) seen known (omega arith);
        more = λ seen. more_none seen;
        stays = λ pure gs some block m seen turn s0 p known counts sees at. absurd (true≢false (sym pure));
        keeps = keeps_at (Stmt-F.Output x host offset);
        means = λ gs block m seen turn s0 s p known counts sees met fine holds at under wants a.
            let s' = state m turn s0 in
            subst (λ (z : SlotState). Agree m.table seen (in_world (after_output s.world host.0 (word_at s x)) s) z)
            (sym (pushed m.body (Output (moved m.table x) host offset) (stmt_effect (Stmt-F.Output (moved m.table x) host offset)) (effect_output (moved m.table x) host offset) turn s0))
            (agree_world m.table seen s s' (after_output s.world host.0 (word_at s x)) (after_output s'.world host.0 (word_at s' (moved m.table x)))
            (ap₂ (λ (w : _) (y : ℕ). after_output w host.0 y) a.world (a.bindings x.0 sees)) a);
      }

  abbrev the_runs : List M → List Rewriting
  the_runs ms = map (rewriting hides lets old) (stmts ms)

  abbrev the_effects : List M → List Effect
  the_effects ms = map effect (stmts ms)

  abbrev the_parts_of : List M → Parts
  the_parts_of ms = list_parts Stmt parts Turns Fine Holds (stmts ms)

  list_means : (ms : List M) → Meant' (the_parts_of ms)
  list_means ms = all_mean Stmt parts Turns Fine Holds ms

  -- what is known after a block, of what was in sight before it
  known_grown : (m m' : Made) (n : ℕ) (seen : Sight) → Grown m m' n → Known (length m.table) seen → Known (length m'.table) seen
  known_grown m m' n seen g known = known_later (length m.table) (length m'.table) seen known (let e = g.size in omega arith)

  module _ (guard : SlotId) (a b : List M) (offset : ℕ) where
    abbrev A : Parts
    A = the_parts_of a

    abbrev B : Parts
    B = the_parts_of b

    MA : Meant' A
    MA = list_means a

    MB : Meant' B
    MB = list_means b

    abbrev inside : List Guard → Made → Bool → List Guard
    inside gs m first = gs ++ guard_of first (moved m.table guard) offset ∷ []

    abbrev first_made : List Guard → ℕ → Made → Made
    first_made gs block m = run_all (the_runs a) (inside gs m true) block m

    abbrev both_made : List Guard → ℕ → Made → Made
    both_made gs block m = both_run (moved m.table guard) (the_runs a) (the_runs b) offset gs block m

    abbrev then_made : Made → Made
    then_made m = run_all (the_runs a) [] m.blocks (block_more m)

    abbrev else_made : Made → Made
    else_made m = run_all (the_runs b) [] m.blocks (emptied (then_made m))

    abbrev if_made : Made → Made
    if_made m = kept_if (moved m.table guard) (the_runs a) (the_runs b) offset m

    abbrev size : ℕ
    size = length (concat (map slots_of (stmts a)) ++ concat (map slots_of (stmts b)))

    size_is : length A.slots + length B.slots ≡ size
    size_is = sym (length-append A.slots B.slots)

    first_grown : (gs : List Guard) (block : ℕ) (m : Made) → Placed m.table m.next → Grown m (first_made gs block m) (length A.slots)
    first_grown gs block m p = MA.grows (inside gs m true) block m p

    second_grown : (gs : List Guard) (block : ℕ) (m : Made) → Placed m.table m.next → Grown (first_made gs block m) (both_made gs block m) (length B.slots)
    second_grown gs block m p = MB.grows (inside gs m false) block (first_made gs block m) (first_grown gs block m p).placed

    both_grown : (gs : List Guard) (block : ℕ) (m : Made) → Placed m.table m.next → Grown m (both_made gs block m) size
    both_grown gs block m p =
        subst (λ n. Grown m (both_made gs block m) n) size_is
        (grown_both m (first_made gs block m) (both_made gs block m) (length A.slots) (length B.slots) (first_grown gs block m p) (second_grown gs block m p))

    then_grown : (m : Made) → Placed m.table m.next → Grown (block_more m) (then_made m) (length A.slots)
    then_grown m p = MA.grows [] m.blocks (block_more m) p

    else_grown : (m : Made) → Placed m.table m.next → Grown (emptied (then_made m)) (else_made m) (length B.slots)
    else_grown m p = MB.grows [] m.blocks (emptied (then_made m)) (then_grown m p).placed

    kept_grown' : (m : Made) → Placed m.table m.next → Grown m (if_made m) size
    kept_grown' m p =
        let x = then_grown m p in
        let y = else_grown m p in
        let n = x.next in
        let n' = y.next in
        let e = x.size in
        let e' = y.size in
        let z = size_is in
        record { placed = y.placed; next = omega arith; size = omega arith; kept = λ k h. y.kept k (omega arith) ∙ x.kept k h }

    abbrev if_run : Bool → List Guard → ℕ → Made → Made
    if_run c gs block m = if c then both_made gs block m else if_made m

    if_grown : (c : Bool) (gs : List Guard) (block : ℕ) (m : Made) → Placed m.table m.next → Grown m (if_run c gs block m) size
    if_grown true gs block m p = both_grown gs block m p
    if_grown false gs block m p = kept_grown' m p

    abbrev is_flat : List Guard → Bool
    is_flat gs = is_some gs || is_hidden hides guard (the_runs a) (the_runs b)

    -- the guard itself, as one of the guards around a branch
    guard_at : (first : Bool) (gs : List Guard) (m m1 : Made) (seen : Sight) → Known (length m.table) seen → is_binding seen guard ≡ true → ((k : ℕ) → k < length m.table → slice_index m1.table k ≡ slice_index m.table k) → GuardsAt m.table seen gs
        → GuardsAt m1.table seen (inside gs m first)
    guard_at first gs m m1 seen known is same at =
        guards_push m1.table seen gs (guard_of first (moved m.table guard) offset) (guard.0, (sym (same guard.0 (known.bindings guard.0 is)), is)) (guards_later m.table m1.table seen seen gs known same (more_none seen) at)

    abbrev sees_all : Sight → Bool
    sees_all seen = is_binding seen guard && (seeing_all (map seeing (stmts a)) seen).all && (seeing_all (map seeing (stmts b)) seen).all

    record Sees (seen : Sight) : Type 0 where
      pub there : is_binding seen guard ≡ true
      pub first : (A.sees seen).all ≡ true
      pub second : (B.sees seen).all ≡ true

    sees_parts : (seen : Sight) → sees_all seen ≡ true → Sees seen
    sees_parts seen h =
        let p = and_parts (is_binding seen guard && (A.sees seen).all) (B.sees seen).all h in
        let q = and_parts (is_binding seen guard) (A.sees seen).all p.0 in
        record { there = q.0; first = q.1; second = p.1 }

    -- two branches under guards
    module _ (gs : List Guard) (block : ℕ) (m : Made) (seen : Sight) (turn : ℕ) (s0 : SlotState) (p : Placed m.table m.next) (known : Known (length m.table) seen) (counts : Counts (length m.table) (A.slots ++ B.slots))
        (sees : Sees seen) (at : GuardsAt m.table seen gs) (pure : (all_pure (the_runs a) && all_pure (the_runs b)) ≡ true) where
      abbrev m1 : Made
      m1 = first_made gs block m

      abbrev m2 : Made
      m2 = both_made gs block m

      one : Grown m m1 (length A.slots)
      one = first_grown gs block m p

      two : Grown m1 m2 (length B.slots)
      two = second_grown gs block m p

      pures : (all_pure (the_runs a) ≡ true) × (all_pure (the_runs b) ≡ true)
      pures = and_parts (all_pure (the_runs a)) (all_pure (the_runs b)) pure

      split : Counts (length m.table) A.slots × Counts (length m.table + length A.slots) B.slots
      split = counts_split (length m.table) A.slots B.slots counts

      at_first : GuardsAt m.table seen (inside gs m true)
      at_first = guard_at true gs m m seen known sees.there (λ k h. refl) at

      at_second : GuardsAt m1.table seen (inside gs m false)
      at_second = guard_at false gs m m1 seen known sees.there one.kept at

      known1 : Known (length m1.table) seen
      known1 = known_grown m m1 (length A.slots) seen one known

      counts1 : Counts (length m1.table) B.slots
      counts1 = subst (λ z. Counts z B.slots) (sym one.size) split.1

      first_stays : Stays m m1 seen (inside gs m true) turn s0
      first_stays = MA.stays pures.0 (inside gs m true) (some_push gs (guard_of true (moved m.table guard) offset)) block m seen turn s0 p known split.0 sees.first at_first

      second_stays : Stays m1 m2 seen (inside gs m false) turn s0
      second_stays = MB.stays pures.1 (inside gs m false) (some_push gs (guard_of false (moved m.table guard) offset)) block m1 seen turn s0 one.placed known1 counts1 sees.second at_second

      -- guards around both are as they were
      gs_stay : all_wanted (state m1 turn s0) gs ≡ all_wanted (state m turn s0) gs
      gs_stay = wanted_stays m.table seen (state m turn s0) (state m1 turn s0) gs at first_stays.bindings

      bit_stays : word (state m1 turn s0) (slice_index m.table guard.0) ≡ word (state m turn s0) (slice_index m.table guard.0)
      bit_stays = first_stays.bindings guard.0 sees.there

      off_first : all_wanted (state m turn s0) gs ≡ false → all_wanted (state m turn s0) (inside gs m true) ≡ false
      off_first e = wanted_push (state m turn s0) gs (guard_of true (moved m.table guard) offset) ∙ ap (λ z. z && is_wanted (state m turn s0) (guard_of true (moved m.table guard) offset)) e

      off_second : all_wanted (state m turn s0) gs ≡ false → all_wanted (state m1 turn s0) (inside gs m false) ≡ false
      off_second e = wanted_push (state m1 turn s0) gs (guard_of false (moved m.table guard) offset) ∙ ap (λ z. z && is_wanted (state m1 turn s0) (guard_of false (moved m.table guard) offset)) (gs_stay ∙ e)

      both_stay : Stays m m2 seen gs turn s0
      both_stay =
          let f = first_stays in
          let g = second_stays in
          record {
            world = g.world ∙ f.world;
            arrays = g.arrays ∙ f.arrays;
            bindings = λ k h. ap (word (state m2 turn s0)) (sym (one.kept k (known.bindings k h))) ∙ g.bindings k h ∙ ap (word (state m1 turn s0)) (one.kept k (known.bindings k h)) ∙ f.bindings k h;
            inactive = λ e j lt. let le = one.next in g.inactive (off_second e) j (omega arith) ∙ f.inactive (off_first e) j lt;
          }

      -- the branch that the guard takes does what it did, and the other nothing
      module _ (s : SlotState) (turns : Turns) (met_a : A.meets ≡ true) (met_b : B.meets ≡ true) (fine : Fine turn) (holds : Holds s) (wants : all_wanted (state m turn s0) gs ≡ true) (agree : Agree m.table seen s (state m turn s0)) where
        bit : word (state m turn s0) (slice_index m.table guard.0) ≡ word s guard.0
        bit = agree.bindings guard.0 sees.there

        bit_of : (first : Bool) (t : SlotState) (w : ℕ) → word t (slice_index m.table guard.0) ≡ w → all_wanted t gs ≡ true → all_wanted t (inside gs m first) ≡ nat_eq (w % 2) (wanted first)
        bit_of first t w e on =
            wanted_push t gs (guard_of first (moved m.table guard) offset) ∙ ap (λ z. z && is_wanted t (guard_of first (moved m.table guard) offset)) on ∙ ap (λ z. nat_eq (z % 2) (wanted first)) e

        fewer : (table : List ℕ) (later : Sight) (t t' : SlotState) → More seen later → Agree table later t t' → Agree table seen t t'
        fewer table later t t' more h = agree_fewer table table (length m.table) seen later t t' known (λ k lt. refl) more h

        taken : (w : ℕ) → word s guard.0 ≡ w → w < 2 → Agree m2.table seen (in_order (if nat_eq w 0 then the_effects b else the_effects a) turn s) (state m2 turn s0)
        taken zero e lt =
            let f = first_stays in
            let off : all_wanted (state m turn s0) (inside gs m true) ≡ false = bit_of true (state m turn s0) 0 (bit ∙ e) wants in
            let kept = agree_adds m.table m.next seen s (state m turn s0) (state m1 turn s0) p known f.world f.arrays (f.inactive off) agree in
            let kept1 = agree_fewer m.table m1.table (length m.table) seen seen s (state m1 turn s0) known one.kept (more_none seen) kept in
            let on : all_wanted (state m1 turn s0) (inside gs m false) ≡ true = bit_of false (state m1 turn s0) 0 (bit_stays ∙ bit ∙ e) (gs_stay ∙ wants) in
            fewer m2.table (B.sees seen).after (in_order (the_effects b) turn s) (state m2 turn s0) (MB.more seen)
            (MB.means (inside gs m false) block m1 seen turn s0 s one.placed known1 counts1 sees.second met_b fine holds at_second (λ some. (turns, pures.1)) on kept1)
        taken (suc zero) e lt =
            let on : all_wanted (state m turn s0) (inside gs m true) ≡ true = bit_of true (state m turn s0) 1 (bit ∙ e) wants in
            let went =
            fewer m1.table (A.sees seen).after (in_order (the_effects a) turn s) (state m1 turn s0) (MA.more seen)
            (MA.means (inside gs m true) block m seen turn s0 s p known split.0 sees.first met_a fine holds at_first (λ some. (turns, pures.0)) on agree) in
            let off : all_wanted (state m1 turn s0) (inside gs m false) ≡ false = bit_of false (state m1 turn s0) 1 (bit_stays ∙ bit ∙ e) (gs_stay ∙ wants) in
            let g = second_stays in
            agree_fewer m1.table m2.table (length m1.table) seen seen (in_order (the_effects a) turn s) (state m2 turn s0) known1 two.kept (more_none seen)
            (agree_adds m1.table m1.next seen (in_order (the_effects a) turn s) (state m1 turn s0) (state m2 turn s0) one.placed known1 g.world g.arrays (g.inactive off) went)
        taken (suc (suc w)) e lt = absurd (omega arith)

    -- an If that stays
    module _ (m : Made) (seen : Sight) (turn : ℕ) (s0 s : SlotState) (p : Placed m.table m.next) (known : Known (length m.table) seen) (counts : Counts (length m.table) (A.slots ++ B.slots))
        (sees : Sees seen) (met_a : A.meets ≡ true) (met_b : B.meets ≡ true) (fine : Fine turn) (holds : Holds s) (agree : Agree m.table seen s (state m turn s0)) where
      none_under : (pure : Bool) → Under Turns Fine Holds [] pure
      none_under pure h = absurd (true≢false (sym h))

      by_branch : (c : Bool) → Agree (else_made m).table seen (in_order (if c then the_effects b else the_effects a) turn s) (in_order (if c then map effect (else_made m).body else map effect (then_made m).body) turn (state m turn s0))
      by_branch true =
          let x = then_grown m p in
          let c = counts_split (length m.table) A.slots B.slots counts in
          let known1 = known_grown (block_more m) (then_made m) (length A.slots) seen x known in
          let agree1 = agree_fewer m.table (then_made m).table (length m.table) seen seen s (state m turn s0) known x.kept (more_none seen) agree in
          agree_fewer (else_made m).table (else_made m).table (length m.table) seen (B.sees seen).after (in_order (the_effects b) turn s) (state (else_made m) turn (state m turn s0)) known (λ k lt. refl) (MB.more seen)
          (MB.means [] m.blocks (emptied (then_made m)) seen turn (state m turn s0) s x.placed known1 (subst (λ z. Counts z B.slots) (sym x.size) c.1) sees.second met_b fine holds tt (none_under B.run.is_pure) refl agree1)
      by_branch false =
          let x = then_grown m p in
          let y = else_grown m p in
          let e = x.size in
          let c = counts_split (length m.table) A.slots B.slots counts in
          agree_fewer (then_made m).table (else_made m).table (length m.table) seen (A.sees seen).after (in_order (the_effects a) turn s) (state (then_made m) turn (state m turn s0)) known (λ k lt. y.kept k (omega arith)) (MA.more seen)
          (MA.means [] m.blocks (block_more m) seen turn (state m turn s0) s p known c.0 sees.first met_a fine holds tt (none_under A.run.is_pure) refl agree)

      kept_means : Agree (if_made m).table seen (in_order (if nat_eq (word s guard.0) 0 then the_effects b else the_effects a) turn s) (state (if_made m) turn s0)
      kept_means =
          let s' = state m turn s0 in
          let place = moved m.table guard in
          subst (λ (z : SlotState). Agree (else_made m).table seen (in_order (if nat_eq (word s guard.0) 0 then the_effects b else the_effects a) turn s) z)
          (sym (pushed m.body (If place (then_made m).body (else_made m).body offset) (stmt_effect (Stmt-F.If place (map effect (then_made m).body) (map effect (else_made m).body) offset)) (effect_if place (then_made m).body (else_made m).body offset) turn s0))
          (subst (λ z. Agree (else_made m).table seen (in_order (if nat_eq (word s guard.0) 0 then the_effects b else the_effects a) turn s) (in_order (if nat_eq z 0 then map effect (else_made m).body else map effect (then_made m).body) turn s'))
          (sym (agree.bindings guard.0 sees.there)) (by_branch (nat_eq (word s guard.0) 0)))

    abbrev if_parts : Parts
    if_parts = layer_parts (layer (Stmt-F.If guard a b offset))

    if_stays : (pure : (all_pure (the_runs a) && all_pure (the_runs b)) ≡ true) (gs : List Guard) → is_some gs ≡ true → (block : ℕ) (m : Made) (seen : Sight) (turn : ℕ) (s0 : SlotState) → Placed m.table m.next → Known (length m.table) seen
        → Counts (length m.table) (A.slots ++ B.slots) → Sees seen → GuardsAt m.table seen gs → Stays m (if_run (is_flat gs) gs block m) seen gs turn s0
    if_stays pure gs some block m seen turn s0 p known counts sees at =
        subst (λ (c : Bool). Stays m (if_run c gs block m) seen gs turn s0) (sym (or_first (is_some gs) (is_hidden hides guard (the_runs a) (the_runs b)) some)) (both_stay gs block m seen turn s0 p known counts sees at pure)

    record Meets : Type 0 where
      pub first : A.meets ≡ true
      pub second : B.meets ≡ true
      pub itself : good (Stmt-F.If guard (map (meets good) (stmts a)) (map (meets good) (stmts b)) offset) ≡ true

    meets_parts : if_parts.meets ≡ true → Meets
    meets_parts h =
        let p = and_parts (good (Stmt-F.If guard (map (meets good) (stmts a)) (map (meets good) (stmts b)) offset)) (A.meets && B.meets) h in
        let q = and_parts A.meets B.meets p.1 in
        record { first = q.0; second = q.1; itself = p.0 }

    if_agrees : (c : Bool) (gs : List Guard) → is_flat gs ≡ c → (block : ℕ) (m : Made) (seen : Sight) (turn : ℕ) (s0 s : SlotState) → Placed m.table m.next → Known (length m.table) seen
        → Counts (length m.table) (A.slots ++ B.slots) → Sees seen → Meets → Fine turn → Holds s → GuardsAt m.table seen gs → Under Turns Fine Holds gs (all_pure (the_runs a) && all_pure (the_runs b))
        → all_wanted (state m turn s0) gs ≡ true → Agree m.table seen s (state m turn s0)
        → Agree (if_run c gs block m).table seen (in_order (if nat_eq (word s guard.0) 0 then the_effects b else the_effects a) turn s) (state (if_run c gs block m) turn s0)
    if_agrees true gs is block m seen turn s0 s p known counts sees met fine holds at under wants a' =
        let u = why (either_of (is_some gs) (is_hidden hides guard (the_runs a) (the_runs b)) is) in
        taken gs block m seen turn s0 p known counts sees at u.1 s u.0 met.first met.second fine holds wants a' (word s guard.0) refl
        (laws.guard u.0 guard (map (meets good) (stmts a)) (map (meets good) (stmts b)) offset met.itself s holds)
      where
        why : (is_some gs ≡ true) ⊎ (is_hidden hides guard (the_runs a) (the_runs b) ≡ true) → Turns × ((all_pure (the_runs a) && all_pure (the_runs b)) ≡ true)
        why (inl some) = under some
        why (inr hidden) =
            let p = and_parts (hides guard && (all_pure (the_runs a) && all_pure (the_runs b))) (is_some (the_runs a) || is_some (the_runs b)) hidden in
            let q = and_parts (hides guard) (all_pure (the_runs a) && all_pure (the_runs b)) p.0 in
            (laws.hidden guard q.0, q.1)
    if_agrees false gs is block m seen turn s0 s p known counts sees met fine holds at under wants a' = kept_means m seen turn s0 s p known counts sees met.first met.second fine holds a'

    if_means : Meant' if_parts
    if_means =
        record {
          grows = λ gs block m p. if_grown (is_flat gs) gs block m p;
          known = λ n seen known counts. known_later n (n + size) seen known (omega arith);
          more = λ seen. more_none seen;
          stays = λ pure gs some block m seen turn s0 p known counts sees at. if_stays pure gs some block m seen turn s0 p known counts (sees_parts seen sees) at;
          keeps = keeps_at (layer (Stmt-F.If guard a b offset));
          means = λ gs block m seen turn s0 s p known counts sees met fine holds at under wants a'.
              if_agrees (is_flat gs) gs refl block m seen turn s0 s p known counts (sees_parts seen sees) (meets_parts met) fine holds at under wants a';
        }

  module _ (count : ℕ) (body : List M) where
    abbrev B' : Parts
    B' = the_parts_of body

    MB' : Meant' B'
    MB' = list_means body

    abbrev inner : ℕ → Made → Made
    inner block m = run_all (the_runs body) [] block (emptied m)

    abbrev for_parts : Parts
    for_parts = layer_parts (layer (Stmt-F.For count body))

    for_grown : (block : ℕ) (m : Made) → Placed m.table m.next → Grown m (kept_for count (the_runs body) block m) (length B'.slots)
    for_grown block m p = let x = MB'.grows [] block (emptied m) p in record { placed = x.placed; next = x.next; size = x.size; kept = x.kept }

    module _ (block : ℕ) (m : Made) (seen : Sight) (p : Placed m.table m.next) (known : Known (length m.table) seen) (counts : Counts (length m.table) B'.slots) (sees : (B'.sees seen).all ≡ true) (met : for_parts.meets ≡ true) where
      met_parts : (good (Stmt-F.For count (map (meets good) (stmts body))) ≡ true) × (B'.meets ≡ true)
      met_parts = and_parts (good (Stmt-F.For count (map (meets good) (stmts body)))) B'.meets met

      none_under' : Under Turns Fine Holds [] B'.run.is_pure
      none_under' h = absurd (true≢false (sym h))

      loop : (n : ℕ) → n ≤ count → (s s' : SlotState) → Holds s → Agree m.table seen s s' → Holds (turns n (in_order (the_effects body)) s) × Agree m.table seen (turns n (in_order (the_effects body)) s) (turns n (in_order (map effect (inner block m).body)) s')
      loop zero le s s' holds a = (holds, a)
      loop (suc n) le s s' holds a =
          let before = loop n (omega arith) s s' holds a in
          let t = turns n (in_order (the_effects body)) s in
          let t' = turns n (in_order (map effect (inner block m).body)) s' in
          let x = MB'.grows [] block (emptied m) p in
          let fine = laws.fine count (map (meets good) (stmts body)) met_parts.0 n (omega arith) in (
            MB'.keeps met_parts.1 n t fine before.0,
            agree_fewer (inner block m).table m.table (length m.table) seen (B'.sees seen).after (in_order (the_effects body) n t) (state (inner block m) n t') known (λ k lt. sym (x.kept k lt)) (MB'.more seen)
                (MB'.means [] block (emptied m) seen n t' t p known counts sees met_parts.1 fine before.0 tt none_under' refl before.1),
          )

      for_agrees : (turn : ℕ) (s0 s : SlotState) → Holds s → Agree m.table seen s (state m turn s0)
          → Agree (kept_for count (the_runs body) block m).table seen (turns count (in_order (the_effects body)) s) (state (kept_for count (the_runs body) block m) turn s0)
      for_agrees turn s0 s holds a =
          let x = MB'.grows [] block (emptied m) p in
          subst (λ (z : SlotState). Agree (inner block m).table seen (turns count (in_order (the_effects body)) s) z)
          (sym (pushed m.body (For count (inner block m).body) (stmt_effect (Stmt-F.For count (map effect (inner block m).body))) (effect_for count (inner block m).body) turn s0))
          (agree_fewer m.table (inner block m).table (length m.table) seen seen (turns count (in_order (the_effects body)) s) (turns count (in_order (map effect (inner block m).body)) (state m turn s0)) known x.kept (more_none seen)
          (loop count (omega arith) s (state m turn s0) holds a).1)

    for_means : Meant' for_parts
    for_means =
        record {
          grows = λ gs block m p. for_grown block m p;
          known = λ n seen known counts. known_later n (n + length B'.slots) seen known (omega arith);
          more = λ seen. more_none seen;
          stays = λ pure gs some block m seen turn s0 p known counts sees at. absurd (true≢false (sym pure));
          keeps = keeps_at (layer (Stmt-F.For count body));
          means = λ gs block m seen turn s0 s p known counts sees met fine holds at under wants a. for_agrees block m seen p known counts sees met turn s0 s holds a;
        }

  step : (y : Stmt-F M) → Meant' (layer_parts (layer y))
  step (Stmt-F.Let x r) = let_means x r
  step (Stmt-F.NewVar v x) = var_means v x
  step (Stmt-F.NewArray v cells) = array_means v cells
  step (Stmt-F.Store v x) = store_means v x
  step (Stmt-F.Put v i x) = put_means v i x
  step (Stmt-F.Output x host offset) = output_means x host offset
  step (Stmt-F.If guard a b offset) = if_means guard a b offset
  step (Stmt-F.For count body) = for_means count body

  pub stmt_means : (s : Stmt) → Meant' (parts s)
  stmt_means = ind-Stmt (λ s. Meant' (parts s)) (λ x y is. subst (λ z. Meant' (parts (roll-Stmt z))) is (subst Meant' (sym (parts_roll (layer y))) (step y)))

  abbrev with_meaning : List Stmt → List M
  with_meaning [] = []
  with_meaning (s ∷ ss) = (s, stmt_means s) ∷ with_meaning ss

  with_things : (ss : List Stmt) → stmts (with_meaning ss) ≡ ss
  with_things [] = refl
  with_things (s ∷ ss) = ap (λ (z : List Stmt). s ∷ z) (with_things ss)

  pub body_means : (body : List Stmt) → Meant' (list_parts Stmt parts Turns Fine Holds body)
  body_means body = subst (λ (z : List Stmt). Meant' (list_parts Stmt parts Turns Fine Holds z)) (with_things body) (list_means (with_meaning body))
