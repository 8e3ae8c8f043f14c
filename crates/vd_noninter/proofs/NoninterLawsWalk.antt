-- The whole program keeps two runs in step.
use Rattle.std.proofs.Common.{◌≡◌, ℕ, Bool, true, false, true≢false, ◌&&◌, not, List, [], ◌∷◌, ◌++◌, map, replicate, refl, sym, ap, ◌∙◌, subst, subst₂, if◌then◌else◌, nat_eq, slice_index, slice_index_or, slice_set}
use Rattle.std.proofs.lemmas.Bool.{and_parts}
use Rattle.vd_base.specs.declared.ids.SlotId.{SlotId}
use Rattle.vd_core.specs.declared.normal.Right.{Right}
use Rattle.vd_core.specs.declared.normal.Right.TheVariants.{Lit, Turn, Copy, Apply, Input, Declassify, Endorse, Load, Get}
use Rattle.vd_core.specs.declared.normal.Stmt.{Stmt, roll-Stmt, map-Stmt, ind-Stmt}
use Rattle.vd_core.specs.declared.normal.Stmt.TheOpen.{Stmt-F}
use Rattle.vd_core.specs.declared.normal.Stmt.TheFolds.{fold-roll-Stmt}
use Rattle.vd_semantics.specs.World.{later_words, after_input, after_output}
use Rattle.vd_semantics.specs.ProgramMeaning.{SlotState, Effect, word_at, array_at, with_word, with_array, in_world, right_word, after_right, in_order, stmt_effect, effect, block_effect}
use Rattle.vd_noninter.specs.Flowing.{Knowledge, only_with, right_flows, right_hides, Flow, all_flow, all_hide, flow_step, flow}
use Rattle.vd_noninter.specs.Agreement.{Agree}
use Rattle.vd_noninter.specs.Watching.{Watched, Taps, run_of, right_downgraded, words_at, Showing, shape, watched_step, watched}
use Rattle.vd_noninter.proofs.Steps.{word_put_other, item_put_other, item_set_other, length_set}
use Rattle.vd_noninter.proofs.Runs.{agree_refl, agree_sym, agree_trans, InStep, Seen, Unseen, block, seen_none, seen_more, seen_loop, unseen_none, unseen_more, unseen_loop, branch, unseen_branch}
use Rattle.vd_noninter.proofs.Statements.{only, never_true, agree_word, agree_array, agree_output, agree_after_right, right_in_step, freed_same, shown_same, left}

abbrev pub taps_of : Knowledge → Showing → Taps
taps_of k shows = record { given = k.given; freed = k.freed; kept = k.kept; shows = shows }

module _ (k : Knowledge) (shows : Showing) where
  -- ---- where control is not kept
  apart : (test : ℕ → Bool) (x y : ℕ) → not (test x) ≡ true → test y ≡ true → x ≡ y → ⊥
  apart test x y off on here = never_true (test x) off (ap test here ∙ on)

  hidden_word : (s : SlotState) (x : SlotId) (w : ℕ) → not (k.kept x.0) ≡ true → Agree k s (with_word x w s)
  hidden_word s x w off = record {
    words = λ y is. sym (word_put_other s.words x.0 y w (apart k.kept x.0 y off is));
    arrays = λ y is. refl;
    inputs = λ host is i. refl;
    hosts = refl;
    outputs = λ host is. refl;
  }

  hidden_array : (s : SlotState) (x : SlotId) (w : List ℕ) → not (k.kept x.0) ≡ true → Agree k s (with_array x w s)
  hidden_array s x w off = record {
    words = λ y is. refl;
    arrays = λ y is. sym (item_put_other [] s.arrays x.0 y w (apart k.kept x.0 y off is));
    inputs = λ host is i. refl;
    hosts = refl;
    outputs = λ host is. refl;
  }

  hidden_input : (s : SlotState) (i : ℕ) → not (k.known i) ≡ true → Agree k s (in_world (after_input s.world i) s)
  hidden_input s i off = record {
    words = λ y is. refl;
    arrays = λ y is. refl;
    inputs = λ host is j. ap (λ z. slice_index z j) (sym (item_set_other [] s.world.inputs i host (later_words (left k s i)) (apart k.known i host off is)));
    hosts = refl;
    outputs = λ host is. refl;
  }

  hidden_output : (s : SlotState) (host w : ℕ) → not (k.heard host) ≡ true → Agree k s (in_world (after_output s.world host w) s)
  hidden_output s host w off = record {
    words = λ y is. refl;
    arrays = λ y is. refl;
    inputs = λ i is j. refl;
    hosts = sym (length_set s.world.outputs host (slice_index_or s.world.outputs host [] ++ w ∷ []));
    outputs = λ i is. sym (item_set_other [] s.world.outputs host i (slice_index_or s.world.outputs host [] ++ w ∷ []) (apart k.heard host i off is));
  }

  hidden_after_right : (x : SlotId) (r : Right) (s : SlotState) → right_hides k x r ≡ true → Agree k s (in_world (after_right r s.world) s)
  hidden_after_right x (Lit n) s h = agree_refl k s
  hidden_after_right x Turn s h = agree_refl k s
  hidden_after_right x (Copy y) s h = agree_refl k s
  hidden_after_right x (Apply op ys) s h = agree_refl k s
  hidden_after_right x (Input host) s h = hidden_input s host.0 h
  hidden_after_right x (Declassify y to) s h = agree_refl k s
  hidden_after_right x (Endorse y to) s h = agree_refl k s
  hidden_after_right x (Load v) s h = agree_refl k s
  hidden_after_right x (Get v i) s h = agree_refl k s

  untold : (b : Bool) (ws : List ℕ) → not b ≡ true → (if b then ws else []) ≡ []
  untold true ws h = absurd (true≢false (sym h))
  untold false ws h = refl

  right_silent : (x : SlotId) (r : Right) (s : SlotState) → right_hides k x r ≡ true → right_downgraded k.given x r s ≡ []
  right_silent x (Lit n) s h = refl
  right_silent x Turn s h = refl
  right_silent x (Copy y) s h = refl
  right_silent x (Apply op ys) s h = refl
  right_silent x (Input host) s h = refl
  right_silent x (Declassify y to) s h = untold (k.given.declassified x.0 y.0) (word_at s y ∷ []) (and_parts (not (k.given.declassified x.0 y.0)) (not (k.freed.declassified x.0 y.0)) h).0
  right_silent x (Endorse y to) s h = untold (k.given.endorsed x.0 y.0) (word_at s y ∷ []) (and_parts (not (k.given.endorsed x.0 y.0)) (not (k.freed.endorsed x.0 y.0)) h).0
  right_silent x (Load v) s h = refl
  right_silent x (Get v i) s h = refl

  right_closed : (x : SlotId) (r : Right) (s : SlotState) → right_hides k x r ≡ true → right_downgraded k.freed x r s ≡ []
  right_closed x (Lit n) s h = refl
  right_closed x Turn s h = refl
  right_closed x (Copy y) s h = refl
  right_closed x (Apply op ys) s h = refl
  right_closed x (Input host) s h = refl
  right_closed x (Declassify y to) s h = untold (k.freed.declassified x.0 y.0) (word_at s y ∷ []) (and_parts (not (k.given.declassified x.0 y.0)) (not (k.freed.declassified x.0 y.0)) h).1
  right_closed x (Endorse y to) s h = untold (k.freed.endorsed x.0 y.0) (word_at s y ∷ []) (and_parts (not (k.given.endorsed x.0 y.0)) (not (k.freed.endorsed x.0 y.0)) h).1
  right_closed x (Load v) s h = refl
  right_closed x (Get v i) s h = refl

  -- ---- what a statement keeps
  pub record Keeps (f : Flow) (w : Watched) : Type 0 where
    pub flows : f.flows ≡ true → Seen k w
    pub hides : f.hides ≡ true → Unseen k w

  abbrev step_of : Stmt-F Watched → Watched
  step_of = watched_step (taps_of k shows)

  seen_let : (x : SlotId) (r : Right) → right_flows k x r ≡ true → Seen k (step_of (Stmt-F.Let x r))
  seen_let x r flows turn s t rest rest' a e =
      let p = right_in_step k x r turn s t rest rest' a flows e in
      let after =
      agree_word k (in_world (after_right r s.world) s) (in_world (after_right r t.world) t) x (right_word r turn s) (right_word r turn t) (agree_after_right k r s t a) p.same
      in
      record {
        given = p.given;
        freed = freed_same k x r s t a flows;
        shown = shown_same k (stmt_effect (Stmt-F.Let x r) turn s) (stmt_effect (Stmt-F.Let x r) turn t) (shows (shape (Stmt-F.Let x r))) after;
        rest = p.rest;
        agree = after;
      }

  unseen_let : (x : SlotId) (r : Right) → (not (k.kept x.0) && right_hides k x r) ≡ true → Unseen k (step_of (Stmt-F.Let x r))
  unseen_let x r hides turn s =
      let parts = and_parts (not (k.kept x.0)) (right_hides k x r) hides in
      let between = in_world (after_right r s.world) s in
      record {
        silent = right_silent x r s parts.1;
        closed = right_closed x r s parts.1;
        agree = agree_trans k s between (with_word x (right_word r turn s) between) (hidden_after_right x r s parts.1) (hidden_word between x (right_word r turn s) parts.0);
      }

  -- a variable is made or stored
  seen_store : (v y : SlotId) (s t : SlotState) → only_with (k.kept v.0) (k.kept y.0) ≡ true → Agree k s t → Agree k (with_word v (word_at s y) s) (with_word v (word_at t y) t)
  seen_store v y s t flows a = agree_word k s t v (word_at s y) (word_at t y) a (λ is. a.words y.0 (only (k.kept v.0) (k.kept y.0) flows is))

  seen_put : (v i y : SlotId) (s t : SlotState) → only_with (k.kept v.0) (k.kept i.0 && k.kept y.0) ≡ true → Agree k s t
      → Agree k (with_array v (slice_set (array_at s v) (word_at s i) (word_at s y)) s) (with_array v (slice_set (array_at t v) (word_at t i) (word_at t y)) t)
  seen_put v i y s t flows a =
      agree_array k s t v (slice_set (array_at s v) (word_at s i) (word_at s y)) (slice_set (array_at t v) (word_at t i) (word_at t y)) a
      (λ is.
      let parts = and_parts (k.kept i.0) (k.kept y.0) (only (k.kept v.0) (k.kept i.0 && k.kept y.0) flows is) in
      rw (a.arrays v.0 is, a.words i.0 parts.0, a.words y.0 parts.1) refl)

  -- ---- branches
  guarded : (b : Bool) (w w' ws ws' : List ℕ) → b ≡ true → w ≡ w' → ws ≡ ws' → (if b then w ++ ws else []) ≡ (if b then w' ++ ws' else [])
  guarded b w w' ws ws' is e f = rw (e, f) refl

  module _ (g : SlotId) (A B : List Watched) (offset : ℕ) where
    abbrev if_watched : Watched
    if_watched = step_of (Stmt-F.If g A B offset)

    seen_if : k.kept g.0 ≡ true → Seen k (block k A) → Seen k (block k B) → Seen k if_watched
    seen_if is first second turn s t rest rest' a e =
        let same : word_at s g ≡ word_at t g = a.words g.0 is in
        let p = by (nat_eq (word_at s g) 0) (nat_eq (word_at t g) 0) (ap (λ w. nat_eq w 0) same) e in
        record { given = p.given; freed = p.freed; shown = guarded (k.kept g.0) (words_at k.kept (shows (shape (Stmt-F.If g A B offset))) s) (words_at k.kept (shows (shape (Stmt-F.If g A B offset))) t) ((branch k (nat_eq (word_at s g) 0) A B).shown turn s) ((branch k (nat_eq (word_at t g) 0) A B).shown turn t) is (shown_same k s t (shows (shape (Stmt-F.If g A B offset))) a) p.shown; rest = p.rest; agree = p.agree }
      where
        by : (c c' : Bool) → c ≡ c' → (branch k c A B).given turn s ++ rest ≡ (branch k c' A B).given turn t ++ rest'
            → InStep k ((branch k c A B).given turn s) ((branch k c' A B).given turn t) ((branch k c A B).freed turn s) ((branch k c' A B).freed turn t) ((branch k c A B).shown turn s) ((branch k c' A B).shown turn t) rest rest' ((branch k c A B).run turn s) ((branch k c' A B).run turn t)
        by true true same e = second turn s t rest rest' a e
        by false false same e = first turn s t rest rest' a e
        by true false same e = absurd (true≢false same)
        by false true same e = absurd (true≢false (sym same))

    unseen_if : Unseen k (block k A) → Unseen k (block k B) → Unseen k if_watched
    unseen_if first second turn s =
        let p = unseen_branch k (nat_eq (word_at s g) 0) A B first second turn s in
        record { silent = p.silent; closed = p.closed; agree = p.agree }

    hidden_if : k.kept g.0 ≡ false → Unseen k (block k A) → Unseen k (block k B) → Seen k if_watched
    hidden_if is first second turn s t rest rest' a e =
        let one = unseen_branch k (nat_eq (word_at s g) 0) A B first second turn s in
        let two = unseen_branch k (nat_eq (word_at t g) 0) A B first second turn t in
        record {
          given = one.silent ∙ sym two.silent;
          freed = one.closed ∙ sym two.closed;
          shown = rw is refl;
          rest = sym (ap (λ z. z ++ rest) one.silent) ∙ e ∙ ap (λ z. z ++ rest') two.silent;
          agree = agree_trans k (if_watched.run turn s) s (if_watched.run turn t) (agree_sym k s (if_watched.run turn s) one.agree) (agree_trans k s t (if_watched.run turn t) a two.agree);
        }

    if_keeps : (fs gs : List Flow) → Keeps (record { flows = all_flow fs; hides = all_hide fs }) (block k A) → Keeps (record { flows = all_flow gs; hides = all_hide gs }) (block k B)
        → Keeps (flow_step k (Stmt-F.If g fs gs offset)) if_watched
    if_keeps fs gs first second = record { flows = λ h. by (k.kept g.0) refl h; hides = λ h. let parts = and_parts (all_hide fs) (all_hide gs) h in unseen_if (first.hides parts.0) (second.hides parts.1) }
      where
        by : (b : Bool) → k.kept g.0 ≡ b → (if b then all_flow fs && all_flow gs else all_hide fs && all_hide gs) ≡ true → Seen k if_watched
        by true is h = let parts = and_parts (all_flow fs) (all_flow gs) h in seen_if is (first.flows parts.0) (second.flows parts.1)
        by false is h = let parts = and_parts (all_hide fs) (all_hide gs) h in hidden_if is (first.hides parts.0) (second.hides parts.1)

  -- ---- the walk
  abbrev M : Type 0
  M = (s : Stmt) × Keeps (flow k s) (watched (taps_of k shows) s)

  abbrev statements : List M → List Stmt
  statements = map {B = Stmt} (λ (m : M). m.0)

  abbrev layer : Stmt-F M → Stmt-F Stmt
  layer = map-Stmt M Stmt (λ m. m.0)

  abbrev BlockKeeps : List Stmt → Type 0
  BlockKeeps body = Keeps (record { flows = all_flow (map (flow k) body); hides = all_hide (map (flow k) body) }) (block k (map (watched (taps_of k shows)) body))

  none_keep : BlockKeeps []
  none_keep = record { flows = λ h. seen_none k; hides = λ h. unseen_none k }

  more_keep : (s : Stmt) (body : List Stmt) → Keeps (flow k s) (watched (taps_of k shows) s) → BlockKeeps body → BlockKeeps (s ∷ body)
  more_keep s body first rest = record {
    flows = λ h.
        let parts = and_parts (flow k s).flows (all_flow (map (flow k) body)) h in
        seen_more k (watched (taps_of k shows) s) (map (watched (taps_of k shows)) body) (first.flows parts.0) (rest.flows parts.1);
    hides = λ h.
        let parts = and_parts (flow k s).hides (all_hide (map (flow k) body)) h in
        unseen_more k (watched (taps_of k shows) s) (map (watched (taps_of k shows)) body) (first.hides parts.0) (rest.hides parts.1);
  }

  all_keep : (ms : List M) → BlockKeeps (statements ms)
  all_keep [] = none_keep
  all_keep (m ∷ ms) = more_keep m.0 (statements ms) m.1 (all_keep ms)

  step : (y : Stmt-F M) → Keeps (flow_step k (map-Stmt Stmt Flow (flow k) (layer y))) (step_of (map-Stmt Stmt Watched (watched (taps_of k shows)) (layer y)))
  step (Stmt-F.Let x r) = record { flows = λ h. seen_let x r h; hides = λ h. unseen_let x r h }
  step (Stmt-F.NewVar v y) = record {
    flows = λ h turn s t rest rest' a e.
        let after = seen_store v y s t h a in
        record { given = refl; freed = refl; shown = shown_same k (with_word v (word_at s y) s) (with_word v (word_at t y) t) (shows (shape (Stmt-F.NewVar v y))) after; rest = e; agree = after };
    hides = λ h turn s. record { silent = refl; closed = refl; agree = hidden_word s v (word_at s y) h };
  }
  step (Stmt-F.NewArray v size) = record {
    flows = λ h turn s t rest rest' a e. record { given = refl; freed = refl; shown = shown_same k s t (shows (shape (Stmt-F.NewArray v size))) a; rest = e; agree = agree_array k s t v (replicate size 0) (replicate size 0) a (λ is. refl) };
    hides = λ h turn s. record { silent = refl; closed = refl; agree = hidden_array s v (replicate size 0) h };
  }
  step (Stmt-F.Store v y) = record {
    flows = λ h turn s t rest rest' a e.
        let after = seen_store v y s t h a in
        record { given = refl; freed = refl; shown = shown_same k (with_word v (word_at s y) s) (with_word v (word_at t y) t) (shows (shape (Stmt-F.Store v y))) after; rest = e; agree = after };
    hides = λ h turn s. record { silent = refl; closed = refl; agree = hidden_word s v (word_at s y) h };
  }
  step (Stmt-F.Put v i y) = record {
    flows = λ h turn s t rest rest' a e. record { given = refl; freed = refl; shown = shown_same k s t (shows (shape (Stmt-F.Put v i y))) a; rest = e; agree = seen_put v i y s t h a };
    hides = λ h turn s. record { silent = refl; closed = refl; agree = hidden_array s v (slice_set (array_at s v) (word_at s i) (word_at s y)) h };
  }
  step (Stmt-F.Output y host offset) = record {
    flows = λ h turn s t rest rest' a e.
        record {
          given = refl;
          freed = refl;
          shown = shown_same k s t (shows (shape (Stmt-F.Output y host offset))) a;
          rest = e;
          agree = agree_output k s t host.0 (word_at s y) (word_at t y) a (λ is. a.words y.0 (only (k.heard host.0) (k.kept y.0) h is));
        };
    hides = λ h turn s. record { silent = refl; closed = refl; agree = hidden_output s host.0 (word_at s y) h };
  }
  step (Stmt-F.If g a b offset) =
      if_keeps g (map (watched (taps_of k shows)) (statements a)) (map (watched (taps_of k shows)) (statements b)) offset (map (flow k) (statements a)) (map (flow k) (statements b)) (all_keep a) (all_keep b)
  step (Stmt-F.For count body) = record {
    flows = λ h turn s t rest rest' a e.
        let p = seen_loop k count (map (watched (taps_of k shows)) (statements body)) ((all_keep body).flows h) turn s t rest rest' a e in
        record { given = p.given; freed = p.freed; shown = p.shown; rest = p.rest; agree = p.agree };
    hides = λ h turn s.
        let p = unseen_loop k count (map (watched (taps_of k shows)) (statements body)) ((all_keep body).hides h) turn s in
        record { silent = p.silent; closed = p.closed; agree = p.agree };
  }

  pub stmt_keeps : (s : Stmt) → Keeps (flow k s) (watched (taps_of k shows) s)
  stmt_keeps = ind-Stmt (λ s. Keeps (flow k s) (watched (taps_of k shows) s)) (λ x y is. subst (λ z. Keeps (flow k (roll-Stmt z)) (watched (taps_of k shows) (roll-Stmt z))) is (at_roll y))
    where
      at_roll : (y : Stmt-F M) → Keeps (flow k (roll-Stmt (layer y))) (watched (taps_of k shows) (roll-Stmt (layer y)))
      at_roll y =
          subst₂ Keeps (sym (fold-roll-Stmt Flow (flow_step k) (layer y))) (sym (fold-roll-Stmt Watched step_of (layer y))) (step y)

  pub body_keeps : (body : List Stmt) → BlockKeeps body
  body_keeps [] = none_keep
  body_keeps (s ∷ body) = more_keep s body (stmt_keeps s) (body_keeps body)

-- ---- what is watched is what is done
module _ (taps : Taps) where
  abbrev R : Type 0
  R = (s : Stmt) × ((watched taps s).run ≡ effect s)

  abbrev named_by : List R → List Stmt
  named_by = map {B = Stmt} (λ (m : R). m.0)

  abbrev run_layer : Stmt-F R → Stmt-F Stmt
  run_layer = map-Stmt R Stmt (λ m. m.0)

  runs_are : (ms : List R) → map run_of (map (watched taps) (named_by ms)) ≡ map effect (named_by ms)
  runs_are [] = refl
  runs_are (m ∷ ms) = rw (m.1, runs_are ms) refl

  run_step : (y : Stmt-F R) → (watched_step taps (map-Stmt Stmt Watched (watched taps) (run_layer y))).run ≡ stmt_effect (map-Stmt Stmt Effect effect (run_layer y))
  run_step (Stmt-F.Let x r) = refl
  run_step (Stmt-F.NewVar v y) = refl
  run_step (Stmt-F.NewArray v size) = refl
  run_step (Stmt-F.Store v y) = refl
  run_step (Stmt-F.Put v i y) = refl
  run_step (Stmt-F.Output y host offset) = refl
  run_step (Stmt-F.If g a b offset) = rw (runs_are a, runs_are b) refl
  run_step (Stmt-F.For count body) = rw (runs_are body) refl

  pub run_is : (s : Stmt) → (watched taps s).run ≡ effect s
  run_is = ind-Stmt (λ s. (watched taps s).run ≡ effect s) (λ x y is. subst (λ z. (watched taps (roll-Stmt z)).run ≡ effect (roll-Stmt z)) is (at_roll y))
    where
      at_roll : (y : Stmt-F R) → (watched taps (roll-Stmt (run_layer y))).run ≡ effect (roll-Stmt (run_layer y))
      at_roll y = ap run_of (fold-roll-Stmt Watched (watched_step taps) (run_layer y)) ∙ run_step y ∙ sym (fold-roll-Stmt Effect stmt_effect (run_layer y))

  pub block_run_is : (body : List Stmt) → in_order (map run_of (map (watched taps) body)) ≡ block_effect body
  block_run_is body = ap in_order (all body)
    where
      all : (body : List Stmt) → map run_of (map (watched taps) body) ≡ map effect body
      all [] = refl
      all (s ∷ body) = rw (run_is s, all body) refl
