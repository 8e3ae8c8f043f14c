-- Statements that touch nothing kept, given or known: with given words too they change nothing of it, and flow.
use Rattle.std.proofs.Common.{◌≡◌, ℕ, zero, suc, nat_eq, Bool, true, false, true≢false, ◌&&◌, ◌||◌, not, if◌then◌else◌, List, [], ◌∷◌, replicate, slice_index, slice_index_or, slice_set, ◌++◌, refl, sym, ap, ◌∙◌}
use Rattle.std.proofs.lemmas.Bool.{and_parts}
use Rattle.vd_base.specs.declared.ids.SlotId.{SlotId}
use Rattle.vd_core.specs.declared.normal.Right.{Right}
use Rattle.vd_core.specs.declared.normal.Right.TheVariants.{Lit, Turn, Copy, Apply, Input, Declassify, Endorse, Load, Get}
use Rattle.vd_semantics.specs.World.{first_word, later_words, after_input, after_output}
use Rattle.vd_semantics.specs.ProgramMeaning.{SlotState, Effect, word_at, array_at, with_word, with_array, in_world, right_word, after_right, in_order, stmt_effect}
use Rattle.vd_semantics.specs.Turns.{turns}
use Rattle.vd_split.specs.Block.{Block, End, Let, NewVar, NewArray, Store, Put, Output, If, For, each}
use Rattle.vd_noninter.specs.Agreement.{Agree}
use Rattle.vd_noninter.specs.Flowing.{Knowledge, only_with, downgrade_flows, right_flows, right_hides, all_flow, all_hide, flow_step}
use Rattle.vd_noninter.proofs.Front.{and_of, agree_refl, agree_trans, never_true, word_put_other, item_put_other, item_set_other, length_set}
use Rattle.vd_integrity_runs.specs.Endorsed.{Given, Doing, is_given, bound, all_done, given_step}

module _ (k : Knowledge) where
  -- ---- one step
  apart : (test : ℕ → Bool) (x y : ℕ) → not (test x) ≡ true → test y ≡ true → x ≡ y → ⊥
  apart test x y off on here = never_true (test x) off (ap test here ∙ on)

  hidden_word : (s : SlotState) (x : SlotId) (w : ℕ) → not (k.kept x.0) ≡ true → Agree k s (with_word x w s)
  hidden_word s x w off = record {
    words = λ y is. sym (word_put_other s.words x.0 y w (apart k.kept x.0 y off is));
    arrays = λ y is. refl;
    inputs = λ host is i. refl;
    hosts = refl;
    outputs = λ host is. refl;
  }

  hidden_array : (s : SlotState) (x : SlotId) (w : List ℕ) → not (k.kept x.0) ≡ true → Agree k s (with_array x w s)
  hidden_array s x w off = record {
    words = λ y is. refl;
    arrays = λ y is. sym (item_put_other [] s.arrays x.0 y w (apart k.kept x.0 y off is));
    inputs = λ host is i. refl;
    hosts = refl;
    outputs = λ host is. refl;
  }

  hidden_input : (s : SlotState) (i : ℕ) → not (k.known i) ≡ true → Agree k s (in_world (after_input s.world i) s)
  hidden_input s i off = record {
    words = λ y is. refl;
    arrays = λ y is. refl;
    inputs = λ host is j. ap (λ z. slice_index z j) (sym (item_set_other [] s.world.inputs i host (later_words (slice_index_or s.world.inputs i [])) (apart k.known i host off is)));
    hosts = refl;
    outputs = λ host is. refl;
  }

  hidden_output : (s : SlotState) (host w : ℕ) → not (k.heard host) ≡ true → Agree k s (in_world (after_output s.world host w) s)
  hidden_output s host w off = record {
    words = λ y is. refl;
    arrays = λ y is. refl;
    inputs = λ i is j. refl;
    hosts = sym (length_set s.world.outputs host (slice_index_or s.world.outputs host [] ++ w ∷ []));
    outputs = λ i is. sym (item_set_other [] s.world.outputs host i (slice_index_or s.world.outputs host [] ++ w ∷ []) (apart k.heard host i off is));
  }

  hidden_after_right : (x : SlotId) (r : Right) (s : SlotState) → right_hides k x r ≡ true → Agree k s (in_world (after_right r s.world) s)
  hidden_after_right x (Lit n) s h = agree_refl k s
  hidden_after_right x Turn s h = agree_refl k s
  hidden_after_right x (Copy y) s h = agree_refl k s
  hidden_after_right x (Apply op ys) s h = agree_refl k s
  hidden_after_right x (Input host) s h = hidden_input s host.0 h
  hidden_after_right x (Declassify y to) s h = agree_refl k s
  hidden_after_right x (Endorse y to) s h = agree_refl k s
  hidden_after_right x (Load v) s h = agree_refl k s
  hidden_after_right x (Get v i) s h = agree_refl k s

  not_true : (b : Bool) → not b ≡ true → b ≡ false
  not_true true h = absurd (true≢false (sym h))
  not_true false h = refl

  not_given : (x : SlotId) (r : Right) → right_hides k x r ≡ true → is_given k.given.endorsed x r ≡ false
  not_given x (Lit n) h = refl
  not_given x Turn h = refl
  not_given x (Copy y) h = refl
  not_given x (Apply op ys) h = refl
  not_given x (Input host) h = refl
  not_given x (Declassify y to) h = refl
  not_given x (Endorse y to) h = not_true (k.given.endorsed x.0 y.0) (and_parts (not (k.given.endorsed x.0 y.0)) (not (k.freed.endorsed x.0 y.0)) h).0
  not_given x (Load v) h = refl
  not_given x (Get v i) h = refl

  -- ---- blocks that hide

  -- no word is endorsed, and what is kept stays
  pub record Still (s t : Given) : Type 0 where
    pub left : t.left ≡ s.left
    pub agree : Agree k s.state t.state

  still_here : (s : Given) → Still s s
  still_here s = record { left = refl; agree = agree_refl k s.state }

  still_on : (s t u : Given) → Still s t → Still t u → Still s u
  still_on s t u a b = record { left = b.left ∙ a.left; agree = agree_trans k s.state t.state u.state a.agree b.agree }

  let_still : (x : SlotId) (r : Right) (turn : ℕ) (s : Given) → (not (k.kept x.0) && right_hides k x r) ≡ true → Still s (bound k.given.endorsed x r turn s)
  let_still x r turn s h =
      let parts = and_parts (not (k.kept x.0)) (right_hides k x r) h in
      let between = in_world (after_right r s.state.world) s.state in
      let word = if is_given k.given.endorsed x r then first_word s.left else right_word r turn s.state in
      record {
        left = ap (λ (b : Bool). if b then later_words s.left else s.left) (not_given x r parts.1);
        agree = agree_trans k s.state between (with_word x word between) (hidden_after_right x r s.state parts.1) (hidden_word between x word parts.0);
      }

  turns_still : (f : Doing) → ((turn : ℕ) (s : Given) → Still s (f turn s)) → (n : ℕ) (s : Given) → Still s (turns n f s)
  turns_still f one zero s = still_here s
  turns_still f one (suc n) s = still_on s (turns n f s) (f n (turns n f s)) (turns_still f one n s) (one n (turns n f s))

  branch_still : (c : Bool) (ts es : List Doing) (turn : ℕ) (s : Given) → Still s (all_done ts turn s) → Still s (all_done es turn s) → Still s (all_done (if c then es else ts) turn s)
  branch_still true ts es turn s first other = other
  branch_still false ts es turn s first other = first

  abbrev pub hides : Block → Bool
  hides b = all_hide (each (flow_step k) b)

  abbrev pub flows : Block → Bool
  flows b = all_flow (each (flow_step k) b)

  abbrev pub run_of : Block → Doing
  run_of b = all_done (each (given_step k.given.endorsed) b)

  pub hidden_still : (b : Block) → hides b ≡ true → (turn : ℕ) (s : Given) → Still s (run_of b turn s)
  hidden_still End h turn s = still_here s
  hidden_still (Let x right rest) h turn s =
      let parts = and_parts (not (k.kept x.0) && right_hides k x right) (hides rest) h in
      let t = bound k.given.endorsed x right turn s in
      still_on s t (run_of rest turn t) (let_still x right turn s parts.0) (hidden_still rest parts.1 turn t)
  hidden_still (NewVar v y rest) h turn s =
      let parts = and_parts (not (k.kept v.0)) (hides rest) h in
      let t : Given = record { state = with_word v (word_at s.state y) s.state; left = s.left } in
      still_on s t (run_of rest turn t) (record { left = refl; agree = hidden_word s.state v (word_at s.state y) parts.0 }) (hidden_still rest parts.1 turn t)
  hidden_still (NewArray v size rest) h turn s =
      let parts = and_parts (not (k.kept v.0)) (hides rest) h in
      let t : Given = record { state = with_array v (replicate size 0) s.state; left = s.left } in
      still_on s t (run_of rest turn t) (record { left = refl; agree = hidden_array s.state v (replicate size 0) parts.0 }) (hidden_still rest parts.1 turn t)
  hidden_still (Store v y rest) h turn s =
      let parts = and_parts (not (k.kept v.0)) (hides rest) h in
      let t : Given = record { state = with_word v (word_at s.state y) s.state; left = s.left } in
      still_on s t (run_of rest turn t) (record { left = refl; agree = hidden_word s.state v (word_at s.state y) parts.0 }) (hidden_still rest parts.1 turn t)
  hidden_still (Put v i y rest) h turn s =
      let parts = and_parts (not (k.kept v.0)) (hides rest) h in
      let words = slice_set (array_at s.state v) (word_at s.state i) (word_at s.state y) in
      let t : Given = record { state = with_array v words s.state; left = s.left } in
      still_on s t (run_of rest turn t) (record { left = refl; agree = hidden_array s.state v words parts.0 }) (hidden_still rest parts.1 turn t)
  hidden_still (Output y host offset rest) h turn s =
      let parts = and_parts (not (k.heard host.0)) (hides rest) h in
      let t : Given = record { state = in_world (after_output s.state.world host.0 (word_at s.state y)) s.state; left = s.left } in
      still_on s t (run_of rest turn t) (record { left = refl; agree = hidden_output s.state host.0 (word_at s.state y) parts.0 }) (hidden_still rest parts.1 turn t)
  hidden_still (If g tb eb offset rest) h turn s =
      let parts = and_parts (hides tb && hides eb) (hides rest) h in
      let both = and_parts (hides tb) (hides eb) parts.0 in
      let ts = each (given_step k.given.endorsed) tb in
      let es = each (given_step k.given.endorsed) eb in
      let t = all_done (if nat_eq (word_at s.state g) 0 then es else ts) turn s in
      still_on s t (run_of rest turn t) (branch_still (nat_eq (word_at s.state g) 0) ts es turn s (hidden_still tb both.0 turn s) (hidden_still eb both.1 turn s)) (hidden_still rest parts.1 turn t)
  hidden_still (For count body rest) h turn s =
      let parts = and_parts (hides body) (hides rest) h in
      let t = turns count (run_of body) s in
      still_on s t (run_of rest turn t) (turns_still (run_of body) (λ turn s. hidden_still body parts.0 turn s) count s) (hidden_still rest parts.1 turn t)

  -- ---- no word is taken
  abbrev pub effect_of : Block → Effect
  effect_of b = in_order (each stmt_effect b)

  abbrev given : SlotState → List ℕ → Given
  given c left = record { state = c; left = left }

  let_runs : (x : SlotId) (r : Right) → is_given k.given.endorsed x r ≡ false → (turn : ℕ) (c : SlotState) (more : List ℕ)
      → bound k.given.endorsed x r turn (given c more) ≡ given (with_word x (right_word r turn c) (in_world (after_right r c.world) c)) more
  let_runs x r off turn c more =
      ap (λ (b : Bool). given (with_word x (if b then first_word more else right_word r turn c) (in_world (after_right r c.world) c)) (if b then later_words more else more)) off

  turns_run : (f : Doing) (g : Effect) → ((turn : ℕ) (c : SlotState) (more : List ℕ) → f turn (given c more) ≡ given (g turn c) more) → (n : ℕ) (c : SlotState) (more : List ℕ) → turns n f (given c more) ≡ given (turns n g c) more
  turns_run f g one zero c more = refl
  turns_run f g one (suc n) c more = ap (f n) (turns_run f g one n c more) ∙ one n (turns n g c) more

  branch_runs : (b : Bool) (ts es : List Doing) (tf ef : List Effect) (turn : ℕ) (c : SlotState) (more : List ℕ) → all_done ts turn (given c more) ≡ given (in_order tf turn c) more
      → all_done es turn (given c more) ≡ given (in_order ef turn c) more → all_done (if b then es else ts) turn (given c more) ≡ given (in_order (if b then ef else tf) turn c) more
  branch_runs true ts es tf ef turn c more first other = other
  branch_runs false ts es tf ef turn c more first other = first

  pub hidden_runs : (b : Block) → hides b ≡ true → (turn : ℕ) (c : SlotState) (more : List ℕ) → run_of b turn (given c more) ≡ given (effect_of b turn c) more
  hidden_runs End h turn c more = refl
  hidden_runs (Let x right rest) h turn c more =
      let parts = and_parts (not (k.kept x.0) && right_hides k x right) (hides rest) h in
      let both = and_parts (not (k.kept x.0)) (right_hides k x right) parts.0 in
      ap (run_of rest turn) (let_runs x right (not_given x right both.1) turn c more) ∙ hidden_runs rest parts.1 turn (with_word x (right_word right turn c) (in_world (after_right right c.world) c)) more
  hidden_runs (NewVar v y rest) h turn c more = hidden_runs rest (and_parts (not (k.kept v.0)) (hides rest) h).1 turn (with_word v (word_at c y) c) more
  hidden_runs (NewArray v size rest) h turn c more = hidden_runs rest (and_parts (not (k.kept v.0)) (hides rest) h).1 turn (with_array v (replicate size 0) c) more
  hidden_runs (Store v y rest) h turn c more = hidden_runs rest (and_parts (not (k.kept v.0)) (hides rest) h).1 turn (with_word v (word_at c y) c) more
  hidden_runs (Put v i y rest) h turn c more =
      hidden_runs rest (and_parts (not (k.kept v.0)) (hides rest) h).1 turn (with_array v (slice_set (array_at c v) (word_at c i) (word_at c y)) c) more
  hidden_runs (Output y host offset rest) h turn c more =
      hidden_runs rest (and_parts (not (k.heard host.0)) (hides rest) h).1 turn (in_world (after_output c.world host.0 (word_at c y)) c) more
  hidden_runs (If g tb eb offset rest) h turn c more =
      let parts = and_parts (hides tb && hides eb) (hides rest) h in
      let both = and_parts (hides tb) (hides eb) parts.0 in
      let b = nat_eq (word_at c g) 0 in
      ap (run_of rest turn) (branch_runs b (each (given_step k.given.endorsed) tb) (each (given_step k.given.endorsed) eb) (each stmt_effect tb) (each stmt_effect eb) turn c more (hidden_runs tb both.0 turn c more) (hidden_runs eb both.1 turn c more))
      ∙ hidden_runs rest parts.1 turn (in_order (if b then each stmt_effect eb else each stmt_effect tb) turn c) more
  hidden_runs (For count body rest) h turn c more =
      let parts = and_parts (hides body) (hides rest) h in
      ap (run_of rest turn) (turns_run (run_of body) (effect_of body) (λ turn c more. hidden_runs body parts.0 turn c more) count c more) ∙ hidden_runs rest parts.1 turn (turns count (effect_of body) c) more

  -- ---- what hides flows
  only_if : (a b : Bool) → not a ≡ true → only_with a b ≡ true
  only_if true b h = absurd (true≢false (sym h))
  only_if false b h = refl

  downgrade_open : (given freed : ℕ → ℕ → Bool) (x y : SlotId) → not (k.kept x.0) ≡ true → (not (given x.0 y.0) && not (freed x.0 y.0)) ≡ true → downgrade_flows k given freed x y ≡ true
  downgrade_open given freed x y off h =
      and_of (only_with (k.kept x.0) (given x.0 y.0 || k.kept y.0)) (only_with (freed x.0 y.0) (k.kept y.0))
      (only_if (k.kept x.0) (given x.0 y.0 || k.kept y.0) off) (only_if (freed x.0 y.0) (k.kept y.0) (and_parts (not (given x.0 y.0)) (not (freed x.0 y.0)) h).1)

  right_open : (x : SlotId) (r : Right) → not (k.kept x.0) ≡ true → right_hides k x r ≡ true → right_flows k x r ≡ true
  right_open x (Lit n) off h = refl
  right_open x Turn off h = refl
  right_open x (Copy y) off h = only_if (k.kept x.0) _ off
  right_open x (Apply op ys) off h = only_if (k.kept x.0) _ off
  right_open x (Input host) off h = only_if (k.kept x.0) _ off
  right_open x (Declassify y to) off h = downgrade_open k.given.declassified k.freed.declassified x y off h
  right_open x (Endorse y to) off h = downgrade_open k.given.endorsed k.freed.endorsed x y off h
  right_open x (Load v) off h = only_if (k.kept x.0) _ off
  right_open x (Get v i) off h = only_if (k.kept x.0) _ off

  branch_open : (c ft fe ht he : Bool) → (ht ≡ true → ft ≡ true) → (he ≡ true → fe ≡ true) → (ht && he) ≡ true → (if c then ft && fe else ht && he) ≡ true
  branch_open true ft fe ht he first other h = let parts = and_parts ht he h in and_of ft fe (first parts.0) (other parts.1)
  branch_open false ft fe ht he first other h = h

  pub hidden_flows : (b : Block) → hides b ≡ true → flows b ≡ true
  hidden_flows End h = refl
  hidden_flows (Let x right rest) h =
      let parts = and_parts (not (k.kept x.0) && right_hides k x right) (hides rest) h in
      let both = and_parts (not (k.kept x.0)) (right_hides k x right) parts.0 in
      and_of (right_flows k x right) (flows rest) (right_open x right both.0 both.1) (hidden_flows rest parts.1)
  hidden_flows (NewVar v y rest) h =
      let parts = and_parts (not (k.kept v.0)) (hides rest) h in
      and_of (only_with (k.kept v.0) (k.kept y.0)) (flows rest) (only_if (k.kept v.0) (k.kept y.0) parts.0) (hidden_flows rest parts.1)
  hidden_flows (NewArray v size rest) h = hidden_flows rest (and_parts (not (k.kept v.0)) (hides rest) h).1
  hidden_flows (Store v y rest) h =
      let parts = and_parts (not (k.kept v.0)) (hides rest) h in
      and_of (only_with (k.kept v.0) (k.kept y.0)) (flows rest) (only_if (k.kept v.0) (k.kept y.0) parts.0) (hidden_flows rest parts.1)
  hidden_flows (Put v i y rest) h =
      let parts = and_parts (not (k.kept v.0)) (hides rest) h in
      and_of (only_with (k.kept v.0) (k.kept i.0 && k.kept y.0)) (flows rest) (only_if (k.kept v.0) (k.kept i.0 && k.kept y.0) parts.0) (hidden_flows rest parts.1)
  hidden_flows (Output y host offset rest) h =
      let parts = and_parts (not (k.heard host.0)) (hides rest) h in
      and_of (only_with (k.heard host.0) (k.kept y.0)) (flows rest) (only_if (k.heard host.0) (k.kept y.0) parts.0) (hidden_flows rest parts.1)
  hidden_flows (If g tb eb offset rest) h =
      let parts = and_parts (hides tb && hides eb) (hides rest) h in
      and_of (if k.kept g.0 then flows tb && flows eb else hides tb && hides eb) (flows rest)
      (branch_open (k.kept g.0) (flows tb) (flows eb) (hides tb) (hides eb) (hidden_flows tb) (hidden_flows eb) parts.0) (hidden_flows rest parts.1)
  hidden_flows (For count body rest) h =
      let parts = and_parts (hides body) (hides rest) h in
      and_of (flows body) (flows rest) (hidden_flows body parts.0) (hidden_flows rest parts.1)
