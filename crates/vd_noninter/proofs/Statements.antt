-- Each statement keeps two runs in step.
use Rattle.std.proofs.Common.{◌≡◌, ℕ, Bool, true, false, true≢false, ◌&&◌, ◌||◌, not, List, [], ◌∷◌, ◌++◌, map, refl, sym, ap, ◌∙◌, subst, subst₂, if◌then◌else◌, nat_eq, slice_index, slice_index_or}
use Rattle.std.specs.List.{list_all}
use Rattle.std.proofs.lemmas.Bool.{and_parts, eqb-true, eq-eqb}
use Rattle.vd_base.specs.declared.ids.SlotId.{SlotId}
use Rattle.vd_base.specs.Operations.{result_of}
use Rattle.vd_core.specs.declared.normal.Right.{Right}
use Rattle.vd_core.specs.declared.normal.Right.TheVariants.{Lit, Turn, Copy, Apply, Input, Declassify, Endorse, Load, Get}
use Rattle.vd_semantics.specs.World.{first_word, later_words, after_input, after_output}
use Rattle.vd_semantics.specs.Stores.{put}
use Rattle.vd_semantics.specs.ProgramMeaning.{SlotState, word_at, array_at, with_word, with_array, in_world, right_word, after_right}
use Rattle.vd_noninter.specs.Flowing.{Knowledge, only_with, downgrade_flows, right_flows}
use Rattle.vd_noninter.specs.Agreement.{SameWords, Agree}
use Rattle.vd_noninter.specs.Watching.{right_downgraded, words_at}
use Rattle.vd_noninter.proofs.Steps.{word_put, word_put_other, item_put, item_put_other, item_set_other, length_set, later_at, told_same, first_same, later_same}

pub only : (a b : Bool) → only_with a b ≡ true → a ≡ true → b ≡ true
only true b h e = h
only false b h e = absurd (true≢false (sym e))

pub never_true : (a : Bool) → not a ≡ true → a ≡ true → ⊥
never_true true h e = true≢false (sym h)
never_true false h e = true≢false (sym e)

-- ---- writing at one place
write_word : (xs ys : List ℕ) (i j w w' : ℕ) → (i ≡ j → w ≡ w') → slice_index xs j ≡ slice_index ys j → slice_index (put 0 xs i w) j ≡ slice_index (put 0 ys i w') j
write_word xs ys i j w w' same e = by (nat_eq i j) refl
  where
    by : (b : Bool) → nat_eq i j ≡ b → slice_index (put 0 xs i w) j ≡ slice_index (put 0 ys i w') j
    by true is =
        let here = eqb-true i j is in
        subst (λ z. slice_index (put 0 xs i w) z ≡ slice_index (put 0 ys i w') z) here (word_put xs i w ∙ same here ∙ sym (word_put ys i w'))
    by false is =
        let other : i ≡ j → ⊥ = λ h. true≢false (sym (eq-eqb i j h) ∙ is) in
        word_put_other xs i j w other ∙ e ∙ sym (word_put_other ys i j w' other)

write_array : (xs ys : List (List ℕ)) (i j : ℕ) (w w' : List ℕ) → (i ≡ j → w ≡ w') → slice_index_or xs j [] ≡ slice_index_or ys j [] → slice_index_or (put [] xs i w) j [] ≡ slice_index_or (put [] ys i w') j []
write_array xs ys i j w w' same e = by (nat_eq i j) refl
  where
    by : (b : Bool) → nat_eq i j ≡ b → slice_index_or (put [] xs i w) j [] ≡ slice_index_or (put [] ys i w') j []
    by true is =
        let here = eqb-true i j is in
        subst (λ z. slice_index_or (put [] xs i w) z [] ≡ slice_index_or (put [] ys i w') z []) here (item_put [] xs i w ∙ same here ∙ sym (item_put [] ys i w'))
    by false is =
        let other : i ≡ j → ⊥ = λ h. true≢false (sym (eq-eqb i j h) ∙ is) in
        item_put_other [] xs i j w other ∙ e ∙ sym (item_put_other [] ys i j w' other)

module _ (k : Knowledge) where
  -- ---- states that agree, after a step
  pub agree_word : (s t : SlotState) (x : SlotId) (w w' : ℕ) → Agree k s t → (k.kept x.0 ≡ true → w ≡ w') → Agree k (with_word x w s) (with_word x w' t)
  agree_word s t x w w' a same = record {
    words = λ y is. write_word s.words t.words x.0 y w w' (λ here. same (ap k.kept here ∙ is)) (a.words y is);
    arrays = a.arrays;
    inputs = a.inputs;
    hosts = a.hosts;
    outputs = a.outputs;
  }

  pub agree_array : (s t : SlotState) (x : SlotId) (w w' : List ℕ) → Agree k s t → (k.kept x.0 ≡ true → w ≡ w') → Agree k (with_array x w s) (with_array x w' t)
  agree_array s t x w w' a same = record {
    words = a.words;
    arrays = λ y is. write_array s.arrays t.arrays x.0 y w w' (λ here. same (ap k.kept here ∙ is)) (a.arrays y is);
    inputs = a.inputs;
    hosts = a.hosts;
    outputs = a.outputs;
  }

  abbrev pub left : SlotState → ℕ → List ℕ
  left s host = slice_index_or s.world.inputs host []

  take_input : (s t : SlotState) (i host : ℕ) → SameWords (left s host) (left t host) → SameWords (left (in_world (after_input s.world i) s) host) (left (in_world (after_input t.world i) t) host)
  take_input s t i host same = by (nat_eq i host) refl
    where
      by : (b : Bool) → nat_eq i host ≡ b → SameWords (left (in_world (after_input s.world i) s) host) (left (in_world (after_input t.world i) t) host)
      by true is =
          let here = eqb-true i host is in
          let at_host = subst (λ z. SameWords (left s z) (left t z)) (sym here) same in
          subst (λ z. SameWords (left (in_world (after_input s.world i) s) z) (left (in_world (after_input t.world i) t) z)) here
          (subst₂ SameWords (sym (later_at s.world.inputs i)) (sym (later_at t.world.inputs i)) (later_same (left s i) (left t i) at_host))
      by false is =
          let other : i ≡ host → ⊥ = λ h. true≢false (sym (eq-eqb i host h) ∙ is) in
          subst₂ SameWords (sym (item_set_other [] s.world.inputs i host (later_words (left s i)) other)) (sym (item_set_other [] t.world.inputs i host (later_words (left t i)) other)) same

  agree_input : (s t : SlotState) (i : ℕ) → Agree k s t → Agree k (in_world (after_input s.world i) s) (in_world (after_input t.world i) t)
  agree_input s t i a = record {
    words = a.words;
    arrays = a.arrays;
    inputs = λ host is. take_input s t i host (a.inputs host is);
    hosts = a.hosts;
    outputs = a.outputs;
  }

  pub agree_output : (s t : SlotState) (host w w' : ℕ) → Agree k s t → (k.heard host ≡ true → w ≡ w') → Agree k (in_world (after_output s.world host w) s) (in_world (after_output t.world host w') t)
  agree_output s t host w w' a same = record {
    words = a.words;
    arrays = a.arrays;
    inputs = a.inputs;
    hosts = length_set s.world.outputs host (slice_index_or s.world.outputs host [] ++ w ∷ []) ∙ a.hosts ∙ sym (length_set t.world.outputs host (slice_index_or t.world.outputs host [] ++ w' ∷ []));
    outputs = λ i heard. by i heard (nat_eq host i) refl;
  }
    where
      by : (i : ℕ) → k.heard i ≡ true → (b : Bool) → nat_eq host i ≡ b → slice_index_or (after_output s.world host w).outputs i [] ≡ slice_index_or (after_output t.world host w').outputs i []
      by i heard true is =
          let here = eqb-true host i is in
          let told : slice_index_or s.world.outputs host [] ≡ slice_index_or t.world.outputs host [] = subst (λ z. slice_index_or s.world.outputs z [] ≡ slice_index_or t.world.outputs z []) (sym here) (a.outputs i heard) in
          subst (λ z. slice_index_or (after_output s.world host w).outputs z [] ≡ slice_index_or (after_output t.world host w').outputs z []) here
          (told_same s.world.outputs t.world.outputs host w a.hosts told ∙ ap (λ z. slice_index_or (after_output t.world host z).outputs host []) (same (ap k.heard here ∙ heard)))
      by i heard false is =
          let other : host ≡ i → ⊥ = λ h. true≢false (sym (eq-eqb host i h) ∙ is) in
          item_set_other [] s.world.outputs host i (slice_index_or s.world.outputs host [] ++ w ∷ []) other ∙ a.outputs i heard
          ∙ sym (item_set_other [] t.world.outputs host i (slice_index_or t.world.outputs host [] ++ w' ∷ []) other)

  -- ---- the words of kept slots
  operands_same : (s t : SlotState) (ys : List SlotId) → Agree k s t → list_all (λ y. k.kept y.0) ys ≡ true → map (word_at s) ys ≡ map (word_at t) ys
  operands_same s t [] a all = refl
  operands_same s t (y ∷ ys) a all =
      let parts = and_parts (k.kept y.0) (list_all (λ z. k.kept z.0) ys) all in
      rw (a.words y.0 parts.0, operands_same s t ys a parts.1) refl

  pub shown_same : (s t : SlotState) (ys : List SlotId) → Agree k s t → words_at k.kept ys s ≡ words_at k.kept ys t
  shown_same s t [] a = refl
  shown_same s t (y ∷ ys) a = by (k.kept y.0) refl (shown_same s t ys a)
    where
      by : (b : Bool) → k.kept y.0 ≡ b → words_at k.kept ys s ≡ words_at k.kept ys t → words_at k.kept (y ∷ ys) s ≡ words_at k.kept (y ∷ ys) t
      by true is more = rw (is, a.words y.0 is, more) refl
      by false is more = rw (is, more) refl

  -- ---- right sides
  pub record RightInStep (x : SlotId) (words words' left_over left_over' : List ℕ) (word word' : ℕ) : Type 0 where
    pub given : words ≡ words'
    pub rest : left_over ≡ left_over'
    pub same : k.kept x.0 ≡ true → word ≡ word'

  abbrev word_of : (ℕ → ℕ → Bool) → SlotId → SlotId → SlotState → List ℕ
  word_of test x y s = if test x.0 y.0 then word_at s y ∷ [] else []

  downgrade_in_step : (given freed : ℕ → ℕ → Bool) (x y : SlotId) (s t : SlotState) (rest rest' : List ℕ) → Agree k s t → downgrade_flows k given freed x y ≡ true → word_of given x y s ++ rest ≡ word_of given x y t ++ rest'
      → RightInStep x (word_of given x y s) (word_of given x y t) rest rest' (word_at s y) (word_at t y)
  downgrade_in_step given freed x y s t rest rest' a flows e =
      by (given x.0 y.0) (only (k.kept x.0) (given x.0 y.0 || k.kept y.0) (and_parts (only_with (k.kept x.0) (given x.0 y.0 || k.kept y.0)) (only_with (freed x.0 y.0) (k.kept y.0)) flows).0) e
    where
      by : (b : Bool) → (k.kept x.0 ≡ true → (b || k.kept y.0) ≡ true) → (if b then word_at s y ∷ [] else []) ++ rest ≡ (if b then word_at t y ∷ [] else []) ++ rest'
          → RightInStep x (if b then word_at s y ∷ [] else []) (if b then word_at t y ∷ [] else []) rest rest' (word_at s y) (word_at t y)
      by true h e = record { given = ap (λ z. z ∷ []) (ap first_word e); rest = ap later_words e; same = λ is. ap first_word e }
      by false h e = record { given = refl; rest = e; same = λ is. a.words y.0 (h is) }

  pub right_in_step : (x : SlotId) (r : Right) (turn : ℕ) (s t : SlotState) (rest rest' : List ℕ) → Agree k s t → right_flows k x r ≡ true
      → right_downgraded k.given x r s ++ rest ≡ right_downgraded k.given x r t ++ rest'
      → RightInStep x (right_downgraded k.given x r s) (right_downgraded k.given x r t) rest rest' (right_word r turn s) (right_word r turn t)
  right_in_step x (Lit n) turn s t rest rest' a flows e = record { given = refl; rest = e; same = λ is. refl }
  right_in_step x Turn turn s t rest rest' a flows e = record { given = refl; rest = e; same = λ is. refl }
  right_in_step x (Copy y) turn s t rest rest' a flows e = record { given = refl; rest = e; same = λ is. a.words y.0 (only (k.kept x.0) (k.kept y.0) flows is) }
  right_in_step x (Apply op ys) turn s t rest rest' a flows e =
      record { given = refl; rest = e; same = λ is. ap (result_of op) (operands_same s t ys a (only (k.kept x.0) (list_all (λ y. k.kept y.0) ys) flows is)) }
  right_in_step x (Input host) turn s t rest rest' a flows e =
      record { given = refl; rest = e; same = λ is. first_same (left s host.0) (left t host.0) (a.inputs host.0 (only (k.kept x.0) (k.known host.0) flows is)) }
  right_in_step x (Declassify y to) turn s t rest rest' a flows e = downgrade_in_step k.given.declassified k.freed.declassified x y s t rest rest' a flows e
  right_in_step x (Endorse y to) turn s t rest rest' a flows e = downgrade_in_step k.given.endorsed k.freed.endorsed x y s t rest rest' a flows e
  right_in_step x (Load v) turn s t rest rest' a flows e = record { given = refl; rest = e; same = λ is. a.words v.0 (only (k.kept x.0) (k.kept v.0) flows is) }
  right_in_step x (Get v i) turn s t rest rest' a flows e = record { given = refl; rest = e; same = same }
    where
      same : k.kept x.0 ≡ true → slice_index (array_at s v) (word_at s i) ≡ slice_index (array_at t v) (word_at t i)
      same is = let parts = and_parts (k.kept v.0) (k.kept i.0) (only (k.kept x.0) (k.kept v.0 && k.kept i.0) flows is) in rw (a.arrays v.0 parts.0, a.words i.0 parts.1) refl

  pub agree_after_right : (r : Right) (s t : SlotState) → Agree k s t → Agree k (in_world (after_right r s.world) s) (in_world (after_right r t.world) t)
  agree_after_right (Lit n) s t a = a
  agree_after_right Turn s t a = a
  agree_after_right (Copy y) s t a = a
  agree_after_right (Apply op ys) s t a = a
  agree_after_right (Input host) s t a = agree_input s t host.0 a
  agree_after_right (Declassify y to) s t a = a
  agree_after_right (Endorse y to) s t a = a
  agree_after_right (Load v) s t a = a
  agree_after_right (Get v i) s t a = a

  -- what is freed is kept
  downgrade_freed : (given freed : ℕ → ℕ → Bool) (x y : SlotId) (s t : SlotState) → Agree k s t → downgrade_flows k given freed x y ≡ true → word_of freed x y s ≡ word_of freed x y t
  downgrade_freed given freed x y s t a flows =
      by (freed x.0 y.0) (only (freed x.0 y.0) (k.kept y.0) (and_parts (only_with (k.kept x.0) (given x.0 y.0 || k.kept y.0)) (only_with (freed x.0 y.0) (k.kept y.0)) flows).1)
    where
      by : (b : Bool) → (b ≡ true → k.kept y.0 ≡ true) → (if b then word_at s y ∷ [] else []) ≡ (if b then word_at t y ∷ [] else [])
      by true h = ap (λ z. z ∷ []) (a.words y.0 (h refl))
      by false h = refl

  pub freed_same : (x : SlotId) (r : Right) (s t : SlotState) → Agree k s t → right_flows k x r ≡ true → right_downgraded k.freed x r s ≡ right_downgraded k.freed x r t
  freed_same x (Lit n) s t a flows = refl
  freed_same x Turn s t a flows = refl
  freed_same x (Copy y) s t a flows = refl
  freed_same x (Apply op ys) s t a flows = refl
  freed_same x (Input host) s t a flows = refl
  freed_same x (Declassify y to) s t a flows = downgrade_freed k.given.declassified k.freed.declassified x y s t a flows
  freed_same x (Endorse y to) s t a flows = downgrade_freed k.given.endorsed k.freed.endorsed x y s t a flows
  freed_same x (Load v) s t a flows = refl
  freed_same x (Get v i) s t a flows = refl
