-- Two states that agree on what is in sight, and guards.
use Rattle.std.proofs.Common.{◌≡◌, ◌⊎◌, inl, inr, ℕ, ◌%◌, ◌<◌, ◌≤◌, nat_eq, Bool, true, false, ◌&&◌, List, [], ◌∷◌, ◌++◌, length, map, slice_index, slice_index_or, refl, sym, ap, ap₂, ◌∙◌, subst, arith}
use Rattle.std.specs.List.{list_all}
use Rattle.std.proofs.lemmas.Bool.{cases_eq, eqb-true, and_parts}
use Rattle.vd_base.specs.declared.ids.SlotId.{SlotId}
use Rattle.vd_core.specs.Facts.{Sight, is_binding, is_variable, is_array, with_binding, with_variable, with_array}
use Rattle.vd_core.specs.declared.normal.Right.{Right}
use Rattle.vd_core.specs.declared.normal.Right.TheVariants.{Lit, Turn, Copy, Apply, Input, Declassify, Endorse, Load, Get}
use Rattle.vd_core.specs.Facts.{right_sees}
use Rattle.vd_base.specs.Operations.{result_of}
use Rattle.vd_semantics.specs.World.{World}
use Rattle.vd_semantics.specs.ProgramMeaning.{SlotState, word_at, with_word, with_array as put_array, in_world, right_word, after_right}
use Rattle.vd_rewrite.specs.declared.guard.Guard.{Guard}
use Rattle.vd_rewrite.specs.Rewriting.{slot, moved, moved_right}
use Rattle.vd_rewrite.proofs.Stores.{item_put, item_put_other}
use Rattle.vd_rewrite.proofs.Tables.{Placed, placed_apart, Known, either_of, or_later}
use Rattle.vd_rewrite.proofs.Chain.{word, wanted, is_wanted, all_wanted, LowGuards}

abbrev pub array : SlotState → ℕ → List ℕ
array s k = slice_index_or s.arrays k []

-- the second state has at new numbers what the first has at old ones, for all that is in sight
pub record Agree (table : List ℕ) (seen : Sight) (s s' : SlotState) : Type 0 where
  pub world : s'.world ≡ s.world
  pub bindings : (k : ℕ) → is_binding seen (slot k) ≡ true → word s' (slice_index table k) ≡ word s k
  pub variables : (k : ℕ) → is_variable seen (slot k) ≡ true → word s' (slice_index table k) ≡ word s k
  pub arrays : (k : ℕ) → is_array seen (slot k) ≡ true → array s' (slice_index table k) ≡ array s k

-- all that is in sight first is in sight later
pub record More (seen later : Sight) : Type 0 where
  pub bindings : (k : ℕ) → is_binding seen (slot k) ≡ true → is_binding later (slot k) ≡ true
  pub variables : (k : ℕ) → is_variable seen (slot k) ≡ true → is_variable later (slot k) ≡ true
  pub arrays : (k : ℕ) → is_array seen (slot k) ≡ true → is_array later (slot k) ≡ true

pub more_none : (seen : Sight) → More seen seen
more_none seen = record { bindings = λ k h. h; variables = λ k h. h; arrays = λ k h. h }

pub more_both : (a b c : Sight) → More a b → More b c → More a c
more_both a b c f g = record { bindings = λ k h. g.bindings k (f.bindings k h); variables = λ k h. g.variables k (f.variables k h); arrays = λ k h. g.arrays k (f.arrays k h) }

pub more_binding : (x : SlotId) (seen : Sight) → More seen (with_binding x seen)
more_binding x seen = record { bindings = λ k h. or_later (nat_eq k x.0) (is_binding seen (slot k)) h; variables = λ k h. h; arrays = λ k h. h }

pub more_variable : (x : SlotId) (seen : Sight) → More seen (with_variable x seen)
more_variable x seen = record { bindings = λ k h. h; variables = λ k h. or_later (nat_eq k x.0) (is_variable seen (slot k)) h; arrays = λ k h. h }

pub more_array : (x : SlotId) (seen : Sight) → More seen (with_array x seen)
more_array x seen = record { bindings = λ k h. h; variables = λ k h. h; arrays = λ k h. or_later (nat_eq k x.0) (is_array seen (slot k)) h }

-- what agrees where more is in sight agrees; the same numbers of slots in sight are enough
pub agree_fewer : (table table' : List ℕ) (n : ℕ) (seen later : Sight) (s s' : SlotState) → Known n seen → ((k : ℕ) → k < n → slice_index table' k ≡ slice_index table k) → More seen later → Agree table later s s' → Agree table' seen s s'
agree_fewer table table' n seen later s s' known same more a =
    record {
      world = a.world;
      bindings = λ k h. ap (word s') (same k (known.bindings k h)) ∙ a.bindings k (more.bindings k h);
      variables = λ k h. ap (word s') (same k (known.variables k h)) ∙ a.variables k (more.variables k h);
      arrays = λ k h. ap (array s') (same k (known.arrays k h)) ∙ a.arrays k (more.arrays k h);
    }

-- a second state that goes on without a change of what is below
pub agree_adds : (table : List ℕ) (next : ℕ) (seen : Sight) (s s' s'' : SlotState) → Placed table next → Known (length table) seen
    → s''.world ≡ s'.world → s''.arrays ≡ s'.arrays → ((j : ℕ) → j < next → word s'' j ≡ word s' j) → Agree table seen s s' → Agree table seen s s''
agree_adds table next seen s s' s'' p known world arrays below a =
    record {
      world = world ∙ a.world;
      bindings = λ k h. below (slice_index table k) (p.below k (known.bindings k h)) ∙ a.bindings k h;
      variables = λ k h. below (slice_index table k) (p.below k (known.variables k h)) ∙ a.variables k h;
      arrays = λ k h. ap (λ (z : List (List ℕ)). slice_index_or z (slice_index table k) []) arrays ∙ a.arrays k h;
    }

-- both worlds change alike
pub agree_world : (table : List ℕ) (seen : Sight) (s s' : SlotState) (w w' : World) → w' ≡ w → Agree table seen s s' → Agree table seen (in_world w s) (in_world w' s')
agree_world table seen s s' w w' e a = record { world = e; bindings = a.bindings; variables = a.variables; arrays = a.arrays }

-- the words of the same operands
words_same : (table : List ℕ) (seen : Sight) (s s' : SlotState) (xs : List SlotId) → Agree table seen s s' → list_all (is_binding seen) xs ≡ true → map (word_at s') (map (moved table) xs) ≡ map (word_at s) xs
words_same table seen s s' [] a h = refl
words_same table seen s s' (x ∷ xs) a h =
    let p = and_parts (is_binding seen x) (list_all (is_binding seen) xs) h in
    ap₂ (λ (y : ℕ) (ys : List ℕ). y ∷ ys) (a.bindings x.0 p.0) (words_same table seen s s' xs a p.1)

pub right_same : (table : List ℕ) (seen : Sight) (turn : ℕ) (s s' : SlotState) (r : Right) → Agree table seen s s' → right_sees r seen ≡ true → right_word (moved_right table r) turn s' ≡ right_word r turn s
right_same table seen turn s s' (Lit n) a h = refl
right_same table seen turn s s' Turn a h = refl
right_same table seen turn s s' (Copy x) a h = a.bindings x.0 h
right_same table seen turn s s' (Apply op xs) a h = ap (result_of op) (words_same table seen s s' xs a h)
right_same table seen turn s s' (Input host) a h = ap (λ (w : World). right_word (Input host) turn (in_world w s)) a.world
right_same table seen turn s s' (Declassify x to) a h = a.bindings x.0 h
right_same table seen turn s s' (Endorse x to) a h = a.bindings x.0 h
right_same table seen turn s s' (Load v) a h = a.variables v.0 h
right_same table seen turn s s' (Get v i) a h =
    let p = and_parts (is_array seen v) (is_binding seen i) h in
    ap₂ (λ (xs : List ℕ) (k : ℕ). slice_index xs k) (a.arrays v.0 p.0) (a.bindings i.0 p.1)

pub world_same : (table : List ℕ) (r : Right) (w w' : World) → w' ≡ w → after_right (moved_right table r) w' ≡ after_right r w
world_same table (Lit n) w w' e = e
world_same table Turn w w' e = e
world_same table (Copy x) w w' e = e
world_same table (Apply op xs) w w' e = e
world_same table (Input host) w w' e = ap (after_right (Input host)) e
world_same table (Declassify x to) w w' e = e
world_same table (Endorse x to) w w' e = e
world_same table (Load v) w w' e = e
world_same table (Get v i) w w' e = e

-- A slot that both write, the second at its new number.
module _ (table table' : List ℕ) (next n : ℕ) (seen : Sight) (s s' : SlotState) (x : SlotId) (is : x.0 ≡ length table) (p : Placed table next) (known : Known (length table) seen)
    (new : slice_index table' (length table) ≡ n) (same : (k : ℕ) → k < length table → slice_index table' k ≡ slice_index table k) (a : Agree table seen s s') where
  -- words: the second state went on below, and has the word at the new number
  module _ (w : ℕ) (t : SlotState) (world : t.world ≡ s'.world) (arrays : t.arrays ≡ s'.arrays) (below : (j : ℕ) → j < next → word t j ≡ word s' j) (there : word t n ≡ w) where
    old_word : (k : ℕ) → k < length table → word s' (slice_index table k) ≡ word s k → word t (slice_index table' k) ≡ word (with_word x w s) k
    old_word k low e =
        ap (word t) (same k low) ∙ below (slice_index table k) (p.below k low) ∙ e ∙ sym (item_put_other 0 s.words x.0 k w (λ z. omega arith))

    new_word : word t (slice_index table' x.0) ≡ word (with_word x w s) x.0
    new_word = ap (λ z. word t (slice_index table' z)) is ∙ ap (word t) new ∙ there ∙ sym (item_put 0 s.words x.0 w)

    kept_array : (k : ℕ) → is_array seen (slot k) ≡ true → array t (slice_index table' k) ≡ array (with_word x w s) k
    kept_array k h = ap (array t) (same k (known.arrays k h)) ∙ ap (λ (z : List (List ℕ)). slice_index_or z (slice_index table k) []) arrays ∙ a.arrays k h

    pub agree_binding : Agree table' (with_binding x seen) (with_word x w s) t
    agree_binding =
        record {
          world = world ∙ a.world;
          bindings = λ k h. at k (either_of (nat_eq k x.0) (is_binding seen (slot k)) h);
          variables = λ k h. old_word k (known.variables k h) (a.variables k h);
          arrays = kept_array;
        }
      where
        at : (k : ℕ) → (nat_eq k x.0 ≡ true) ⊎ (is_binding seen (slot k) ≡ true) → word t (slice_index table' k) ≡ word (with_word x w s) k
        at k (inl e) = subst (λ z. word t (slice_index table' z) ≡ word (with_word x w s) z) (sym (eqb-true k x.0 e)) new_word
        at k (inr e) = old_word k (known.bindings k e) (a.bindings k e)

    pub agree_variable : Agree table' (with_variable x seen) (with_word x w s) t
    agree_variable =
        record {
          world = world ∙ a.world;
          bindings = λ k h. old_word k (known.bindings k h) (a.bindings k h);
          variables = λ k h. at k (either_of (nat_eq k x.0) (is_variable seen (slot k)) h);
          arrays = kept_array;
        }
      where
        at : (k : ℕ) → (nat_eq k x.0 ≡ true) ⊎ (is_variable seen (slot k) ≡ true) → word t (slice_index table' k) ≡ word (with_word x w s) k
        at k (inl e) = subst (λ z. word t (slice_index table' z) ≡ word (with_word x w s) z) (sym (eqb-true k x.0 e)) new_word
        at k (inr e) = old_word k (known.variables k e) (a.variables k e)

  -- a new array
  module _ (ws : List ℕ) (low : next ≤ n) where
    old_array : (k : ℕ) → k < length table → array s' (slice_index table k) ≡ array s k → array (put_array (slot n) ws s') (slice_index table' k) ≡ array (put_array x ws s) k
    old_array k lt e =
        let b = p.below k lt in
        ap (array (put_array (slot n) ws s')) (same k lt) ∙ item_put_other [] s'.arrays n (slice_index table k) ws (λ z. omega arith) ∙ e ∙ sym (item_put_other [] s.arrays x.0 k ws (λ z. omega arith))

    new_array : array (put_array (slot n) ws s') (slice_index table' x.0) ≡ array (put_array x ws s) x.0
    new_array = ap (λ z. array (put_array (slot n) ws s') (slice_index table' z)) is ∙ ap (array (put_array (slot n) ws s')) new ∙ item_put [] s'.arrays n ws ∙ sym (item_put [] s.arrays x.0 ws)

    pub agree_array : Agree table' (with_array x seen) (put_array x ws s) (put_array (slot n) ws s')
    agree_array =
        record {
          world = a.world;
          bindings = λ k h. ap (word s') (same k (known.bindings k h)) ∙ a.bindings k h;
          variables = λ k h. ap (word s') (same k (known.variables k h)) ∙ a.variables k h;
          arrays = λ k h. at k (either_of (nat_eq k x.0) (is_array seen (slot k)) h);
        }
      where
        at : (k : ℕ) → (nat_eq k x.0 ≡ true) ⊎ (is_array seen (slot k) ≡ true) → array (put_array (slot n) ws s') (slice_index table' k) ≡ array (put_array x ws s) k
        at k (inl e) = subst (λ z. array (put_array (slot n) ws s') (slice_index table' z) ≡ array (put_array x ws s) z) (sym (eqb-true k x.0 e)) new_array
        at k (inr e) = old_array k (known.arrays k e) (a.arrays k e)

-- A variable or an array in sight that both write anew.
module _ (table : List ℕ) (next : ℕ) (seen : Sight) (s s' : SlotState) (v : SlotId) (p : Placed table next) (known : Known (length table) seen) (a : Agree table seen s s') where
  pub agree_store : is_variable seen v ≡ true → (w w' : ℕ) → w' ≡ w → Agree table seen (with_word v w s) (with_word (moved table v) w' s')
  agree_store is w w' e =
      record {
        world = a.world;
        bindings = λ k h.
            item_put_other 0 s'.words (slice_index table v.0) (slice_index table k) w' (λ z. known.apart k h (subst (λ j. is_variable seen (slot j) ≡ true) (same_slot k (known.bindings k h) z) is))
            ∙ a.bindings k h ∙ sym (item_put_other 0 s.words v.0 k w (λ z. known.apart k h (subst (λ j. is_variable seen (slot j) ≡ true) z is)));
        variables = λ k h. at k h (cases_eq v.0 k);
        arrays = a.arrays;
      }
    where
      same_slot : (k : ℕ) → k < length table → slice_index table v.0 ≡ slice_index table k → v.0 ≡ k
      same_slot k low z = placed_apart table next v.0 k p (known.variables v.0 is) low z

      at : (k : ℕ) → is_variable seen (slot k) ≡ true → (v.0 ≡ k) ⊎ (v.0 ≡ k → ⊥) → word (with_word (moved table v) w' s') (slice_index table k) ≡ word (with_word v w s) k
      at k h (inl z) =
          subst (λ j. word (with_word (moved table v) w' s') (slice_index table j) ≡ word (with_word v w s) j) z (item_put 0 s'.words (slice_index table v.0) w' ∙ e ∙ sym (item_put 0 s.words v.0 w))
      at k h (inr z) =
          item_put_other 0 s'.words (slice_index table v.0) (slice_index table k) w' (λ q. z (same_slot k (known.variables k h) q)) ∙ a.variables k h ∙ sym (item_put_other 0 s.words v.0 k w z)

  pub agree_put : is_array seen v ≡ true → (ws ws' : List ℕ) → ws' ≡ ws → Agree table seen (put_array v ws s) (put_array (moved table v) ws' s')
  agree_put is ws ws' e = record { world = a.world; bindings = a.bindings; variables = a.variables; arrays = λ k h. at k h (cases_eq v.0 k) }
    where
      at : (k : ℕ) → is_array seen (slot k) ≡ true → (v.0 ≡ k) ⊎ (v.0 ≡ k → ⊥) → array (put_array (moved table v) ws' s') (slice_index table k) ≡ array (put_array v ws s) k
      at k h (inl z) =
          subst (λ j. array (put_array (moved table v) ws' s') (slice_index table j) ≡ array (put_array v ws s) j) z (item_put [] s'.arrays (slice_index table v.0) ws' ∙ e ∙ sym (item_put [] s.arrays v.0 ws))
      at k h (inr z) =
          item_put_other [] s'.arrays (slice_index table v.0) (slice_index table k) ws' (λ q. z (placed_apart table next v.0 k p (known.arrays v.0 is) (known.arrays k h) q)) ∙ a.arrays k h
          ∙ sym (item_put_other [] s.arrays v.0 k ws z)

-- Guards that are bindings in sight.

abbrev pub IsGuardAt : List ℕ → Sight → Guard → Type 0
IsGuardAt table seen g = (k : ℕ) × ((g.slot.0 ≡ slice_index table k) × (is_binding seen (slot k) ≡ true))

abbrev pub GuardsAt : List ℕ → Sight → List Guard → Type 0
GuardsAt table seen [] = Unit {0}
GuardsAt table seen (g ∷ gs) = IsGuardAt table seen g × GuardsAt table seen gs

pub guards_low : (table : List ℕ) (next : ℕ) (seen : Sight) (gs : List Guard) → Placed table next → Known (length table) seen → GuardsAt table seen gs → LowGuards next gs
guards_low table next seen [] p known h = tt
guards_low table next seen (g ∷ gs) p known h =
    let e = h.0.1.0 in
    let b = p.below h.0.0 (known.bindings h.0.0 h.0.1.1) in
    (omega arith, guards_low table next seen gs p known h.1)

pub guards_later : (table table' : List ℕ) (seen later : Sight) (gs : List Guard) → Known (length table) seen → ((k : ℕ) → k < length table → slice_index table' k ≡ slice_index table k) → More seen later → GuardsAt table seen gs → GuardsAt table' later gs
guards_later table table' seen later [] known same more h = tt
guards_later table table' seen later (g ∷ gs) known same more h =
    ((h.0.0, (h.0.1.0 ∙ sym (same h.0.0 (known.bindings h.0.0 h.0.1.1)), more.bindings h.0.0 h.0.1.1)), guards_later table table' seen later gs known same more h.1)

pub guards_push : (table : List ℕ) (seen : Sight) (gs : List Guard) (g : Guard) → IsGuardAt table seen g → GuardsAt table seen gs → GuardsAt table seen (gs ++ g ∷ [])
guards_push table seen [] g is h = (is, tt)
guards_push table seen (g' ∷ gs) g is h = (h.0, guards_push table seen gs g is h.1)

pub wanted_push : (s : SlotState) (gs : List Guard) (g : Guard) → all_wanted s (gs ++ g ∷ []) ≡ (all_wanted s gs && is_wanted s g)
wanted_push s [] g = last (is_wanted s g)
  where
    last : (b : Bool) → (b && true) ≡ b
    last true = refl
    last false = refl
wanted_push s (g' ∷ gs) g = ap (λ z. is_wanted s g' && z) (wanted_push s gs g) ∙ sym (assoc (is_wanted s g') (all_wanted s gs) (is_wanted s g))
  where
    assoc : (a b c : Bool) → ((a && b) && c) ≡ (a && (b && c))
    assoc true b c = refl
    assoc false b c = refl

pub wanted_stays : (table : List ℕ) (seen : Sight) (s s' : SlotState) (gs : List Guard) → GuardsAt table seen gs → ((k : ℕ) → is_binding seen (slot k) ≡ true → word s' (slice_index table k) ≡ word s (slice_index table k)) → all_wanted s' gs ≡ all_wanted s gs
wanted_stays table seen s s' [] h f = refl
wanted_stays table seen s s' (g ∷ gs) h f =
    ap₂ (λ (a b : Bool). a && b)
    (ap (λ z. nat_eq (z % 2) (wanted g.first)) (ap (word s') h.0.1.0 ∙ f h.0.0 h.0.1.1 ∙ sym (ap (word s) h.0.1.0)))
    (wanted_stays table seen s s' gs h.1 f)
