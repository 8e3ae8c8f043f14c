-- Lists that grow behind, and stores.
use Rattle.std.proofs.Common.{◌≡◌, ℕ, zero, suc, ◌+◌, ◌<◌, List, [], ◌∷◌, ◌++◌, length, slice_index, slice_index_or, refl, ap, ◌∙◌, arith}
use Rattle.vd_core.specs.declared.normal.Stmt.{Stmt}
use Rattle.vd_semantics.specs.Stores.{put}
use Rattle.vd_semantics.specs.ProgramMeaning.{SlotState, Effect, effect, block_effect}

pub item_put : {A : Type 0} (d : A) (s : List A) (i : ℕ) (w : A) → slice_index_or (put d s i w) i d ≡ w
item_put d [] zero w = refl
item_put d [] (suc i) w = item_put d [] i w
item_put d (x ∷ xs) zero w = refl
item_put d (x ∷ xs) (suc i) w = item_put d xs i w

pub item_put_other : {A : Type 0} (d : A) (s : List A) (i j : ℕ) (w : A) → (i ≡ j → ⊥) → slice_index_or (put d s i w) j d ≡ slice_index_or s j d
item_put_other d [] zero zero w h = absurd (h refl)
item_put_other d [] zero (suc j) w h = refl
item_put_other d [] (suc i) zero w h = refl
item_put_other d [] (suc i) (suc j) w h = item_put_other d [] i j w (λ e. h (ap suc e))
item_put_other d (x ∷ xs) zero zero w h = absurd (h refl)
item_put_other d (x ∷ xs) zero (suc j) w h = refl
item_put_other d (x ∷ xs) (suc i) zero w h = refl
item_put_other d (x ∷ xs) (suc i) (suc j) w h = item_put_other d xs i j w (λ e. h (ap suc e))

pub item_old : (xs : List ℕ) (y k : ℕ) → k < length xs → slice_index (xs ++ y ∷ []) k ≡ slice_index xs k
item_old [] y k h = absurd (omega arith)
item_old (x ∷ xs) y zero h = refl
item_old (x ∷ xs) y (suc k) h = item_old xs y k (omega arith)

pub item_last : (xs : List ℕ) (y : ℕ) → slice_index (xs ++ y ∷ []) (length xs) ≡ y
item_last [] y = refl
item_last (x ∷ xs) y = item_last xs y

pub length_push : {A : Type 0} (xs : List A) (y : A) → length (xs ++ y ∷ []) ≡ length xs + 1
length_push [] y = refl
length_push (x ∷ xs) y = let rest = length_push xs y in omega arith

block_push : (xs : List Stmt) (x : Stmt) (turn : ℕ) (s : SlotState) → block_effect (xs ++ x ∷ []) turn s ≡ effect x turn (block_effect xs turn s)
block_push [] x turn s = refl
block_push (y ∷ ys) x turn s = block_push ys x turn (effect y turn s)

pub pushed : (xs : List Stmt) (x : Stmt) (f : Effect) → effect x ≡ f → (turn : ℕ) (s : SlotState) → block_effect (xs ++ x ∷ []) turn s ≡ f turn (block_effect xs turn s)
pushed xs x f is turn s = block_push xs x turn s ∙ ap (λ (g : Effect). g turn (block_effect xs turn s)) is
