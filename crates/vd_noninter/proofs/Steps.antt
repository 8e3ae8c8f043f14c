-- Single steps: where a state is written, and what stays.
use Rattle.std.proofs.Common.{◌≡◌, ℕ, zero, suc, List, [], ◌∷◌, ◌++◌, length, refl, ap, arith, slice_index, slice_index_or, slice_set}
use Rattle.vd_semantics.specs.World.{first_word, later_words}
use Rattle.vd_semantics.specs.Stores.{put}
use Rattle.vd_noninter.specs.Agreement.{SameWords}

pub word_put : (s : List ℕ) (i : ℕ) (w : ℕ) → slice_index (put 0 s i w) i ≡ w
word_put [] zero w = refl
word_put [] (suc i) w = word_put [] i w
word_put (x ∷ xs) zero w = refl
word_put (x ∷ xs) (suc i) w = word_put xs i w

pub word_put_other : (s : List ℕ) (i j : ℕ) (w : ℕ) → (i ≡ j → ⊥) → slice_index (put 0 s i w) j ≡ slice_index s j
word_put_other [] zero zero w h = absurd (h refl)
word_put_other [] zero (suc j) w h = refl
word_put_other [] (suc i) zero w h = refl
word_put_other [] (suc i) (suc j) w h = word_put_other [] i j w (λ e. h (ap suc e))
word_put_other (x ∷ xs) zero zero w h = absurd (h refl)
word_put_other (x ∷ xs) zero (suc j) w h = refl
word_put_other (x ∷ xs) (suc i) zero w h = refl
word_put_other (x ∷ xs) (suc i) (suc j) w h = word_put_other xs i j w (λ e. h (ap suc e))

pub item_put : {A : Type 0} (d : A) (s : List A) (i : ℕ) (w : A) → slice_index_or (put d s i w) i d ≡ w
item_put d [] zero w = refl
item_put d [] (suc i) w = item_put d [] i w
item_put d (x ∷ xs) zero w = refl
item_put d (x ∷ xs) (suc i) w = item_put d xs i w

pub item_put_other : {A : Type 0} (d : A) (s : List A) (i j : ℕ) (w : A) → (i ≡ j → ⊥) → slice_index_or (put d s i w) j d ≡ slice_index_or s j d
item_put_other d [] zero zero w h = absurd (h refl)
item_put_other d [] zero (suc j) w h = refl
item_put_other d [] (suc i) zero w h = refl
item_put_other d [] (suc i) (suc j) w h = item_put_other d [] i j w (λ e. h (ap suc e))
item_put_other d (x ∷ xs) zero zero w h = absurd (h refl)
item_put_other d (x ∷ xs) zero (suc j) w h = refl
item_put_other d (x ∷ xs) (suc i) zero w h = refl
item_put_other d (x ∷ xs) (suc i) (suc j) w h = item_put_other d xs i j w (λ e. h (ap suc e))

pub item_set_other : {A : Type 0} (d : A) (s : List A) (i j : ℕ) (w : A) → (i ≡ j → ⊥) → slice_index_or (slice_set s i w) j d ≡ slice_index_or s j d
item_set_other d [] i j w h = refl
item_set_other d (x ∷ xs) zero zero w h = absurd (h refl)
item_set_other d (x ∷ xs) zero (suc j) w h = refl
item_set_other d (x ∷ xs) (suc i) zero w h = refl
item_set_other d (x ∷ xs) (suc i) (suc j) w h = item_set_other d xs i j w (λ e. h (ap suc e))

pub length_set : {A : Type 0} (s : List A) (i : ℕ) (w : A) → length (slice_set s i w) ≡ length s
length_set [] i w = refl
length_set (x ∷ xs) zero w = refl
length_set (x ∷ xs) (suc i) w = ap suc (length_set xs i w)

-- the inputs that are left to a host that has handed one in
pub later_at : (s : List (List ℕ)) (i : ℕ) → slice_index_or (slice_set s i (later_words (slice_index_or s i []))) i [] ≡ later_words (slice_index_or s i [])
later_at [] i = refl
later_at (x ∷ xs) zero = refl
later_at (x ∷ xs) (suc i) = later_at xs i

-- writing equal words at one place of lists of one length
pub told_same : (s t : List (List ℕ)) (i : ℕ) (w : ℕ) → length s ≡ length t → slice_index_or s i [] ≡ slice_index_or t i []
    → slice_index_or (slice_set s i (slice_index_or s i [] ++ w ∷ [])) i [] ≡ slice_index_or (slice_set t i (slice_index_or t i [] ++ w ∷ [])) i []
told_same [] [] i w len e = refl
told_same [] (y ∷ t) i w len e = absurd (omega arith)
told_same (x ∷ s) [] i w len e = absurd (omega arith)
told_same (x ∷ s) (y ∷ t) zero w len e = ap (λ z. z ++ w ∷ []) e
told_same (x ∷ s) (y ∷ t) (suc i) w len e = told_same s t i w (omega arith) e

pub first_same : (xs ys : List ℕ) → SameWords xs ys → first_word xs ≡ first_word ys
first_same [] [] same = refl
first_same [] (y ∷ ys) same = same 0
first_same (x ∷ xs) [] same = same 0
first_same (x ∷ xs) (y ∷ ys) same = same 0

pub later_same : (xs ys : List ℕ) → SameWords xs ys → SameWords (later_words xs) (later_words ys)
later_same [] [] same = same
later_same [] (y ∷ ys) same = λ i. same (suc i)
later_same (x ∷ xs) [] same = λ i. same (suc i)
later_same (x ∷ xs) (y ∷ ys) same = λ i. same (suc i)
