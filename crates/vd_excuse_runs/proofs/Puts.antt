-- A list that grows as it is written: past its end and within, and several writes in turn.
use Rattle.std.proofs.Common.{◌≡◌, ℕ, zero, suc, ◌+◌, ◌-◌, ◌<◌, ◌≤◌, List, [], ◌∷◌, ◌++◌, length, drop, refl, sym, ap, ◌∙◌, arith}
use Rattle.std.specs.Prelude.{slice_index_or, slice_set}
use Rattle.vd_execution.specs.declared.instructions.Reg.{Reg}
use Rattle.vd_semantics.specs.Stores.{put}
use Rattle.vd_excuse_runs.specs.Registers.{put_each, cleared}

-- the default may be written out
put_past : {A : Type 0} (d : A) (s : List A) (k : ℕ) (x : A) → length s ≤ k → put d (s ++ d ∷ []) k x ≡ put d s k x
put_past d [] zero x le = refl
put_past d [] (suc k) x le = refl
put_past d (y ∷ ys) zero x le = absurd (omega arith)
put_past d (y ∷ ys) (suc k) x le = ap (λ z. y ∷ z) (put_past d ys k x (omega arith))

pub put_within : {A : Type 0} (d : A) (s : List A) (k : ℕ) (x : A) → k < length s → put d s k x ≡ slice_set s k x
put_within d [] k x lt = absurd (omega arith)
put_within d (y ∷ ys) zero x lt = refl
put_within d (y ∷ ys) (suc k) x lt = ap (λ z. y ∷ z) (put_within d ys k x (omega arith))

pub put_more : {A : Type 0} (d : A) (s t : List A) (k : ℕ) (x : A) (e : List A) → length s ≤ k → t ≡ s ++ d ∷ [] → put d s k x ≡ e → put d t k x ≡ e
put_more d s t k x e le is h = ap (λ z. put d z k x) is ∙ put_past d s k x le ∙ h

pub put_done : {A : Type 0} (d : A) (s : List A) (k : ℕ) (x : A) (e : List A) → k < length s → put d s k x ≡ e → slice_set s k x ≡ e
put_done d s k x e lt h = sym (put_within d s k x lt) ∙ h

-- the first default may be written out at a read too
read_past : {A : Type 0} (d : A) (s : List A) (k : ℕ) → length s ≤ k → slice_index_or (s ++ d ∷ []) k d ≡ slice_index_or s k d
read_past d [] zero le = refl
read_past d [] (suc k) le = refl
read_past d (y ∷ ys) zero le = absurd (omega arith)
read_past d (y ∷ ys) (suc k) le = read_past d ys k (omega arith)

pub read_more : {A : Type 0} (d : A) (s t : List A) (k : ℕ) (e : A) → length s ≤ k → t ≡ s ++ d ∷ [] → slice_index_or s k d ≡ e → slice_index_or t k d ≡ e
read_more d s t k e le is h = ap (λ z. slice_index_or z k d) is ∙ read_past d s k le ∙ h

-- ---- several words

none_behind : {X : Type 0} (xs : List X) (i : ℕ) → length xs ≤ i → drop i xs ≡ []
none_behind [] zero h = refl
none_behind [] (suc i) h = refl
none_behind (x ∷ xs) zero h = absurd (omega arith)
none_behind (x ∷ xs) (suc i) h = none_behind xs i (omega arith)

no_words : (f : List ℕ) (rs : List Reg) → put_each f rs [] ≡ f
no_words f [] = refl
no_words f (r ∷ rs) = refl

pub each_word_put : (f g : List ℕ) (rs : List Reg) (xs : List ℕ) (i : ℕ) → length xs ≤ i → put_each f (drop i rs) (drop i xs) ≡ put_each g rs xs → f ≡ put_each g rs xs
each_word_put f g rs xs i h e = sym (ap (λ l. put_each f (drop i rs) l) (none_behind xs i h) ∙ no_words f (drop i rs)) ∙ e

pub cleared_on : (f g : List ℕ) (r i n : ℕ) → i < n → g ≡ slice_set f (r + i) 0 → cleared g (r + (i + 1)) (n - (i + 1)) ≡ cleared f (r + i) (n - i)
cleared_on f g r i n h e =
    let more : n - i ≡ suc (n - (i + 1)) = omega arith in
    let place : r + (i + 1) ≡ r + i + 1 = omega arith in
    ap (λ z. cleared z (r + (i + 1)) (n - (i + 1))) e
    ∙ ap (λ m. cleared (slice_set f (r + i) 0) m (n - (i + 1))) place
    ∙ sym (ap (cleared f (r + i)) more)
