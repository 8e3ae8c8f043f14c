-- A store, written past its end and within.
use Rattle.std.proofs.Common.{◌≡◌, ℕ, zero, suc, ◌<◌, ◌≤◌, List, [], ◌∷◌, ◌++◌, length, slice_index_or, slice_set, refl, sym, ap, ◌∙◌, arith}
use Rattle.vd_semantics.specs.Stores.{put}

-- the default may be written out
put_past : {A : Type 0} (d : A) (s : List A) (k : ℕ) (x : A) → length s ≤ k → put d (s ++ d ∷ []) k x ≡ put d s k x
put_past d [] zero x le = refl
put_past d [] (suc k) x le = refl
put_past d (y ∷ ys) zero x le = absurd (omega arith)
put_past d (y ∷ ys) (suc k) x le = ap (λ z. y ∷ z) (put_past d ys k x (omega arith))

put_within : {A : Type 0} (d : A) (s : List A) (k : ℕ) (x : A) → k < length s → put d s k x ≡ slice_set s k x
put_within d [] k x lt = absurd (omega arith)
put_within d (y ∷ ys) zero x lt = refl
put_within d (y ∷ ys) (suc k) x lt = ap (λ z. y ∷ z) (put_within d ys k x (omega arith))

pub put_more : {A : Type 0} (d : A) (s t : List A) (k : ℕ) (x : A) (e : List A) → length s ≤ k → t ≡ s ++ d ∷ [] → put d s k x ≡ e → put d t k x ≡ e
put_more d s t k x e le is h = ap (λ z. put d z k x) is ∙ put_past d s k x le ∙ h

pub put_done : {A : Type 0} (d : A) (s : List A) (k : ℕ) (x : A) (e : List A) → k < length s → put d s k x ≡ e → slice_set s k x ≡ e
put_done d s k x e lt h = sym (put_within d s k x lt) ∙ h

-- the default of a read within the length is not looked at
read_within : {A : Type 0} (s : List A) (k : ℕ) (d d' : A) → k < length s → slice_index_or s k d ≡ slice_index_or s k d'
read_within [] k d d' lt = absurd (omega arith)
read_within (x ∷ xs) zero d d' lt = refl
read_within (x ∷ xs) (suc k) d d' lt = read_within xs k d d' (omega arith)

-- an element is changed in its place
pub put_changed : {A : Type 0} (d : A) (s : List A) (k : ℕ) (x y : A) (f : A → A) → k < length s → x ≡ slice_index_or s k x → y ≡ f x → slice_set s k y ≡ put d s k (f (slice_index_or s k d))
put_changed d s k x y f lt is e =
    ap (slice_set s k) (e ∙ ap f (is ∙ read_within s k x d lt)) ∙ sym (put_within d s k (f (slice_index_or s k d)) lt)
