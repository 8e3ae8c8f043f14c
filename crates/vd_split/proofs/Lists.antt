-- Lists that grow, numbers in a row, tests.
use Rattle.std.proofs.Common.{◌≡◌, ℕ, zero, suc, ◌+◌, ◌<◌, Bool, true, false, ◌&&◌, ◌||◌, List, [], ◌∷◌, ◌++◌, length, slice_index_or, ◌⊎◌, inl, inr, refl, ap, subst, arith}
use Rattle.std.specs.List.{range_with_len}
use Rattle.vd_base.specs.declared.ids.HostId.{HostId}
use Rattle.vd_duet.specs.Laws.{IsHost}

pub front_kept : {A : Type 0} (xs ys : List A) (k : ℕ) (d : A) → k < length xs → slice_index_or (xs ++ ys) k d ≡ slice_index_or xs k d
front_kept [] ys k d lt = absurd (omega arith)
front_kept (x ∷ xs) ys zero d lt = refl
front_kept (x ∷ xs) ys (suc k) d lt = front_kept xs ys k d (omega arith)

pub at_end : {A : Type 0} (xs : List A) (x d : A) → slice_index_or (xs ++ x ∷ []) (length xs) d ≡ x
at_end [] x d = refl
at_end (y ∷ xs) x d = at_end xs x d

pub and_left : (a b : Bool) → (a && b) ≡ true → a ≡ true
and_left true b e = refl
and_left false b e = e

pub and_right : (a b : Bool) → (a && b) ≡ true → b ≡ true
and_right true b e = e
and_right false b e = cc

pub or_left : (a b : Bool) → a ≡ true → (a || b) ≡ true
or_left a b e = rw e refl

pub or_right : (a b : Bool) → b ≡ true → (a || b) ≡ true
or_right true b e = refl
or_right false b e = e

pub or_cases : (a b : Bool) → (a || b) ≡ true → (a ≡ true) ⊎ (b ≡ true)
or_cases true b e = inl refl
or_cases false b e = inr e

pub or_none_left : (a b : Bool) → (a || b) ≡ false → a ≡ false
or_none_left true b e = cc
or_none_left false b e = refl

pub or_none_right : (a b : Bool) → (a || b) ≡ false → b ≡ false
or_none_right true b e = cc
or_none_right false b e = e

abbrev head_of : ℕ → List ℕ → ℕ
head_of d [] = d
head_of d (x ∷ xs) = x

abbrev tail_of : List ℕ → List ℕ
tail_of [] = []
tail_of (x ∷ xs) = xs

-- numbers in a row, from k on
abbrev pub InRow : ℕ → List ℕ → Type 0
InRow k [] = Unit {0}
InRow k (x ∷ xs) = (x ≡ k) × InRow (k + 1) xs

pub row_of : (k n : ℕ) (xs : List ℕ) → xs ≡ range_with_len k n → InRow k xs
row_of k n [] e = tt
row_of k zero (x ∷ xs) e = cc
row_of k (suc n) (x ∷ xs) e = (ap (head_of 0) e, row_of (k + 1) n xs (ap tail_of e))

pub row_front : (k : ℕ) (xs ys : List ℕ) → InRow k (xs ++ ys) → InRow k xs
row_front k [] ys r = tt
row_front k (x ∷ xs) ys r = (r.0, row_front (k + 1) xs ys r.1)

pub row_back : (k : ℕ) (xs ys : List ℕ) → InRow k (xs ++ ys) → InRow (k + length xs) ys
row_back k [] ys r = subst (λ n. InRow n ys) (none k) r
  where
    none : (k : ℕ) → k ≡ k + 0
    none k = omega arith
row_back k (x ∷ xs) ys r = subst (λ n. InRow n ys) (more k (length xs)) (row_back (k + 1) xs ys r.1)
  where
    more : (k n : ℕ) → k + 1 + n ≡ k + suc n
    more k n = omega arith

-- no host twice
abbrev pub AreApart : List HostId → Type 0
AreApart [] = Unit {0}
AreApart (h ∷ hs) = (IsHost hs h.0 → ⊥) × AreApart hs
