-- Reading values one after the other, as a loop does.
use Rattle.std.proofs.Common.{◌≡◌, ℕ, suc, ◌+◌, ◌-◌, ◌<◌, ◌≤◌, List, [], ◌∷◌, ◌++◌, Ok, Err, refl, sym, ◌∙◌, append_assoc, arith}
use Rattle.std.proofs.lemmas.List.{append-nil}
use Rattle.vd_base_codec.specs.Reading.{Reading, ◌>>=◌, each_at}

-- what was read before, and what is still read
abbrev pub with_front : {X : Type 0} → List X → Reading (List X) → Reading (List X)
with_front front read = read >>= λ x. Ok (front ++ x.0, x.1)

regroup : {X : Type 0} (front : List X) (x : X) (read : Reading (List X)) → with_front front (read >>= λ xs. Ok (x ∷ xs.0, xs.1)) ≡ with_front (front ++ x ∷ []) read
regroup front x (Ok xs) = let e : front ++ (x ∷ xs.0) ≡ (front ++ x ∷ []) ++ xs.0 = sym (append_assoc front (x ∷ []) xs.0) in cc
regroup front x (Err left) = refl

pub next_item : {X : Type 0} (one : List ℕ → Reading X) (front : List X) (count i : ℕ) (bytes after : List ℕ) (x : X) (total : Reading (List X)) → i < count → one bytes ≡ Ok (x, after)
    → with_front front (each_at one (count - i) bytes) ≡ total → with_front (front ++ x ∷ []) (each_at one (count - (i + 1)) after) ≡ total
unfolding each_at
next_item {X = X} one front count i bytes after x total lt h so_far =
    let k : count - i ≡ suc (count - (i + 1)) = omega arith in
    let here : with_front front (each_at one (count - i) bytes) ≡ with_front (front ++ x ∷ []) (each_at one (count - (i + 1)) after) = rw (k, h) (regroup front x (each_at one (count - (i + 1)) after)) in
    sym here ∙ so_far

pub no_item : {X : Type 0} (one : List ℕ → Reading X) (front : List X) (count i : ℕ) (bytes left : List ℕ) (total : Reading (List X)) → i < count → one bytes ≡ Err left
    → with_front front (each_at one (count - i) bytes) ≡ total → total ≡ Err left
unfolding each_at
no_item one front count i bytes left total lt h so_far =
    let k : count - i ≡ suc (count - (i + 1)) = omega arith in
    let here : with_front front (each_at one (count - i) bytes) ≡ Err left = rw (k, h) refl in
    sym so_far ∙ here

pub all_items : {X : Type 0} (one : List ℕ → Reading X) (front : List X) (count i : ℕ) (bytes : List ℕ) (total : Reading (List X)) → count ≤ i
    → with_front front (each_at one (count - i) bytes) ≡ total → total ≡ Ok (front, bytes)
unfolding each_at
all_items one front count i bytes total le so_far =
    let k : count - i ≡ 0 = omega arith in
    let e : front ++ [] ≡ front = append-nil front in
    let here : with_front front (each_at one (count - i) bytes) ≡ Ok (front, bytes) = rw k (cc) in
    sym so_far ∙ here

pub first_item : {X : Type 0} (one : List ℕ → Reading X) (count : ℕ) (bytes : List ℕ) → with_front [] (each_at one (count - 0) bytes) ≡ each_at one count bytes
first_item one count bytes =
    let k : count - 0 ≡ count = omega arith in
    rw k (elim (each_at one count bytes) as (λ r. with_front [] r ≡ r) [ Ok x ↦ refl | Err left ↦ refl ])
