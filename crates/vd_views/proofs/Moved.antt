-- Words that are moved by exchanges.
use Rattle.std.proofs.Common.{◌≡◌, ◌≢◌, ℕ, zero, suc, ◌<◌, ◌≤◌, nat_eq, Bool, false, if◌then◌else◌, List, [], ◌∷◌, ◌⊎◌, inl, inr, refl, sym, ap, ap₂, ◌∙◌, arith}
use Rattle.std.proofs.lemmas.Bool.{eq-eqb}
use Rattle.std.proofs.lemmas.Bool.Decides.{eqb_tells}
use mathlib.Core.Path.{fun_ext}
use Rattle.vd_execution.proofs.Front.{same_or_not}
use Rattle.vd_views.specs.Moved.{swapped, Moves, stays, move_one, moved_by, turned, IsOneToOne, Rise, AsFar, MovesWell}

-- ---- one exchange

not_same : (a b : ℕ) → a ≢ b → nat_eq a b ≡ false
not_same a b n = elim (eqb_tells a b) [ inl p ↦ absurd (n p.1) | inr p ↦ p.0 ]

swap_first : (a b i : ℕ) → i ≡ a → swapped a b i ≡ b
swap_first a b i e = ap (λ (p : Bool). if p then b else (if nat_eq i b then a else i)) (eq-eqb i a e)

swap_second : (a b i : ℕ) → i ≡ b → swapped a b i ≡ a
swap_second a b i e = at (same_or_not i a)
  where
    at : (i ≡ a) ⊎ (i ≢ a) → swapped a b i ≡ a
    at (inl f) = swap_first a b i f ∙ sym e ∙ f
    at (inr n) = ap₂ (λ (p q : Bool). if p then b else (if q then a else i)) (not_same i a n) (eq-eqb i b e)

swap_other : (a b i : ℕ) → i ≢ a → i ≢ b → swapped a b i ≡ i
swap_other a b i n m = ap₂ (λ (p q : Bool). if p then b else (if q then a else i)) (not_same i a n) (not_same i b m)

swap_twice : (a b i : ℕ) → swapped a b (swapped a b i) ≡ i
swap_twice a b i = at (same_or_not i a) (same_or_not i b)
  where
    at : (i ≡ a) ⊎ (i ≢ a) → (i ≡ b) ⊎ (i ≢ b) → swapped a b (swapped a b i) ≡ i
    at (inl e) f = swap_second a b (swapped a b i) (swap_first a b i e) ∙ sym e
    at (inr n) (inl f) = swap_first a b (swapped a b i) (swap_second a b i f) ∙ sym f
    at (inr n) (inr m) = ap (swapped a b) (swap_other a b i n m) ∙ swap_other a b i n m

swap_none : (a i : ℕ) → swapped a a i ≡ i
swap_none a i = at (same_or_not i a)
  where
    at : (i ≡ a) ⊎ (i ≢ a) → swapped a a i ≡ i
    at (inl e) = swap_first a a i e ∙ sym e
    at (inr n) = swap_other a a i n n

-- ---- one to one

one_more : (m : Moves) (i j : ℕ) → IsOneToOne m → IsOneToOne (move_one m i j)
one_more m i j o = record {
  back = λ x. ap m.from (swap_twice j (m.to i) (m.to x)) ∙ o.back x;
  forth = λ x. ap (swapped j (m.to i)) (o.forth (swapped j (m.to i) x)) ∙ swap_twice j (m.to i) x;
}

all_one : (is js : List ℕ) (m : Moves) → IsOneToOne m → IsOneToOne (moved_by is js m)
all_one [] js m o = o
all_one (i ∷ is) [] m o = o
all_one (i ∷ is) (j ∷ js) m o = all_one is js (move_one m i j) (one_more m i j o)

stays_one : IsOneToOne stays
stays_one = record { back = λ i. refl; forth = λ i. refl }

-- ---- back

same_moves : (m n : Moves) → ((i : ℕ) → m.from i ≡ n.from i) → ((i : ℕ) → m.to i ≡ n.to i) → m ≡ n
same_moves m n e f =
    ap (λ (k : ℕ → ℕ). let r : Moves = record { from = k; to = m.to } in r) (fun_ext e) ∙ ap (λ (k : ℕ → ℕ). let r : Moves = record { from = n.from; to = k } in r) (fun_ext f)

-- an exchange of words is one of places
carried : (m : Moves) → IsOneToOne m → (i j x : ℕ) → m.to (swapped i (m.from j) x) ≡ swapped j (m.to i) (m.to x)
carried m o i j x = at (same_or_not x i) (same_or_not x (m.from j))
  where
    at : (x ≡ i) ⊎ (x ≢ i) → (x ≡ m.from j) ⊎ (x ≢ m.from j) → m.to (swapped i (m.from j) x) ≡ swapped j (m.to i) (m.to x)
    at (inl e) f = ap m.to (swap_first i (m.from j) x e) ∙ o.forth j ∙ sym (swap_second j (m.to i) (m.to x) (ap m.to e))
    at (inr n) (inl f) = ap m.to (swap_second i (m.from j) x f) ∙ sym (swap_first j (m.to i) (m.to x) (ap m.to f ∙ o.forth j))
    at (inr n) (inr d) =
        ap m.to (swap_other i (m.from j) x n d)
        ∙ sym (swap_other j (m.to i) (m.to x) (λ e. d (sym (o.back x) ∙ ap m.from e)) (λ e. n (sym (o.back x) ∙ ap m.from e ∙ o.back i)))

turned_one : (m : Moves) → IsOneToOne m → IsOneToOne (turned m)
turned_one m o = record { back = o.forth; forth = o.back }

one_back : (m : Moves) (i j : ℕ) → IsOneToOne m → move_one (turned m) j i ≡ turned (move_one m i j)
one_back m i j o =
    same_moves (move_one (turned m) j i) (turned (move_one m i j)) (λ x. carried m o i j x) (λ x. sym (carried (turned m) (turned_one m o) j i x))

all_back : (is js : List ℕ) (m : Moves) → IsOneToOne m → moved_by js is (turned m) ≡ turned (moved_by is js m)
all_back [] [] m o = refl
all_back [] (j ∷ js) m o = refl
all_back (i ∷ is) [] m o = refl
all_back (i ∷ is) (j ∷ js) m o = ap (moved_by js is) (one_back m i j o) ∙ all_back is js (move_one m i j) (one_more m i j o)

-- ---- where the places are the same

none_moved : (is : List ℕ) → moved_by is is stays ≡ stays
none_moved [] = refl
none_moved (i ∷ is) = ap (moved_by is is) (same_moves (move_one stays i i) stays (λ x. swap_none i x) (λ x. swap_none i x)) ∙ none_moved is

-- ---- the words at the places

-- a word that is at its place stays there
kept_there : (is js : List ℕ) (m : Moves) → IsOneToOne m → (i j lo hi k n : ℕ) → i < lo → Rise lo is hi → j < k → Rise k js n → m.from j ≡ i → (moved_by is js m).from j ≡ i
kept_there [] js m o i j lo hi k n a r b s e = e
kept_there (p ∷ is) [] m o i j lo hi k n a r b s e = e
kept_there (p ∷ is) (q ∷ js) m o i j lo hi k n a r b s e =
    kept_there is js (move_one m p q) (one_more m p q o) i j (suc p) hi (suc q) n (let x = r.0 in omega (arith, a, x)) r.1 (let x = s.0 in omega (arith, b, x)) s.1
    (ap m.from (swap_other q (m.to p) j (let x = s.0 in λ f. omega (arith, b, x, f)) (λ f. other (sym e ∙ ap m.from f ∙ o.back p))) ∙ e)
  where
    other : i ≡ p → ⊥
    other f = let x = r.0 in omega (arith, a, x, f)

words_there : {X : Type 0} (f : ℕ → X) (is js : List ℕ) (m : Moves) → IsOneToOne m → (lo hi k n : ℕ) → Rise lo is hi → Rise k js n → AsFar f (λ j. f ((moved_by is js m).from j)) is js
words_there f [] js m o lo hi k n r s = tt
words_there f (i ∷ is) [] m o lo hi k n r s = tt
words_there f (i ∷ is) (j ∷ js) m o lo hi k n r s = (
  ap f (sym (kept_there is js (move_one m i j) (one_more m i j o) i j (suc i) hi (suc j) n (omega arith) r.1 (omega arith) s.1 (ap m.from (swap_first j (m.to i) j refl) ∙ o.back i))),
  words_there f is js (move_one m i j) (one_more m i j o) (suc i) hi (suc j) n r.1 s.1,
)

-- ---- past all places

risen : (lo : ℕ) (is : List ℕ) (hi : ℕ) → Rise lo is hi → lo ≤ hi
risen lo [] hi r = r
risen lo (i ∷ is) hi r = let x = r.0 in let y = risen (suc i) is hi r.1 in omega (arith, x, y)

abbrev Past : ℕ → Moves → Type 0
Past n m = ((i : ℕ) → n ≤ i → m.from i ≡ i) × ((i : ℕ) → n ≤ i → m.to i ≡ i)

below_or_not : (i n : ℕ) → (i < n) ⊎ (n ≤ i)
below_or_not zero zero = inr (omega arith)
below_or_not zero (suc n) = inl (omega arith)
below_or_not (suc i) zero = inr (omega arith)
below_or_not (suc i) (suc n) = at (below_or_not i n)
  where
    at : (i < n) ⊎ (n ≤ i) → (suc i < suc n) ⊎ (suc n ≤ suc i)
    at (inl a) = inl (omega (arith, a))
    at (inr a) = inr (omega (arith, a))

past_one : (m : Moves) (n i j : ℕ) → IsOneToOne m → Past n m → i < n → j < n → Past n (move_one m i j)
past_one m n i j o p a b = (
  (λ x le. ap m.from (unmoved x le) ∙ p.0 x le),
  (λ x le. ap (swapped j (m.to i)) (p.1 x le) ∙ unmoved x le),
)
  where
    low : m.to i < n
    low = at (below_or_not (m.to i) n)
      where
        at : (m.to i < n) ⊎ (n ≤ m.to i) → m.to i < n
        at (inl l) = l
        at (inr h) = let e : m.to i ≡ i = sym (p.0 (m.to i) h) ∙ o.back i in omega (arith, h, e, a)

    unmoved : (x : ℕ) → n ≤ x → swapped j (m.to i) x ≡ x
    unmoved x le = swap_other j (m.to i) x (λ e. omega (arith, le, b, e)) (λ e. let l = low in omega (arith, le, l, e))

past_all : (is js : List ℕ) (m : Moves) → IsOneToOne m → (n lo k : ℕ) → Past n m → Rise lo is n → Rise k js n → Past n (moved_by is js m)
past_all [] js m o n lo k p r s = p
past_all (i ∷ is) [] m o n lo k p r s = p
past_all (i ∷ is) (j ∷ js) m o n lo k p r s =
    let a = risen (suc i) is n r.1 in
    let b = risen (suc j) js n s.1 in
    past_all is js (move_one m i j) (one_more m i j o) n (suc i) (suc j) (past_one m n i j o p (omega (arith, a)) (omega (arith, b))) r.1 s.1

pub moves_well : MovesWell
moves_well = record {
  there = λ f is js lo m n hi r s. words_there f is js stays stays_one lo m n hi r s;
  back = λ is js. all_back is js stays stays_one;
  one_to_one = λ is js. all_one is js stays stays_one;
  none = none_moved;
  past = λ is js lo k n r s i le. (past_all is js stays stays_one n lo k ((λ x l. refl), (λ x l. refl)) r s).0 i le;
}
