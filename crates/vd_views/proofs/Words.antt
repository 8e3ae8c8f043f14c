-- Words of two runs, one after the other: from lists that agree the first words are taken off, and what is left agrees.
use Rattle.std.proofs.Common.{◌≡◌, ℕ, Bool, true, false, if◌then◌else◌, List, [], ◌∷◌, ◌++◌, map, slice_index, sym, ap, ◌∙◌, append_assoc}
use Rattle.std.specs.Prelude.{filter}
use Rattle.vd_base.specs.declared.ids.SlotId.{SlotId}
use Rattle.vd_base.specs.declared.ids.HostId.{HostId}
use Rattle.vd_base.specs.declared.protocols.Proto.{Proto}
use Rattle.vd_core.specs.declared.normal.Right.{Right}
use Rattle.vd_core.specs.declared.normal.Right.TheVariants.{Lit, Turn, Copy, Apply, Input, Declassify, Endorse, Load, Get}
use Rattle.vd_semantics.specs.ProgramMeaning.{SlotState, word_at, array_at}
use Rattle.vd_noninter_protocols.specs.Hearing.{word_if, comes, index_comes, right_heard}
use Rattle.vd_views.specs.Sides.{Each}

first_of : (p q : ℕ) (xs ys : List ℕ) → p ∷ xs ≡ q ∷ ys → (p ≡ q) × (xs ≡ ys)
first_of p q xs ys e = (ap (λ (l : List ℕ). slice_index l 0) e, ap tail e)
  where
    tail : List ℕ → List ℕ
    tail [] = []
    tail (x ∷ l) = l

-- a word that may be there
pub one_off : (b : Bool) (p q : ℕ) (xs ys : List ℕ) → word_if b p ++ xs ≡ word_if b q ++ ys → (b ≡ true → p ≡ q) × (xs ≡ ys)
one_off true p q xs ys e = let both = first_of p q xs ys e in ((λ i. both.0), both.1)
one_off false p q xs ys e = ((λ i. cc), e)

-- words of slots
many_off : (f g : SlotId → ℕ) (test : SlotId → Bool) (ss : List SlotId) (xs ys : List ℕ) → map f (filter test ss) ++ xs ≡ map g (filter test ss) ++ ys
    → Each (λ s. test s ≡ true → f s ≡ g s) ss × (xs ≡ ys)
many_off f g test [] xs ys e = (tt, e)
many_off f g test (s ∷ ss) xs ys e = at (test s) e (many_off f g test ss)
  where
    at : (b : Bool) → map f (if b then s ∷ filter test ss else filter test ss) ++ xs ≡ map g (if b then s ∷ filter test ss else filter test ss) ++ ys
        → ((xs ys : List ℕ) → map f (filter test ss) ++ xs ≡ map g (filter test ss) ++ ys → Each (λ z. test z ≡ true → f z ≡ g z) ss × (xs ≡ ys))
        → ((b ≡ true → f s ≡ g s) × Each (λ z. test z ≡ true → f z ≡ g z) ss) × (xs ≡ ys)
    at true e again =
        let both = first_of (f s) (g s) (map f (filter test ss) ++ xs) (map g (filter test ss) ++ ys) e in
        let rest = again xs ys both.1 in
        (((λ i. both.0), rest.0), rest.1)
    at false e again = let rest = again xs ys e in (((λ i. cc), rest.0), rest.1)

-- two lists of which each is followed by more
pub regroup : (a b c d xs ys : List ℕ) → (a ++ b) ++ xs ≡ (c ++ d) ++ ys → a ++ (b ++ xs) ≡ c ++ (d ++ ys)
regroup a b c d xs ys e = sym (append_assoc a b xs) ∙ e ∙ append_assoc c d ys

module _ (protocols : List Proto) (h : HostId) where
  -- the words that come to the host by a right side agree
  abbrev pub RightAgrees : SlotId → Right → SlotState → SlotState → Type 0
  RightAgrees x (Lit n) c d = Unit {0}
  RightAgrees x Turn c d = Unit {0}
  RightAgrees x (Copy y) c d = comes protocols h y x ≡ true → word_at c y ≡ word_at d y
  RightAgrees x (Apply o ys) c d = Each (λ y. comes protocols h y x ≡ true → word_at c y ≡ word_at d y) ys
  RightAgrees x (Input k) c d = Unit {0}
  RightAgrees x (Declassify y to) c d = comes protocols h y x ≡ true → word_at c y ≡ word_at d y
  RightAgrees x (Endorse y to) c d = comes protocols h y x ≡ true → word_at c y ≡ word_at d y
  RightAgrees x (Load v) c d = comes protocols h v x ≡ true → word_at c v ≡ word_at d v
  RightAgrees x (Get v i) c d =
      (index_comes protocols h v i ≡ true → word_at c i ≡ word_at d i)
      × (comes protocols h v x ≡ true → slice_index (array_at c v) (word_at c i) ≡ slice_index (array_at d v) (word_at d i))

  pub right_off : (x : SlotId) (right : Right) (c d : SlotState) (xs ys : List ℕ) → right_heard protocols h x right c ++ xs ≡ right_heard protocols h x right d ++ ys
      → RightAgrees x right c d × (xs ≡ ys)
  right_off x (Lit n) c d xs ys e = (tt, e)
  right_off x Turn c d xs ys e = (tt, e)
  right_off x (Copy y) c d xs ys e = one_off (comes protocols h y x) (word_at c y) (word_at d y) xs ys e
  right_off x (Apply o zs) c d xs ys e = many_off (word_at c) (word_at d) (λ y. comes protocols h y x) zs xs ys e
  right_off x (Input k) c d xs ys e = (tt, e)
  right_off x (Declassify y to) c d xs ys e = one_off (comes protocols h y x) (word_at c y) (word_at d y) xs ys e
  right_off x (Endorse y to) c d xs ys e = one_off (comes protocols h y x) (word_at c y) (word_at d y) xs ys e
  right_off x (Load v) c d xs ys e = one_off (comes protocols h v x) (word_at c v) (word_at d v) xs ys e
  right_off x (Get v i) c d xs ys e =
      let p : ℕ = slice_index (array_at c v) (word_at c i) in
      let q : ℕ = slice_index (array_at d v) (word_at d i) in
      let one = one_off (index_comes protocols h v i) (word_at c i) (word_at d i) (word_if (comes protocols h v x) p ++ xs) (word_if (comes protocols h v x) q ++ ys)
      (regroup (word_if (index_comes protocols h v i) (word_at c i)) (word_if (comes protocols h v x) p) (word_if (index_comes protocols h v i) (word_at d i)) (word_if (comes protocols h v x) q) xs ys e) in
      let two = one_off (comes protocols h v x) p q xs ys one.1 in
      ((one.0, two.0), two.1)
