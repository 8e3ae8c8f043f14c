-- A deal file is read exactly.
use Rattle.std.proofs.Common.{◌≡◌, ℕ, zero, suc, ◌≤◌, List, [], ◌∷◌, ◌++◌, length, Ok, inl, inr, refl, sym, ap, subst, ◌∙◌, append_assoc, arith}
use Rattle.std.specs.List.{flat_map, AllByRecursion}
use Rattle.std.proofs.lemmas.List.{append-nil}
use Rattle.vd_base.specs.Limits.{most_deal_items}
use Rattle.vd_base_codec.specs.Reading.{Reading, ◌>>=◌, byte_at, field_at, each_at, field}
use Rattle.vd_base_codec.specs.Exact.{IsBreak, IsAnything, IsExact}
use Rattle.vd_base_codec.proofs.Front.{done_exact, byte_exact, Picks, then_exact, AreEach, break_each, each_exact, exact_for, AtMost, field_exact}
use Rattle.vd_tape.specs.declared.deal_items.items.Triple.{Triple}
use Rattle.vd_tape.specs.declared.deal_items.items.PairItem.{PairItem}
use Rattle.vd_base.specs.Words.{IsWord}
use Rattle.vd_tape.specs.Validity.{AreTripleWords, ArePairWords}
use Rattle.vd_tape.specs.Text.{triple_text, pair_text, list_text}
use Rattle.vd_tape.specs.Reading.{word_at, triple_at, pair_at, list_at}

-- ---- items

pub word_exact : (bytes : List ℕ) → IsExact IsBreak IsWord field bytes (word_at bytes)
word_exact bytes =
    exact_for IsBreak (AtMost 4294967295) IsWord field bytes (word_at bytes) (λ n h. omega (arith, h)) (λ n h. omega (arith, h)) (field_exact 4294967295 bytes (omega arith))

picks_a : Picks IsBreak IsWord field IsBreak AreTripleWords triple_text (λ t. field t.b ++ field t.c) (λ t. t.a)
picks_a = record {
  part_fits = λ t h. h.0;
  split = λ t h. refl;
  some = λ a h. (record { a = a; b = 0; c = 0 }, ((h, omega arith, omega arith), refl));
  break = λ t behind h k. inl refl;
}

picks_b : (a : ℕ) → IsWord a → Picks IsBreak IsWord field IsBreak (λ (t : Triple). AreTripleWords t × (t.a ≡ a)) (λ t. field t.b ++ field t.c) (λ t. field t.c) (λ t. t.b)
picks_b a fits = record {
  part_fits = λ t h. h.0.1;
  split = λ t h. refl;
  some = λ b h. (record { a = a; b = b; c = 0 }, (((fits, h, omega arith), refl), refl));
  break = λ t behind h k. inl refl;
}

picks_c : (a b : ℕ) → IsWord a → IsWord b → Picks IsBreak IsWord field IsBreak (λ (t : Triple). (AreTripleWords t × (t.a ≡ a)) × (t.b ≡ b)) (λ t. field t.c) (λ _. []) (λ t. t.c)
picks_c a b fits_a fits_b = record {
  part_fits = λ t h. h.0.0.2;
  split = λ t h. sym (append-nil (field t.c));
  some = λ c h. (record { a = a; b = b; c = c }, ((((fits_a, fits_b, h), refl), refl), refl));
  break = λ t behind h k. k;
}

same_triple : (t : Triple) (a b c : ℕ) → t.a ≡ a → t.b ≡ b → t.c ≡ c → let u : Triple = record { a = a; b = b; c = c } in t ≡ u
same_triple t a b c p q r =
    let f : ℕ → ℕ → ℕ → Triple = λ x y z. record { a = x; b = y; c = z } in
    ap (λ x. f x t.b t.c) p ∙ ap (λ y. f a y t.c) q ∙ ap (λ z. f a b z) r

pub triple_exact : (bytes : List ℕ) → IsExact IsBreak AreTripleWords triple_text bytes (triple_at bytes)
unfolding triple_at
triple_exact bytes =
    then_exact IsBreak IsWord field IsBreak AreTripleWords triple_text (λ t. field t.b ++ field t.c) (λ t. t.a) picks_a bytes (word_at bytes)
    (λ a. word_at a.1 >>= λ b. word_at b.1 >>= λ c. Ok (record { a = a.0; b = b.0; c = c.0 }, c.1)) (word_exact bytes)
    (λ a mid fits_a.
    then_exact IsBreak IsWord field IsBreak (λ t. AreTripleWords t × (t.a ≡ a)) (λ t. field t.b ++ field t.c) (λ t. field t.c) (λ t. t.b) (picks_b a fits_a) mid (word_at mid)
    (λ b. word_at b.1 >>= λ c. Ok (record { a = a; b = b.0; c = c.0 }, c.1)) (word_exact mid)
    (λ b over fits_b.
    then_exact IsBreak IsWord field IsBreak (λ t. (AreTripleWords t × (t.a ≡ a)) × (t.b ≡ b)) (λ t. field t.c) (λ _. []) (λ t. t.c) (picks_c a b fits_a fits_b) over (word_at over)
    (λ c. Ok (record { a = a; b = b; c = c.0 }, c.1)) (word_exact over)
    (λ c last fits_c.
    done_exact IsBreak (λ t. ((AreTripleWords t × (t.a ≡ a)) × (t.b ≡ b)) × (t.c ≡ c)) (record { a = a; b = b; c = c }) last
    ((((fits_a, fits_b, fits_c), refl), refl), refl) (λ t h. same_triple t a b c h.0.0.1 h.0.1 h.1))))

picks_s : Picks IsBreak IsWord field IsBreak ArePairWords pair_text (λ p. field p.x) (λ p. p.s)
picks_s = record {
  part_fits = λ p h. h.0;
  split = λ p h. refl;
  some = λ s h. (record { s = s; x = 0 }, ((h, omega arith), refl));
  break = λ p behind h k. inl refl;
}

picks_x : (s : ℕ) → IsWord s → Picks IsBreak IsWord field IsBreak (λ (p : PairItem). ArePairWords p × (p.s ≡ s)) (λ p. field p.x) (λ _. []) (λ p. p.x)
picks_x s fits = record {
  part_fits = λ p h. h.0.1;
  split = λ p h. sym (append-nil (field p.x));
  some = λ x h. (record { s = s; x = x }, (((fits, h), refl), refl));
  break = λ p behind h k. k;
}

same_pair : (p : PairItem) (s x : ℕ) → p.s ≡ s → p.x ≡ x → let q : PairItem = record { s = s; x = x } in p ≡ q
same_pair p s x e f =
    let g : ℕ → ℕ → PairItem = λ y z. record { s = y; x = z } in
    ap (λ y. g y p.x) e ∙ ap (λ z. g s z) f

pub pair_exact : (bytes : List ℕ) → IsExact IsBreak ArePairWords pair_text bytes (pair_at bytes)
unfolding pair_at
pair_exact bytes =
    then_exact IsBreak IsWord field IsBreak ArePairWords pair_text (λ p. field p.x) (λ p. p.s) picks_s bytes (word_at bytes)
    (λ s. word_at s.1 >>= λ x. Ok (record { s = s.0; x = x.0 }, x.1)) (word_exact bytes)
    (λ s mid fits_s.
    then_exact IsBreak IsWord field IsBreak (λ p. ArePairWords p × (p.s ≡ s)) (λ p. field p.x) (λ _. []) (λ p. p.x) (picks_x s fits_s) mid (word_at mid)
    (λ x. Ok (record { s = s; x = x.0 }, x.1)) (word_exact mid)
    (λ x last fits_x.
    done_exact IsBreak (λ p. (ArePairWords p × (p.s ≡ s)) × (p.x ≡ x)) (record { s = s; x = x }) last (((fits_s, fits_x), refl), refl) (λ p h. same_pair p s x h.0.1 h.1)))

-- ---- a list of items to the end of its line

abbrev pub FitsList : {X : Type 0} → (X → Type 0) → List X → Type 0
FitsList Fits xs = (length xs ≤ most_deal_items) × AllByRecursion Fits xs

filled : {X : Type 0} (Fits : X → Type 0) (x : X) (n : ℕ) → Fits x → (xs : List X) × AreEach Fits n xs
filled Fits x zero h = ([], (refl, tt))
filled Fits x (suc n) h = let rest = filled Fits x n h in (x ∷ rest.0, (ap suc rest.1.0, (h, rest.1.1)))

picks_count : {X : Type 0} (Fits : X → Type 0) (text : X → List ℕ) (x : X) → Fits x → ((y : X) (bs : List ℕ) → IsBreak (text y ++ bs))
    → Picks IsBreak (AtMost most_deal_items) field IsAnything (FitsList Fits) (list_text text) (λ xs. flat_map text xs ++ 10 ∷ []) length
picks_count Fits text x fits starts = record {
  part_fits = λ xs h. h.0;
  split = λ xs h. refl;
  some = λ n h. let xs = filled Fits x n fits in (xs.0, ((omega (arith, xs.1.0, h), xs.1.1), xs.1.0));
  break = λ xs behind h k. subst IsBreak (sym (append_assoc (flat_map text xs) (10 ∷ []) behind)) (break_each IsBreak text xs (10 ∷ behind) starts (inr refl));
}

picks_items : {X : Type 0} (Fits : X → Type 0) (text : X → List ℕ) (n : ℕ) → n ≤ most_deal_items
    → Picks IsBreak (AreEach Fits n) (flat_map text) IsAnything (λ xs. FitsList Fits xs × (length xs ≡ n)) (λ xs. flat_map text xs ++ 10 ∷ []) (λ _. 10 ∷ []) (λ xs. xs)
picks_items Fits text n le = record {
  part_fits = λ xs h. (h.1, h.0.1);
  split = λ xs h. refl;
  some = λ xs h. (xs, (((omega (arith, h.0, le), h.1), h.0), refl));
  break = λ xs behind h k. inr refl;
}

pub list_exact : {X : Type 0} (Fits : X → Type 0) (text : X → List ℕ) (x : X) (one : List ℕ → Reading X) (bytes : List ℕ) → Fits x → ((y : X) (bs : List ℕ) → IsBreak (text y ++ bs))
    → ((mid : List ℕ) → IsExact IsBreak Fits text mid (one mid)) → IsExact IsAnything (FitsList Fits) (list_text text) bytes (list_at one bytes)
unfolding list_at
list_exact Fits text x one bytes fits starts exact =
    then_exact IsBreak (AtMost most_deal_items) field IsAnything (FitsList Fits) (list_text text) (λ xs. flat_map text xs ++ 10 ∷ []) length (picks_count Fits text x fits starts) bytes (field_at most_deal_items bytes)
    (λ n. each_at one n.0 n.1 >>= λ xs. byte_at 10 xs.1 >>= λ end. Ok (xs.0, end.1)) (field_exact most_deal_items bytes (omega arith))
    (λ n mid le.
    then_exact IsBreak (AreEach Fits n) (flat_map text) IsAnything (λ xs. FitsList Fits xs × (length xs ≡ n)) (λ xs. flat_map text xs ++ 10 ∷ []) (λ _. 10 ∷ []) (λ xs. xs) (picks_items Fits text n le) mid (each_at one n mid)
    (λ xs. byte_at 10 xs.1 >>= λ end. Ok (xs.0, end.1)) (each_exact IsBreak Fits text x one n mid starts (λ m. filled Fits x m fits) exact)
    (λ xs over h.
    let all : FitsList Fits xs = (omega (arith, h.0, le), h.1) in
    byte_exact IsAnything (λ ys. (FitsList Fits ys × (length ys ≡ n)) × (ys ≡ xs)) (λ _. []) 10 over xs (λ last. Ok (xs, last)) ((all, h.0), refl)
    (λ last. done_exact IsAnything (λ ys. (FitsList Fits ys × (length ys ≡ n)) × (ys ≡ xs)) xs last ((all, h.0), refl) (λ ys g. g.1))))
