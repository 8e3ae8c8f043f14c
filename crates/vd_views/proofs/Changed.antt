-- A deal with one item changed.
use Rattle.std.proofs.Common.{◌≡◌, ◌≢◌, ℕ, ◌+◌, ◌*◌, ◌%◌, ◌^◌, nat_eq, ◌&&◌, Bool, true, false, if◌then◌else◌, List, length, ◌⊎◌, inl, inr, refl, sym, ap, subst, subst₂, ◌∙◌, bit_and, bit_xor}
use Rattle.std.proofs.lemmas.Bool.{eq-eqb, ne_eqb}
use Rattle.std.proofs.lemmas.Bool.Decides.{eqb_tells}
use mathlib.Core.Path.{fun_ext}
use Rattle.vd_execution.specs.Registers.{nth}
use Rattle.vd_execution.specs.Step.{Source, Inputs, OwnWords, Triples, BitTriples, Pairs, same_source}
use Rattle.vd_execution.specs.World.{Tape, zeros_of}
use Rattle.vd_base.specs.Words.{IsWord}
use Rattle.vd_execution.specs.Deals.{IsValidDeal}
use Rattle.vd_execution.proofs.Front.{same_or_not}
use Rattle.vd_views.specs.Excused.{with_item}
use Rattle.vd_views.proofs.Frames.{itself}

third : {A : Type 0} (b c d : Bool) (x y : A) → d ≡ false → (if b && (c && d) then x else y) ≡ y
third true true d x y e = ap (λ (q : Bool). if q then x else y) e
third true false d x y e = refl
third false c d x y e = refl

second : {A : Type 0} (b c d : Bool) (x y : A) → c ≡ false → (if b && (c && d) then x else y) ≡ y
second true c d x y e = ap (λ (q : Bool). if q && d then x else y) e
second false c d x y e = refl

either : {A : Type 0} (Q : A → Type 0) (b : Bool) (x y : A) → Q x → Q y → Q (if b then x else y)
either Q true x y p q = p
either Q false x y p q = q

pub means_same : (r s : Source) → same_source r s ≡ true → r ≡ s
means_same Inputs Inputs e = refl
means_same OwnWords OwnWords e = refl
means_same (Triples p) (Triples q) e = elim (eqb_tells p q) [ inl z ↦ ap (λ (n : ℕ). Triples n) z.1 | inr z ↦ let no : true ≡ false = sym e ∙ z.0 in cc ]
means_same (BitTriples p) (BitTriples q) e = elim (eqb_tells p q) [ inl z ↦ ap (λ (n : ℕ). BitTriples n) z.1 | inr z ↦ let no : true ≡ false = sym e ∙ z.0 in cc ]
means_same (Pairs p) (Pairs q) e = elim (eqb_tells p q) [ inl z ↦ ap (λ (n : ℕ). Pairs n) z.1 | inr z ↦ let no : true ≡ false = sym e ∙ z.0 in cc ]
means_same Inputs OwnWords e = cc
means_same Inputs (Triples q) e = cc
means_same Inputs (BitTriples q) e = cc
means_same Inputs (Pairs q) e = cc
means_same OwnWords Inputs e = cc
means_same OwnWords (Triples q) e = cc
means_same OwnWords (BitTriples q) e = cc
means_same OwnWords (Pairs q) e = cc
means_same (Triples p) Inputs e = cc
means_same (Triples p) OwnWords e = cc
means_same (Triples p) (BitTriples q) e = cc
means_same (Triples p) (Pairs q) e = cc
means_same (BitTriples p) Inputs e = cc
means_same (BitTriples p) OwnWords e = cc
means_same (BitTriples p) (Triples q) e = cc
means_same (BitTriples p) (Pairs q) e = cc
means_same (Pairs p) Inputs e = cc
means_same (Pairs p) OwnWords e = cc
means_same (Pairs p) (Triples q) e = cc
means_same (Pairs p) (BitTriples q) e = cc

module _ (t : Tape) (k : ℕ) (s : Source) (i : ℕ) (item : List ℕ) where
  pub changed_at : with_item t k s i item k s i ≡ item
  unfolding with_item
  changed_at =
      ap (λ (b : Bool). if b && (same_source s s && nat_eq i i) then item else t k s i) (eq-eqb k k refl)
      ∙ ap (λ (b : Bool). if b && nat_eq i i then item else t k s i) (itself s)
      ∙ ap (λ (b : Bool). if b then item else t k s i) (eq-eqb i i refl)

  pub changed_host : (g : ℕ) (r : Source) (j : ℕ) → g ≢ k → with_item t k s i item g r j ≡ t g r j
  unfolding with_item
  changed_host g r j n = ap (λ (b : Bool). if b && (same_source r s && nat_eq j i) then item else t g r j) (ne_eqb g k n)

  pub changed_source : (g : ℕ) (r : Source) (j : ℕ) → same_source r s ≡ false → with_item t k s i item g r j ≡ t g r j
  unfolding with_item
  changed_source g r j n = second (nat_eq g k) (same_source r s) (nat_eq j i) item (t g r j) n

  pub changed_place : (g : ℕ) (r : Source) (j : ℕ) → j ≢ i → with_item t k s i item g r j ≡ t g r j
  unfolding with_item
  changed_place g r j n = third (nat_eq g k) (same_source r s) (nat_eq j i) item (t g r j) (ne_eqb j i n)

  changed_either : (Q : List ℕ → Type 0) (g : ℕ) (r : Source) (j : ℕ) → Q item → Q (t g r j) → Q (with_item t k s i item g r j)
  unfolding with_item
  changed_either Q g r j p q = either Q (nat_eq g k && (same_source r s && nat_eq j i)) item (t g r j) p q

  -- the items that stand elsewhere
  pub changed_elsewhere : (g : ℕ) (r : Source) (j : ℕ) → (g ≡ k → r ≡ s → j ≢ i) → with_item t k s i item g r j ≡ t g r j
  changed_elsewhere g r j n = at (same_or_not g k) (same_source r s) refl
    where
      at : (g ≡ k) ⊎ (g ≢ k) → (b : Bool) → same_source r s ≡ b → with_item t k s i item g r j ≡ t g r j
      at (inr d) b e = changed_host g r j d
      at (inl d) false e = changed_source g r j e
      at (inl d) true e = changed_place g r j (n d (means_same r s e))

  pub changed_part : (h : ℕ) → h ≢ k → with_item t k s i item h ≡ t h
  changed_part h n = fun_ext (λ r. fun_ext (λ j. changed_host h r j n))

-- identities of a kind of item are kept
module _ (t : Tape) (k h : ℕ) (apart : k ≢ h) (src : ℕ → Source) (tests : (q p : ℕ) → same_source (src q) (src p) ≡ nat_eq q p) (i : ℕ) (item : List ℕ)
    (P : List ℕ → List ℕ → Type 0) (one : P item (t h (src k) i)) (two : P (t h (src k) i) item) (all : (g q j : ℕ) → g ≢ q → P (t g (src q) j) (t q (src g) j)) where
  abbrev now : Tape
  now = with_item t k (src h) i item

  same_kind : (g q j : ℕ) → g ≢ q → (j ≡ i) ⊎ (j ≢ i) → (g ≡ k) ⊎ (g ≢ k) → (q ≡ h) ⊎ (q ≢ h) → (q ≡ k) ⊎ (q ≢ k) → (g ≡ h) ⊎ (g ≢ h) → P (now g (src q) j) (now q (src g) j)
  same_kind g q j ne (inr n) _ _ _ _ = subst₂ P (sym (changed_place t k (src h) i item g (src q) j n)) (sym (changed_place t k (src h) i item q (src g) j n)) (all g q j ne)
  same_kind g q j ne (inl e) (inl f) (inl d) _ _ =
      let A : ℕ → Type 0 = λ x. P (now x (src q) j) (now q (src x) j) in
      let B : ℕ → Type 0 = λ x. P (now k (src x) j) (now x (src k) j) in
      let C : ℕ → Type 0 = λ x. P (now k (src h) x) (now h (src k) x) in
      subst A (sym f) (subst B (sym d) (subst C (sym e)
      (subst₂ P (sym (changed_at t k (src h) i item)) (sym (changed_host t k (src h) i item h (src k) i (λ z. apart (sym z)))) one)))
  same_kind g q j ne (inl e) (inl f) (inr d) _ _ =
      subst₂ P (sym (changed_source t k (src h) i item g (src q) j (tests q h ∙ ne_eqb q h d))) (sym (changed_host t k (src h) i item q (src g) j (λ z. ne (f ∙ sym z)))) (all g q j ne)
  same_kind g q j ne (inl e) (inr f) _ (inl d) (inl c) =
      let A : ℕ → Type 0 = λ x. P (now g (src x) j) (now x (src g) j) in
      let B : ℕ → Type 0 = λ x. P (now x (src k) j) (now k (src x) j) in
      let C : ℕ → Type 0 = λ x. P (now h (src k) x) (now k (src h) x) in
      subst A (sym d) (subst B (sym c) (subst C (sym e)
      (subst₂ P (sym (changed_host t k (src h) i item h (src k) i (λ z. apart (sym z)))) (sym (changed_at t k (src h) i item)) two)))
  same_kind g q j ne (inl e) (inr f) _ (inl d) (inr c) =
      subst₂ P (sym (changed_host t k (src h) i item g (src q) j f)) (sym (changed_source t k (src h) i item q (src g) j (tests g h ∙ ne_eqb g h c))) (all g q j ne)
  same_kind g q j ne (inl e) (inr f) _ (inr d) _ =
      subst₂ P (sym (changed_host t k (src h) i item g (src q) j f)) (sym (changed_host t k (src h) i item q (src g) j d)) (all g q j ne)

  identities_kept : (g q j : ℕ) → g ≢ q → P (now g (src q) j) (now q (src g) j)
  identities_kept g q j ne = same_kind g q j ne (same_or_not j i) (same_or_not g k) (same_or_not q h) (same_or_not q k) (same_or_not g h)

-- ---- valid deals

abbrev pub IsTriple : List ℕ → List ℕ → Type 0
IsTriple x y = ((nth x 0 + nth y 0) * (nth x 1 + nth y 1)) % 2 ^ 32 ≡ (nth x 2 + nth y 2) % 2 ^ 32

abbrev pub IsBitTriple : List ℕ → List ℕ → Type 0
IsBitTriple x y = bit_and (bit_xor (nth x 0) (nth y 0)) (bit_xor (nth x 1) (nth y 1)) ≡ bit_xor (nth x 2) (nth y 2)

abbrev pub IsPair : List ℕ → List ℕ → Type 0
IsPair x y = (nth x 0 + nth y 0) % 2 ^ 32 ≡ bit_xor (nth x 1) (nth y 1)

abbrev pub AreWords : List ℕ → Type 0
AreWords xs = (place : ℕ) → IsWord (nth xs place)

module _ (t : Tape) (deal : IsValidDeal t) (k h : ℕ) (apart : k ≢ h) (i : ℕ) (item : List ℕ) (fits : AreWords item) where
  words_kept : (s : Source) (g : ℕ) (r : Source) (j place : ℕ) → IsWord (nth (with_item t k s i item g r j) place)
  words_kept s g r j place = changed_either t k s i item (λ xs. IsWord (nth xs place)) g r j (fits place) (deal.words g r j place)

  lengths_kept : (s : Source) → length item ≡ length (zeros_of s) → (g : ℕ) (r : Source) (j : ℕ) → length (with_item t k s i item g r j) ≡ length (zeros_of r)
  lengths_kept s whole g r j = at (same_source r s) refl
    where
      at : (b : Bool) → same_source r s ≡ b → length (with_item t k s i item g r j) ≡ length (zeros_of r)
      at true e =
          changed_either t k s i item (λ xs. length xs ≡ length (zeros_of r)) g r j (whole ∙ sym (ap (λ (q : Source). length (zeros_of q)) (means_same r s e))) (deal.lengths g r j)
      at false e = ap (λ (xs : List ℕ). length xs) (changed_source t k s i item g r j e) ∙ deal.lengths g r j

  pub with_triple : length item ≡ 3 → IsTriple item (t h (Triples k) i) → IsTriple (t h (Triples k) i) item → IsValidDeal (with_item t k (Triples h) i item)
  with_triple whole one two = record {
    lengths = lengths_kept (Triples h) whole;
    words = words_kept (Triples h);
    triples = identities_kept t k h apart (λ q. Triples q) (λ q p. refl) i item IsTriple one two deal.triples;
    bit_triples = λ g q j ne. subst₂ IsBitTriple (sym (changed_source t k (Triples h) i item g (BitTriples q) j refl)) (sym (changed_source t k (Triples h) i item q (BitTriples g) j refl)) (deal.bit_triples g q j ne);
    pairs = λ g q j ne. subst₂ IsPair (sym (changed_source t k (Triples h) i item g (Pairs q) j refl)) (sym (changed_source t k (Triples h) i item q (Pairs g) j refl)) (deal.pairs g q j ne);
  }

  pub with_bits : length item ≡ 3 → IsBitTriple item (t h (BitTriples k) i) → IsBitTriple (t h (BitTriples k) i) item → IsValidDeal (with_item t k (BitTriples h) i item)
  with_bits whole one two = record {
    lengths = lengths_kept (BitTriples h) whole;
    words = words_kept (BitTriples h);
    triples = λ g q j ne. subst₂ IsTriple (sym (changed_source t k (BitTriples h) i item g (Triples q) j refl)) (sym (changed_source t k (BitTriples h) i item q (Triples g) j refl)) (deal.triples g q j ne);
    bit_triples = identities_kept t k h apart (λ q. BitTriples q) (λ q p. refl) i item IsBitTriple one two deal.bit_triples;
    pairs = λ g q j ne. subst₂ IsPair (sym (changed_source t k (BitTriples h) i item g (Pairs q) j refl)) (sym (changed_source t k (BitTriples h) i item q (Pairs g) j refl)) (deal.pairs g q j ne);
  }

  pub with_pair : length item ≡ 2 → IsPair item (t h (Pairs k) i) → IsPair (t h (Pairs k) i) item → IsValidDeal (with_item t k (Pairs h) i item)
  with_pair whole one two = record {
    lengths = lengths_kept (Pairs h) whole;
    words = words_kept (Pairs h);
    triples = λ g q j ne. subst₂ IsTriple (sym (changed_source t k (Pairs h) i item g (Triples q) j refl)) (sym (changed_source t k (Pairs h) i item q (Triples g) j refl)) (deal.triples g q j ne);
    bit_triples = λ g q j ne. subst₂ IsBitTriple (sym (changed_source t k (Pairs h) i item g (BitTriples q) j refl)) (sym (changed_source t k (Pairs h) i item q (BitTriples g) j refl)) (deal.bit_triples g q j ne);
    pairs = identities_kept t k h apart (λ q. Pairs q) (λ q p. refl) i item IsPair one two deal.pairs;
  }
