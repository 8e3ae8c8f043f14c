-- Lists that are read off a place of a deal, and back.
use Rattle.std.proofs.Common.{◌≡◌, ℕ, zero, suc, ◌<◌, ◌≤◌, List, [], ◌∷◌, Option, Some, None, ◌⊎◌, inl, inr, length, map, refl, sym, ap, subst, ◌∙◌, arith}
use Rattle.std.specs.Prelude.{slice_get, slice_index, unwrap_or, get_or, All}
use Rattle.std.specs.List.{range_with_len}
use Rattle.std.proofs.lemmas.Bool.Decides.{leb_tells}
use Rattle.std.proofs.lemmas.Option.{slice_get-get_or, slice_get_past}
use Rattle.std.proofs.lemmas.List.{ext_get_or}
use Rattle.std.proofs.lemmas.List.Elements.{All-map}
use Rattle.std.proofs.lemmas.List.FromFn.{get_or-map-range_with_len, length-map-range_with_len}
use Rattle.vd_tape.specs.declared.deal_items.items.Triple.{Triple}
use Rattle.vd_tape.specs.declared.deal_items.items.PairItem.{PairItem}
use Rattle.vd_execution.specs.Registers.{nth}
use Rattle.vd_execution.specs.Step.{Source, Inputs}
use Rattle.vd_execution.specs.World.{or_zeros, zeros_of}
use Rattle.vd_machine.specs.Machines.{item_or_none, word_item, triple_item, pair_item}

below_or_not : (i n : ℕ) → (i < n) ⊎ (n ≤ i)
below_or_not i n = elim (leb_tells n i) [ inl p ↦ inr p.1 | inr p ↦ inl p.1 ]

-- an item by its words
abbrev pub word_of : List ℕ → ℕ
word_of xs = nth xs 0

abbrev pub triple_of : List ℕ → Triple
triple_of xs = record { a = nth xs 0; b = nth xs 1; c = nth xs 2 }

abbrev pub pair_of : List ℕ → PairItem
pair_of xs = record { s = nth xs 0; x = nth xs 1 }

pub word_is : (xs : List ℕ) → length xs ≡ 1 → word_item (word_of xs) ≡ xs
word_is [] e = absurd (omega (arith, e))
word_is (x ∷ []) e = refl
word_is (x ∷ y ∷ xs) e = absurd (omega (arith, e))

pub triple_is : (xs : List ℕ) → length xs ≡ 3 → triple_item (triple_of xs) ≡ xs
triple_is [] e = absurd (omega (arith, e))
triple_is (x ∷ []) e = absurd (omega (arith, e))
triple_is (x ∷ y ∷ []) e = absurd (omega (arith, e))
triple_is (x ∷ y ∷ z ∷ []) e = refl
triple_is (x ∷ y ∷ z ∷ v ∷ xs) e = absurd (omega (arith, e))

pub pair_is : (xs : List ℕ) → length xs ≡ 2 → pair_item (pair_of xs) ≡ xs
pair_is [] e = absurd (omega (arith, e))
pair_is (x ∷ []) e = absurd (omega (arith, e))
pair_is (x ∷ y ∷ []) e = refl
pair_is (x ∷ y ∷ z ∷ xs) e = absurd (omega (arith, e))

-- the first items of a place
abbrev pub read_items : {X : Type 0} → (List ℕ → X) → (ℕ → List ℕ) → ℕ → List X
read_items make z count = map (λ i. make (z i)) (range_with_len 0 count)

module _ {X : Type 0} (make : List ℕ → X) (z : ℕ → List ℕ) (count : ℕ) where
  pub read_count : length (read_items make z count) ≡ count
  read_count = length-map-range_with_len (λ i. make (z i)) 0 count

  read_within : (i : ℕ) → i < count → slice_get (read_items make z count) i ≡ Some (make (z i))
  read_within i low =
      slice_get-get_or (read_items make z count) i (make (z i)) (subst (λ n. i < n) (sym read_count) low)
      ∙ ap (λ (x : X). Some x) (get_or-map-range_with_len (λ i. make (z i)) 0 count i i (make (z i)) low (omega arith))

  read_past : (i : ℕ) → count ≤ i → slice_get (read_items make z count) i ≡ None
  read_past i high = slice_get_past (read_items make z count) i (subst (λ n. n ≤ i) (sym read_count) high)

  pub read_all : (P : X → Type 0) → ((i : ℕ) → P (make (z i))) → All P (read_items make z count)
  read_all P each = All-map P (λ i. make (z i)) (range_with_len 0 count) (λ k d low. each _)

  -- followed by zeros it is the place again
  pub read_is : (s : Source) (item : X → List ℕ) → ((i : ℕ) → item (make (z i)) ≡ z i) → ((i : ℕ) → count ≤ i → z i ≡ zeros_of s)
      → (i : ℕ) → or_zeros s (item_or_none item (slice_get (read_items make z count) i)) ≡ z i
  read_is s item same ends i = at (below_or_not i count)
    where
      at : (i < count) ⊎ (count ≤ i) → or_zeros s (item_or_none item (slice_get (read_items make z count) i)) ≡ z i
      at (inl low) = ap (λ (o : Option X). or_zeros s (item_or_none item o)) (read_within i low) ∙ same i
      at (inr high) = ap (λ (o : Option X). or_zeros s (item_or_none item o)) (read_past i high) ∙ sym (ends i high)

  -- the item at each place, where zeros make the item of zeros
  pub item_is : (d : X) (zeros : List ℕ) → make zeros ≡ d → ((i : ℕ) → count ≤ i → z i ≡ zeros) → (i : ℕ) → unwrap_or (slice_get (read_items make z count) i) d ≡ make (z i)
  item_is d zeros none ends i = at (below_or_not i count)
    where
      at : (i < count) ⊎ (count ≤ i) → unwrap_or (slice_get (read_items make z count) i) d ≡ make (z i)
      at (inl low) = ap (λ (o : Option X). unwrap_or o d) (read_within i low)
      at (inr high) = ap (λ (o : Option X). unwrap_or o d) (read_past i high) ∙ sym none ∙ sym (ap make (ends i high))

-- a list that is read back
pub read_back : {X : Type 0} (s : Source) (make : List ℕ → X) (item : X → List ℕ) → ((x : X) → make (item x) ≡ x) → (xs : List X)
    → read_items make (λ i. or_zeros s (item_or_none item (slice_get xs i))) (length xs) ≡ xs
read_back {X} s make item same [] = refl
read_back {X} s make item same (x ∷ rest) =
    let xs : List X = x ∷ rest in
    let z : ℕ → List ℕ = λ i. or_zeros s (item_or_none item (slice_get (x ∷ rest) i)) in
    ext_get_or x (read_items make z (length xs)) xs (read_count make z (length xs)) (λ i low.
    let less : i < length xs = subst (λ n. i < n) (read_count make z (length xs)) low in
    get_or-map-range_with_len (λ i. make (z i)) 0 (length xs) i i x less (omega arith)
    ∙ ap (λ (o : Option X). make (or_zeros s (item_or_none item o))) (slice_get-get_or xs i x less) ∙ same (get_or xs i x))

-- past its end a list has zeros
pub past_end : {X : Type 0} (s : Source) (item : X → List ℕ) (xs : List X) (i : ℕ) → length xs ≤ i → or_zeros s (item_or_none item (slice_get xs i)) ≡ zeros_of s
past_end s item xs i high = ap (λ o. or_zeros s (item_or_none item o)) (slice_get_past xs i high)

pub input_is : (xs : List ℕ) (i : ℕ) → or_zeros Inputs (item_or_none word_item (slice_get xs i)) ≡ slice_index xs i ∷ []
input_is [] i = refl
input_is (x ∷ xs) zero = refl
input_is (x ∷ xs) (suc i) = input_is xs i
