-- Inputs that are followed by zeros give the same run, and reach for it.
use Rattle.std.proofs.Common.{◌≡◌, ◌≢◌, inl, inr, ℕ, zero, suc, ◌+◌, ◌-◌, ◌<◌, ◌≤◌, List, [], ◌∷◌, ◌++◌, Option, Some, None, length, map, replicate, slice_index, slice_index_or, refl, sym, ap, ap₂, subst, ◌∙◌, arith, length-append}
use Rattle.std.specs.Prelude.{slice_get}
use Rattle.std.specs.List.{range_with_len}
use Rattle.std.specs.Option.{option_map_or}
use Rattle.std.proofs.lemmas.Bool.{cases_lt}
use Rattle.std.proofs.lemmas.Option.{slice_get-get_or, slice_get_past}
use Rattle.std.proofs.lemmas.List.FromFn.{get_or-map-range_with_len, length-map-range_with_len, map-range_with_len_more}
use mathlib.Core.Path.{fun_ext}
use Rattle.vd_tape.specs.declared.deal_items.deal.Deal.{Deal}
use Rattle.vd_execution.specs.Step.{Source, Inputs, OwnWords, Triples, BitTriples, Pairs}
use Rattle.vd_execution.specs.World.{or_zeros, followed_by_zeros}
use Rattle.vd_machine.specs.Machines.{item_or_none, word_item}
use Rattle.vd_deal_needs.specs.declared.taking.HostNeeds.{HostNeeds}
use Rattle.vd_backend_laws.specs.Whole.{inputs_of}
use Rattle.vd_world.specs.Supplies.{items_for, supply_of_files}
use Rattle.vd_excuse.specs.Filling.{fill, filled, filled_at, inputs_taken}

-- one more host
pub host_more : {X : Type 0} (f : ℕ → X) (n : ℕ) (items more : List X) (item : X) → items ≡ map f (range_with_len 0 n) → item ≡ f n → more ≡ items ++ item ∷ [] → more ≡ map f (range_with_len 0 (n + 1))
host_more f n items more item so_far is pushed = pushed ∙ ap₂ (λ front last. front ++ last ∷ []) so_far is ∙ sym (map-range_with_len_more f 0 n n (omega arith))

abbrev zeros : ℕ → List ℕ
zeros n = replicate n 0

count_zeros : (n : ℕ) → length (zeros n) ≡ n
count_zeros zero = refl
count_zeros (suc n) = ap suc (count_zeros n)

fill_count : (words : List ℕ) (len : ℕ) → len ≤ length (fill words len)
fill_count words len = let e = length-append words (zeros (len - length words)) in let r = count_zeros (len - length words) in omega (arith, e, r)

zero_word : (n i : ℕ) → slice_index (replicate n 0) i ≡ 0
zero_word zero i = refl
zero_word (suc n) zero = refl
zero_word (suc n) (suc i) = zero_word n i

same_word : (words : List ℕ) (n i : ℕ) → slice_index (words ++ replicate n 0) i ≡ slice_index words i
same_word [] n i = zero_word n i
same_word (w ∷ words) n zero = refl
same_word (w ∷ words) n (suc i) = same_word words n i

item_is : (words : List ℕ) (i : ℕ) → or_zeros Inputs (item_or_none word_item (slice_get words i)) ≡ slice_index words i ∷ []
item_is [] i = refl
item_is (w ∷ words) zero = refl
item_is (w ∷ words) (suc i) = item_is words i

at_or : (xs : List (List ℕ)) (h : ℕ) (o : Option (List ℕ)) → slice_get xs h ≡ o → slice_index_or xs h [] ≡ option_map_or (λ x. x) o []
at_or [] h o e = ap (λ (x : Option (List ℕ)). option_map_or (λ x. x) x []) e
at_or (x ∷ xs) zero o e = ap (λ (x : Option (List ℕ)). option_map_or (λ x. x) x []) e
at_or (x ∷ xs) (suc h) o e = at_or xs h o e

module _ (inputs : List (List ℕ)) (needs : List HostNeeds) where
  pub filled_count : length (filled inputs needs) ≡ length inputs
  filled_count = length-map-range_with_len (filled_at inputs needs) 0 (length inputs)

  filled_is : (h : ℕ) → h < length inputs → inputs_of (filled inputs needs) h ≡ filled_at inputs needs h
  filled_is h low =
      let there : slice_get (filled inputs needs) h ≡ Some (filled_at inputs needs h) =
      slice_get-get_or (filled inputs needs) h (filled_at inputs needs h) (let n = filled_count in omega (arith, low, n))
      ∙ ap (λ (x : List ℕ). Some x) (get_or-map-range_with_len (filled_at inputs needs) 0 (length inputs) h h (filled_at inputs needs h) low (omega arith)) in
      at_or (filled inputs needs) h (Some (filled_at inputs needs h)) there

  past : (xs : List (List ℕ)) (h : ℕ) → length xs ≤ h → inputs_of xs h ≡ []
  past xs h high = at_or xs h None (slice_get_past xs h high)

  -- the words are the same, followed by zeros
  pub same_words : (h i : ℕ) → slice_index (inputs_of (filled inputs needs) h) i ≡ slice_index (inputs_of inputs h) i
  same_words h i = elim (cases_lt h (length inputs)) [
    | inl low ↦
        ap (λ (x : List ℕ). slice_index x i) (filled_is h low) ∙ same_word (inputs_of inputs h) (inputs_taken needs h - length (inputs_of inputs h)) i
    | inr high ↦
        ap (λ (x : List ℕ). slice_index x i) (past (filled inputs needs) h (let n = filled_count in omega (arith, high, n)) ∙ sym (past inputs h high))
  ]

  pub long_enough : (h : ℕ) → h < length inputs → inputs_taken needs h ≤ length (inputs_of (filled inputs needs) h)
  long_enough h low = subst (λ (x : List ℕ). inputs_taken needs h ≤ length x) (sym (filled_is h low)) (fill_count (inputs_of inputs h) (inputs_taken needs h))

  same_item : (h : ℕ) (o : Option Deal) (s : Source) (i : ℕ) → or_zeros s (items_for (filled inputs needs) h o s i) ≡ or_zeros s (items_for inputs h o s i)
  same_item h None s i = refl
  same_item h (Some d) Inputs i =
      item_is (inputs_of (filled inputs needs) h) i ∙ ap (λ (v : ℕ). v ∷ []) (same_words h i) ∙ sym (item_is (inputs_of inputs h) i)
  same_item h (Some d) OwnWords i = refl
  same_item h (Some d) (Triples p) i = refl
  same_item h (Some d) (BitTriples p) i = refl
  same_item h (Some d) (Pairs p) i = refl

  -- so the lists are the same, followed by zeros
  pub same_tape : (deals : List Deal) → followed_by_zeros (supply_of_files (filled inputs needs) deals) ≡ followed_by_zeros (supply_of_files inputs deals)
  same_tape deals = fun_ext (λ h. fun_ext (λ s. fun_ext (λ i. same_item h (slice_get deals h) s i)))

  pub same_dealt : (h : ℕ) (o : Option Deal) (s : Source) (i : ℕ) → s ≢ Inputs → items_for (filled inputs needs) h o s i ≡ items_for inputs h o s i
  same_dealt h None s i not = refl
  same_dealt h (Some d) Inputs i not = absurd (not refl)
  same_dealt h (Some d) OwnWords i not = refl
  same_dealt h (Some d) (Triples p) i not = refl
  same_dealt h (Some d) (BitTriples p) i not = refl
  same_dealt h (Some d) (Pairs p) i not = refl
