-- What the first difference of two lists tells.
use Rattle.std.proofs.Common.{◌≡◌, ◌≢◌, ◌<◌, ◌≤◌, ◌-◌, ◌+◌, ℕ, zero, suc, Bool, true, false, nat_eq, List, [], ◌∷◌, ◌++◌, append-nil, drop, get_or, add-zero, Option, Some, None, length, length-append, replicate, slice_get, slice_index, refl, sym, ap, ap₂, ◌∙◌, subst, if◌then◌else◌, arith}
use Rattle.std.specs.Option.{option_map}
use Rattle.std.proofs.lemmas.List.{length-replicate}
use Rattle.std.proofs.lemmas.Bool.{eqb-true, eqb-false, eq-eqb, ne_eqb}
use Rattle.vd_base.specs.declared.ids.HostId.{HostId}
use Rattle.vd_base.specs.declared.protocols.Proto.{Proto}
use Rattle.vd_core.specs.declared.normal.NormalForm.{NormalForm}
use Rattle.vd_constraints.specs.declared.labels.Labels.{Labels}
use Rattle.vd_semantics.specs.World.{first_word, later_words}
use Rattle.vd_noninter_protocols.specs.Assigned.{heard_words}
use Rattle.vd_noninter_protocols.specs.Difference.{first_difference, filled, words_of, known_beside, view_difference, DifferAt, IsFirstDifference, KnowsTheSame, DiffersExactly}

-- ---- it is the first

word_or : Option ℕ → ℕ
word_or None = 0
word_or (Some n) = n

differ_now : (x y : ℕ) (xs ys : List ℕ) → nat_eq x y ≡ false → DifferAt (x ∷ xs) (y ∷ ys) 0
unfolding word_or
differ_now x y xs ys is = record { before = λ i low. absurd (omega (arith, low)); there = λ same. eqb-false x y is (ap word_or same) }

differ_later : (x y : ℕ) (xs ys : List ℕ) (n : ℕ) → x ≡ y → DifferAt xs ys n → DifferAt (x ∷ xs) (y ∷ ys) (suc n)
differ_later x y xs ys n is later = record { before = λ i low. earlier i low; there = later.there }
  where
    earlier : (i : ℕ) → i < suc n → slice_get (x ∷ xs) i ≡ slice_get (y ∷ ys) i
    earlier zero low = ap Some is
    earlier (suc i) low = later.before i (omega (arith, low))

behind : (x y : ℕ) (xs ys : List ℕ) (b : Bool) (rest : Option ℕ) → nat_eq x y ≡ b → IsFirstDifference xs ys rest
    → IsFirstDifference (x ∷ xs) (y ∷ ys) (if b then option_map (λ n. suc n) rest else Some 0)
behind x y xs ys true None is same = ap (λ z. z ∷ xs) (eqb-true x y is) ∙ ap (λ zs. y ∷ zs) same
behind x y xs ys true (Some n) is later = differ_later x y xs ys n (eqb-true x y is) later
behind x y xs ys false rest is later = differ_now x y xs ys is

pub first_is : (xs ys : List ℕ) → IsFirstDifference xs ys (first_difference xs ys)
first_is [] [] = refl
first_is [] (y ∷ ys) = record { before = λ i low. absurd (omega (arith, low)); there = λ same. cc }
first_is (x ∷ xs) [] = record { before = λ i low. absurd (omega (arith, low)); there = λ same. cc }
first_is (x ∷ xs) (y ∷ ys) = behind x y xs ys (nat_eq x y) (first_difference xs ys) refl (first_is xs ys)

same_where_none : (xs ys : List ℕ) → first_difference xs ys ≡ None → xs ≡ ys
same_where_none xs ys none = subst (IsFirstDifference xs ys) none (first_is xs ys)

none_of_one : (xs : List ℕ) → first_difference xs xs ≡ None
none_of_one [] = refl
none_of_one (x ∷ xs) = rw (eq-eqb x x refl, none_of_one xs) refl

none_where_same : (xs ys : List ℕ) → xs ≡ ys → first_difference xs ys ≡ None
none_where_same xs ys same = subst (λ zs. first_difference xs zs ≡ None) same (none_of_one xs)

-- ---- lists that are followed by zeros

zeros_at : (k i : ℕ) → slice_index (replicate k 0) i ≡ 0
zeros_at zero i = refl
zeros_at (suc k) zero = refl
zeros_at (suc k) (suc i) = zeros_at k i

filled_at : (xs : List ℕ) (k i : ℕ) → slice_index (xs ++ replicate k 0) i ≡ slice_index xs i
filled_at [] k i = zeros_at k i
filled_at (x ∷ xs) k zero = refl
filled_at (x ∷ xs) k (suc i) = filled_at xs k i

all_zeros : (ys : List ℕ) → ((i : ℕ) → slice_index ys i ≡ 0) → replicate (length ys) 0 ≡ ys
all_zeros [] zeros = refl
all_zeros (y ∷ ys) zeros = ap (λ z. z ∷ replicate (length ys) 0) (sym (zeros 0)) ∙ ap (λ zs. y ∷ zs) (all_zeros ys (λ i. zeros (suc i)))

same_filled : (xs ys : List ℕ) (a b : ℕ) → a ≡ length ys - length xs → b ≡ length xs - length ys → ((i : ℕ) → slice_index xs i ≡ slice_index ys i)
    → xs ++ replicate a 0 ≡ ys ++ replicate b 0
same_filled [] [] a b a_is b_is same = let e : a ≡ 0 = omega (arith, a_is) in let f : b ≡ 0 = omega (arith, b_is) in rw (e, f) refl
same_filled [] (y ∷ ys) a b a_is b_is same =
    let e : a ≡ length (y ∷ ys) = omega (arith, a_is) in
    let f : b ≡ 0 = omega (arith, b_is) in
    rw (e, f) (all_zeros (y ∷ ys) (λ i. sym (same i)) ∙ sym (append-nil (y ∷ ys)))
same_filled (x ∷ xs) [] a b a_is b_is same =
    let e : a ≡ 0 = omega (arith, a_is) in
    let f : b ≡ length (x ∷ xs) = omega (arith, b_is) in
    rw (e, f) (append-nil (x ∷ xs) ∙ sym (all_zeros (x ∷ xs) same))
same_filled (x ∷ xs) (y ∷ ys) a b a_is b_is same =
    ap (λ z. z ∷ (xs ++ replicate a 0)) (same 0) ∙ ap (λ zs. y ∷ zs) (same_filled xs ys a b (omega (arith, a_is)) (omega (arith, b_is)) (λ i. same (suc i)))

parted : (xs ys zs ws : List ℕ) → length xs ≡ length ys → xs ++ zs ≡ ys ++ ws → (xs ≡ ys) × (zs ≡ ws)
parted [] [] zs ws long same = (refl, same)
parted [] (y ∷ ys) zs ws long same = absurd (omega (arith, long))
parted (x ∷ xs) [] zs ws long same = absurd (omega (arith, long))
parted (x ∷ xs) (y ∷ ys) zs ws long same =
    let rest = parted xs ys zs ws (omega (arith, long)) (ap later_words same) in
    (ap (λ z. z ∷ xs) (ap first_word same) ∙ ap (λ zs. y ∷ zs) rest.0, rest.1)

as_long : (xs ys : List ℕ) → length (filled (length ys) xs) ≡ length (filled (length xs) ys)
as_long xs ys =
    length-append xs (replicate (length ys - length xs) 0) ∙ ap (λ n. length xs + n) (length-replicate (length ys - length xs) 0)
    ∙ omega arith
    ∙ sym (length-append ys (replicate (length xs - length ys) 0) ∙ ap (λ n. length ys + n) (length-replicate (length xs - length ys) 0))

-- ---- no difference, exactly where the host knows the same

module _ (p : NormalForm) (l : Labels) (protocols : List Proto) (h : HostId) (first second : List (List ℕ)) where
  abbrev xs : List ℕ
  xs = words_of first h

  abbrev ys : List ℕ
  ys = words_of second h

  known_same : view_difference p l protocols h first second ≡ None → KnowsTheSame p l protocols h first second
  known_same none =
      let parts = parted (filled (length ys) xs) (filled (length xs) ys) (heard_words p l protocols h first) (heard_words p l protocols h second) (as_long xs ys)
      (same_where_none (known_beside p l protocols h second first) (known_beside p l protocols h first second) none) in
      (λ i. sym (filled_at xs (length ys - length xs) i) ∙ ap (λ zs. slice_index zs i) parts.0 ∙ filled_at ys (length xs - length ys) i, parts.1)

  none_differs : KnowsTheSame p l protocols h first second → view_difference p l protocols h first second ≡ None
  none_differs same =
      none_where_same (known_beside p l protocols h second first) (known_beside p l protocols h first second)
      (ap (λ zs. zs ++ heard_words p l protocols h first) (same_filled xs ys (length ys - length xs) (length xs - length ys) refl refl same.0)
      ∙ ap (λ zs. filled (length xs) ys ++ zs) same.1)

pub differs_exactly : DiffersExactly
differs_exactly p l protocols h first second = (known_same p l protocols h first second, none_differs p l protocols h first second)

-- ---- the code's loop

-- the lists agree up to a place, and then go on
abbrev pub GoesOn : List ℕ → List ℕ → ℕ → Type 0
GoesOn xs ys i = option_map (λ n. i + n) (first_difference (drop i xs) (drop i ys)) ≡ first_difference xs ys

at_end : (i : ℕ) (xs ys : List ℕ) → xs ≢ [] → ys ≡ [] → option_map (λ n. i + n) (first_difference xs ys) ≡ Some i
at_end i [] ys some none = absurd (some refl)
at_end i (x ∷ xs) [] some none = ap Some (add-zero i)
at_end i (x ∷ xs) (y ∷ ys) some none = cc

at_other : (i x y : ℕ) (xs ys : List ℕ) → x ≢ y → option_map (λ n. i + n) (first_difference (x ∷ xs) (y ∷ ys)) ≡ Some i
at_other i x y xs ys apart = rw (ne_eqb x y apart) (ap Some (add-zero i))

first_at_end : (i : ℕ) (xs ys : List ℕ) → xs ≡ [] → ys ≢ [] → option_map (λ n. i + n) (first_difference xs ys) ≡ Some i
first_at_end i [] [] none some = absurd (some refl)
first_at_end i [] (y ∷ ys) none some = ap Some (add-zero i)
first_at_end i (x ∷ xs) ys none some = cc

left : (xs : List ℕ) (i : ℕ) → i < length xs → drop i xs ≡ get_or xs i 0 ∷ drop (suc i) xs
left [] i low = absurd (omega (arith, low))
left (x ∷ xs) zero low = ap (λ zs. x ∷ zs) (all_left xs)
  where
    all_left : (zs : List ℕ) → zs ≡ drop 0 zs
    all_left [] = refl
    all_left (z ∷ zs) = refl
left (x ∷ xs) (suc i) low = left xs i (omega (arith, low))

nothing_left : (xs : List ℕ) (i : ℕ) → length xs ≤ i → drop i xs ≡ []
nothing_left [] zero le = refl
nothing_left [] (suc i) le = refl
nothing_left (x ∷ xs) zero le = absurd (omega (arith, le))
nothing_left (x ∷ xs) (suc i) le = nothing_left xs i (omega (arith, le))

some_left : (xs : List ℕ) (i : ℕ) → i < length xs → drop i xs ≢ []
some_left xs i low none = let e : get_or xs i 0 ∷ drop (suc i) xs ≡ [] = sym (left xs i low) ∙ none in cc

-- the second list has ended at a place of the first
pub ended_here : (xs ys : List ℕ) (i : ℕ) → GoesOn xs ys i → i < length xs → length ys ≤ i → Some i ≡ first_difference xs ys
ended_here xs ys i goes low le = sym (at_end i (drop i xs) (drop i ys) (some_left xs i low) (nothing_left ys i le)) ∙ goes

-- other words stand there
pub differ_here : (xs ys : List ℕ) (i x y : ℕ) → GoesOn xs ys i → i < length xs → i < length ys → x ≡ get_or xs i 0 → y ≡ get_or ys i 0 → x ≢ y → Some i ≡ first_difference xs ys
differ_here xs ys i x y goes low low_too x_is y_is apart =
    sym (at_other i (get_or xs i 0) (get_or ys i 0) (drop (suc i) xs) (drop (suc i) ys) (λ e. apart (x_is ∙ e ∙ sym y_is)))
    ∙ sym (ap₂ (λ (ps qs : List ℕ). option_map (λ n. i + n) (first_difference ps qs)) (left xs i low) (left ys i low_too))
    ∙ goes

-- the first list has ended, and the second goes on
pub ended_first : (xs ys : List ℕ) → GoesOn xs ys (length xs) → length xs < length ys → Some (length xs) ≡ first_difference xs ys
ended_first xs ys goes low = sym (first_at_end (length xs) (drop (length xs) xs) (drop (length xs) ys) (nothing_left xs (length xs) (omega arith)) (some_left ys (length xs) low)) ∙ goes
