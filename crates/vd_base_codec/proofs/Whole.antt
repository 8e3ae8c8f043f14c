-- A whole file: behind the text of its one part nothing stands.
use Rattle.std.proofs.Common.{◌≡◌, ℕ, ◌+◌, ◌-◌, ◌<◌, ◌≤◌, inl, inr, List, [], ◌∷◌, ◌++◌, take, drop, length, Ok, Err, refl, sym, ap, subst, ◌∙◌, append_assoc, length-append, arith}
use Rattle.std.proofs.lemmas.List.{append-nil, take-append-drop, take-append-le, length-take-le}
use Rattle.std.proofs.lemmas.Bool.{cases_order}
use Rattle.std.proofs.Math.Seq.{take-append_seam, take-append-add}
use Rattle.vd_base_codec.specs.Reading.{first, Reading, to_the_end}
use Rattle.vd_base_codec.specs.Exact.{Begins, StopsAt, IsExact, IsTextOf, whole, IsExactWhole}

take_front : (xs ys : List ℕ) → take (length xs) (xs ++ ys) ≡ xs
take_front xs ys = take-append_seam xs ys

take_one_more : (xs : List ℕ) (b : ℕ) (bs : List ℕ) → take (length xs + 1) (xs ++ b ∷ bs) ≡ xs ++ b ∷ []
take_one_more xs b bs = take-append-add xs (b ∷ bs) 1

-- where the bytes behind what was taken cannot go on
stops_at : {X : Type 0} (Fits : X → Type 0) (text : X → List ℕ) (taken left rest : List ℕ) (begun : X) → Fits begun → text begun ≡ taken ++ rest
    → ((y : X) (more : List ℕ) → Fits y → text y ≡ taken ++ more → first more ≡ first left → ⊥)
    → StopsAt (IsTextOf Fits text) (taken ++ left) (length taken)
stops_at Fits text taken [] rest begun fits begins none = record {
  within = omega (arith, length-append taken []);
  begins = (rest, (begun, (fits, begins ∙ ap (λ bs. bs ++ rest) (sym (take_front taken [])))));
  goes_no_further = λ lt. absurd (omega (arith, length-append taken [], lt));
  no_text = λ t. none t.0 [] t.1.0 t.1.1 refl;
}
stops_at Fits text taken (b ∷ bs) rest begun fits begins none = record {
  within = omega (arith, length-append taken (b ∷ bs));
  begins = (rest, (begun, (fits, begins ∙ ap (λ cs. cs ++ rest) (sym (take_front taken (b ∷ bs))))));
  goes_no_further = λ lt t.
      none t.1.0 (b ∷ t.0) t.1.1.0 (t.1.1.1 ∙ ap (λ cs. cs ++ t.0) (take_one_more taken b bs) ∙ append_assoc taken (b ∷ []) t.0) refl;
  no_text = λ t. none t.0 (b ∷ bs) t.1.0 t.1.1 refl;
}

offset_is : (bytes taken left : List ℕ) → bytes ≡ taken ++ left → length bytes - length left ≡ length taken
offset_is bytes taken left e = omega (arith, ap length e, length-append taken left)

pub whole_exact : {X : Type 0} (Behind : List ℕ → Type 0) (Fits : X → Type 0) (text : X → List ℕ) (bytes : List ℕ) (r : Reading X) → Behind [] → IsExact Behind Fits text bytes r → IsExactWhole Fits text bytes (whole bytes r)
whole_exact Behind Fits text bytes (Err left) none_behind exact =
    rw (offset_is bytes exact.taken left exact.split, exact.split)
    (stops_at Fits text exact.taken left exact.rest exact.begun exact.fits exact.begins
    (λ y more h e f. exact.none y [] more h none_behind (append-nil (text y) ∙ e) f))
whole_exact Behind Fits text bytes (Ok (x, [])) none_behind exact = (
  exact.fits,
  sym (exact.split ∙ append-nil (text x)),
  λ y h e. (exact.only y [] [] h none_behind (append-nil (text y) ∙ e ∙ exact.split) refl).0,
)
whole_exact Behind Fits text bytes (Ok (x, b ∷ left)) none_behind exact =
    rw (offset_is bytes (text x) (b ∷ left) exact.split, exact.split)
    (stops_at Fits text (text x) (b ∷ left) [] x exact.fits (sym (append-nil (text x)))
    (λ y more h e f. let same : [] ≡ more = (exact.only y [] more h none_behind (append-nil (text y) ∙ e) f).1 in cc))

begins_shorter : (IsText : List ℕ → Type 0) (bytes : List ℕ) (i j : ℕ) → i < j → j ≤ length bytes → Begins IsText (take j bytes) → Begins IsText (take (i + 1) bytes)
begins_shorter IsText bytes i j h le b =
    let e : take (i + 1) (take j bytes) ++ drop (i + 1) (take j bytes) ≡ take j bytes = take-append-drop (i + 1) (take j bytes) in
    let f : take (i + 1) (take j bytes) ≡ take (i + 1) bytes =
    sym (take-append-le (i + 1) (take j bytes) (drop j bytes) (omega (arith, length-take-le j bytes le))) ∙ ap (take (i + 1)) (take-append-drop j bytes) in
    let g : take (i + 1) bytes ++ (drop (i + 1) (take j bytes) ++ b.0) ≡ take j bytes ++ b.0 =
    sym (append_assoc (take (i + 1) bytes) (drop (i + 1) (take j bytes)) b.0) ∙ ap (λ front. (front ++ drop (i + 1) (take j bytes)) ++ b.0) (sym f) ∙ ap (λ front. front ++ b.0) e in
    (drop (i + 1) (take j bytes) ++ b.0, subst IsText (sym g) b.1)

-- the first place at which bytes go on as no text does is one
pub stops_single : (IsText : List ℕ → Type 0) (bytes : List ℕ) (i j : ℕ) → StopsAt IsText bytes i → StopsAt IsText bytes j → i ≡ j
stops_single IsText bytes i j s t = elim (cases_order i j) [
  | inl e ↦ e
  | inr (inl h) ↦ absurd (s.goes_no_further (omega (arith, t.within)) (begins_shorter IsText bytes i j h t.within t.begins))
  | inr (inr h) ↦ absurd (t.goes_no_further (omega (arith, s.within)) (begins_shorter IsText bytes j i h s.within s.begins))
]

-- no more is left than there was
pub left_within : {X : Type 0} (Behind : List ℕ → Type 0) (Fits : X → Type 0) (text : X → List ℕ) (bytes left : List ℕ) (r : Reading X) → IsExact Behind Fits text bytes r
    → to_the_end r ≡ Err left → length left ≤ length bytes
left_within Behind Fits text bytes left (Err over) exact e =
    let same : over ≡ left = cc in
    omega (arith, ap length same, ap length exact.split, length-append exact.taken over)
left_within Behind Fits text bytes left (Ok (x, [])) exact e = absurd cc
left_within Behind Fits text bytes left (Ok (x, b ∷ over)) exact e =
    let same : b ∷ over ≡ left = cc in
    omega (arith, ap length same, ap length exact.split, length-append (text x) (b ∷ over))
