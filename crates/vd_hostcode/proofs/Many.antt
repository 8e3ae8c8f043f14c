-- Numbers as far as they go.
use Rattle.std.proofs.Common.{◌≡◌, ℕ, zero, suc, ◌<◌, ◌≤◌, Bool, true, false, cond, List, [], ◌∷◌, ◌++◌, length, Ok, Err, inl, inr, refl, sym, ap, ◌∙◌, append_assoc, length-append, arith, true≢false, eq-eqb}
use Rattle.std.specs.List.{flat_map, AllByRecursion}
use Rattle.std.proofs.lemmas.List.{append-nil}
use Rattle.std.proofs.lemmas.List.Concat.{flat_map-cons}
use Rattle.std.proofs.lemmas.Bool.{eqb-true}
use Rattle.vd_base.specs.Words.{IsWord}
use Rattle.vd_base_codec.specs.Reading.{first, Reading, ◌>>=◌, field}
use Rattle.vd_base_codec.specs.Exact.{IsBreak, IsExact}
use Rattle.vd_base_codec.proofs.Front.{with_front, done_exact, Picks, first_append, later, stopped_first, then_exact, head_or, tail, AtMost, exact_for, field_exact}
use Rattle.vd_hostcode.specs.Reading.{number_at, starts_with, many_at}

pub word_number_exact : (bytes : List ℕ) → IsExact IsBreak IsWord field bytes (number_at bytes)
word_number_exact bytes =
    exact_for IsBreak (AtMost 4294967295) IsWord field bytes (number_at bytes) (λ n h. omega (arith, h)) (λ n h. omega (arith, h)) (field_exact 4294967295 bytes (omega arith))

-- a number takes bytes
shorter_by : (bytes : List ℕ) (r : Reading ℕ) → IsExact IsBreak IsWord field bytes r → (x : ℕ) (left : List ℕ) → r ≡ Ok (x, left) → length left < length bytes
shorter_by bytes (Ok y) exact x left e =
    let pair : y ≡ (x, left) = cc in
    let same : y.1 ≡ left = ap (λ p. p.1) pair in
    omega (arith, ap length exact.split, length-append (field y.0) y.1, ap length same)
shorter_by bytes (Err over) exact x left e = absurd cc

pub number_shorter : (bytes : List ℕ) (x : ℕ) (left : List ℕ) → number_at bytes ≡ Ok (x, left) → length left < length bytes
number_shorter bytes x left e = shorter_by bytes (number_at bytes) (word_number_exact bytes) x left e

-- ---- the loop

-- what is read from here on completes what was read
abbrev pub GoesOn : List ℕ → List ℕ → Reading (List ℕ) → Type 0
GoesOn front bytes total = (n : ℕ) × (length bytes ≤ n) × (with_front front (many_at n bytes) ≡ total)

pub regroup : {X : Type 0} (front : List X) (x : X) (read : Reading (List X)) → with_front front (read >>= λ xs. Ok (x ∷ xs.0, xs.1)) ≡ with_front (front ++ x ∷ []) read
regroup front x (Ok xs) = let e : front ++ (x ∷ xs.0) ≡ (front ++ x ∷ []) ++ xs.0 = sym (append_assoc front (x ∷ []) xs.0) in cc
regroup front x (Err left) = refl

pub many_start : (bytes : List ℕ) → GoesOn [] bytes (many_at (length bytes) bytes)
many_start bytes = (length bytes, omega arith, elim (many_at (length bytes) bytes) as (λ r. with_front [] r ≡ r) [ Ok x ↦ refl | Err left ↦ refl ])

one_more : (front : List ℕ) (n : ℕ) (bytes left : List ℕ) (x : ℕ) → starts_with 32 bytes ≡ true → number_at bytes ≡ Ok (x, left) → with_front front (many_at (suc n) bytes) ≡ with_front (front ++ x ∷ []) (many_at n left)
unfolding many_at
one_more front n bytes left x is e = rw (is, e) (regroup front x (many_at n left))

pub many_next : (front : List ℕ) (bytes left : List ℕ) (x : ℕ) (total : Reading (List ℕ)) → starts_with 32 bytes ≡ true → number_at bytes ≡ Ok (x, left) → GoesOn front bytes total → GoesOn (front ++ x ∷ []) left total
many_next front bytes left x total is e (zero, le, so_far) = absurd (omega (arith, le, number_shorter bytes x left e))
many_next front bytes left x total is e (suc n, le, so_far) = (n, omega (arith, le, number_shorter bytes x left e), sym (one_more front n bytes left x is e) ∙ so_far)

one_stopped : (front : List ℕ) (n : ℕ) (bytes left : List ℕ) → starts_with 32 bytes ≡ true → number_at bytes ≡ Err left → with_front front (many_at (suc n) bytes) ≡ Err left
unfolding many_at
one_stopped front n bytes left is e = rw (is, e) refl

pub many_stopped : (front : List ℕ) (bytes left : List ℕ) (total : Reading (List ℕ)) → starts_with 32 bytes ≡ true → number_at bytes ≡ Err left → GoesOn front bytes total → total ≡ Err left
unfolding many_at
many_stopped front [] left total is e (n, le, so_far) = absurd cc
many_stopped front (b ∷ bytes) left total is e (zero, le, so_far) = absurd (omega (arith, le))
many_stopped front (b ∷ bytes) left total is e (suc n, le, so_far) = sym so_far ∙ one_stopped front n (b ∷ bytes) left is e

many_over : (front : List ℕ) (n : ℕ) (bytes : List ℕ) → starts_with 32 bytes ≡ false → with_front front (many_at n bytes) ≡ Ok (front, bytes)
unfolding many_at
many_over front zero bytes is = let e : front ++ [] ≡ front = append-nil front in cc
many_over front (suc n) bytes is = let e : front ++ [] ≡ front = append-nil front in rw is (cc)

pub many_done : (front : List ℕ) (bytes : List ℕ) (total : Reading (List ℕ)) → starts_with 32 bytes ≡ false → GoesOn front bytes total → total ≡ Ok (front, bytes)
many_done front bytes total is (n, le, so_far) = sym so_far ∙ many_over front n bytes is

-- ---- numbers are read exactly

-- the end of a line, or of the file
abbrev pub IsLineEnd : List ℕ → Type 0
IsLineEnd [] = Unit {0}
IsLineEnd (b ∷ bs) = b ≡ 10

pub break_line : (bytes : List ℕ) → IsLineEnd bytes → IsBreak bytes
break_line [] h = tt
break_line (b ∷ bs) h = inr h

abbrev pub AreWords : List ℕ → Type 0
AreWords ns = AllByRecursion IsWord ns

abbrev pub texts : List ℕ → List ℕ
texts ns = flat_map field ns

-- numbers of which there is at least one
abbrev SomeWords : List ℕ → Type 0
SomeWords ns = AreWords ns × (1 ≤ length ns)

break_rest : (ns behind : List ℕ) → IsLineEnd behind → IsBreak (texts ns ++ behind)
break_rest [] behind h = break_line behind h
break_rest (n ∷ ns) behind h = inl refl

picks_first : Picks IsBreak IsWord field IsLineEnd SomeWords texts (λ ns. texts (tail ns)) (head_or 0)
picks_first = record {
  part_fits = λ ns. elim ns as (λ xs. SomeWords xs → IsWord (head_or 0 xs)) [ [] ↦ λ h. absurd (omega (arith, h.1)) | x ∷ xs ↦ λ h. h.0.0 ];
  split = λ ns. elim ns as (λ xs. SomeWords xs → texts xs ≡ field (head_or 0 xs) ++ texts (tail xs)) [ [] ↦ λ h. absurd (omega (arith, h.1)) | x ∷ xs ↦ λ h. flat_map-cons field x xs ];
  some = λ a h. (a ∷ [], (((h, tt), omega arith), refl));
  break = λ ns behind h k. break_rest (tail ns) behind k;
}

picks_others : (a : ℕ) → IsWord a → Picks IsLineEnd AreWords texts IsLineEnd (λ ns. SomeWords ns × (head_or 0 ns ≡ a)) (λ ns. texts (tail ns)) (λ _. []) tail
picks_others a fits = record {
  part_fits = λ ns. elim ns as (λ xs. SomeWords xs × (head_or 0 xs ≡ a) → AreWords (tail xs)) [ [] ↦ λ h. tt | x ∷ xs ↦ λ h. h.0.0.1 ];
  split = λ ns h. sym (append-nil (texts (tail ns)));
  some = λ ns h. (a ∷ ns, ((((fits, h), omega arith), refl), refl));
  break = λ ns behind h k. k;
}

same_numbers : (a : ℕ) (others ns : List ℕ) → 1 ≤ length ns → head_or 0 ns ≡ a → tail ns ≡ others → ns ≡ a ∷ others
same_numbers a others [] some h t = absurd (omega (arith, some))
same_numbers a others (n ∷ ns) some h t = cc

pub no_space : (bs : List ℕ) → starts_with 32 bs ≡ false → first bs ≡ first (32 ∷ []) → ⊥
no_space [] s e = cc
no_space (b ∷ bs) s e = let same : b ≡ 32 = cc in true≢false (sym (eq-eqb b 32 same) ∙ s)

-- no number stands here
none_here : (bytes : List ℕ) → starts_with 32 bytes ≡ false → IsExact IsLineEnd AreWords texts bytes (Ok ([], bytes))
none_here bytes is = record {
  fits = tt;
  split = refl;
  only = λ ns behind more. elim ns as (λ xs. AreWords xs → IsLineEnd behind → texts xs ++ behind ≡ more → first more ≡ first bytes → (xs ≡ []) × (behind ≡ more)) [
    | [] ↦ λ h k e f. (refl, e)
    | x ∷ xs ↦ λ h k e f. absurd (no_space bytes is (sym f ∙ ap first (sym e)))
  ];
}

-- where the first byte is a space, there is a number
not_none : (bytes : List ℕ) (ns behind more : List ℕ) → starts_with 32 bytes ≡ true → AreWords ns → IsLineEnd behind → texts ns ++ behind ≡ more → first more ≡ first bytes → SomeWords ns
not_none [] ns behind more is w k e f = absurd cc
not_none (b ∷ bytes) [] [] more is w k e f = absurd (let g : first [] ≡ first (b ∷ bytes) = ap first e ∙ f in cc)
not_none (b ∷ bytes) [] (c ∷ behind) more is w k e f =
    let same : c ≡ b = (let g : first (c ∷ behind) ≡ first (b ∷ bytes) = ap first e ∙ f in cc) in
    absurd (omega (arith, eqb-true b 32 is, same, k))
not_none (b ∷ bytes) (n ∷ ns) behind more is w k e f = (w, omega arith)

widen : (bytes : List ℕ) (r : Reading (List ℕ)) → starts_with 32 bytes ≡ true → IsExact IsLineEnd SomeWords texts bytes r → IsExact IsLineEnd AreWords texts bytes r
widen bytes (Ok x) is exact = record {
  fits = exact.fits.0;
  split = exact.split;
  only = λ y behind more h k e f.
      exact.only y behind more (not_none bytes y behind (texts x.0 ++ more) is h k e (first_append (texts x.0) more x.1 f ∙ ap first (sym exact.split))) k e f;
}
widen bytes (Err left) is exact = record {
  taken = exact.taken;
  split = exact.split;
  begun = exact.begun;
  fits = exact.fits.0;
  rest = exact.rest;
  begins = exact.begins;
  none = λ y behind more h k e f.
      exact.none y behind more (not_none bytes y behind (exact.taken ++ more) is h k e (first_append exact.taken more left f ∙ ap first (sym exact.split))) k e f;
}

-- what is read behind the first number
others_exact : (n a : ℕ) (mid : List ℕ) → IsWord a → IsExact IsLineEnd AreWords texts mid (many_at n mid)
    → IsExact IsLineEnd (λ ns. SomeWords ns × (head_or 0 ns ≡ a)) (λ ns. texts (tail ns)) mid (many_at n mid >>= λ xs. Ok (a ∷ xs.0, xs.1))
others_exact n a mid fits exact =
    then_exact IsLineEnd AreWords texts IsLineEnd (λ ns. SomeWords ns × (head_or 0 ns ≡ a)) (λ ns. texts (tail ns)) (λ _. []) tail (picks_others a fits) mid (many_at n mid)
    (λ xs. Ok (a ∷ xs.0, xs.1)) exact
    (λ others over h.
    done_exact IsLineEnd (λ ns. (SomeWords ns × (head_or 0 ns ≡ a)) × (tail ns ≡ others)) (a ∷ others) over ((((fits, h), omega arith), refl), refl)
    (λ ns g. same_numbers a others ns g.0.0.1 g.0.1 g.1))

some_by : (n : ℕ) (bytes : List ℕ) (r : Reading ℕ) → length bytes ≤ suc n → IsExact IsBreak IsWord field bytes r
    → ((mid : List ℕ) → length mid ≤ n → IsExact IsLineEnd AreWords texts mid (many_at n mid))
    → IsExact IsLineEnd SomeWords texts bytes (r >>= λ x. (many_at n x.1 >>= λ xs. Ok (x.0 ∷ xs.0, xs.1)))
some_by n bytes (Ok x) le exact rest =
    let shorter : length x.1 < length bytes = shorter_by bytes (Ok x) exact x.0 x.1 refl in
    later IsBreak IsWord field IsLineEnd SomeWords texts (λ ns. texts (tail ns)) (head_or 0) picks_first bytes x.0 x.1 exact
    (many_at n x.1 >>= λ xs. Ok (x.0 ∷ xs.0, xs.1)) (others_exact n x.0 x.1 exact.fits (rest x.1 (omega (arith, le, shorter))))
some_by n bytes (Err over) le exact rest = stopped_first IsBreak IsWord field IsLineEnd SomeWords texts (λ ns. texts (tail ns)) (head_or 0) picks_first bytes over exact

many_by : (n : ℕ) (bytes : List ℕ) (t : Bool) → starts_with 32 bytes ≡ t → length bytes ≤ suc n → ((mid : List ℕ) → length mid ≤ n → IsExact IsLineEnd AreWords texts mid (many_at n mid))
    → IsExact IsLineEnd AreWords texts bytes (cond t (number_at bytes >>= λ x. (many_at n x.1 >>= λ xs. Ok (x.0 ∷ xs.0, xs.1))) (Ok ([], bytes)))
many_by n bytes true is le rest = widen bytes (number_at bytes >>= λ x. (many_at n x.1 >>= λ xs. Ok (x.0 ∷ xs.0, xs.1))) is (some_by n bytes (number_at bytes) le (word_number_exact bytes) rest)
many_by n bytes false is le rest = none_here bytes is

pub many_exact : (n : ℕ) (bytes : List ℕ) → length bytes ≤ n → IsExact IsLineEnd AreWords texts bytes (many_at n bytes)
unfolding many_at
many_exact zero [] le = none_here [] refl
many_exact zero (b ∷ bytes) le = absurd (omega (arith, le))
many_exact (suc n) bytes le = many_by n bytes (starts_with 32 bytes) refl le (λ mid shorter. many_exact n mid shorter)
