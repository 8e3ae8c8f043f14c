-- Registers in a row: digests and arrays as words that are put into a list of registers.
use Rattle.std.proofs.Common.{◌≡◌, ℕ, zero, suc, ◌+◌, ◌<◌, ◌≤◌, nat_lt, Bool, true, false, if◌then◌else◌, List, [], ◌∷◌, length, refl, sym, ap, ap₂, ◌∙◌, arith}
use Rattle.std.specs.Prelude.{replicate}
use Rattle.std.proofs.lemmas.Bool.{ltb-true}
use Rattle.std.proofs.lemmas.Bool.Decides.{nat_tests}
use mathlib.Core.Path.{fun_ext}
use Rattle.vd_execution.specs.Registers.{Registers, put, put_each, put_from, words_from, zeroed, digest_of, nth}
use Rattle.vd_execution.specs.Step.{words_in}
use Rattle.vd_execution.proofs.Front.{put_other, put_itself}
use Rattle.vd_reorder.specs.ReorderLawsTesting.{row}

words_row : (f : Registers) (r count : ℕ) → words_in f (row r count) ≡ words_from f r count
words_row f r zero = refl
words_row f r (suc count) = ap (λ (l : List ℕ). f r ∷ l) (words_row f (r + 1) count)

put_row : (f : Registers) (r count : ℕ) (xs : List ℕ) → length xs ≤ count → put_from f r xs ≡ put_each f (row r count) xs
put_row f r zero [] le = refl
put_row f r zero (x ∷ xs) le = absurd (omega (arith, le))
put_row f r (suc count) [] le = refl
put_row f r (suc count) (x ∷ xs) le = put_row (put f r x) (r + 1) count xs (omega (arith, le))

digest_count : (nonce : List ℕ) (value : ℕ) → length (digest_of nonce value) ≡ 8
unfolding digest_of
digest_count nonce value = refl

-- ---- a digest

pub hashed : (f : Registers) (d n v : ℕ) → put_from f d (digest_of (words_from f n 8) (f v)) ≡ put_each f (row d 8) (digest_of (words_in f (row n 8)) (f v))
hashed f d n v =
    let digest : List ℕ = digest_of (words_in f (row n 8)) (f v) in
    let count = digest_count (words_in f (row n 8)) (f v) in
    ap (λ l. put_from f d (digest_of l (f v))) (sym (words_row f n 8)) ∙ put_row f d 8 digest (omega (arith, count))

-- ---- an array of zeros

zeroed_more_at : (f : Registers) (r count j : ℕ) → zeroed f r (suc count) j ≡ zeroed (put f r 0) (r + 1) count j
unfolding put zeroed
zeroed_more_at f r count j = grind (arith, nat_tests)

zeroed_none_at : (f : Registers) (r j : ℕ) → zeroed f r 0 j ≡ f j
unfolding zeroed
zeroed_none_at f r j = grind (arith, nat_tests)

pub zeroed_row : (f : Registers) (r count : ℕ) → zeroed f r count ≡ put_each f (row r count) (replicate count 0)
zeroed_row f r zero = fun_ext (zeroed_none_at f r)
zeroed_row f r (suc count) = fun_ext (zeroed_more_at f r count) ∙ zeroed_row (put f r 0) (r + 1) count

-- ---- a word of an array

nth_row : (f : Registers) (r count k : ℕ) → k < count → nth (words_in f (row r count)) k ≡ f (r + k)
nth_row f r zero k low = absurd (omega (arith, low))
nth_row f r (suc count) zero low = let e : r ≡ r + 0 = omega arith in ap f e
nth_row f r (suc count) (suc k) low = let e : r + 1 + k ≡ r + suc k = omega arith in nth_row f (r + 1) count k (omega (arith, low)) ∙ ap f e

pub got : (f : Registers) (r count k : ℕ) (b : Bool) → nat_lt k count ≡ b → (if b then f (r + k) else 0) ≡ (if b then nth (words_in f (row r count)) k else 0)
got f r count k true e = sym (nth_row f r count k (ltb-true k count e))
got f r count k false e = refl

-- ---- a word put into an array

-- the list with another word at a place
abbrev pub changed : List ℕ → ℕ → ℕ → List ℕ
changed [] k y = []
changed (x ∷ xs) zero y = y ∷ xs
changed (x ∷ xs) (suc k) y = x ∷ changed xs k y

words_above : (f : Registers) (q y r count : ℕ) → q < r → words_in (put f q y) (row r count) ≡ words_in f (row r count)
words_above f q y r zero low = refl
words_above f q y r (suc count) low =
    ap₂ (λ (x : ℕ) (l : List ℕ). x ∷ l) (put_other f q y r (λ e. omega (arith, e, low))) (words_above f q y (r + 1) count (omega (arith, low)))

put_row_itself : (f : Registers) (r count : ℕ) → put_each f (row r count) (words_in f (row r count)) ≡ f
put_row_itself f r zero = refl
put_row_itself f r (suc count) = ap (λ g. put_each g (row (r + 1) count) (words_in f (row (r + 1) count))) (put_itself f r) ∙ put_row_itself f (r + 1) count

put_changed : (f : Registers) (r count k y : ℕ) → k < count → put_each f (row r count) (changed (words_in f (row r count)) k y) ≡ put f (r + k) y
put_changed f r zero k y low = absurd (omega (arith, low))
put_changed f r (suc count) zero y low =
    let e : r ≡ r + 0 = omega arith in
    ap (λ l. put_each (put f r y) (row (r + 1) count) l) (sym (words_above f r y (r + 1) count (omega arith)))
    ∙ put_row_itself (put f r y) (r + 1) count
    ∙ ap (λ q. put f q y) e
put_changed f r (suc count) (suc k) y low =
    let e : r + 1 + k ≡ r + suc k = omega arith in
    ap (λ g. put_each g (row (r + 1) count) (changed (words_in f (row (r + 1) count)) k y)) (put_itself f r)
    ∙ put_changed f (r + 1) count k y (omega (arith, low))
    ∙ ap (λ q. put f q y) e

pub changed_row : (f : Registers) (r count k y : ℕ) (b : Bool) → nat_lt k count ≡ b
    → (if b then put f (r + k) y else f) ≡ put_each f (row r count) (if b then changed (words_in f (row r count)) k y else words_in f (row r count))
changed_row f r count k y true e = sym (put_changed f r count k y (ltb-true k count e))
changed_row f r count k y false e = sym (put_row_itself f r count)
