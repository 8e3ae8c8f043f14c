-- Reading words byte by byte and line by line, as loops do.
use Rattle.std.proofs.Common.{◌≡◌, ◌≢◌, ℕ, suc, ◌+◌, ◌<◌, ◌≤◌, Bool, true, false, eqb, List, [], ◌∷◌, length, drop, get_or, Ok, Err, refl, ap, ◌∙◌, arith, eq-eqb}
use Rattle.std.specs.Prelude.{max}
use Rattle.std.proofs.lemmas.List.{drop_more, drop_all}
use Rattle.std.proofs.lemmas.Bool.{ne_eqb}
use Rattle.vd_hostcode.specs.declared.host_text.words.Word.{Word}
use Rattle.vd_hostcode.specs.Words.{spelling}
use Rattle.vd_hostcode.specs.Reading.{alike, among}

-- ---- how far two texts are alike

alike_same : (w b : ℕ) (ws bs : List ℕ) → w ≡ b → alike (w ∷ ws) (b ∷ bs) ≡ suc (alike ws bs)
unfolding alike
alike_same w b ws bs e = rw (eq-eqb w b e) refl

alike_other : (w b : ℕ) (ws bs : List ℕ) → w ≢ b → alike (w ∷ ws) (b ∷ bs) ≡ 0
unfolding alike
alike_other w b ws bs e = rw (ne_eqb w b e) refl

alike_none : (ws : List ℕ) → alike ws [] ≡ 0
unfolding alike
alike_none [] = refl
alike_none (w ∷ ws) = refl

pub alike_next : (word bytes : List ℕ) (i all : ℕ) → i < length word → i < length bytes → get_or word i 0 ≡ get_or bytes i 0 → i + alike (drop i word) (drop i bytes) ≡ all → i + 1 + alike (drop (i + 1) word) (drop (i + 1) bytes) ≡ all
alike_next word bytes i all h k e is =
    let ws = drop_more word i 0 h in
    let bs = drop_more bytes i 0 k in
    let one : alike (drop i word) (drop i bytes) ≡ suc (alike (drop (i + 1) word) (drop (i + 1) bytes)) = rw (ws, bs) (alike_same (get_or word i 0) (get_or bytes i 0) (drop (i + 1) word) (drop (i + 1) bytes) e) in
    omega (arith, one, is)

pub alike_stops : (word bytes : List ℕ) (i all : ℕ) → i < length word → i < length bytes → get_or word i 0 ≢ get_or bytes i 0 → i + alike (drop i word) (drop i bytes) ≡ all → i ≡ all
alike_stops word bytes i all h k e is =
    let ws = drop_more word i 0 h in
    let bs = drop_more bytes i 0 k in
    let one : alike (drop i word) (drop i bytes) ≡ 0 = rw (ws, bs) (alike_other (get_or word i 0) (get_or bytes i 0) (drop (i + 1) word) (drop (i + 1) bytes) e) in
    omega (arith, one, is)

pub alike_word_over : (word bytes : List ℕ) (i all : ℕ) → length word ≤ i → i + alike (drop i word) (drop i bytes) ≡ all → i ≡ all
unfolding alike
alike_word_over word bytes i all h is =
    let one : alike (drop i word) (drop i bytes) ≡ 0 = rw (drop_all i word h) refl in
    omega (arith, one, is)

pub alike_bytes_over : (word bytes : List ℕ) (i all : ℕ) → length bytes ≤ i → i + alike (drop i word) (drop i bytes) ≡ all → i ≡ all
alike_bytes_over word bytes i all h is =
    let one : alike (drop i word) (drop i bytes) ≡ 0 = ap (alike (drop i word)) (drop_all i bytes h) ∙ alike_none (drop i word) in
    omega (arith, one, is)

-- ---- the words of a list

pub among_found : (may : Word → Bool) (ws : List Word) (w : Word) (i far : ℕ) (bytes : List ℕ) → i < length ws → may (get_or ws i w) ≡ true
    → eqb (alike (spelling (get_or ws i w)) bytes) (length (spelling (get_or ws i w))) ≡ true
    → among may (drop i ws) far bytes ≡ Ok (get_or ws i w, drop (alike (spelling (get_or ws i w)) bytes) bytes)
unfolding among
among_found may ws w i far bytes h m e = rw (drop_more ws i w h, m, e) refl

pub among_over : (may : Word → Bool) (ws : List Word) (i far : ℕ) (bytes : List ℕ) → length ws ≤ i → among may (drop i ws) far bytes ≡ Err (drop far bytes)
unfolding among
among_over may ws i far bytes h = rw (drop_all i ws h) refl

pub among_skipped : (may : Word → Bool) (ws : List Word) (w : Word) (i far : ℕ) (bytes : List ℕ) → i < length ws → may (get_or ws i w) ≡ false
    → among may (drop i ws) far bytes ≡ among may (drop (i + 1) ws) far bytes
unfolding among
among_skipped may ws w i far bytes h m = rw (drop_more ws i w h, m) refl

pub among_passed : (may : Word → Bool) (ws : List Word) (w : Word) (i far : ℕ) (bytes : List ℕ) → i < length ws → may (get_or ws i w) ≡ true
    → eqb (alike (spelling (get_or ws i w)) bytes) (length (spelling (get_or ws i w))) ≡ false
    → among may (drop i ws) far bytes ≡ among may (drop (i + 1) ws) (max far (alike (spelling (get_or ws i w)) bytes)) bytes
unfolding among
among_passed may ws w i far bytes h m e = rw (drop_more ws i w h, m, e) refl
