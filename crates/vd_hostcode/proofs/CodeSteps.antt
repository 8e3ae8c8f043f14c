-- Lines one after the other, as a loop reads them.
use Rattle.std.proofs.Common.{◌≡◌, ℕ, zero, suc, ◌<◌, ◌≤◌, Bool, true, false, cond, List, [], ◌∷◌, ◌++◌, length, Ok, Err, refl, sym, ap, ◌∙◌, append_assoc, arith, true≢false}
use Rattle.std.proofs.lemmas.List.{append-nil}
use Rattle.vd_base_codec.specs.declared.fault.CodecFault.{CodecFault}
use Rattle.vd_base_codec.specs.declared.fault.CodecFault.TheVariants as fault
use Rattle.vd_base_codec.specs.Reading.{Reading, ◌>>=◌, byte_at, StopsOrMemory}
use Rattle.vd_base_codec.specs.Exact.{IsAnything, IsExact}
use Rattle.vd_execution.specs.declared.instructions.Instr.{Instr}
use Rattle.vd_hostcode.specs.declared.host_text.words.Word.{Word}
use Rattle.vd_hostcode.specs.declared.host_text.blocks.Arrays.{Arrays}
use Rattle.vd_hostcode.specs.Lines.{Line, line_text, State, start, after, is_last}
use Rattle.vd_hostcode.specs.Reading.{numbers_at, rest_at, word_at, line_at, lines_at, instr_of, instr_in, instr_at, next_at, code_of, code_at}
use Rattle.vd_hostcode.proofs.LinesExact.{MayCome, line_exact, line_takes}

abbrev with_word : Reading Line → Reading (Word × Instr)
with_word r = r >>= λ l. Ok ((l.0.word, instr_in l.0), l.1)

by_byte : (w : Word) (ns : List ℕ) (r : Reading (Unit {0})) → ((r >>= λ e. Ok (instr_of w ns, e.1)) >>= λ i. Ok ((w, i.0), i.1)) ≡ with_word (r >>= λ e. Ok (record { word = w; numbers = ns }, e.1))
by_byte w ns (Ok e) = refl
by_byte w ns (Err left) = refl

by_numbers : (w : Word) (r : Reading (List ℕ))
    → ((r >>= λ ns. byte_at 10 ns.1 >>= λ e. Ok (instr_of w ns.0, e.1)) >>= λ i. Ok ((w, i.0), i.1)) ≡ with_word (r >>= λ ns. byte_at 10 ns.1 >>= λ e. Ok (record { word = w; numbers = ns.0 }, e.1))
by_numbers w (Ok ns) = by_byte w ns.0 (byte_at 10 ns.1)
by_numbers w (Err left) = refl

rest_with_word : (w : Word) (bs : List ℕ) → (instr_at w bs >>= λ i. Ok ((w, i.0), i.1)) ≡ with_word (rest_at w bs)
unfolding instr_at rest_at
rest_with_word w bs = by_numbers w (numbers_at w bs)

by_word : (r : Reading Word) → (r >>= λ w. (instr_at w.0 w.1 >>= λ i. Ok ((w.0, i.0), i.1))) ≡ with_word (r >>= λ w. rest_at w.0 w.1)
by_word (Ok w) = rest_with_word w.0 w.1
by_word (Err left) = refl

line_with_word : (s : State) (bs : List ℕ) → next_at s bs ≡ with_word (line_at s bs)
line_with_word s bs = by_word (word_at s bs)

-- ---- the loop

abbrev with_code : List Instr → Reading (List Line) → Reading (List Instr)
with_code front r = r >>= λ ls. Ok (front ++ code_of ls.0, ls.1)

-- what is read from here on completes what was read
abbrev pub CodeGoesOn : List Instr → State → List ℕ → Reading (List Instr) → Type 0
CodeGoesOn front s bytes total = (n : ℕ) × (length bytes ≤ n) × (with_code front (lines_at n s bytes) ≡ total)

from_start : (r : Reading (List Line)) → with_code [] r ≡ (r >>= λ ls. Ok (code_of ls.0, ls.1))
from_start (Ok ls) = refl
from_start (Err left) = refl

pub code_start : (a : Arrays) (bytes : List ℕ) → CodeGoesOn [] (start a) bytes (code_at (start a) bytes)
code_start a bytes = (length bytes, omega arith, from_start (lines_at (length bytes) (start a) bytes))

takes_by : (s : State) (bytes left : List ℕ) (w : Word) (i : Instr) (r : Reading Line) → IsExact IsAnything (MayCome s) line_text bytes r → with_word r ≡ Ok ((w, i), left) → length left < length bytes
takes_by s bytes left w i (Ok l) exact e =
    let pair : ◌≡◌ {A = (Word × Instr) × List ℕ} ((l.0.word, instr_in l.0), l.1) ((w, i), left) = cc in
    let same : l.1 ≡ left = ap (λ x. x.1) pair in
    let shorter : length l.1 < length bytes = line_takes bytes l.0 l.1 exact.split in
    omega (arith, shorter, ap length same)
takes_by s bytes left w i (Err over) exact e = absurd cc

pub line_shorter : (s : State) (bytes left : List ℕ) (w : Word) (i : Instr) → next_at s bytes ≡ Ok ((w, i), left) → length left < length bytes
line_shorter s bytes left w i e = takes_by s bytes left w i (line_at s bytes) (line_exact s bytes) (sym (line_with_word s bytes) ∙ e)

regroup : (front : List Instr) (l : Line) (r : Reading (List Line)) → with_code front (r >>= λ ls. Ok (l ∷ ls.0, ls.1)) ≡ with_code (front ++ instr_in l ∷ []) r
regroup front l (Ok ls) = let e : front ++ (instr_in l ∷ code_of ls.0) ≡ (front ++ instr_in l ∷ []) ++ code_of ls.0 = sym (append_assoc front (instr_in l ∷ []) (code_of ls.0)) in cc
regroup front l (Err left) = refl

abbrev then_lines : ℕ → State → Reading Line → Reading (List Line)
then_lines n s r = r >>= λ l. cond (is_last s l.0.word) (Ok ([], l.1)) (lines_at n (after s l.0.word) l.1 >>= λ ls. Ok (l.0 ∷ ls.0, ls.1))

after_line : (front : List Instr) (n : ℕ) (s : State) (l : Line) (left : List ℕ) (t : Bool) → t ≡ false
    → with_code front (cond t (Ok ([], left)) (lines_at n (after s l.word) left >>= λ ls. Ok (l ∷ ls.0, ls.1))) ≡ with_code (front ++ instr_in l ∷ []) (lines_at n (after s l.word) left)
after_line front n s l left true e = absurd (true≢false e)
after_line front n s l left false e = regroup front l (lines_at n (after s l.word) left)

last_line_done : (front : List Instr) (left : List ℕ) (t : Bool) (r : Reading (List Line)) → t ≡ true → with_code front (cond t (Ok ([], left)) r) ≡ Ok (front, left)
last_line_done front left true r e = let same : front ++ [] ≡ front = append-nil front in ap (λ xs. Ok (xs, left)) same
last_line_done front left false r e = absurd (true≢false (sym e))

next_by : (front : List Instr) (n : ℕ) (s : State) (left : List ℕ) (w : Word) (i : Instr) (r : Reading Line) → with_word r ≡ Ok ((w, i), left) → is_last s w ≡ false
    → with_code front (then_lines n s r) ≡ with_code (front ++ i ∷ []) (lines_at n (after s w) left)
next_by front n s left w i (Ok l) e last =
    let pair : ◌≡◌ {A = (Word × Instr) × List ℕ} ((l.0.word, instr_in l.0), l.1) ((w, i), left) = cc in
    let one = after_line front n s l.0 l.1 (is_last s l.0.word) (ap (λ x. is_last s x.0.0) pair ∙ last) in
    one ∙ ap (λ x. with_code (front ++ x.0.1 ∷ []) (lines_at n (after s x.0.0) x.1)) pair
next_by front n s left w i (Err over) e last = absurd cc

last_by : (front : List Instr) (n : ℕ) (s : State) (left : List ℕ) (w : Word) (i : Instr) (r : Reading Line) → with_word r ≡ Ok ((w, i), left) → is_last s w ≡ true → with_code front (then_lines n s r) ≡ Ok (front, left)
last_by front n s left w i (Ok l) e last =
    let pair : ◌≡◌ {A = (Word × Instr) × List ℕ} ((l.0.word, instr_in l.0), l.1) ((w, i), left) = cc in
    last_line_done front l.1 (is_last s l.0.word) (lines_at n (after s l.0.word) l.1 >>= λ ls. Ok (l.0 ∷ ls.0, ls.1)) (ap (λ x. is_last s x.0.0) pair ∙ last) ∙ ap (λ x. Ok (front, x.1)) pair
last_by front n s left w i (Err over) e last = absurd cc

stops_by : (front : List Instr) (n : ℕ) (s : State) (left : List ℕ) (r : Reading Line) → with_word r ≡ Err left → with_code front (then_lines n s r) ≡ Err left
stops_by front n s left (Ok l) e = absurd cc
stops_by front n s left (Err over) e = let same : over ≡ left = cc in ap (λ x. Err x) same

with_fuel : (front : List Instr) (n : ℕ) (s : State) (bytes : List ℕ) → with_code front (lines_at (suc n) s bytes) ≡ with_code front (then_lines n s (line_at s bytes))
unfolding lines_at
with_fuel front n s bytes = refl

pub code_next : (front : List Instr) (s : State) (bytes left : List ℕ) (w : Word) (i : Instr) (total : Reading (List Instr)) → next_at s bytes ≡ Ok ((w, i), left) → is_last s w ≡ false
    → CodeGoesOn front s bytes total → CodeGoesOn (front ++ i ∷ []) (after s w) left total
code_next front s bytes left w i total e last (zero, le, so_far) = absurd (omega (arith, le, line_shorter s bytes left w i e))
code_next front s bytes left w i total e last (suc n, le, so_far) =
    (n, omega (arith, le, line_shorter s bytes left w i e), sym (with_fuel front n s bytes ∙ next_by front n s left w i (line_at s bytes) (sym (line_with_word s bytes) ∙ e) last) ∙ so_far)

pub code_last : (front : List Instr) (s : State) (bytes left : List ℕ) (w : Word) (i : Instr) (total : Reading (List Instr)) → next_at s bytes ≡ Ok ((w, i), left) → is_last s w ≡ true
    → CodeGoesOn front s bytes total → total ≡ Ok (front, left)
code_last front s bytes left w i total e last (zero, le, so_far) = absurd (omega (arith, le, line_shorter s bytes left w i e))
code_last front s bytes left w i total e last (suc n, le, so_far) = sym so_far ∙ with_fuel front n s bytes ∙ last_by front n s left w i (line_at s bytes) (sym (line_with_word s bytes) ∙ e) last

empty_of_append : (xs ys : List ℕ) → xs ++ ys ≡ [] → ys ≡ []
empty_of_append [] ys e = e
empty_of_append (x ∷ xs) ys e = absurd cc

-- at the end of the bytes nothing was taken
empty_by : (front : List Instr) (s : State) (left : List ℕ) (r : Reading Line) → IsExact IsAnything (MayCome s) line_text [] r → with_word r ≡ Err left → let none : Reading (List Instr) = Err [] in none ≡ Err left
empty_by front s left (Ok l) exact e = absurd cc
empty_by front s left (Err over) exact e =
    let same : over ≡ left = cc in
    ap (λ x. Err x) (sym (empty_of_append exact.taken over (sym exact.split)) ∙ same)

empty_stops : (front : List Instr) (s : State) (bytes left : List ℕ) → length bytes ≤ 0 → next_at s bytes ≡ Err left → with_code front (lines_at 0 s bytes) ≡ Err left
unfolding lines_at
empty_stops front s (b ∷ bytes) left le e = absurd (omega (arith, le))
empty_stops front s [] left le e = empty_by front s left (line_at s []) (line_exact s []) (sym (line_with_word s []) ∙ e)

code_stops : (front : List Instr) (s : State) (bytes left : List ℕ) (total : Reading (List Instr)) → next_at s bytes ≡ Err left → CodeGoesOn front s bytes total → total ≡ Err left
code_stops front s bytes left total e (zero, le, so_far) = sym so_far ∙ empty_stops front s bytes left le e
code_stops front s bytes left total e (suc n, le, so_far) = sym so_far ∙ with_fuel front n s bytes ∙ stops_by front n s left (line_at s bytes) (sym (line_with_word s bytes) ∙ e)

pub code_fault : (why : CodecFault) (front : List Instr) (s : State) (bytes left : List ℕ) (total : Reading (List Instr)) → StopsOrMemory why left (next_at s bytes) → CodeGoesOn front s bytes total → StopsOrMemory why left total
code_fault fault.Stopped front s bytes left total e h = code_stops front s bytes left total e h
code_fault fault.Memory front s bytes left total e h = tt
