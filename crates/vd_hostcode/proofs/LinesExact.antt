-- The lines of a host's program are read exactly.
use Rattle.std.proofs.Common.{◌≡◌, ℕ, zero, suc, ◌<◌, ◌≤◌, Bool, true, false, cond, List, [], ◌∷◌, ◌++◌, length, take, drop, Ok, Err, inl, refl, sym, ap, subst, ◌∙◌, append_assoc, length-append, arith, true≢false}
use Rattle.std.specs.Prelude.{codes}
use Rattle.std.specs.List.{flat_map}
use Rattle.std.proofs.lemmas.List.{append-nil, take-append-drop, length-take-le, take_all, take_at, drop_at, drop_all}
use Rattle.std.proofs.lemmas.List.Concat.{flat_map-cons}
use Rattle.std.proofs.lemmas.Grind.{flat_map-append}
use Rattle.vd_base.specs.Words.{IsWord}
use Rattle.vd_base_codec.specs.Reading.{first, Reading, ◌>>=◌, byte_at, each_at, field}
use Rattle.vd_base_codec.specs.Exact.{IsBreak, IsAnything, IsExact}
use Rattle.vd_base_codec.proofs.Front.{done_exact, byte_exact, Picks, later, stopped_first, then_exact, AreEach, break_each, each_exact, exact_as}
use Rattle.vd_hostcode.specs.declared.host_text.words.Word.{Word}
use Rattle.vd_hostcode.specs.declared.host_text.words.Word.TheVariants as word
use Rattle.vd_hostcode.specs.declared.host_text.blocks.Block.{Block}
use Rattle.vd_hostcode.specs.declared.host_text.blocks.Block.TheVariants as block
use Rattle.vd_hostcode.specs.declared.host_text.blocks.Arrays.{Arrays}
use Rattle.vd_hostcode.specs.declared.host_text.blocks.Arrays.TheVariants as arrays
use Rattle.vd_hostcode.specs.Words.{spelling}
use Rattle.vd_hostcode.specs.Lines.{Line, line_text, lines_text, arity, is_packet, HasNumbers, State, allows, after, is_last, Leads, may_stop}
use Rattle.vd_hostcode.specs.Reading.{number_at, many_at, numbers_at, rest_at, word_at, line_at, lines_at}
use Rattle.vd_hostcode.proofs.WordExact.{word_exact}
use Rattle.vd_hostcode.proofs.Many.{word_number_exact, IsLineEnd, break_line, AreWords, texts, many_exact}

-- ---- the numbers behind a word

words_in : (ns : List ℕ) (k : ℕ) → AreWords ns → AreWords (take k ns) × AreWords (drop k ns)
words_in ns zero h = (tt, h)
words_in [] (suc k) h = (tt, tt)
words_in (n ∷ ns) (suc k) h = let rest = words_in ns k h.1 in ((h.0, rest.0), rest.1)

words_of : (ns ms : List ℕ) → AreWords ns → AreWords ms → AreWords (ns ++ ms)
words_of [] ms h k = k
words_of (n ∷ ns) ms h k = (h.0, words_of ns ms h.1 k)

break_words : (ns behind : List ℕ) → IsBreak behind → IsBreak (texts ns ++ behind)
break_words ns behind h = break_each IsBreak field ns behind (λ n bs. inl refl) h

zeros : (m : ℕ) → (ns : List ℕ) × AreEach IsWord m ns
zeros zero = ([], (refl, tt))
zeros (suc m) = let rest = zeros m in (0 ∷ rest.0, (ap suc rest.1.0, (omega arith, rest.1.1)))

abbrev first_of : Word → List ℕ → List ℕ
first_of w ns = take (arity w) ns

abbrev more_of : Word → List ℕ → List ℕ
more_of w ns = drop (arity w) ns

picks_counted : (w : Word) → Picks IsBreak (AreEach IsWord (arity w)) texts IsLineEnd (HasNumbers w) texts (λ ns. texts (more_of w ns)) (first_of w)
picks_counted w = record {
  part_fits = λ ns h. (length-take-le (arity w) ns h.enough, (words_in ns (arity w) h.words).0);
  split = λ ns h. ap texts (sym (take-append-drop (arity w) ns)) ∙ flat_map-append field (first_of w ns) (more_of w ns);
  some = λ ns h. (ns, (record { words = h.1; enough = omega (arith, h.0); exactly = λ _. h.0 }, take_all (arity w) ns (omega (arith, h.0))));
  break = λ ns behind h k. break_words (more_of w ns) behind (break_line behind k);
}

numbers_with : (w : Word) (counted more : List ℕ) → is_packet w ≡ true → AreEach IsWord (arity w) counted → AreWords more → HasNumbers w (counted ++ more)
numbers_with w counted more is fits h = record {
  words = words_of counted more fits.1 h;
  enough = omega (arith, fits.0, length-append counted more);
  exactly = λ other. absurd (true≢false (sym is ∙ other));
}

picks_more : (w : Word) (counted : List ℕ) → is_packet w ≡ true → AreEach IsWord (arity w) counted
    → Picks IsLineEnd AreWords texts IsLineEnd (λ ns. HasNumbers w ns × (first_of w ns ≡ counted)) (λ ns. texts (more_of w ns)) (λ _. []) (more_of w)
picks_more w counted is fits = record {
  part_fits = λ ns h. (words_in ns (arity w) h.0.words).1;
  split = λ ns h. sym (append-nil (texts (more_of w ns)));
  some = λ more h. (counted ++ more, ((numbers_with w counted more is fits h, take_at counted more (arity w) fits.0), drop_at counted more (arity w) fits.0));
  break = λ ns behind h k. k;
}

both_parts : (w : Word) (ns counted more : List ℕ) → first_of w ns ≡ counted → more_of w ns ≡ more → ns ≡ counted ++ more
both_parts w ns counted more e f = sym (take-append-drop (arity w) ns) ∙ ap (λ xs. xs ++ more_of w ns) e ∙ ap (λ xs. counted ++ xs) f

nothing_more : (w : Word) (ns : List ℕ) → is_packet w ≡ false → HasNumbers w ns → more_of w ns ≡ []
nothing_more w ns is h = drop_all (arity w) ns (omega (arith, h.exactly is))

behind_counted : (w : Word) (t : Bool) (counted mid : List ℕ) → is_packet w ≡ t → AreEach IsWord (arity w) counted
    → IsExact IsLineEnd (λ ns. HasNumbers w ns × (first_of w ns ≡ counted)) (λ ns. texts (more_of w ns)) mid
    (cond t (many_at (length mid) mid >>= λ more. Ok (counted ++ more.0, more.1)) (Ok (counted, mid)))
behind_counted w true counted mid is fits =
    then_exact IsLineEnd AreWords texts IsLineEnd (λ ns. HasNumbers w ns × (first_of w ns ≡ counted)) (λ ns. texts (more_of w ns)) (λ _. []) (more_of w) (picks_more w counted is fits) mid (many_at (length mid) mid)
    (λ more. Ok (counted ++ more.0, more.1)) (many_exact (length mid) mid (omega arith))
    (λ more over h.
    done_exact IsLineEnd (λ ns. (HasNumbers w ns × (first_of w ns ≡ counted)) × (more_of w ns ≡ more)) (counted ++ more) over
    ((numbers_with w counted more is fits h, take_at counted more (arity w) fits.0), drop_at counted more (arity w) fits.0)
    (λ ns g. both_parts w ns counted more g.0.1 g.1))
behind_counted w false counted mid is fits =
    exact_as IsLineEnd (λ ns. HasNumbers w ns × (first_of w ns ≡ counted)) (λ _. []) (λ ns. texts (more_of w ns)) mid (Ok (counted, mid)) (λ ns h. ap texts (nothing_more w ns is h.0))
    (done_exact IsLineEnd (λ ns. HasNumbers w ns × (first_of w ns ≡ counted)) counted mid
    (record { words = fits.1; enough = omega (arith, fits.0); exactly = λ _. fits.0 }, take_all (arity w) counted (omega (arith, fits.0)))
    (λ ns g. both_parts w ns counted [] g.1 (nothing_more w ns is g.0) ∙ append-nil counted))

numbers_exact : (w : Word) (bytes : List ℕ) → IsExact IsLineEnd (HasNumbers w) texts bytes (numbers_at w bytes)
unfolding numbers_at
numbers_exact w bytes =
    then_exact IsBreak (AreEach IsWord (arity w)) texts IsLineEnd (HasNumbers w) texts (λ ns. texts (more_of w ns)) (first_of w) (picks_counted w) bytes (each_at number_at (arity w) bytes)
    (λ ns. cond (is_packet w) (many_at (length ns.1) ns.1 >>= λ more. Ok (ns.0 ++ more.0, more.1)) (Ok ns))
    (each_exact IsBreak IsWord field 0 number_at (arity w) bytes (λ n bs. inl refl) zeros word_number_exact)
    (λ counted mid fits. behind_counted w (is_packet w) counted mid refl fits)

-- ---- a line

-- a line that may come
abbrev pub MayCome : State → Line → Type 0
MayCome s l = (allows s l.word ≡ true) × HasNumbers l.word l.numbers

abbrev line_with : Word → List ℕ → Line
line_with w ns = record { word = w; numbers = ns }

some_numbers : (w : Word) → (ns : List ℕ) × HasNumbers w ns
some_numbers w = let ns = zeros (arity w) in (ns.0, record { words = ns.1.1; enough = omega (arith, ns.1.0); exactly = λ _. ns.1.0 })

picks_word : (s : State) → Picks IsAnything (λ w. allows s w ≡ true) spelling IsAnything (MayCome s) line_text (λ l. texts l.numbers ++ 10 ∷ []) (λ l. l.word)
picks_word s = record {
  part_fits = λ l h. h.0;
  split = λ l h. refl;
  some = λ w h. let ns = some_numbers w in (line_with w ns.0, ((h, ns.1), refl));
  break = λ l behind h k. tt;
}

picks_numbers : (s : State) (w : Word) → allows s w ≡ true → Picks IsLineEnd (HasNumbers w) texts IsAnything (λ l. MayCome s l × (l.word ≡ w)) (λ l. texts l.numbers ++ 10 ∷ []) (λ _. 10 ∷ []) (λ l. l.numbers)
picks_numbers s w may = record {
  part_fits = λ l h. subst (λ v. HasNumbers v l.numbers) h.1 h.0.1;
  split = λ l h. refl;
  some = λ ns h. (line_with w ns, (((may, h), refl), refl));
  break = λ l behind h k. refl;
}

same_line : (l : Line) (w : Word) (ns : List ℕ) → l.word ≡ w → l.numbers ≡ ns → l ≡ line_with w ns
same_line l w ns e f = ap (λ v. line_with v l.numbers) e ∙ ap (λ ms. line_with w ms) f

rest_exact : (s : State) (w : Word) (bytes : List ℕ) → allows s w ≡ true → IsExact IsAnything (λ l. MayCome s l × (l.word ≡ w)) (λ l. texts l.numbers ++ 10 ∷ []) bytes (rest_at w bytes)
unfolding rest_at
rest_exact s w bytes may =
    then_exact IsLineEnd (HasNumbers w) texts IsAnything (λ l. MayCome s l × (l.word ≡ w)) (λ l. texts l.numbers ++ 10 ∷ []) (λ _. 10 ∷ []) (λ l. l.numbers) (picks_numbers s w may) bytes (numbers_at w bytes)
    (λ ns. byte_at 10 ns.1 >>= λ end. Ok (line_with w ns.0, end.1)) (numbers_exact w bytes)
    (λ ns mid h.
    byte_exact IsAnything (λ l. (MayCome s l × (l.word ≡ w)) × (l.numbers ≡ ns)) (λ _. []) 10 mid (line_with w ns) (λ last. Ok (line_with w ns, last)) (((may, h), refl), refl)
    (λ last. done_exact IsAnything (λ l. (MayCome s l × (l.word ≡ w)) × (l.numbers ≡ ns)) (line_with w ns) last (((may, h), refl), refl) (λ l g. same_line l w ns g.0.1 g.1)))

pub line_exact : (s : State) (bytes : List ℕ) → IsExact IsAnything (MayCome s) line_text bytes (line_at s bytes)
line_exact s bytes =
    then_exact IsAnything (λ w. allows s w ≡ true) spelling IsAnything (MayCome s) line_text (λ l. texts l.numbers ++ 10 ∷ []) (λ l. l.word) (picks_word s) bytes (word_at s bytes)
    (λ w. rest_at w.0 w.1) (word_exact s bytes) (λ w mid may. rest_exact s w mid may)

-- ---- lines

ends_by_end : (s : State) (w : Word) → is_last s w ≡ true → w ≡ word.End
ends_by_end s word.Const h = absurd (true≢false (sym h))
ends_by_end s word.Copy h = absurd (true≢false (sym h))
ends_by_end s (word.Apply o) h = absurd (true≢false (sym h))
ends_by_end s word.Shl h = absurd (true≢false (sym h))
ends_by_end s word.Shr h = absurd (true≢false (sym h))
ends_by_end s word.Mux h = absurd (true≢false (sym h))
ends_by_end s word.Own h = absurd (true≢false (sym h))
ends_by_end s word.Triple h = absurd (true≢false (sym h))
ends_by_end s word.Bits h = absurd (true≢false (sym h))
ends_by_end s word.Pair h = absurd (true≢false (sym h))
ends_by_end s word.Input h = absurd (true≢false (sym h))
ends_by_end s word.Print h = absurd (true≢false (sym h))
ends_by_end s word.Hash h = absurd (true≢false (sym h))
ends_by_end s word.Same h = absurd (true≢false (sym h))
ends_by_end s word.Zero h = absurd (true≢false (sym h))
ends_by_end s word.Get h = absurd (true≢false (sym h))
ends_by_end s word.Put h = absurd (true≢false (sym h))
ends_by_end s word.Send h = absurd (true≢false (sym h))
ends_by_end s word.Recv h = absurd (true≢false (sym h))
ends_by_end s word.If h = absurd (true≢false (sym h))
ends_by_end s word.Else h = absurd (true≢false (sym h))
ends_by_end s word.For h = absurd (true≢false (sym h))
ends_by_end s word.End h = refl

abbrev last_line : Line
last_line = line_with word.End []

no_numbers : (w : Word) → arity w ≡ 0 → HasNumbers w []
no_numbers w e = record { words = tt; enough = omega (arith, e); exactly = λ _. sym e }

-- some lines lead to the end of the program
closed : (a : Arrays) (bs : List Block) → may_stop a ≡ true → (ls : List Line) × Leads (record { arrays = a; blocks = bs }) ls
closed a [] h = ([], (h, refl))
closed a (block.First ∷ bs) h =
    let rest = closed a bs h in
    (line_with word.Else [] ∷ last_line ∷ rest.0, (refl, (no_numbers word.Else refl, (refl, (refl, (no_numbers word.End refl, (refl, rest.1)))))))
closed a (block.Last ∷ bs) h = let rest = closed a bs h in (last_line ∷ rest.0, (refl, (no_numbers word.End refl, (refl, rest.1))))

two_zeros : HasNumbers word.Zero (0 ∷ 0 ∷ [])
two_zeros = record { words = (omega arith, (omega arith, tt)); enough = omega arith; exactly = λ _. refl }

led : (a : Arrays) (bs : List Block) → (ls : List Line) × Leads (record { arrays = a; blocks = bs }) ls
led arrays.Never bs = closed arrays.Never bs refl
led arrays.Free bs = closed arrays.Free bs refl
led arrays.Owed bs = let rest = closed arrays.Free bs refl in (line_with word.Zero (0 ∷ 0 ∷ []) ∷ rest.0, (refl, (two_zeros, (refl, rest.1))))

pub some_lines : (s : State) → (ls : List Line) × Leads s ls
some_lines s = led s.arrays s.blocks

abbrev first_line : List Line → Line
first_line [] = last_line
first_line (l ∷ ls) = l

abbrev behind_first : List Line → List ℕ
behind_first [] = []
behind_first (l ∷ ls) = lines_text ls

abbrev others : List Line → List Line
others [] = []
others (l ∷ ls) = ls

empty_of : (ns : List ℕ) → length ns ≡ 0 → ns ≡ []
empty_of [] e = refl
empty_of (n ∷ ns) e = absurd (omega (arith, e))

is_last_line : (s : State) (l : Line) → MayCome s l → is_last s l.word ≡ true → last_line ≡ l
is_last_line s l h e =
    let w : l.word ≡ word.End = ends_by_end s l.word e in
    let numbers : HasNumbers word.End l.numbers = subst (λ v. HasNumbers v l.numbers) w h.1 in
    sym (same_line l word.End [] w (empty_of l.numbers (numbers.exactly refl)))

begins_with : (s : State) (l : Line) (t : Bool) → is_last s l.word ≡ t → MayCome s l → (ls : List Line) × (Leads s ls × (first_line ls ≡ l))
begins_with s l true e h =
    let same : l.word ≡ word.End = ends_by_end s l.word e in
    ([], ((subst (λ w. allows s w ≡ true) same h.0, subst (λ w. is_last s w ≡ true) same e), is_last_line s l h e))
begins_with s l false e h = let rest = some_lines (after s l.word) in (l ∷ rest.0, ((h.0, (h.1, (e, rest.1))), refl))

picks_line : (s : State) → Picks IsAnything (MayCome s) line_text IsAnything (Leads s) lines_text behind_first first_line
picks_line s = record {
  part_fits = λ ls. elim ls as (λ ks. Leads s ks → MayCome s (first_line ks)) [ [] ↦ λ h. (h.0, no_numbers word.End refl) | k ∷ ks ↦ λ h. (h.0, h.1.0) ];
  split = λ ls. elim ls as (λ ks. Leads s ks → lines_text ks ≡ line_text (first_line ks) ++ behind_first ks) [
    | [] ↦ λ h. refl
    | k ∷ ks ↦ λ h. ap (λ bs. bs ++ codes "end\n") (flat_map-cons line_text k ks) ∙ append_assoc (line_text k) (flat_map line_text ks) (codes "end\n")
  ];
  some = λ l h. begins_with s l (is_last s l.word) refl h;
  break = λ ls behind h k. tt;
}

no_more : (s : State) (l : Line) → is_last s l.word ≡ true → (ls : List Line) → Leads s ls × (first_line ls ≡ l) → ls ≡ []
no_more s l e [] h = refl
no_more s l e (k ∷ ks) h = absurd (true≢false (sym e ∙ ap (λ m. is_last s m.word) (sym h.1) ∙ h.0.1.1.0))

-- behind the last line nothing is left
after_last : (s : State) (l : Line) (mid : List ℕ) → is_last s l.word ≡ true → MayCome s l → IsExact IsAnything (λ ls. Leads s ls × (first_line ls ≡ l)) behind_first mid (Ok ([], mid))
after_last s l mid e may =
    let fits = begins_with s l true e may in
    exact_as IsAnything (λ ls. Leads s ls × (first_line ls ≡ l)) (λ _. []) behind_first mid (Ok ([], mid))
    (λ ls h. ap behind_first (no_more s l e ls h))
    (done_exact IsAnything (λ ls. Leads s ls × (first_line ls ≡ l)) [] mid (subst (λ ls. Leads s ls × (first_line ls ≡ l)) (no_more s l e fits.0 fits.1) fits.1) (no_more s l e))

picks_others : (s : State) (l : Line) → is_last s l.word ≡ false → MayCome s l
    → Picks IsAnything (Leads (after s l.word)) lines_text IsAnything (λ ls. Leads s ls × (first_line ls ≡ l)) behind_first (λ _. []) others
picks_others s l e may = record {
  part_fits = λ ls. elim ls as (λ ks. Leads s ks × (first_line ks ≡ l) → Leads (after s l.word) (others ks)) [
    | [] ↦ λ h. absurd (true≢false (sym h.0.1 ∙ ap (λ m. is_last s m.word) h.1 ∙ e))
    | k ∷ ks ↦ λ h. subst (λ m. Leads (after s m.word) ks) h.1 h.0.1.1.1
  ];
  split = λ ls. elim ls as (λ ks. Leads s ks × (first_line ks ≡ l) → behind_first ks ≡ lines_text (others ks) ++ []) [
    | [] ↦ λ h. absurd (true≢false (sym h.0.1 ∙ ap (λ m. is_last s m.word) h.1 ∙ e))
    | k ∷ ks ↦ λ h. sym (append-nil (lines_text ks))
  ];
  some = λ ls h. (l ∷ ls, (((may.0, (may.1, (e, h))), refl), refl));
  break = λ ls behind h k. tt;
}

same_lines : (s : State) (l : Line) (rest ls : List Line) → is_last s l.word ≡ false → Leads s ls → first_line ls ≡ l → others ls ≡ rest → ls ≡ l ∷ rest
same_lines s l rest [] e h f g = absurd (true≢false (sym h.1 ∙ ap (λ m. is_last s m.word) f ∙ e))
same_lines s l rest (k ∷ ks) e h f g = cc

behind_line : (n : ℕ) (s : State) (l : Line) (mid : List ℕ) (t : Bool) → is_last s l.word ≡ t → MayCome s l → IsExact IsAnything (Leads (after s l.word)) lines_text mid (lines_at n (after s l.word) mid)
    → IsExact IsAnything (λ ls. Leads s ls × (first_line ls ≡ l)) behind_first mid (cond t (Ok ([], mid)) (lines_at n (after s l.word) mid >>= λ ls. Ok (l ∷ ls.0, ls.1)))
behind_line n s l mid true e may exact = after_last s l mid e may
behind_line n s l mid false e may exact =
    then_exact IsAnything (Leads (after s l.word)) lines_text IsAnything (λ ls. Leads s ls × (first_line ls ≡ l)) behind_first (λ _. []) others (picks_others s l e may) mid (lines_at n (after s l.word) mid)
    (λ ls. Ok (l ∷ ls.0, ls.1)) exact
    (λ rest over h. done_exact IsAnything (λ ls. (Leads s ls × (first_line ls ≡ l)) × (others ls ≡ rest)) (l ∷ rest) over (((may.0, (may.1, (e, h))), refl), refl)
    (λ ls g. same_lines s l rest ls e g.0.0 g.0.1 g.1))

pub line_takes : (bytes : List ℕ) (l : Line) (left : List ℕ) → bytes ≡ line_text l ++ left → length left < length bytes
line_takes bytes l left e =
    omega (arith, ap length e, length-append (line_text l) left, length-append (spelling l.word) (texts l.numbers ++ 10 ∷ []), length-append (texts l.numbers) (10 ∷ []))

lines_by : (n : ℕ) (s : State) (bytes : List ℕ) (r : Reading Line) → length bytes ≤ suc n → IsExact IsAnything (MayCome s) line_text bytes r
    → ((t : State) (mid : List ℕ) → length mid ≤ n → IsExact IsAnything (Leads t) lines_text mid (lines_at n t mid))
    → IsExact IsAnything (Leads s) lines_text bytes (r >>= λ l. cond (is_last s l.0.word) (Ok ([], l.1)) (lines_at n (after s l.0.word) l.1 >>= λ ls. Ok (l.0 ∷ ls.0, ls.1)))
lines_by n s bytes (Ok l) le exact rest =
    let shorter : length l.1 < length bytes = line_takes bytes l.0 l.1 exact.split in
    later IsAnything (MayCome s) line_text IsAnything (Leads s) lines_text behind_first first_line (picks_line s) bytes l.0 l.1 exact
    (cond (is_last s l.0.word) (Ok ([], l.1)) (lines_at n (after s l.0.word) l.1 >>= λ ls. Ok (l.0 ∷ ls.0, ls.1)))
    (behind_line n s l.0 l.1 (is_last s l.0.word) refl exact.fits (rest (after s l.0.word) l.1 (omega (arith, le, shorter))))
lines_by n s bytes (Err over) le exact rest = stopped_first IsAnything (MayCome s) line_text IsAnything (Leads s) lines_text behind_first first_line (picks_line s) bytes over exact

text_is_long : (ls : List Line) (behind : List ℕ) → 4 ≤ length (lines_text ls ++ behind)
text_is_long ls behind = omega (arith, length-append (lines_text ls) behind, length-append (flat_map line_text ls) (codes "end\n"))

nothing : (text more : List ℕ) → 4 ≤ length text → text ≡ more → first more ≡ first [] → ⊥
nothing text [] le e f = omega (arith, le, ap length e)
nothing text (b ∷ more) le e f = cc

no_bytes : (s : State) → IsExact IsAnything (Leads s) lines_text [] (Err [])
no_bytes s =
    let some = some_lines s in
    record {
      taken = [];
      split = refl;
      begun = some.0;
      fits = some.1;
      rest = lines_text some.0;
      begins = refl;
      none = λ y behind more h k e f. nothing (lines_text y ++ behind) more (text_is_long y behind) e f;
    }

pub lines_exact : (n : ℕ) (s : State) (bytes : List ℕ) → length bytes ≤ n → IsExact IsAnything (Leads s) lines_text bytes (lines_at n s bytes)
unfolding lines_at
lines_exact zero s [] le = no_bytes s
lines_exact zero s (b ∷ bytes) le = absurd (omega (arith, le))
lines_exact (suc n) s bytes le = lines_by n s bytes (line_at s bytes) le (line_exact s bytes) (λ t mid shorter. lines_exact n t mid shorter)
