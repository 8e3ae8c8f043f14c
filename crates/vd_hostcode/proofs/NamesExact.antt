-- The names of the hosts are read exactly.
use Rattle.std.proofs.Common.{◌≡◌, ℕ, zero, suc, ◌+◌, ◌<◌, ◌≤◌, Bool, true, false, cond, ◌&&◌, ◌||◌, not, List, [], ◌∷◌, ◌++◌, length, take, drop, replicate, Ok, Err, inl, inr, refl, sym, ap, subst, ◌∙◌, length-append, arith, true≢false, nat_eq}
use Rattle.std.specs.List.{flat_map, list_any, list_all}
use Rattle.std.specs.Str.{bytes_eq}
use Rattle.std.proofs.lemmas.List.{append-nil, take-append-drop, length-replicate}
use Rattle.std.proofs.lemmas.List.Concat.{flat_map-cons}
use Rattle.std.proofs.lemmas.Bool.{and_parts, and_from, or_from, eqb-true}
use Rattle.vd_base.specs.Lexical.{is_letter, is_digit, is_word_byte, is_name, is_keyword, keywords}
use Rattle.vd_base.specs.Names.{is_among}
use Rattle.vd_base_codec.specs.Reading.{first, Reading, ◌>>=◌}
use Rattle.vd_base_codec.specs.Exact.{IsBreak, Spells, Stops, IsExact}
use Rattle.vd_base_codec.proofs.Front.{done_exact, byte_exact, Picks, then_exact, first_append, head_or, tail}
use Rattle.vd_hostcode.specs.Text.{name_field}
use Rattle.vd_hostcode.specs.File.{new_name, AreNew}
use Rattle.vd_hostcode.specs.Reading.{starts_with}
use Rattle.vd_hostcode.specs.Heading.{starts_letter, word_run, name_at, next_name_at, names_at, hosts_at}
use Rattle.vd_hostcode.proofs.Many.{IsLineEnd, break_line, no_space}

-- ---- runs of bytes that names are made of

abbrev NotWord : List ℕ → Type 0
NotWord [] = Unit {0}
NotWord (b ∷ bs) = is_word_byte b ≡ false

abbrev AllWord : List ℕ → Type 0
AllWord bs = list_all is_word_byte bs ≡ true

break_not_word : (bs : List ℕ) → IsBreak bs → NotWord bs
break_not_word [] h = tt
break_not_word (b ∷ bs) (inl e) = subst (λ c. is_word_byte c ≡ false) (sym e) refl
break_not_word (b ∷ bs) (inr e) = subst (λ c. is_word_byte c ≡ false) (sym e) refl

same_run : (ys run behind more : List ℕ) → AllWord ys → AllWord run → NotWord behind → NotWord more → ys ++ behind ≡ run ++ more → (ys ≡ run) × (behind ≡ more)
same_run [] [] behind more h k n m e = (refl, e)
same_run [] (r ∷ run) behind more h k n m e =
    let is = (and_parts (is_word_byte r) (list_all is_word_byte run) k).0 in
    let isnt : is_word_byte r ≡ false = subst NotWord e n in
    absurd (true≢false (sym is ∙ isnt))
same_run (y ∷ ys) [] behind more h k n m e =
    let is = (and_parts (is_word_byte y) (list_all is_word_byte ys) h).0 in
    let isnt : is_word_byte y ≡ false = subst NotWord (sym e) m in
    absurd (true≢false (sym is ∙ isnt))
same_run (y ∷ ys) (r ∷ run) behind more h k n m e =
    let here : y ≡ r = cc in
    let there : ys ++ behind ≡ run ++ more = cc in
    let rest = same_run ys run behind more (and_parts (is_word_byte y) (list_all is_word_byte ys) h).1 (and_parts (is_word_byte r) (list_all is_word_byte run) k).1 n m there in
    let one : ys ≡ run = rest.0 in
    (cc, rest.1)

run_by : (t : Bool) (b : ℕ) (bs : List ℕ) → is_word_byte b ≡ t → AllWord (take (word_run bs) bs) × NotWord (drop (word_run bs) bs)
    → let n : ℕ = cond t (1 + word_run bs) 0 in AllWord (take n (b ∷ bs)) × NotWord (drop n (b ∷ bs))
run_by true b bs e h =
    let one : 1 + word_run bs ≡ suc (word_run bs) = omega arith in
    rw one (and_from (is_word_byte b) (list_all is_word_byte (take (word_run bs) bs)) e h.0, h.1)
run_by false b bs e h = (refl, e)

run_is : (bs : List ℕ) → AllWord (take (word_run bs) bs) × NotWord (drop (word_run bs) bs)
run_is [] = (refl, tt)
run_is (b ∷ bs) = run_by (is_word_byte b) b bs refl (run_is bs)

-- ---- names

name_parts : (b : ℕ) (bs : List ℕ) → is_name (b ∷ bs) ≡ true → (is_letter b ≡ true) × (list_all is_word_byte bs ≡ true)
name_parts b bs h =
    let p = and_parts (is_letter b && list_all is_word_byte bs) (not (is_keyword (b ∷ bs))) h in
    let q = and_parts (is_letter b) (list_all is_word_byte bs) p.0 in
    (q.0, q.1)

or_left : (x y : Bool) → x ≡ true → (x || y) ≡ true
or_left true y e = refl
or_left false y e = absurd (true≢false (sym e))

letter_word : (b : ℕ) → is_letter b ≡ true → is_word_byte b ≡ true
letter_word b h = or_left (is_letter b) (is_digit b) h

name_words : (x : List ℕ) → is_name x ≡ true → AllWord x
name_words [] h = absurd (true≢false (sym h))
name_words (b ∷ bs) h = let p = name_parts b bs h in and_from (is_word_byte b) (list_all is_word_byte bs) (letter_word b p.0) p.1

new_is_name : (earlier : List (List ℕ)) (x : List ℕ) → new_name earlier x ≡ true → is_name x ≡ true
new_is_name earlier x h = (and_parts (is_name x) (not (is_among earlier x)) h).0

-- ---- there is always one more name

longest : List (List ℕ) → ℕ
longest [] = 0
longest (k ∷ ks) = length k + longest ks

and_false : (b : Bool) → (b && false) ≡ false
and_false true = refl
and_false false = refl

longer_is_other : (k x : List ℕ) → length k < length x → bytes_eq k x ≡ false
longer_is_other k [] h = absurd (omega (arith, h))
longer_is_other [] (y ∷ x) h = refl
longer_is_other (c ∷ k) (y ∷ x) h = ap (λ b. nat_eq c y && b) (longer_is_other k x (omega (arith, h))) ∙ and_false (nat_eq c y)

longer_is_new : (names : List (List ℕ)) (x : List ℕ) → longest names < length x → is_among names x ≡ false
unfolding longest
longer_is_new [] x h = refl
longer_is_new (k ∷ names) x h = or_from (bytes_eq k x) (is_among names x) (longer_is_other k x (omega (arith, h))) (longer_is_new names x (omega (arith, h)))

longer_is_none : (names : List (List ℕ)) (x : List ℕ) → longest names < length x → list_any (λ k. bytes_eq k x) names ≡ false
unfolding longest
longer_is_none [] x h = refl
longer_is_none (k ∷ names) x h = or_from (bytes_eq k x) (list_any (λ y. bytes_eq y x) names) (longer_is_other k x (omega (arith, h))) (longer_is_none names x (omega (arith, h)))

all_both : (xs ys : List ℕ) → AllWord xs → AllWord ys → AllWord (xs ++ ys)
all_both [] ys h k = k
all_both (x ∷ xs) ys h k =
    let p = and_parts (is_word_byte x) (list_all is_word_byte xs) h in
    and_from (is_word_byte x) (list_all is_word_byte (xs ++ ys)) p.0 (all_both xs ys p.1 k)

all_lines : (n : ℕ) → AllWord (replicate n 95)
all_lines zero = refl
all_lines (suc n) = all_lines n

-- a name that goes on with these bytes
longer_name : (earlier : List (List ℕ)) (b : ℕ) (bs : List ℕ) → is_letter b ≡ true → AllWord bs → (more : List ℕ) × (new_name earlier (b ∷ (bs ++ more)) ≡ true)
longer_name earlier b bs letter words =
    let n : ℕ = longest earlier + longest keywords + 1 in
    let more : List ℕ = replicate n 95 in
    let long : length (bs ++ more) ≡ length bs + n = length-append bs more ∙ ap (λ m. length bs + m) (length-replicate n 95) in
    let new : is_among earlier (b ∷ (bs ++ more)) ≡ false = longer_is_new earlier (b ∷ (bs ++ more)) (omega (arith, long)) in
    let none : is_keyword (b ∷ (bs ++ more)) ≡ false = longer_is_none keywords (b ∷ (bs ++ more)) (omega (arith, long)) in
    let word : (is_letter b && list_all is_word_byte (bs ++ more)) ≡ true = and_from (is_letter b) (list_all is_word_byte (bs ++ more)) letter (all_both bs more words (all_lines n)) in
    let name : is_name (b ∷ (bs ++ more)) ≡ true = and_from (is_letter b && list_all is_word_byte (bs ++ more)) (not (is_keyword (b ∷ (bs ++ more)))) word (ap not none) in
    (more, and_from (is_name (b ∷ (bs ++ more))) (not (is_among earlier (b ∷ (bs ++ more)))) name (ap not new))

abbrev IsNew : List (List ℕ) → List ℕ → Type 0
IsNew earlier x = new_name earlier x ≡ true

abbrev itself : List ℕ → List ℕ
itself x = x

-- ---- one name

not_letter : (earlier : List (List ℕ)) (bytes : List ℕ) → starts_letter bytes ≡ false → (y behind more : List ℕ) → IsNew earlier y → y ++ behind ≡ more → first more ≡ first bytes → ⊥
not_letter earlier bytes e [] behind more h s f = true≢false (sym (new_is_name earlier [] h))
not_letter earlier [] e (c ∷ y) behind more h s f = let g : first (c ∷ (y ++ behind)) ≡ first [] = ap first s ∙ f in cc
not_letter earlier (b ∷ bytes) e (c ∷ y) behind more h s f =
    let g : first (c ∷ (y ++ behind)) ≡ first (b ∷ bytes) = ap first s ∙ f in
    let same : c ≡ b = cc in
    true≢false (sym (name_parts c y (new_is_name earlier (c ∷ y) h)).0 ∙ ap is_letter same ∙ e)

no_name : (earlier : List (List ℕ)) (bytes : List ℕ) → starts_letter bytes ≡ false → Stops IsBreak (IsNew earlier) itself bytes bytes
no_name earlier bytes e =
    let more = longer_name earlier 95 [] refl refl in
    record {
      taken = [];
      split = refl;
      begun = 95 ∷ more.0;
      fits = more.1;
      rest = 95 ∷ more.0;
      begins = refl;
      none = λ y behind over h k s f. not_letter earlier bytes e y behind over h s f;
    }

-- what agrees with a run of bytes as far as the byte behind is the run
not_word_first : (more left : List ℕ) → first more ≡ first left → NotWord left → NotWord more
not_word_first [] left e h = tt
not_word_first (b ∷ more) [] e h = absurd cc
not_word_first (b ∷ more) (c ∷ left) e h = let same : c ≡ b = cc in subst (λ d. is_word_byte d ≡ false) same h

only_run : (earlier : List (List ℕ)) (bytes y behind more : List ℕ) → IsNew earlier y → IsBreak behind → y ++ behind ≡ take (word_run bytes) bytes ++ more → first more ≡ first (drop (word_run bytes) bytes)
    → (y ≡ take (word_run bytes) bytes) × (behind ≡ more)
only_run earlier bytes y behind more h k e f =
    let run = run_is bytes in
    same_run y (take (word_run bytes) bytes) behind more (name_words y (new_is_name earlier y h)) run.0 (break_not_word behind k) (not_word_first more (drop (word_run bytes) bytes) f run.1) e

front_by : (t : Bool) (b k : ℕ) (bs : List ℕ) → t ≡ true → take (cond t (1 + k) 0) (b ∷ bs) ≡ b ∷ take k bs
front_by true b k bs e = let one : 1 + k ≡ suc k = omega arith in ap (λ n. take n (b ∷ bs)) one
front_by false b k bs e = absurd (true≢false (sym e))

run_front : (b : ℕ) (bs : List ℕ) → is_letter b ≡ true → take (word_run (b ∷ bs)) (b ∷ bs) ≡ b ∷ take (word_run bs) bs
run_front b bs h = front_by (is_word_byte b) b (word_run bs) bs (letter_word b h)

new_run : (earlier : List (List ℕ)) (bytes : List ℕ) → IsNew earlier (take (word_run bytes) bytes) → Spells IsBreak (IsNew earlier) itself bytes (take (word_run bytes) bytes) (drop (word_run bytes) bytes)
new_run earlier bytes e = record {
  fits = e;
  split = sym (take-append-drop (word_run bytes) bytes);
  only = λ y behind more h k s f. only_run earlier bytes y behind more h k s f;
}

old_run : (earlier : List (List ℕ)) (b : ℕ) (bs : List ℕ) → is_letter b ≡ true → new_name earlier (take (word_run (b ∷ bs)) (b ∷ bs)) ≡ false
    → Stops IsBreak (IsNew earlier) itself (b ∷ bs) (drop (word_run (b ∷ bs)) (b ∷ bs))
old_run earlier b bs letter e =
    let more = longer_name earlier b (take (word_run bs) bs) letter (run_is bs).0 in
    record {
      taken = take (word_run (b ∷ bs)) (b ∷ bs);
      split = sym (take-append-drop (word_run (b ∷ bs)) (b ∷ bs));
      begun = b ∷ (take (word_run bs) bs ++ more.0);
      fits = more.1;
      rest = more.0;
      begins = ap (λ front. front ++ more.0) (sym (run_front b bs letter));
      none = λ y behind over h k s f.
          let same = only_run earlier (b ∷ bs) y behind over h k s f in
          true≢false (sym h ∙ ap (new_name earlier) same.0 ∙ e);
    }

name_by : (earlier : List (List ℕ)) (bytes : List ℕ) (t u : Bool) → starts_letter bytes ≡ t → new_name earlier (take (word_run bytes) bytes) ≡ u
    → IsExact IsBreak (IsNew earlier) itself bytes (cond t (cond u (Ok (take (word_run bytes) bytes, drop (word_run bytes) bytes)) (Err (drop (word_run bytes) bytes))) (Err bytes))
name_by earlier bytes false u e f = no_name earlier bytes e
name_by earlier bytes true true e f = new_run earlier bytes f
name_by earlier [] true false e f = absurd (true≢false (sym e))
name_by earlier (b ∷ bs) true false e f = old_run earlier b bs e f

name_exact : (earlier : List (List ℕ)) (bytes : List ℕ) → IsExact IsBreak (IsNew earlier) itself bytes (name_at earlier bytes)
unfolding name_at
name_exact earlier bytes = name_by earlier bytes (starts_letter bytes) (new_name earlier (take (word_run bytes) bytes)) refl refl

some_name : (earlier : List (List ℕ)) → (x : List ℕ) × IsNew earlier x
some_name earlier = let more = longer_name earlier 95 [] refl refl in (95 ∷ more.0, more.1)

next_name_exact : (earlier : List (List ℕ)) (bytes : List ℕ) → IsExact IsBreak (IsNew earlier) name_field bytes (next_name_at earlier bytes)
unfolding name_field
next_name_exact earlier bytes = let some = some_name earlier in byte_exact IsBreak (IsNew earlier) itself 32 bytes some.0 (name_at earlier) some.1 (λ mid. name_exact earlier mid)

-- ---- names, one behind the other

abbrev NewNames : ℕ → List (List ℕ) → List (List ℕ) → Type 0
NewNames n earlier xs = AreNew earlier xs × (length xs ≤ n)

abbrev pub names_text : List (List ℕ) → List ℕ
names_text xs = flat_map name_field xs

abbrev SomeNames : ℕ → List (List ℕ) → List (List ℕ) → Type 0
SomeNames n earlier xs = NewNames (suc n) earlier xs × (1 ≤ length xs)

break_names : (xs : List (List ℕ)) (behind : List ℕ) → IsLineEnd behind → IsBreak (names_text xs ++ behind)
unfolding name_field
break_names [] behind h = break_line behind h
break_names (x ∷ xs) behind h = inl refl

picks_name : (n : ℕ) (earlier : List (List ℕ)) → Picks IsBreak (IsNew earlier) name_field IsLineEnd (SomeNames n earlier) names_text (λ xs. names_text (tail xs)) (head_or [])
picks_name n earlier = record {
  part_fits = λ xs. elim xs as (λ ys. SomeNames n earlier ys → IsNew earlier (head_or [] ys)) [ [] ↦ λ h. absurd (omega (arith, h.1)) | y ∷ ys ↦ λ h. h.0.0.0 ];
  split = λ xs. elim xs as (λ ys. SomeNames n earlier ys → names_text ys ≡ name_field (head_or [] ys) ++ names_text (tail ys)) [ [] ↦ λ h. absurd (omega (arith, h.1)) | y ∷ ys ↦ λ h. flat_map-cons name_field y ys ];
  some = λ a h. (a ∷ [], ((((h, tt), omega arith), omega arith), refl));
  break = λ xs behind h k. break_names (tail xs) behind k;
}

picks_names : (n : ℕ) (earlier : List (List ℕ)) (a : List ℕ) → IsNew earlier a
    → Picks IsLineEnd (NewNames n (earlier ++ a ∷ [])) names_text IsLineEnd (λ xs. SomeNames n earlier xs × (head_or [] xs ≡ a)) (λ xs. names_text (tail xs)) (λ _. []) tail
picks_names n earlier a fits = record {
  part_fits = λ xs. elim xs as (λ ys. SomeNames n earlier ys × (head_or [] ys ≡ a) → NewNames n (earlier ++ a ∷ []) (tail ys)) [
    | [] ↦ λ h. absurd (omega (arith, h.0.1))
    | y ∷ ys ↦ λ h. (subst (λ b. AreNew (earlier ++ b ∷ []) ys) h.1 h.0.0.0.1, omega (arith, h.0.0.1))
  ];
  split = λ xs h. sym (append-nil (names_text (tail xs)));
  some = λ xs h. (a ∷ xs, (((((fits, h.0), omega (arith, h.1)), omega arith), refl), refl));
  break = λ xs behind h k. k;
}

same_names : (a : List ℕ) (others xs : List (List ℕ)) → 1 ≤ length xs → head_or [] xs ≡ a → tail xs ≡ others → xs ≡ a ∷ others
same_names a others [] some h t = absurd (omega (arith, some))
same_names a others (x ∷ xs) some h t = cc

others_exact : (n : ℕ) (earlier : List (List ℕ)) (a mid : List ℕ) → IsNew earlier a → IsExact IsLineEnd (NewNames n (earlier ++ a ∷ [])) names_text mid (names_at n (earlier ++ a ∷ []) mid)
    → IsExact IsLineEnd (λ xs. SomeNames n earlier xs × (head_or [] xs ≡ a)) (λ xs. names_text (tail xs)) mid (names_at n (earlier ++ a ∷ []) mid >>= λ xs. Ok (a ∷ xs.0, xs.1))
others_exact n earlier a mid fits exact =
    then_exact IsLineEnd (NewNames n (earlier ++ a ∷ [])) names_text IsLineEnd (λ xs. SomeNames n earlier xs × (head_or [] xs ≡ a)) (λ xs. names_text (tail xs)) (λ _. []) tail (picks_names n earlier a fits) mid (names_at n (earlier ++ a ∷ []) mid)
    (λ xs. Ok (a ∷ xs.0, xs.1)) exact
    (λ others over h.
    done_exact IsLineEnd (λ xs. (SomeNames n earlier xs × (head_or [] xs ≡ a)) × (tail xs ≡ others)) (a ∷ others) over (((((fits, h.0), omega (arith, h.1)), omega arith), refl), refl)
    (λ xs g. same_names a others xs g.0.0.1 g.0.1 g.1))

-- a first name, and at most so many more
some_exact : (n : ℕ) (earlier : List (List ℕ)) (bytes : List ℕ) → ((a mid : List ℕ) → IsNew earlier a → IsExact IsLineEnd (NewNames n (earlier ++ a ∷ [])) names_text mid (names_at n (earlier ++ a ∷ []) mid))
    → IsExact IsLineEnd (SomeNames n earlier) names_text bytes (next_name_at earlier bytes >>= λ x. (names_at n (earlier ++ x.0 ∷ []) x.1 >>= λ xs. Ok (x.0 ∷ xs.0, xs.1)))
some_exact n earlier bytes rest =
    then_exact IsBreak (IsNew earlier) name_field IsLineEnd (SomeNames n earlier) names_text (λ xs. names_text (tail xs)) (head_or []) (picks_name n earlier) bytes (next_name_at earlier bytes)
    (λ x. names_at n (earlier ++ x.0 ∷ []) x.1 >>= λ xs. Ok (x.0 ∷ xs.0, xs.1)) (next_name_exact earlier bytes) (λ a mid fits. others_exact n earlier a mid fits (rest a mid fits))

-- no name stands here
none_here : (n : ℕ) (earlier : List (List ℕ)) (bytes : List ℕ) → ((xs : List (List ℕ)) (behind more : List ℕ) → NewNames n earlier xs → names_text xs ++ behind ≡ more → first more ≡ first bytes → xs ≡ [])
    → IsExact IsLineEnd (NewNames n earlier) names_text bytes (Ok ([], bytes))
none_here n earlier bytes none = record {
  fits = (tt, omega arith);
  split = refl;
  only = λ xs behind more h k e f. let same = none xs behind more h e f in (same, ap (λ ys. names_text ys ++ behind) (sym same) ∙ e);
}

spaced : (n : ℕ) (earlier : List (List ℕ)) (bytes : List ℕ) → starts_with 32 bytes ≡ false → (xs : List (List ℕ)) (behind more : List ℕ) → NewNames n earlier xs → names_text xs ++ behind ≡ more → first more ≡ first bytes → xs ≡ []
unfolding name_field
spaced n earlier bytes is [] behind more h e f = refl
spaced n earlier bytes is (x ∷ xs) behind more h e f = absurd (no_space bytes is (sym f ∙ ap first (sym e)))

too_many : (earlier xs : List (List ℕ)) → NewNames 0 earlier xs → xs ≡ []
too_many earlier [] h = refl
too_many earlier (x ∷ xs) h = absurd (omega (arith, h.1))

-- where the first byte is a space, there is a name
not_none : (n : ℕ) (earlier : List (List ℕ)) (bytes : List ℕ) (xs : List (List ℕ)) (behind more : List ℕ) → starts_with 32 bytes ≡ true → NewNames (suc n) earlier xs → IsLineEnd behind → names_text xs ++ behind ≡ more
    → first more ≡ first bytes → SomeNames n earlier xs
not_none n earlier [] xs behind more is w k e f = absurd cc
not_none n earlier (b ∷ bytes) [] [] more is w k e f = absurd (let g : first [] ≡ first (b ∷ bytes) = ap first e ∙ f in cc)
not_none n earlier (b ∷ bytes) [] (c ∷ behind) more is w k e f =
    let g : first (c ∷ behind) ≡ first (b ∷ bytes) = ap first e ∙ f in
    let same : c ≡ b = cc in
    absurd (omega (arith, eqb-true b 32 is, same, k))
not_none n earlier (b ∷ bytes) (x ∷ xs) behind more is w k e f = (w, omega arith)

widen : (n : ℕ) (earlier : List (List ℕ)) (bytes : List ℕ) (r : Reading (List (List ℕ))) → starts_with 32 bytes ≡ true → IsExact IsLineEnd (SomeNames n earlier) names_text bytes r
    → IsExact IsLineEnd (NewNames (suc n) earlier) names_text bytes r
widen n earlier bytes (Ok x) is exact = record {
  fits = exact.fits.0;
  split = exact.split;
  only = λ y behind more h k e f.
      exact.only y behind more (not_none n earlier bytes y behind (names_text x.0 ++ more) is h k e (first_append (names_text x.0) more x.1 f ∙ ap first (sym exact.split))) k e f;
}
widen n earlier bytes (Err left) is exact = record {
  taken = exact.taken;
  split = exact.split;
  begun = exact.begun;
  fits = exact.fits.0;
  rest = exact.rest;
  begins = exact.begins;
  none = λ y behind more h k e f.
      exact.none y behind more (not_none n earlier bytes y behind (exact.taken ++ more) is h k e (first_append exact.taken more left f ∙ ap first (sym exact.split))) k e f;
}

names_by : (n : ℕ) (earlier : List (List ℕ)) (bytes : List ℕ) (t : Bool) → starts_with 32 bytes ≡ t
    → ((a mid : List ℕ) → IsNew earlier a → IsExact IsLineEnd (NewNames n (earlier ++ a ∷ [])) names_text mid (names_at n (earlier ++ a ∷ []) mid))
    → IsExact IsLineEnd (NewNames (suc n) earlier) names_text bytes (cond t (next_name_at earlier bytes >>= λ x. (names_at n (earlier ++ x.0 ∷ []) x.1 >>= λ xs. Ok (x.0 ∷ xs.0, xs.1))) (Ok ([], bytes)))
names_by n earlier bytes true is rest = widen n earlier bytes (next_name_at earlier bytes >>= λ x. (names_at n (earlier ++ x.0 ∷ []) x.1 >>= λ xs. Ok (x.0 ∷ xs.0, xs.1))) is (some_exact n earlier bytes rest)
names_by n earlier bytes false is rest = none_here (suc n) earlier bytes (spaced (suc n) earlier bytes is)

names_exact : (n : ℕ) (earlier : List (List ℕ)) (bytes : List ℕ) → IsExact IsLineEnd (NewNames n earlier) names_text bytes (names_at n earlier bytes)
unfolding names_at
names_exact zero earlier bytes = none_here 0 earlier bytes (λ xs behind more h e f. too_many earlier xs h)
names_exact (suc n) earlier bytes = names_by n earlier bytes (starts_with 32 bytes) refl (λ a mid fits. names_exact n (earlier ++ a ∷ []) mid)

-- one to four names
abbrev pub FewNames : List (List ℕ) → Type 0
FewNames xs = SomeNames 3 [] xs

pub hosts_exact : (bytes : List ℕ) → IsExact IsLineEnd FewNames names_text bytes (hosts_at bytes)
unfolding hosts_at
hosts_exact bytes = some_exact 3 [] bytes (λ a mid fits. names_exact 3 (a ∷ []) mid)
