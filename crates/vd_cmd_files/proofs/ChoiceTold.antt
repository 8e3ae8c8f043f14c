-- Printed choices are read back, line by line.
use Rattle.std.proofs.Common.{◌≡◌, ℕ, zero, suc, ◌+◌, ◌<◌, ◌^◌, nat_eq, Bool, true, false, true≢false, ◌&&◌, not, ◌==◌, if◌then◌else◌, List, [], ◌∷◌, ◌++◌, append_assoc, append-nil, length, slice_index_or, refl, sym, ap, ◌∙◌, subst, arith}
use Rattle.std.specs.Prelude.{codes, decimal}
use Rattle.std.specs.List.{list_all, AllByRecursion, IsDistinct}
use Rattle.std.specs.Str.{bytes_eq}
use Rattle.std.specs.Int.{bit_at}
use Rattle.std.proofs.lemmas.Bool.{and_parts, eq-eqb}
use Rattle.std.proofs.lemmas.Fmt.{decimal_injective}
use Rattle.std.proofs.lemmas.List.{append_cancel_left, append_cancel_right}
use Rattle.std.proofs.lemmas.List.Concat.{flat_map-cons}
use Rattle.std.proofs.lemmas.List.Sums.{list_all-from_AllPass}
use Rattle.std.proofs.lemmas.Map.Keys.{IsDistinct-head, IsDistinct-tail}
use Rattle.std.proofs.lemmas.Nat.Bits.{bit_at-lt, same_from_bits_below}
use Rattle.std.proofs.lemmas.Slice.Eq.{bytes_eq-Decides}
use Rattle.vd_base.specs.Lexical.{is_letter, is_word_byte, is_keyword, is_name}
use Rattle.vd_base.specs.declared.ids.HostId.{HostId}
use Rattle.vd_base.specs.declared.protocols.Proto.{Proto}
use Rattle.vd_base.specs.declared.protocols.Proto.TheVariants.{Local, Rep, Commit, Add, Xor}
use Rattle.vd_core.specs.declared.normal.Slot.{Slot}
use Rattle.vd_core.specs.Facts.{AreNames}
use Rattle.vd_formula.specs.TruthTable.{has}
use Rattle.vd_report.specs.LabelLines.{all_behind, joined, members}
use Rattle.vd_report.specs.ChoiceLines.{host_name, protocol_text, choice_line, slot_lines, cost_line}
use Rattle.vd_cmd_files.specs.Choices.{IsAmong, ChoiceLinesTellTheChoice}

abbrev head_of : List ℕ → ℕ
head_of [] = 0
head_of (x ∷ xs) = x

other_heads : (x y : ℕ) → nat_eq x y ≡ false → x ≡ y → ⊥
other_heads x y apart e = true≢false (sym (eq-eqb x y e) ∙ apart)

-- ---- texts without a byte

abbrev Lacks : ℕ → List ℕ → Type 0
Lacks z [] = Unit {0}
Lacks z (x ∷ xs) = (x ≡ z → ⊥) × Lacks z xs

-- up to that byte two texts are the same
split : (z : ℕ) (a b rest more : List ℕ) → Lacks z a → Lacks z b → a ++ z ∷ rest ≡ b ++ z ∷ more → (a ≡ b) × (rest ≡ more)
split z [] [] rest more la lb e = (refl, cc e)
split z [] (y ∷ b) rest more la lb e = let same : y ≡ z = cc e in absurd (lb.0 same)
split z (x ∷ a) [] rest more la lb e = let same : x ≡ z = cc e in absurd (la.0 same)
split z (x ∷ a) (y ∷ b) rest more la lb e =
    let same : x ≡ y = cc e in
    let behind : a ++ z ∷ rest ≡ b ++ z ∷ more = cc e in
    let next = split z a b rest more la.1 lb.1 behind in
    ((λ i. same i ∷ next.0 i), next.1)

lacks_both : (z : ℕ) (a b : List ℕ) → Lacks z a → Lacks z b → Lacks z (a ++ b)
lacks_both z [] b la lb = lb
lacks_both z (x ∷ a) b la lb = (la.0, lacks_both z a b la.1 lb)

no_more : (z : ℕ) (a rest : List ℕ) → Lacks z a → a ≡ [] ++ z ∷ rest → ⊥
no_more z [] rest la e = cc e
no_more z (x ∷ a) rest la e = let same : x ≡ z = cc e in la.0 same

never_in : (z : ℕ) (a b rest : List ℕ) → Lacks z a → a ≡ b ++ z ∷ rest → ⊥
never_in z a [] rest la e = no_more z a rest la e
never_in z [] (y ∷ b) rest la e = cc e
never_in z (x ∷ a) (y ∷ b) rest la e = never_in z a b rest la.1 (cc e)

-- ---- names

is_not : (z x : ℕ) → is_word_byte z ≡ false → is_word_byte x ≡ true → x ≡ z → ⊥
is_not z x none some e = true≢false (sym some ∙ ap is_word_byte e ∙ none)

words_lack : (z : ℕ) → is_word_byte z ≡ false → (bs : List ℕ) → list_all is_word_byte bs ≡ true → Lacks z bs
words_lack z none [] h = tt
words_lack z none (b ∷ bs) h = let p = and_parts (is_word_byte b) (list_all is_word_byte bs) h in (is_not z b none p.0, words_lack z none bs p.1)

letter_is : (b : ℕ) → is_letter b ≡ true → is_word_byte b ≡ true
letter_is b h = rw h refl

-- a name has a letter, and no byte that is none of its own
pub record IsSpelled (name : List ℕ) : Type 0 where
  pub some : name ≡ [] → ⊥
  pub lacks : (z : ℕ) → is_word_byte z ≡ false → Lacks z name

spelled : (name : List ℕ) → is_name name ≡ true → IsSpelled name
spelled [] h = absurd (true≢false (sym h))
spelled (b ∷ bs) h =
    let first = and_parts (is_letter b && list_all is_word_byte bs) (not (is_keyword (b ∷ bs))) h in
    let second = and_parts (is_letter b) (list_all is_word_byte bs) first.0 in
    record { some = λ e. cc e; lacks = λ z none. (is_not z b none (letter_is b second.0), words_lack z none bs second.1) }

all_spelled : (names : List (List ℕ)) → list_all is_name names ≡ true → AllByRecursion IsSpelled names
all_spelled [] h = tt
all_spelled (x ∷ xs) h = let p = and_parts (is_name x) (list_all is_name xs) h in (spelled x p.0, all_spelled xs p.1)

all_at : (P : List ℕ → Type 0) (names : List (List ℕ)) → AllByRecursion P names → (k : ℕ) → k < length names → P (slice_index_or names k [])
all_at P [] all k lt = absurd (omega (arith, lt))
all_at P (x ∷ xs) all zero lt = all.0
all_at P (x ∷ xs) all (suc k) lt = all_at P xs all.1 k (omega (arith, lt))

same_is : (a b : List ℕ) → a ≡ b → bytes_eq a b ≡ false → ⊥
same_is a b e none = true≢false (sym ((bytes_eq-Decides a b).1 e) ∙ none)

one_host : (names : List (List ℕ)) → IsDistinct bytes_eq names → (j k : ℕ) → j < length names → k < length names → slice_index_or names j [] ≡ slice_index_or names k [] → j ≡ k
one_host [] d j k lj lk e = absurd (omega (arith, lj))
one_host (x ∷ xs) d zero zero lj lk e = refl
one_host (x ∷ xs) d zero (suc k) lj lk e = absurd (same_is x (slice_index_or xs k []) e (all_at (λ y. bytes_eq x y ≡ false) xs (IsDistinct-head bytes_eq x xs d) k (omega (arith, lk))))
one_host (x ∷ xs) d (suc j) zero lj lk e = absurd (same_is x (slice_index_or xs j []) (sym e) (all_at (λ y. bytes_eq x y ≡ false) xs (IsDistinct-head bytes_eq x xs d) j (omega (arith, lj))))
one_host (x ∷ xs) d (suc j) (suc k) lj lk e = ap suc (one_host xs (IsDistinct-tail bytes_eq x xs d) j k (omega (arith, lj)) (omega (arith, lk)) e)

-- ---- sets of names

members_all : (P : List ℕ → Type 0) (place : ℕ) (names : List (List ℕ)) (set : ℕ) → AllByRecursion P names → AllByRecursion P (members place names set)
members_all P place [] set all = tt
members_all P place (x ∷ xs) set all = by (has set place) (members_all P (place + 1) xs set all.1)
  where
    by : (b : Bool) → AllByRecursion P (members (place + 1) xs set) → AllByRecursion P (if b then x ∷ members (place + 1) xs set else members (place + 1) xs set)
    by true rest = (all.0, rest)
    by false rest = rest

same_members : (place : ℕ) (names : List (List ℕ)) (s t : ℕ) → IsDistinct bytes_eq names → members place names s ≡ members place names t → (k : ℕ) → k < length names → has s (place + k) ≡ has t (place + k)
same_members place [] s t d e k lt = absurd (omega (arith, lt))
same_members place (x ∷ xs) s t d e k lt = by (has s place) (has t place) refl refl e (λ same j low. same_members (place + 1) xs s t (IsDistinct-tail bytes_eq x xs d) same j low) k lt
  where
    ones : List (List ℕ)
    ones = members (place + 1) xs s

    twos : List (List ℕ)
    twos = members (place + 1) xs t

    Later : Type 0
    Later = ones ≡ twos → (j : ℕ) → j < length xs → has s (place + 1 + j) ≡ has t (place + 1 + j)

    apart : AllByRecursion (λ y. bytes_eq x y ≡ false) xs
    apart = IsDistinct-head bytes_eq x xs d

    next : (j : ℕ) → place + 1 + j ≡ place + suc j
    next j = omega arith

    here : (b : Bool) → has s place ≡ b → has t place ≡ b → has s (place + 0) ≡ has t (place + 0)
    here b first second = subst (λ n. has s n ≡ has t n) same (first ∙ sym second)
      where
        same : place ≡ place + 0
        same = omega arith

    none_in : (list : List (List ℕ)) → AllByRecursion (λ y. bytes_eq x y ≡ false) list → (more : List (List ℕ)) → x ∷ more ≡ list → ⊥
    none_in [] all more e = cc e
    none_in (y ∷ ys) all more e = let same : x ≡ y = cc e in same_is x y same all.0

    by : (b c : Bool) → has s place ≡ b → has t place ≡ c → (if b then x ∷ ones else ones) ≡ (if c then x ∷ twos else twos) → Later → (k : ℕ) → k < length (x ∷ xs) → has s (place + k) ≡ has t (place + k)
    by true true hs ht e later zero lt = here true hs ht
    by true true hs ht e later (suc j) lt = subst (λ n. has s n ≡ has t n) (next j) (later (cc e) j (omega (arith, lt)))
    by false false hs ht e later zero lt = here false hs ht
    by false false hs ht e later (suc j) lt = subst (λ n. has s n ≡ has t n) (next j) (later e j (omega (arith, lt)))
    by true false hs ht e later k lt = absurd (none_in twos (members_all (λ y. bytes_eq x y ≡ false) (place + 1) xs t apart) ones e)
    by false true hs ht e later k lt = absurd (none_in ones (members_all (λ y. bytes_eq x y ≡ false) (place + 1) xs s apart) twos (sym e))

bits_same : (m n : ℕ) → m < 2 → n < 2 → (m == 1) ≡ (n == 1) → m ≡ n
bits_same zero zero lm ln e = refl
bits_same zero (suc zero) lm ln e = absurd (true≢false (sym e))
bits_same (suc zero) zero lm ln e = absurd (true≢false e)
bits_same (suc zero) (suc zero) lm ln e = refl
bits_same (suc (suc m)) n lm ln e = absurd (omega (arith, lm))
bits_same m (suc (suc n)) lm ln e = absurd (omega (arith, ln))

same_set : (names : List (List ℕ)) (s t : ℕ) → IsDistinct bytes_eq names → s < 2 ^ length names → t < 2 ^ length names → members 0 names s ≡ members 0 names t → s ≡ t
same_set names s t d ls lt e =
    same_from_bits_below (length names) s t ls lt (λ i low. bits_same (bit_at s i) (bit_at t i) (bit_at-lt s i) (bit_at-lt t i) (subst (λ n. has s n ≡ has t n) (from_zero i) (same_members 0 names s t d e i low)))
  where
    from_zero : (i : ℕ) → 0 + i ≡ i
    from_zero i = omega arith

behind_more : (x : List ℕ) (xs : List (List ℕ)) → all_behind (codes ",") (x ∷ xs) ≡ 44 ∷ (x ++ all_behind (codes ",") xs)
behind_more x xs = flat_map-cons (λ part. codes "," ++ part) x xs

lacks_behind : (z : ℕ) → is_word_byte z ≡ false → (z ≡ 44 → ⊥) → (xs : List (List ℕ)) → AllByRecursion IsSpelled xs → Lacks z (all_behind (codes ",") xs)
lacks_behind z none other [] all = tt
lacks_behind z none other (x ∷ xs) all =
    subst (Lacks z) (sym (behind_more x xs)) ((λ e. other (sym e)), lacks_both z x (all_behind (codes ",") xs) (all.0.lacks z none) (lacks_behind z none other xs all.1))

lacks_joined : (z : ℕ) → is_word_byte z ≡ false → (z ≡ 44 → ⊥) → (xs : List (List ℕ)) → AllByRecursion IsSpelled xs → Lacks z (joined (codes ",") xs)
lacks_joined z none other [] all = tt
lacks_joined z none other (x ∷ xs) all = lacks_both z x (all_behind (codes ",") xs) (all.0.lacks z none) (lacks_behind z none other xs all.1)

empty_front : (a b : List ℕ) → a ++ b ≡ [] → a ≡ []
empty_front [] b e = refl
empty_front (x ∷ a) b e = cc e

same_behind : (x y : List ℕ) (xs ys : List (List ℕ)) → IsSpelled x → IsSpelled y → AllByRecursion IsSpelled xs → AllByRecursion IsSpelled ys
    → x ++ all_behind (codes ",") xs ≡ y ++ all_behind (codes ",") ys → (x ∷ xs) ≡ (y ∷ ys)
same_behind x y [] [] sx sy ax ay e = ap (λ z. z ∷ []) (sym (append-nil x) ∙ e ∙ append-nil y)
same_behind x y [] (w ∷ ws) sx sy ax ay e =
    absurd (never_in 44 x y (w ++ all_behind (codes ",") ws) (sx.lacks 44 refl) (sym (append-nil x) ∙ e ∙ ap (λ z. y ++ z) (behind_more w ws)))
same_behind x y (v ∷ vs) [] sx sy ax ay e =
    absurd (never_in 44 y x (v ++ all_behind (codes ",") vs) (sy.lacks 44 refl) (sym (append-nil y) ∙ sym e ∙ ap (λ z. x ++ z) (behind_more v vs)))
same_behind x y (v ∷ vs) (w ∷ ws) sx sy ax ay e =
    let both = split 44 x y (v ++ all_behind (codes ",") vs) (w ++ all_behind (codes ",") ws) (sx.lacks 44 refl) (sy.lacks 44 refl) (sym (ap (λ z. x ++ z) (behind_more v vs)) ∙ e ∙ ap (λ z. y ++ z) (behind_more w ws)) in
    let rest = same_behind v w vs ws ax.0 ay.0 ax.1 ay.1 both.1 in
    λ i. both.0 i ∷ rest i

same_joined : (xs ys : List (List ℕ)) → AllByRecursion IsSpelled xs → AllByRecursion IsSpelled ys → joined (codes ",") xs ≡ joined (codes ",") ys → xs ≡ ys
same_joined [] [] ax ay e = refl
same_joined [] (y ∷ ys) ax ay e = absurd (ay.0.some (empty_front y (all_behind (codes ",") ys) (sym e)))
same_joined (x ∷ xs) [] ax ay e = absurd (ax.0.some (empty_front x (all_behind (codes ",") xs) e))
same_joined (x ∷ xs) (y ∷ ys) ax ay e = same_behind x y xs ys ax.0 ay.0 ax.1 ay.1 e

-- ---- protocols

abbrev host_id : ℕ → HostId
host_id n = record { 0 = n }

module _ (hosts : List (List ℕ)) (names : AreNames hosts) where
  all_names : AllByRecursion IsSpelled hosts
  all_names = all_spelled hosts (list_all-from_AllPass is_name hosts names.each)

  name_of : (h : HostId) → h.0 < length hosts → IsSpelled (host_name hosts h)
  name_of h low = all_at IsSpelled hosts all_names h.0 low

  one_id : (h k : HostId) → h.0 < length hosts → k.0 < length hosts → host_name hosts h ≡ host_name hosts k → h ≡ k
  one_id h k lh lk e = ap host_id (one_host hosts names.differ h.0 k.0 lh lk e)

  -- what stands behind the word of a protocol
  abbrev inner : Proto → List ℕ
  inner (Local h) = host_name hosts h
  inner (Rep set) = joined (codes ",") (members 0 hosts set.bits)
  inner (Commit f s) = host_name hosts f ++ 44 ∷ host_name hosts s
  inner (Add f s) = host_name hosts f ++ 44 ∷ host_name hosts s
  inner (Xor f s) = host_name hosts f ++ 44 ∷ host_name hosts s

  inner_lacks : (p : Proto) → IsAmong (length hosts) p → Lacks 41 (inner p)
  inner_lacks (Local h) low = (name_of h low).lacks 41 refl
  inner_lacks (Rep set) low = lacks_joined 41 refl (λ e. absurd (omega (arith, e))) (members 0 hosts set.bits) (members_all IsSpelled 0 hosts set.bits all_names)
  inner_lacks (Commit f s) low = pair f s low.0 low.1
    where
      pair : (f s : HostId) → f.0 < length hosts → s.0 < length hosts → Lacks 41 (host_name hosts f ++ 44 ∷ host_name hosts s)
      pair f s lf ls = lacks_both 41 (host_name hosts f) (44 ∷ host_name hosts s) ((name_of f lf).lacks 41 refl) ((λ e. absurd (omega (arith, e))), (name_of s ls).lacks 41 refl)
  inner_lacks (Add f s) low = lacks_both 41 (host_name hosts f) (44 ∷ host_name hosts s) ((name_of f low.0).lacks 41 refl) ((λ e. absurd (omega (arith, e))), (name_of s low.1).lacks 41 refl)
  inner_lacks (Xor f s) low = lacks_both 41 (host_name hosts f) (44 ∷ host_name hosts s) ((name_of f low.0).lacks 41 refl) ((λ e. absurd (omega (arith, e))), (name_of s low.1).lacks 41 refl)

  same_pair : (f s g t : HostId) → (f.0 < length hosts) × (s.0 < length hosts) → (g.0 < length hosts) × (t.0 < length hosts)
      → host_name hosts f ++ 44 ∷ host_name hosts s ≡ host_name hosts g ++ 44 ∷ host_name hosts t → (f ≡ g) × (s ≡ t)
  same_pair f s g t low high e =
      let both = split 44 (host_name hosts f) (host_name hosts g) (host_name hosts s) (host_name hosts t) ((name_of f low.0).lacks 44 refl) ((name_of g high.0).lacks 44 refl) e in
      (one_id f g low.0 high.0 both.0, one_id s t low.1 high.1 both.1)

  abbrev word : Proto → List ℕ
  word (Local h) = codes "Local("
  word (Rep set) = codes "Rep("
  word (Commit f s) = codes "Commit("
  word (Add f s) = codes "Add("
  word (Xor f s) = codes "Xor("

  pair_is : (a b rest : List ℕ) → (((a ++ codes ",") ++ b) ++ codes ")") ++ rest ≡ (a ++ 44 ∷ b) ++ 41 ∷ rest
  pair_is a b rest = append_assoc ((a ++ codes ",") ++ b) (codes ")") rest ∙ ap (λ z. z ++ 41 ∷ rest) (append_assoc a (codes ",") b)

  text_is : (p : Proto) (rest : List ℕ) → protocol_text hosts p ++ rest ≡ word p ++ (inner p ++ 41 ∷ rest)
  text_is (Local h) rest = ap (λ z. codes "Local(" ++ z) (append_assoc (host_name hosts h) (codes ")") rest)
  text_is (Rep set) rest = ap (λ z. codes "Rep(" ++ z) (append_assoc (joined (codes ",") (members 0 hosts set.bits)) (codes ")") rest)
  text_is (Commit f s) rest = ap (λ z. codes "Commit(" ++ z) (pair_is (host_name hosts f) (host_name hosts s) rest)
  text_is (Add f s) rest = ap (λ z. codes "Add(" ++ z) (pair_is (host_name hosts f) (host_name hosts s) rest)
  text_is (Xor f s) rest = ap (λ z. codes "Xor(" ++ z) (pair_is (host_name hosts f) (host_name hosts s) rest)

  -- a protocol and what stands behind it
  same_inner : (p q : Proto) (rest more : List ℕ) → IsAmong (length hosts) p → IsAmong (length hosts) q → inner p ++ 41 ∷ rest ≡ inner q ++ 41 ∷ more → (inner p ≡ inner q) × (rest ≡ more)
  same_inner p q rest more low high e = split 41 (inner p) (inner q) rest more (inner_lacks p low) (inner_lacks q high) e

  told : (p q : Proto) (rest more : List ℕ) → IsAmong (length hosts) p → IsAmong (length hosts) q → word p ++ (inner p ++ 41 ∷ rest) ≡ word q ++ (inner q ++ 41 ∷ more) → (p ≡ q) × (rest ≡ more)
  told (Local h) (Local k) rest more low high e =
      let both = same_inner (Local h) (Local k) rest more low high (append_cancel_left (codes "Local(") (inner (Local h) ++ 41 ∷ rest) (inner (Local k) ++ 41 ∷ more) e) in
      (ap Local (one_id h k low high both.0), both.1)
  told (Rep s) (Rep t) rest more low high e =
      let both = same_inner (Rep s) (Rep t) rest more low high (append_cancel_left (codes "Rep(") (inner (Rep s) ++ 41 ∷ rest) (inner (Rep t) ++ 41 ∷ more) e) in
      let lists = same_joined (members 0 hosts s.bits) (members 0 hosts t.bits) (members_all IsSpelled 0 hosts s.bits all_names) (members_all IsSpelled 0 hosts t.bits all_names) both.0 in
      (ap (λ (n : ℕ). Rep (record { bits = n })) (same_set hosts s.bits t.bits names.differ low high lists), both.1)
  told (Commit f s) (Commit g t) rest more low high e =
      let both = same_inner (Commit f s) (Commit g t) rest more low high (append_cancel_left (codes "Commit(") (inner (Commit f s) ++ 41 ∷ rest) (inner (Commit g t) ++ 41 ∷ more) e) in
      let ids = same_pair f s g t low high both.0 in
      ((λ i. Commit (ids.0 i) (ids.1 i)), both.1)
  told (Add f s) (Add g t) rest more low high e =
      let both = same_inner (Add f s) (Add g t) rest more low high (append_cancel_left (codes "Add(") (inner (Add f s) ++ 41 ∷ rest) (inner (Add g t) ++ 41 ∷ more) e) in
      let ids = same_pair f s g t low high both.0 in
      ((λ i. Add (ids.0 i) (ids.1 i)), both.1)
  told (Xor f s) (Xor g t) rest more low high e =
      let both = same_inner (Xor f s) (Xor g t) rest more low high (append_cancel_left (codes "Xor(") (inner (Xor f s) ++ 41 ∷ rest) (inner (Xor g t) ++ 41 ∷ more) e) in
      let ids = same_pair f s g t low high both.0 in
      ((λ i. Xor (ids.0 i) (ids.1 i)), both.1)
  told (Local h) (Rep t) rest more low high e = absurd (other_heads 76 82 refl (ap head_of e))
  told (Local h) (Commit g t) rest more low high e = absurd (other_heads 76 67 refl (ap head_of e))
  told (Local h) (Add g t) rest more low high e = absurd (other_heads 76 65 refl (ap head_of e))
  told (Local h) (Xor g t) rest more low high e = absurd (other_heads 76 88 refl (ap head_of e))
  told (Rep s) (Local k) rest more low high e = absurd (other_heads 82 76 refl (ap head_of e))
  told (Rep s) (Commit g t) rest more low high e = absurd (other_heads 82 67 refl (ap head_of e))
  told (Rep s) (Add g t) rest more low high e = absurd (other_heads 82 65 refl (ap head_of e))
  told (Rep s) (Xor g t) rest more low high e = absurd (other_heads 82 88 refl (ap head_of e))
  told (Commit f s) (Local k) rest more low high e = absurd (other_heads 67 76 refl (ap head_of e))
  told (Commit f s) (Rep t) rest more low high e = absurd (other_heads 67 82 refl (ap head_of e))
  told (Commit f s) (Add g t) rest more low high e = absurd (other_heads 67 65 refl (ap head_of e))
  told (Commit f s) (Xor g t) rest more low high e = absurd (other_heads 67 88 refl (ap head_of e))
  told (Add f s) (Local k) rest more low high e = absurd (other_heads 65 76 refl (ap head_of e))
  told (Add f s) (Rep t) rest more low high e = absurd (other_heads 65 82 refl (ap head_of e))
  told (Add f s) (Commit g t) rest more low high e = absurd (other_heads 65 67 refl (ap head_of e))
  told (Add f s) (Xor g t) rest more low high e = absurd (other_heads 65 88 refl (ap head_of e))
  told (Xor f s) (Local k) rest more low high e = absurd (other_heads 88 76 refl (ap head_of e))
  told (Xor f s) (Rep t) rest more low high e = absurd (other_heads 88 82 refl (ap head_of e))
  told (Xor f s) (Commit g t) rest more low high e = absurd (other_heads 88 67 refl (ap head_of e))
  told (Xor f s) (Add g t) rest more low high e = absurd (other_heads 88 65 refl (ap head_of e))

  -- ---- lines

  line_is : (number : ℕ) (slot : Slot) (p : Proto) (rest : List ℕ) → choice_line hosts number slot p ++ rest ≡ decimal number ++ (32 ∷ (slot.name ++ (32 ∷ (protocol_text hosts p ++ 10 ∷ rest))))
  line_is number slot p rest = shape (decimal number) slot.name (protocol_text hosts p)
    where
      shape : (d n t : List ℕ) → (((((d ++ codes " ") ++ n) ++ codes " ") ++ t) ++ codes "\n") ++ rest ≡ d ++ (32 ∷ (n ++ (32 ∷ (t ++ 10 ∷ rest))))
      shape d n t =
          append_assoc ((((d ++ codes " ") ++ n) ++ codes " ") ++ t) (codes "\n") rest
          ∙ append_assoc (((d ++ codes " ") ++ n) ++ codes " ") t (10 ∷ rest)
          ∙ append_assoc ((d ++ codes " ") ++ n) (codes " ") (t ++ 10 ∷ rest)
          ∙ append_assoc (d ++ codes " ") n (32 ∷ (t ++ 10 ∷ rest))
          ∙ append_assoc d (codes " ") (n ++ 32 ∷ (t ++ 10 ∷ rest))

  one_line : (number : ℕ) (slot : Slot) (p q : Proto) (rest more : List ℕ) → IsAmong (length hosts) p → IsAmong (length hosts) q
      → choice_line hosts number slot p ++ rest ≡ choice_line hosts number slot q ++ more → (p ≡ q) × (rest ≡ more)
  one_line number slot p q rest more low high e =
      let whole = sym (line_is number slot p rest) ∙ e ∙ line_is number slot q more in
      let first : slot.name ++ (32 ∷ (protocol_text hosts p ++ 10 ∷ rest)) ≡ slot.name ++ (32 ∷ (protocol_text hosts q ++ 10 ∷ more)) =
      cc (append_cancel_left (decimal number) (32 ∷ (slot.name ++ (32 ∷ (protocol_text hosts p ++ 10 ∷ rest)))) (32 ∷ (slot.name ++ (32 ∷ (protocol_text hosts q ++ 10 ∷ more)))) whole) in
      let second : protocol_text hosts p ++ 10 ∷ rest ≡ protocol_text hosts q ++ 10 ∷ more = cc (append_cancel_left slot.name (32 ∷ (protocol_text hosts p ++ 10 ∷ rest)) (32 ∷ (protocol_text hosts q ++ 10 ∷ more)) first) in
      let both = told p q (10 ∷ rest) (10 ∷ more) low high (sym (text_is p (10 ∷ rest)) ∙ second ∙ text_is q (10 ∷ more)) in
      (both.0, cc both.1)

  all_lines : (cost own : ℕ) → cost < 2 ^ 64 → own < 2 ^ 64 → (number : ℕ) (slots : List Slot) (list other : List Proto) → length list ≡ length slots → length other ≡ length slots
      → AllByRecursion (IsAmong (length hosts)) list → AllByRecursion (IsAmong (length hosts)) other
      → slot_lines hosts number slots list ++ cost_line cost ≡ slot_lines hosts number slots other ++ cost_line own → (list ≡ other) × (cost ≡ own)
  all_lines cost own lc lo number [] [] [] el eo al ao e =
      (refl, decimal_injective cost own lc lo (append_cancel_right (decimal cost) (decimal own) (codes "\n") (append_cancel_left (codes "cost ") (decimal cost ++ codes "\n") (decimal own ++ codes "\n") e)))
  all_lines cost own lc lo number [] [] (q ∷ qs) el eo al ao e = absurd (omega (arith, eo))
  all_lines cost own lc lo number [] (p ∷ ps) other el eo al ao e = absurd (omega (arith, el))
  all_lines cost own lc lo number (s ∷ ss) [] other el eo al ao e = absurd (omega (arith, el))
  all_lines cost own lc lo number (s ∷ ss) (p ∷ ps) [] el eo al ao e = absurd (omega (arith, eo))
  all_lines cost own lc lo number (s ∷ ss) (p ∷ ps) (q ∷ qs) el eo al ao e =
      let rest = slot_lines hosts (number + 1) ss ps in
      let more = slot_lines hosts (number + 1) ss qs in
      let one = one_line number s p q (rest ++ cost_line cost) (more ++ cost_line own) al.0 ao.0 (sym (append_assoc (choice_line hosts number s p) rest (cost_line cost)) ∙ e ∙ append_assoc (choice_line hosts number s q) more (cost_line own)) in
      let next = all_lines cost own lc lo (number + 1) ss ps qs (omega (arith, el)) (omega (arith, eo)) al.1 ao.1 one.1 in
      ((λ i. one.0 i ∷ next.0 i), next.1)

pub lines_tell : ChoiceLinesTellTheChoice
lines_tell program names list other cost own first second e =
    all_lines program.hosts names cost own first.small second.small 0 program.slots list other first.whole second.whole first.among second.among e
