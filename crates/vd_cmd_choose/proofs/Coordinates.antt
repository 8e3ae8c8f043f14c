-- The lines of all coordinates, one after another.
use Rattle.std.proofs.Common.{◌≡◌, ℕ, zero, suc, ◌+◌, ◌*◌, ◌<◌, ◌≤◌, false, List, [], ◌∷◌, ◌++◌, Some, None, codes, nat_eq, bytes_eq, refl, sym, ap, ◌∙◌, subst, arith, append_assoc}
use Rattle.std.specs.Fmt.{decimal}
use Rattle.std.proofs.lemmas.Bool.{and_right}
use Rattle.std.proofs.lemmas.List.{append-nil}
use Rattle.vd_base.specs.declared.operations.Kind.{Kind}
use Rattle.vd_base.specs.declared.operations.Kind.TheVariants.{Word as OfWord, Bool as Truth}
use Rattle.vd_base.specs.Names.{Named, at_name}
use Rattle.vd_source_lexer.specs.declared.token.TokenKind.TheVariants as kind
use Rattle.vd_resolve.specs.declared.symbol.Symbol.{Symbol as Value}
use Rattle.vd_resolve.specs.declared.symbol.Symbol.TheVariants.{Constant}
use Rattle.vd_cmd_choose.proofs.Words.{Part, Gap, word, Holds, holds_map}
use Rattle.vd_cmd_choose.proofs.Names.{same_bytes, other_number}
use Rattle.vd_cmd_choose.proofs.Script.{input_parts, two_parts, answer_parts, output_parts, tail_parts, sum_letter, sum_parts, coordinate_parts, coordinates_parts, last_parts}
use Rattle.vd_cmd_choose.proofs.Rules.{scope}
use Rattle.vd_cmd_choose.proofs.Lines.{at_behind, at_front, Nothing, AreWords, IsWord, input_line, minus_line, star_line, plus_line, answer_line, Body, no_more, more, output_more, weaken}

-- ---- lines, with what follows them

-- statements are read from the tokens of these parts, wherever they stand
abbrev pub BodyOf : List ℕ → List Part → (Named Value → Type 0) → ℕ → Type 0
BodyOf text ps P size = Holds text ps (λ ts. Body text ts P size)

-- where P holds the name is new and what is needed is there, and Q holds where it is declared
abbrev Declares : (P Q : Named Value → Type 0) → List ℕ → Kind → (Named Value → Type 0) → Type 0
Declares P Q N K Needs = (env : Named Value) → P env → (at_name env N ≡ None) × Needs env × Q (env ++ (N, Constant K) ∷ [])

input_more : (text : List ℕ) (b : ℕ) (bs : List ℕ) (c : ℕ) (cs : List ℕ) (rest : List Part) (size : ℕ) (P Q : Named Value → Type 0) → at_name scope.hosts (c ∷ cs) ≡ Some tt → BodyOf text rest Q size →
    Declares P Q (b ∷ bs) OfWord Nothing → BodyOf text (input_parts b bs c cs rest) P (1 + size)
input_more text b bs c cs rest size P Q known body step =
    λ k hk n hn q hq i hi o ho h hh p hp s hs.
    holds_map text rest (λ us. Body text us Q size) (λ us. Body text (k ∷ n ∷ q ∷ i ∷ o ∷ h ∷ p ∷ s ∷ us) P (1 + size))
    (λ us after. more P Q (input_line hk.0 hn.0 hq.0 hi.0 ho.0 hh.0 hp.0 hs.0 hn.1 hh.1 known) after step) body

minus_more : (text : List ℕ) (b : ℕ) (bs : List ℕ) (x : ℕ) (xs : List ℕ) (y : ℕ) (ys : List ℕ) (rest : List Part) (size : ℕ) (P Q : Named Value → Type 0) → BodyOf text rest Q size →
    Declares P Q (b ∷ bs) OfWord (AreWords (x ∷ xs) (y ∷ ys)) → BodyOf text (two_parts b bs kind.Minus 45 x xs y ys rest) P (1 + size)
minus_more text b bs x xs y ys rest size P Q body step =
    λ k hk n hn q hq l hl o ho m hm s hs.
    holds_map text rest (λ us. Body text us Q size) (λ us. Body text (k ∷ n ∷ q ∷ l ∷ o ∷ m ∷ s ∷ us) P (1 + size))
    (λ us after. more P Q (minus_line hk.0 hn.0 hq.0 hl.0 ho.0 hm.0 hs.0 hn.1 hl.1 hm.1) after step) body

star_more : (text : List ℕ) (b : ℕ) (bs : List ℕ) (x : ℕ) (xs : List ℕ) (y : ℕ) (ys : List ℕ) (rest : List Part) (size : ℕ) (P Q : Named Value → Type 0) → BodyOf text rest Q size →
    Declares P Q (b ∷ bs) OfWord (AreWords (x ∷ xs) (y ∷ ys)) → BodyOf text (two_parts b bs kind.Star 42 x xs y ys rest) P (1 + size)
star_more text b bs x xs y ys rest size P Q body step =
    λ k hk n hn q hq l hl o ho m hm s hs.
    holds_map text rest (λ us. Body text us Q size) (λ us. Body text (k ∷ n ∷ q ∷ l ∷ o ∷ m ∷ s ∷ us) P (1 + size))
    (λ us after. more P Q (star_line hk.0 hn.0 hq.0 hl.0 ho.0 hm.0 hs.0 hn.1 hl.1 hm.1) after step) body

plus_more : (text : List ℕ) (b : ℕ) (bs : List ℕ) (x : ℕ) (xs : List ℕ) (y : ℕ) (ys : List ℕ) (rest : List Part) (size : ℕ) (P Q : Named Value → Type 0) → BodyOf text rest Q size →
    Declares P Q (b ∷ bs) OfWord (AreWords (x ∷ xs) (y ∷ ys)) → BodyOf text (two_parts b bs kind.Plus 43 x xs y ys rest) P (1 + size)
plus_more text b bs x xs y ys rest size P Q body step =
    λ k hk n hn q hq l hl o ho m hm s hs.
    holds_map text rest (λ us. Body text us Q size) (λ us. Body text (k ∷ n ∷ q ∷ l ∷ o ∷ m ∷ s ∷ us) P (1 + size))
    (λ us after. more P Q (plus_line hk.0 hn.0 hq.0 hl.0 ho.0 hm.0 hs.0 hn.1 hl.1 hm.1) after step) body

answer_more : (text : List ℕ) (e : ℕ) (es : List ℕ) (rest : List Part) (size : ℕ) (P Q : Named Value → Type 0) → BodyOf text rest Q size →
    Declares P Q (114 ∷ []) Truth (IsWord (e ∷ es)) → BodyOf text (answer_parts e es rest) P (3 + size)
answer_more text e es rest size P Q body step =
    λ k hk n hn q hq d hd o ho l hl c hc v hv x hx b hb f hf g hg h hh y hy z hz s hs.
    holds_map text rest (λ us. Body text us Q size) (λ us. Body text (k ∷ n ∷ q ∷ d ∷ o ∷ l ∷ c ∷ v ∷ x ∷ b ∷ f ∷ g ∷ h ∷ y ∷ z ∷ s ∷ us) P (3 + size))
    (λ us after. more P Q (answer_line hk.0 hn.0 hq.0 hd.0 ho.0 hl.0 hc.0 hv.0 hx.0 hb.0 hf.0 hg.0 hh.0 hy.0 hz.0 hs.0 hn.1 hl.1 hf.1 hh.1) after step) body

abbrev HasResult : Named Value → Type 0
HasResult env = at_name env (114 ∷ []) ≡ Some (Constant Truth)

result_more : (text : List ℕ) (c : ℕ) (cs : List ℕ) (rest : List Part) (size : ℕ) → at_name scope.hosts (c ∷ cs) ≡ Some tt → BodyOf text rest HasResult size → BodyOf text (output_parts c cs rest) HasResult (1 + size)
result_more text c cs rest size known body =
    λ k hk v hv t ht h hh s hs.
    holds_map text rest (λ us. Body text us HasResult size) (λ us. Body text (k ∷ v ∷ t ∷ h ∷ s ∷ us) HasResult (1 + size))
    (λ us after. output_more hk.0 hv.0 ht.0 hh.0 hs.0 hv.1 hh.1 known after) body

-- ---- names in sight

-- words whose names are these letters with number k
abbrev entries : ℕ → List ℕ → Named Value
entries k [] = []
entries k (c ∷ cs) = (c ∷ decimal k, Constant OfWord) ∷ entries k cs

entries_more : (k c : ℕ) (cs : List ℕ) → entries k cs ++ (c ∷ decimal k, Constant OfWord) ∷ [] ≡ entries k (cs ++ c ∷ [])
entries_more k c [] = refl
entries_more k c (d ∷ cs) = ap (λ es. (d ∷ decimal k, Constant OfWord) ∷ es) (entries_more k c cs)

-- no name with another number is among them
others : (k j b : ℕ) (cs : List ℕ) → bytes_eq (decimal k) (decimal j) ≡ false → at_name (entries k cs) (b ∷ decimal j) ≡ None
others k j b [] other = refl
others k j b (c ∷ cs) other = rw (and_right (nat_eq c b) (bytes_eq (decimal k) (decimal j)) other) (others k j b cs other)

-- before the first coordinate there is no sum
abbrev pub HasSum : ℕ → Named Value → Type 0
HasSum zero env = Unit {0}
HasSum (suc k) env = at_name env (sum_letter k ∷ decimal k) ≡ Some (Constant OfWord)

-- the names in sight before the coordinate with number k: none has this number or a later one, and the sum so far is a word
pub record Known (k : ℕ) (env : Named Value) : Type 0 where
  pub fresh : (b j : ℕ) → k ≤ j → j < 100 → at_name env (b ∷ decimal j) ≡ None
  pub no_result : at_name env (114 ∷ []) ≡ None
  pub sum : HasSum k env

-- those, and behind them words with these letters and the number k
record Has (k : ℕ) (cs : List ℕ) (env : Named Value) : Type 0 where
  before : Named Value
  known : Known k before
  are : env ≡ before ++ entries k cs

has_none : (k : ℕ) (env : Named Value) → Known k env → Has k [] env
has_none k env known = record { before = env; known = known; are = sym (append-nil env) }

has_more : (k c : ℕ) (cs : List ℕ) (env : Named Value) → Has k cs env → Has k (cs ++ c ∷ []) (env ++ (c ∷ decimal k, Constant OfWord) ∷ [])
has_more k c cs env h = record {
  before = h.before;
  known = h.known;
  are = ap (λ es. es ++ (c ∷ decimal k, Constant OfWord) ∷ []) h.are ∙ append_assoc h.before (entries k cs) ((c ∷ decimal k, Constant OfWord) ∷ []) ∙ ap (λ es. h.before ++ es) (entries_more k c cs);
}

in_entries : (k b j : ℕ) (cs : List ℕ) (env : Named Value) → k ≤ j → j < 100 → Has k cs env → at_name env (b ∷ decimal j) ≡ at_name (entries k cs) (b ∷ decimal j)
in_entries k b j cs env le below h = ap (λ es. at_name es (b ∷ decimal j)) h.are ∙ at_behind h.before (entries k cs) (b ∷ decimal j) (h.known.fresh b j le below)

here : (k b : ℕ) (cs : List ℕ) (env : Named Value) → k < 100 → Has k cs env → at_name env (b ∷ decimal k) ≡ at_name (entries k cs) (b ∷ decimal k)
here k b cs env below h = in_entries k b k cs env (omega arith) below h

sum_stays : (k : ℕ) (cs : List ℕ) (env : Named Value) → Has (suc k) cs env → at_name env (sum_letter k ∷ decimal k) ≡ Some (Constant OfWord)
sum_stays k cs env h = ap (λ es. at_name es (sum_letter k ∷ decimal k)) h.are ∙ at_front h.before (entries (suc k) cs) (sum_letter k ∷ decimal k) (Constant OfWord) h.known.sum

-- the names of one coordinate, after which the next one comes
known_next : (k : ℕ) (cs : List ℕ) (env : Named Value) → k < 100 → Has k cs env → at_name (entries k cs) (114 ∷ []) ≡ None → at_name (entries k cs) (sum_letter k ∷ decimal k) ≡ Some (Constant OfWord) → Known (suc k) env
known_next k cs env below h no_result sum = record {
  fresh = λ b j le high. in_entries k b j cs env (omega (arith, le)) high h ∙ others k j b cs (other_number k j below high (λ e. omega (arith, e, le)));
  no_result = ap (λ es. at_name es (114 ∷ [])) h.are ∙ at_behind h.before (entries k cs) (114 ∷ []) h.known.no_result ∙ no_result;
  sum = here k (sum_letter k) cs env below h ∙ sum;
}

-- ---- one coordinate

abbrev sum_size : (k size : ℕ) → ℕ
sum_size zero size = size
sum_size (suc k) size = 1 + size

-- the statements of this coordinate and of what follows
abbrev coordinate_size : (k size : ℕ) → ℕ
coordinate_size k size = 1 + (1 + (1 + (1 + sum_size k size)))

sum_body : (text : List ℕ) (k : ℕ) (rest : List Part) (size : ℕ) → k < 100 → BodyOf text rest (Known (suc k)) size → BodyOf text (sum_parts k rest) (Has k (97 ∷ 98 ∷ 100 ∷ 113 ∷ [])) (sum_size k size)
sum_body text zero rest size below next =
    let P = Has 0 (97 ∷ 98 ∷ 100 ∷ 113 ∷ []) in
    holds_map text rest (λ us. Body text us (Known 1) size) (λ us. Body text us P size)
    (λ us. weaken P (Known 1) (λ env h. known_next 0 (97 ∷ 98 ∷ 100 ∷ 113 ∷ []) env below h refl (rw (same_bytes (decimal 0)) refl))) next
sum_body text (suc k) rest size below next =
    let d = decimal (suc k) in
    let P = Has (suc k) (97 ∷ 98 ∷ 100 ∷ 113 ∷ []) in
    let Q = Has (suc k) (97 ∷ 98 ∷ 100 ∷ 113 ∷ 115 ∷ []) in
    plus_more text 115 d (sum_letter k) (decimal k) 113 d rest size P Q
    (holds_map text rest (λ us. Body text us (Known (suc (suc k))) size) (λ us. Body text us Q size)
    (λ us. weaken Q (Known (suc (suc k))) (λ env h. known_next (suc k) (97 ∷ 98 ∷ 100 ∷ 113 ∷ 115 ∷ []) env below h refl (rw (same_bytes d) refl))) next)
    (λ env h. (
      here (suc k) 115 (97 ∷ 98 ∷ 100 ∷ 113 ∷ []) env below h,
      (sum_stays k (97 ∷ 98 ∷ 100 ∷ 113 ∷ []) env h, here (suc k) 113 (97 ∷ 98 ∷ 100 ∷ 113 ∷ []) env below h ∙ rw (same_bytes d) refl),
      has_more (suc k) 115 (97 ∷ 98 ∷ 100 ∷ 113 ∷ []) env h,
    ))

square_body : (text : List ℕ) (k : ℕ) (rest : List Part) (size : ℕ) → k < 100 → BodyOf text rest (Has k (97 ∷ 98 ∷ 100 ∷ 113 ∷ [])) size →
    BodyOf text (two_parts 113 (decimal k) kind.Star 42 100 (decimal k) 100 (decimal k) rest) (Has k (97 ∷ 98 ∷ 100 ∷ [])) (1 + size)
square_body text k rest size below next =
    let d = decimal k in
    star_more text 113 d 100 d 100 d rest size (Has k (97 ∷ 98 ∷ 100 ∷ [])) (Has k (97 ∷ 98 ∷ 100 ∷ 113 ∷ [])) next
    (λ env h. (
      here k 113 (97 ∷ 98 ∷ 100 ∷ []) env below h,
      (here k 100 (97 ∷ 98 ∷ 100 ∷ []) env below h ∙ rw (same_bytes d) refl, here k 100 (97 ∷ 98 ∷ 100 ∷ []) env below h ∙ rw (same_bytes d) refl),
      has_more k 113 (97 ∷ 98 ∷ 100 ∷ []) env h,
    ))

difference_body : (text : List ℕ) (k : ℕ) (rest : List Part) (size : ℕ) → k < 100 → BodyOf text rest (Has k (97 ∷ 98 ∷ 100 ∷ [])) size →
    BodyOf text (two_parts 100 (decimal k) kind.Minus 45 97 (decimal k) 98 (decimal k) rest) (Has k (97 ∷ 98 ∷ [])) (1 + size)
difference_body text k rest size below next =
    let d = decimal k in
    minus_more text 100 d 97 d 98 d rest size (Has k (97 ∷ 98 ∷ [])) (Has k (97 ∷ 98 ∷ 100 ∷ [])) next
    (λ env h. (
      here k 100 (97 ∷ 98 ∷ []) env below h,
      (here k 97 (97 ∷ 98 ∷ []) env below h ∙ rw (same_bytes d) refl, here k 98 (97 ∷ 98 ∷ []) env below h ∙ rw (same_bytes d) refl),
      has_more k 100 (97 ∷ 98 ∷ []) env h,
    ))

second_body : (text : List ℕ) (k : ℕ) (rest : List Part) (size : ℕ) → k < 100 → BodyOf text rest (Has k (97 ∷ 98 ∷ [])) size →
    BodyOf text (input_parts 98 (decimal k) 98 (codes "ob") rest) (Has k (97 ∷ [])) (1 + size)
second_body text k rest size below next =
    input_more text 98 (decimal k) 98 (codes "ob") rest size (Has k (97 ∷ [])) (Has k (97 ∷ 98 ∷ [])) refl next (λ env h. (here k 98 (97 ∷ []) env below h, tt, has_more k 98 (97 ∷ []) env h))

first_body : (text : List ℕ) (k : ℕ) (rest : List Part) (size : ℕ) → k < 100 → BodyOf text rest (Has k (97 ∷ [])) size →
    BodyOf text (input_parts 97 (decimal k) 97 (codes "lice") rest) (Known k) (1 + size)
first_body text k rest size below next =
    input_more text 97 (decimal k) 97 (codes "lice") rest size (Known k) (Has k (97 ∷ [])) refl next
    (λ env known. let h = has_none k env known in (here k 97 [] env below h, tt, has_more k 97 [] env h))

coordinate_body : (text : List ℕ) (k : ℕ) (rest : List Part) (size : ℕ) → k < 100 → BodyOf text rest (Known (suc k)) size → BodyOf text (coordinate_parts k rest) (Known k) (coordinate_size k size)
coordinate_body text k rest size below next =
    let d = decimal k in
    let sums = sum_parts k rest in
    let squares = two_parts 113 d kind.Star 42 100 d 100 d sums in
    let differences = two_parts 100 d kind.Minus 45 97 d 98 d squares in
    let seconds = input_parts 98 d 98 (codes "ob") differences in
    let n = sum_size k size in
    first_body text k seconds (1 + (1 + (1 + n))) below
    (second_body text k differences (1 + (1 + n)) below
    (difference_body text k squares (1 + n) below
    (square_body text k sums n below (sum_body text k rest size below next))))

-- ---- all coordinates

abbrev pub coordinates_size : (a n size : ℕ) → ℕ
coordinates_size a zero size = size
coordinates_size a (suc n) size = coordinate_size a (coordinates_size (suc a) n size)

sum_few : (k size : ℕ) → sum_size k size ≤ 1 + size
sum_few zero size = omega arith
sum_few (suc k) size = omega arith

pub coordinates_few : (a n size : ℕ) → coordinates_size a n size ≤ 5 * n + size
coordinates_few a zero size = omega arith
coordinates_few a (suc n) size =
    let rest = coordinates_few (suc a) n size in
    let one = sum_few a (coordinates_size (suc a) n size) in
    omega (arith, rest, one)

pub coordinates_body : (text : List ℕ) (n a last : ℕ) (rest : List Part) (size : ℕ) → a + n ≡ last → last ≤ 100 → BodyOf text rest (Known last) size →
    BodyOf text (coordinates_parts a n rest) (Known a) (coordinates_size a n size)
coordinates_body text zero a last rest size e most next =
    let same : last ≡ a = omega (arith, e) in
    subst (λ k. BodyOf text rest (Known k) size) same next
coordinates_body text (suc n) a last rest size e most next =
    coordinate_body text a (coordinates_parts (suc a) n rest) (coordinates_size (suc a) n size) (omega (arith, e, most))
    (coordinates_body text n (suc a) last rest size (omega (arith, e)) most next)

-- ---- the answer and the outputs

close_body : (text : List ℕ) → BodyOf text (word kind.CloseBrace (codes "}") ∷ Gap (codes "\n") ∷ []) HasResult 0
close_body text = λ c hc e he. no_more HasResult hc.0 he

tail_body : (text : List ℕ) → BodyOf text tail_parts HasResult 2
tail_body text =
    result_more text 97 (codes "lice") (output_parts 98 (codes "ob") (word kind.CloseBrace (codes "}") ∷ Gap (codes "\n") ∷ [])) 1 refl
    (result_more text 98 (codes "ob") (word kind.CloseBrace (codes "}") ∷ Gap (codes "\n") ∷ []) 0 refl (close_body text))

pub last_body : (text : List ℕ) (last : ℕ) → BodyOf text (last_parts last) (Known (suc last)) 5
last_body text last =
    answer_more text (sum_letter last) (decimal last) tail_parts 2 (Known (suc last)) HasResult (tail_body text)
    (λ env known. (known.no_result, known.sum, at_behind env ((114 ∷ [], Constant Truth) ∷ []) (114 ∷ []) known.no_result))

-- before the first coordinate nothing is in sight
pub none_known : Known 0 []
none_known = record { fresh = λ b j le below. refl; no_result = refl; sum = tt }
