-- Reading a number and the byte that ends it: exactly the decimal text of a number in the range.
use Rattle.std.proofs.Common.{◌≡◌, ℕ, ◌+◌, ◌*◌, ◌-◌, ◌/◌, ◌%◌, ◌^◌, ◌<◌, ◌≤◌, Bool, true, false, ◌&&◌, cond, leb, ltb, Option, Some, None, List, [], ◌∷◌, ◌++◌, refl, sym, ap, ◌∙◌, subst, arith, append_assoc}
use Rattle.std.specs.Prelude.{decimal, ◌==◌}
use Rattle.std.specs.Option.{option_map_or}
use Rattle.std.proofs.lemmas.Fmt.{decimal_step, decimal_by_steps, decimal_digit}
use Rattle.std.proofs.lemmas.Bool.{true≢false, and_parts, eqb-true, eq-eqb, leb-true, ltb-true, lt-ltb, le-leb, ne_eqb}
use Rattle.vd_base.specs.Lexical.{is_digit}
use Rattle.vd_search_tree.specs.Scan.{number_if, first_digit, with_digit, digits_after, number, read_to, stops_at}

record IsDigit (b : ℕ) : Type 0 where
  pub low : 48 ≤ b
  pub high : b ≤ 57

digit_is : (b : ℕ) → is_digit b ≡ true → IsDigit b
digit_is b test = let parts = and_parts (leb 48 b) (leb b 57) test in record { low = leb-true 48 b parts.0; high = leb-true b 57 parts.1 }

digit_of : (b : ℕ) → 48 ≤ b → b ≤ 57 → is_digit b ≡ true
digit_of b low high = rw (le-leb 48 b low, le-leb b 57 high) refl

if_some : (test : Bool) (n m : ℕ) → number_if test n ≡ Some m → (test ≡ true) × (n ≡ m)
if_some true n m is = (refl, cc)
if_some false n m is = cc

record FirstDigit (least most b n : ℕ) : Type 0 where
  pub digit : IsDigit b
  pub value : 48 + n ≡ b
  pub from_least : least ≤ n
  pub to_most : n ≤ most

record NextDigit (most n b m : ℕ) : Type 0 where
  pub digit : IsDigit b
  pub some : 0 < n
  pub value : m + 48 ≡ n * 10 + b
  pub to_most : m ≤ most

first_some : (least most b n : ℕ) → first_digit least most b ≡ Some n → FirstDigit least most b n
first_some least most b n is =
    let found = if_some (is_digit b && leb least (b - 48) && leb (b - 48) most) (b - 48) n is in
    let whole = and_parts (is_digit b && leb least (b - 48)) (leb (b - 48) most) found.0 in
    let front = and_parts (is_digit b) (leb least (b - 48)) whole.0 in
    let digit = digit_is b front.0 in
    let low = leb-true least (b - 48) front.1 in
    let high = leb-true (b - 48) most whole.1 in
    let same : b - 48 ≡ n = found.1 in
    record { digit = digit; value = omega arith; from_least = omega arith; to_most = omega arith }

next_some : (most n b m : ℕ) → with_digit most n b ≡ Some m → NextDigit most n b m
next_some most n b m is =
    let found = if_some (is_digit b && ltb 0 n && leb (n * 10 + (b - 48)) most) (n * 10 + (b - 48)) m is in
    let whole = and_parts (is_digit b && ltb 0 n) (leb (n * 10 + (b - 48)) most) found.0 in
    let front = and_parts (is_digit b) (ltb 0 n) whole.0 in
    let digit = digit_is b front.0 in
    let some = ltb-true 0 n front.1 in
    let high = leb-true (n * 10 + (b - 48)) most whole.1 in
    let same : n * 10 + (b - 48) ≡ m = found.1 in
    record { digit = digit; some = some; value = omega arith; to_most = omega arith }

first_is : (least most n : ℕ) → n < 10 → least ≤ n → n ≤ most → first_digit least most (48 + n) ≡ Some n
first_is least most n small low high =
    let same : (48 + n) - 48 ≡ n = omega arith in
    rw (same, digit_of (48 + n) (omega arith) (omega arith), le-leb least n low, le-leb n most high) refl

next_is : (most n b m : ℕ) → NextDigit most n b m → with_digit most n b ≡ Some m
next_is most n b m is =
    let low = is.digit.low in
    let high = is.digit.high in
    let same : n * 10 + (b - 48) ≡ m = omega arith in
    rw (same, digit_of b low high, lt-ltb 0 n is.some, le-leb m most is.to_most) refl

-- the text grows by the digit
text_grows : (n b m : ℕ) → 0 < n → IsDigit b → m + 48 ≡ n * 10 + b → m < 2 ^ 64 → (rest : List ℕ) → decimal n ++ b ∷ rest ≡ decimal m ++ rest
text_grows n b m some digit value small rest =
    let low = digit.low in
    let high = digit.high in
    let front : m / 10 ≡ n = omega arith in
    let last : 48 + m % 10 ≡ b = omega arith in
    let step : decimal m ≡ decimal n ++ b ∷ [] = decimal_step m (omega arith) small ∙ (λ i. decimal (front i) ++ (last i ∷ [])) in
    sym (append_assoc (decimal n) (b ∷ []) rest) ∙ ap (λ text. text ++ rest) (sym step)

-- what was read: a number in the range, and the bytes behind what ends it
pub record NumberGiven (least most end : ℕ) (bytes : List ℕ) (n : ℕ) (rest : List ℕ) : Type 0 where
  pub from_least : least ≤ n
  pub to_most : n ≤ most
  pub text : bytes ≡ decimal n ++ end ∷ rest

-- where reading stops: a text begins so, and with that byte it stops whatever comes behind
pub record NumberStops (least most end : ℕ) (bytes rest : List ℕ) : Type 0 where
  pub front : List ℕ
  pub are : bytes ≡ front ++ rest
  pub n : ℕ
  pub from_least : least ≤ n
  pub to_most : n ≤ most
  pub more : List ℕ
  pub begins : decimal n ++ end ∷ [] ≡ front ++ more
  pub same : (b : ℕ) (tail behind : List ℕ) → rest ≡ b ∷ tail → number least most end (front ++ b ∷ behind) ≡ stops_at (b ∷ behind)

module _ (least most end : ℕ) (low : least ≤ 1) (some : least ≤ most) (small : most < 2 ^ 64) (ends : is_digit end ≡ false) where
  not_end : (b : ℕ) → IsDigit b → (b == end) ≡ false
  not_end b digit = ne_eqb b end (λ same. true≢false (sym (digit_of b digit.low digit.high) ∙ ap is_digit same ∙ ends))

  -- after the digits of a number the state is that number
  abbrev Reaches : ℕ → List ℕ → Type 0
  Reaches n digits = least ≤ n → n ≤ most → (rest : List ℕ) → number least most end (digits ++ rest) ≡ digits_after most end n rest

  one_reaches : (n : ℕ) → n < 10 → Reaches n ((48 + n) ∷ [])
  one_reaches n one least most_ rest = ap (λ o. option_map_or (λ m. digits_after most end m rest) o (stops_at ((48 + n) ∷ rest))) (first_is _ most n one least most_)

  more_reaches : (n : ℕ) (digits : List ℕ) → 10 ≤ n → Reaches (n / 10) digits → Reaches n (digits ++ ((48 + n % 10) ∷ []))
  more_reaches n digits large before low_ high_ rest =
      let last = 48 + n % 10 in
      let next : NextDigit most (n / 10) last n = record { digit = record { low = omega arith; high = omega arith }; some = omega arith; value = omega arith; to_most = high_ } in
      ap (number least most end) (append_assoc digits (last ∷ []) rest)
      ∙ before (omega arith) (omega arith) (last ∷ rest)
      ∙ ap (λ t. cond t (read_to (n / 10) rest) (option_map_or (λ m. digits_after most end m rest) (with_digit most (n / 10) last) (stops_at (last ∷ rest)))) (not_end last next.digit)
      ∙ ap (λ o. option_map_or (λ m. digits_after most end m rest) o (stops_at (last ∷ rest))) (next_is most (n / 10) last n next)

  reaches : (n : ℕ) → least ≤ n → n ≤ most → (rest : List ℕ) → number least most end (decimal n ++ rest) ≡ digits_after most end n rest
  reaches n = λ low_ high_. decimal_by_steps Reaches one_reaches more_reaches n (omega arith) low_ high_

  pub number_back : (n : ℕ) (rest : List ℕ) → least ≤ n → n ≤ most → number least most end (decimal n ++ end ∷ rest) ≡ read_to n rest
  number_back n rest low_ high_ = reaches n low_ high_ (end ∷ rest) ∙ ap (λ t. cond t (read_to n rest) (option_map_or (λ m. digits_after most end m rest) (with_digit most n end) (stops_at (end ∷ rest)))) (eq-eqb end end refl)

  digits_given : (bytes : List ℕ) (n m : ℕ) (rest : List ℕ) → least ≤ n → n ≤ most → digits_after most end n bytes ≡ read_to m rest → NumberGiven least most end (decimal n ++ bytes) m rest
  digits_given [] n m rest low_ high_ is = cc
  digits_given (b ∷ bytes) n m rest low_ high_ is = by (digits_given bytes) (b == end) refl is
    where
      by_digit : ((k l : ℕ) (r : List ℕ) → least ≤ k → k ≤ most → digits_after most end k bytes ≡ read_to l r → NumberGiven least most end (decimal k ++ bytes) l r) → (next : Option ℕ) → with_digit most n b ≡ next → option_map_or (λ k. digits_after most end k bytes) next (stops_at (b ∷ bytes)) ≡ read_to m rest → NumberGiven least most end (decimal n ++ b ∷ bytes) m rest
      by_digit each None none is = cc
      by_digit each (Some k) found is =
          let next = next_some most n b k found in
          let value = next.value in
          let above = next.some in
          let digit_low = next.digit.low in
          let given = each k m rest (omega arith) next.to_most is in
          record { from_least = given.from_least; to_most = given.to_most; text = text_grows n b k next.some next.digit next.value (omega (arith, next.to_most)) bytes ∙ given.text }

      by : ((k l : ℕ) (r : List ℕ) → least ≤ k → k ≤ most → digits_after most end k bytes ≡ read_to l r → NumberGiven least most end (decimal k ++ bytes) l r) → (t : Bool) → (b == end) ≡ t → cond t (read_to n bytes) (option_map_or (λ k. digits_after most end k bytes) (with_digit most n b) (stops_at (b ∷ bytes))) ≡ read_to m rest → NumberGiven least most end (decimal n ++ b ∷ bytes) m rest
      by each true same is =
          let here = eqb-true b end same in
          let both : ◌≡◌ {A = ℕ × List ℕ} (n, bytes) (m, rest) = cc in
          let number_is : n ≡ m = ap (λ r. r.0) both in
          let rest_is : bytes ≡ rest = ap (λ r. r.1) both in
          record { from_least = omega arith; to_most = omega arith; text = λ i. decimal (number_is i) ++ here i ∷ rest_is i }
      by each false other is = by_digit each (with_digit most n b) refl is

  pub number_given : (bytes : List ℕ) (n : ℕ) (rest : List ℕ) → number least most end bytes ≡ read_to n rest → NumberGiven least most end bytes n rest
  number_given [] n rest is = cc
  number_given (b ∷ bytes) n rest is = by (first_digit least most b) refl is
    where
      by : (first : Option ℕ) → first_digit least most b ≡ first → option_map_or (λ k. digits_after most end k bytes) first (stops_at (b ∷ bytes)) ≡ read_to n rest → NumberGiven least most end (b ∷ bytes) n rest
      by None none is = cc
      by (Some k) found is =
          let first = first_some least most b k found in
          let value = first.value in
          let high = first.digit.high in
          let given = digits_given bytes k n rest first.from_least first.to_most is in
          let text : b ∷ bytes ≡ decimal k ++ bytes = ap (λ c. c ∷ bytes) (sym value) ∙ ap (λ text. text ++ bytes) (sym (decimal_digit k (omega arith))) in
          record { from_least = given.from_least; to_most = given.to_most; text = text ∙ given.text }

  -- a state in which reading stops
  record DigitsStop (n : ℕ) (bytes rest : List ℕ) : Type 0 where
    last : ℕ
    least_ : least ≤ last
    most_ : last ≤ most
    text : decimal n ++ bytes ≡ decimal last ++ rest
    same : (b : ℕ) (tail behind : List ℕ) → rest ≡ b ∷ tail → digits_after most end last (b ∷ behind) ≡ stops_at (b ∷ behind)

  digits_stop : (bytes : List ℕ) (n : ℕ) (rest : List ℕ) → least ≤ n → n ≤ most → digits_after most end n bytes ≡ stops_at rest → DigitsStop n bytes rest
  digits_stop [] n rest low_ high_ is =
      let none : [] ≡ rest = cc in
      record { last = n; least_ = low_; most_ = high_; text = ap (λ r. decimal n ++ r) none; same = λ b tail behind has. absurd (clash b tail (none ∙ has)) }
    where
      clash : (b : ℕ) (tail : List ℕ) → [] ≡ b ∷ tail → ⊥
      clash b tail is = cc
  digits_stop (b ∷ bytes) n rest low_ high_ is = by (digits_stop bytes) (b == end) refl is
    where
      by_digit : ((k : ℕ) (r : List ℕ) → least ≤ k → k ≤ most → digits_after most end k bytes ≡ stops_at r → DigitsStop k bytes r) → (b == end) ≡ false → (next : Option ℕ) → with_digit most n b ≡ next → option_map_or (λ k. digits_after most end k bytes) next (stops_at (b ∷ bytes)) ≡ stops_at rest → DigitsStop n (b ∷ bytes) rest
      by_digit each other None none is =
          let left : b ∷ bytes ≡ rest = cc in
          record {
            last = n;
            least_ = low_;
            most_ = high_;
            text = ap (λ r. decimal n ++ r) left;
            same = λ c tail behind has.
                let here : b ≡ c = heads b c bytes tail (left ∙ has) in
                subst (λ d. digits_after most end n (d ∷ behind) ≡ stops_at (d ∷ behind)) here
                (ap (λ t. cond t (read_to n behind) (option_map_or (λ m. digits_after most end m behind) (with_digit most n b) (stops_at (b ∷ behind)))) other
                ∙ ap (λ o. option_map_or (λ m. digits_after most end m behind) o (stops_at (b ∷ behind))) none);
          }
        where
          heads : (b c : ℕ) (xs ys : List ℕ) → b ∷ xs ≡ c ∷ ys → b ≡ c
          heads b c xs ys is = cc
      by_digit each other (Some k) found is =
          let next = next_some most n b k found in
          let value = next.value in
          let above = next.some in
          let digit_low = next.digit.low in
          let stop = each k rest (omega arith) next.to_most is in
          record { last = stop.last; least_ = stop.least_; most_ = stop.most_; text = text_grows n b k next.some next.digit next.value (omega (arith, next.to_most)) bytes ∙ stop.text; same = stop.same }

      by : ((k : ℕ) (r : List ℕ) → least ≤ k → k ≤ most → digits_after most end k bytes ≡ stops_at r → DigitsStop k bytes r) → (t : Bool) → (b == end) ≡ t → cond t (read_to n bytes) (option_map_or (λ k. digits_after most end k bytes) (with_digit most n b) (stops_at (b ∷ bytes))) ≡ stops_at rest → DigitsStop n (b ∷ bytes) rest
      by each true same is = cc
      by each false other is = by_digit each other (with_digit most n b) refl is

  pub number_stops : (bytes rest : List ℕ) → number least most end bytes ≡ stops_at rest → NumberStops least most end bytes rest
  number_stops [] rest is =
      let none : [] ≡ rest = cc in
      record {
        front = [];
        are = none;
        n = least;
        from_least = omega arith;
        to_most = some;
        more = decimal least ++ end ∷ [];
        begins = refl;
        same = λ b tail behind has. absurd (clash b tail (none ∙ has));
      }
    where
      clash : (b : ℕ) (tail : List ℕ) → [] ≡ b ∷ tail → ⊥
      clash b tail is = cc
  number_stops (b ∷ bytes) rest is = by (first_digit least most b) refl is
    where
      heads : (b c : ℕ) (xs ys : List ℕ) → b ∷ xs ≡ c ∷ ys → b ≡ c
      heads b c xs ys is = cc

      by : (first : Option ℕ) → first_digit least most b ≡ first → option_map_or (λ k. digits_after most end k bytes) first (stops_at (b ∷ bytes)) ≡ stops_at rest → NumberStops least most end (b ∷ bytes) rest
      by None none is =
          let left : b ∷ bytes ≡ rest = cc in
          record {
            front = [];
            are = left;
            n = least;
            from_least = omega arith;
            to_most = some;
            more = decimal least ++ end ∷ [];
            begins = refl;
            same = λ c tail behind has.
                subst (λ d. number least most end (d ∷ behind) ≡ stops_at (d ∷ behind)) (heads b c bytes tail (left ∙ has))
                (ap (λ o. option_map_or (λ m. digits_after most end m behind) o (stops_at (b ∷ behind))) none);
          }
      by (Some k) found is =
          let first = first_some least most b k found in
          let value = first.value in
          let high = first.digit.high in
          let stop = digits_stop bytes k rest first.from_least first.to_most is in
          let text : b ∷ bytes ≡ decimal k ++ bytes = ap (λ c. c ∷ bytes) (sym value) ∙ ap (λ text. text ++ bytes) (sym (decimal_digit k (omega arith))) in
          record {
            front = decimal stop.last;
            are = text ∙ stop.text;
            n = stop.last;
            from_least = stop.least_;
            to_most = stop.most_;
            more = end ∷ [];
            begins = refl;
            same = λ c tail behind has. reaches stop.last stop.least_ stop.most_ (c ∷ behind) ∙ stop.same c tail behind has;
          }
