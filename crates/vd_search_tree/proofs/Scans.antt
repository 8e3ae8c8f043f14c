-- Scanners that read exactly the texts of a relation, and how they are put together.
use Rattle.std.proofs.Common.{◌≡◌, ℕ, ◌^◌, ◌<◌, ◌≤◌, Bool, true, false, cond, Ok, Err, List, [], ◌∷◌, ◌++◌, refl, sym, ap, ◌∙◌, subst, arith, append_assoc, ◌⊎◌, inl, inr}
use Rattle.std.specs.Prelude.{decimal, ◌==◌, Result}
use Rattle.std.proofs.lemmas.Bool.{eqb-true, eq-eqb}
use Rattle.vd_base.specs.Lexical.{is_digit}
use Rattle.vd_search_tree.specs.declared.search_certificate.certificate.Certificate.{Certificate}
use Rattle.vd_search_tree.specs.Scan.{Scanner, word, after_word, number, Read, after_number, choice}
use Rattle.vd_search_tree.proofs.Numbers.{number_given, number_back, number_stops}

abbrev pub Texts : Type 1
Texts = Certificate → List ℕ → Type 0

-- It stops at the rest: some text begins with the front, and with the next byte it stops whatever comes behind.
pub record Stops (scan : Scanner) (texts : Texts) (bytes rest : List ℕ) : Type 0 where
  pub front : List ℕ
  pub are : bytes ≡ front ++ rest
  pub c : Certificate
  pub more : List ℕ
  pub begins : texts c (front ++ more)
  pub same : (b : ℕ) (tail behind : List ℕ) → rest ≡ b ∷ tail → scan (front ++ b ∷ behind) ≡ Err (b ∷ behind)

pub record Scans (scan : Scanner) (texts : Texts) : Type 0 where
  pub given : (bytes : List ℕ) (c : Certificate) → scan bytes ≡ Ok c → texts c bytes
  pub back : (bytes : List ℕ) (c : Certificate) → texts c bytes → scan bytes ≡ Ok c
  pub stops : (bytes rest : List ℕ) → scan bytes ≡ Err rest → Stops scan texts bytes rest
  pub some_c : Certificate
  pub some_text : List ℕ
  pub some : texts some_c some_text

-- the same texts, said otherwise
module _ (scan : Scanner) (one other : Texts) (to : (c : Certificate) (bytes : List ℕ) → one c bytes → other c bytes) (from : (c : Certificate) (bytes : List ℕ) → other c bytes → one c bytes) where
  pub scans_same : Scans scan one → Scans scan other
  scans_same s = record {
    given = λ bytes c is. to c bytes (s.given bytes c is);
    back = λ bytes c is. s.back bytes c (from c bytes is);
    stops = λ bytes rest is.
        let stop = s.stops bytes rest is in
        record { front = stop.front; are = stop.are; c = stop.c; more = stop.more; begins = to stop.c (stop.front ++ stop.more) stop.begins; same = stop.same };
    some_c = s.some_c;
    some_text = s.some_text;
    some = to s.some_c s.some_text s.some;
  }

-- ---- words

word_given : (ws bytes rest : List ℕ) → word ws bytes ≡ Ok rest → bytes ≡ ws ++ rest
word_given [] bytes rest is = cc
word_given (w ∷ ws) [] rest is = cc
word_given (w ∷ ws) (b ∷ bytes) rest is = by (word_given ws bytes rest) (b == w) refl is
  where
    by : (word ws bytes ≡ Ok rest → bytes ≡ ws ++ rest) → (t : Bool) → (b == w) ≡ t → cond t (word ws bytes) (Err (b ∷ bytes)) ≡ Ok rest → b ∷ bytes ≡ w ∷ ws ++ rest
    by each true same is = let here = eqb-true b w same in let left = each is in λ i. here i ∷ left i
    by each false other is = cc

word_back : (ws rest : List ℕ) → word ws (ws ++ rest) ≡ Ok rest
word_back [] rest = refl
word_back (w ∷ ws) rest = ap (λ t. cond t (word ws (ws ++ rest)) (Err (w ∷ ws ++ rest))) (eq-eqb w w refl) ∙ word_back ws rest

record WordStops (ws bytes rest : List ℕ) : Type 0 where
  front : List ℕ
  are : bytes ≡ front ++ rest
  more : List ℕ
  begins : ws ≡ front ++ more
  same : (b : ℕ) (tail behind : List ℕ) → rest ≡ b ∷ tail → word ws (front ++ b ∷ behind) ≡ Err (b ∷ behind)

clash : (b : ℕ) (tail : List ℕ) → [] ≡ b ∷ tail → ⊥
clash b tail is = cc

heads : (b c : ℕ) (xs ys : List ℕ) → b ∷ xs ≡ c ∷ ys → b ≡ c
heads b c xs ys is = cc

word_stops : (ws bytes rest : List ℕ) → word ws bytes ≡ Err rest → WordStops ws bytes rest
word_stops [] bytes rest is = cc
word_stops (w ∷ ws) [] rest is =
    let none : [] ≡ rest = cc in
    record { front = []; are = none; more = w ∷ ws; begins = refl; same = λ b tail behind has. absurd (clash b tail (none ∙ has)) }
word_stops (w ∷ ws) (b ∷ bytes) rest is = by (word_stops ws bytes rest) (b == w) refl is
  where
    by : (word ws bytes ≡ Err rest → WordStops ws bytes rest) → (t : Bool) → (b == w) ≡ t → cond t (word ws bytes) (Err (b ∷ bytes)) ≡ Err rest → WordStops (w ∷ ws) (b ∷ bytes) rest
    by each true same is =
        let stop = each is in
        let here = eqb-true b w same in
        record {
          front = b ∷ stop.front;
          are = ap (λ x. b ∷ x) stop.are;
          more = stop.more;
          begins = λ i. sym here i ∷ stop.begins i;
          same = λ c tail behind has. ap (λ t. cond t (word ws (stop.front ++ c ∷ behind)) (Err (b ∷ stop.front ++ c ∷ behind))) same ∙ stop.same c tail behind has;
        }
    by each false other is =
        let left : b ∷ bytes ≡ rest = cc in
        record {
          front = [];
          are = left;
          more = w ∷ ws;
          begins = refl;
          same = λ c tail behind has.
              subst (λ d. word (w ∷ ws) (d ∷ behind) ≡ Err (d ∷ behind)) (heads b c bytes tail (left ∙ has)) (ap (λ t. cond t (word ws behind) (Err (b ∷ behind))) other);
        }

-- the text behind a word
pub record BehindWord (ws : List ℕ) (texts : Texts) (c : Certificate) (bytes : List ℕ) : Type 0 where
  pub rest : List ℕ
  pub text : bytes ≡ ws ++ rest
  pub holds : texts c rest

module _ (ws : List ℕ) (scan : Scanner) (texts : Texts) (s : Scans scan texts) where
  given_word : (bytes : List ℕ) (c : Certificate) (r : Result (List ℕ) (List ℕ)) → word ws bytes ≡ r → after_word r scan ≡ Ok c → BehindWord ws texts c bytes
  given_word bytes c (Ok rest) read is = record { rest = rest; text = word_given ws bytes rest read; holds = s.given rest c is }
  given_word bytes c (Err rest) read is = cc

  back_word : (bytes : List ℕ) (c : Certificate) → BehindWord ws texts c bytes → after_word (word ws bytes) scan ≡ Ok c
  back_word bytes c h = ap (λ b. after_word (word ws b) scan) h.text ∙ ap (λ r. after_word r scan) (word_back ws h.rest) ∙ s.back h.rest c h.holds

  stops_word : (bytes rest : List ℕ) (r : Result (List ℕ) (List ℕ)) → word ws bytes ≡ r → after_word r scan ≡ Err rest → Stops (λ b. after_word (word ws b) scan) (BehindWord ws texts) bytes rest
  stops_word bytes rest (Ok left) read is =
      let stop = s.stops left rest is in
      record {
        front = ws ++ stop.front;
        are = word_given ws bytes left read ∙ ap (λ x. ws ++ x) stop.are ∙ sym (append_assoc ws stop.front rest);
        c = stop.c;
        more = stop.more;
        begins = record { rest = stop.front ++ stop.more; text = append_assoc ws stop.front stop.more; holds = stop.begins };
        same = λ b tail behind has.
            ap (λ x. after_word (word ws x) scan) (append_assoc ws stop.front (b ∷ behind)) ∙ ap (λ r. after_word r scan) (word_back ws (stop.front ++ b ∷ behind)) ∙ stop.same b tail behind has;
      }
  stops_word bytes rest (Err left) read is =
      let same_rest : left ≡ rest = cc in
      let stop = word_stops ws bytes left read in
      record {
        front = stop.front;
        are = stop.are ∙ ap (λ x. stop.front ++ x) same_rest;
        c = s.some_c;
        more = stop.more ++ s.some_text;
        begins = record { rest = s.some_text; text = sym (append_assoc stop.front stop.more s.some_text) ∙ ap (λ x. x ++ s.some_text) (sym stop.begins); holds = s.some };
        same = λ b tail behind has. ap (λ r. after_word r scan) (stop.same b tail behind (same_rest ∙ has));
      }

  pub scans_word : Scans (λ bytes. after_word (word ws bytes) scan) (BehindWord ws texts)
  scans_word = record {
    given = λ bytes c is. given_word bytes c (word ws bytes) refl is;
    back = back_word;
    stops = λ bytes rest is. stops_word bytes rest (word ws bytes) refl is;
    some_c = s.some_c;
    some_text = ws ++ s.some_text;
    some = record { rest = s.some_text; text = refl; holds = s.some };
  }

-- ---- numbers

-- the text behind a number in a range and the byte that ends it
pub record BehindNumber (least most end : ℕ) (texts : ℕ → Texts) (c : Certificate) (bytes : List ℕ) : Type 0 where
  pub n : ℕ
  pub from_least : least ≤ n
  pub to_most : n ≤ most
  pub rest : List ℕ
  pub text : bytes ≡ decimal n ++ end ∷ rest
  pub holds : texts n c rest

module _ (least most end : ℕ) (low : least ≤ 1) (some : least ≤ most) (small : most < 2 ^ 64) (ends : is_digit end ≡ false) (scan : ℕ → Scanner) (texts : ℕ → Texts) (s : (n : ℕ) → least ≤ n → n ≤ most → Scans (scan n) (texts n)) where
  given_number_ : (bytes : List ℕ) (c : Certificate) (r : Read) → number least most end bytes ≡ r → after_number r scan ≡ Ok c → BehindNumber least most end texts c bytes
  given_number_ bytes c (Ok read) is_read is =
      let given = number_given least most end low some small ends bytes read.0 read.1 is_read in
      record { n = read.0; from_least = given.from_least; to_most = given.to_most; rest = read.1; text = given.text; holds = (s read.0 given.from_least given.to_most).given read.1 c is }
  given_number_ bytes c (Err rest) is_read is = cc

  back_number : (bytes : List ℕ) (c : Certificate) → BehindNumber least most end texts c bytes → after_number (number least most end bytes) scan ≡ Ok c
  back_number bytes c h =
      ap (λ b. after_number (number least most end b) scan) h.text
      ∙ ap (λ r. after_number r scan) (number_back least most end low some small ends h.n h.rest h.from_least h.to_most)
      ∙ (s h.n h.from_least h.to_most).back h.rest c h.holds

  stops_number_ : (bytes rest : List ℕ) (r : Read) → number least most end bytes ≡ r → after_number r scan ≡ Err rest → Stops (λ b. after_number (number least most end b) scan) (BehindNumber least most end texts) bytes rest
  stops_number_ bytes rest (Ok read) is_read is =
      let given = number_given least most end low some small ends bytes read.0 read.1 is_read in
      let stop = (s read.0 given.from_least given.to_most).stops read.1 rest is in
      let front = decimal read.0 ++ end ∷ [] in
      let behind_front : (x : List ℕ) → (front ++ stop.front) ++ x ≡ decimal read.0 ++ (end ∷ (stop.front ++ x)) = λ x. append_assoc front stop.front x ∙ append_assoc (decimal read.0) (end ∷ []) (stop.front ++ x) in
      record {
        front = front ++ stop.front;
        are = given.text ∙ ap (λ x. decimal read.0 ++ (end ∷ x)) stop.are ∙ sym (behind_front rest);
        c = stop.c;
        more = stop.more;
        begins = record { n = read.0; from_least = given.from_least; to_most = given.to_most; rest = stop.front ++ stop.more; text = behind_front stop.more; holds = stop.begins };
        same = λ b tail behind has.
            ap (λ x. after_number (number least most end x) scan) (behind_front (b ∷ behind))
            ∙ ap (λ r. after_number r scan) (number_back least most end low some small ends read.0 (stop.front ++ b ∷ behind) given.from_least given.to_most)
            ∙ stop.same b tail behind has;
      }
  stops_number_ bytes rest (Err left) is_read is =
      let same_rest : left ≡ rest = cc in
      let stop = number_stops least most end low some small ends bytes left is_read in
      let next = s stop.n stop.from_least stop.to_most in
      record {
        front = stop.front;
        are = stop.are ∙ ap (λ x. stop.front ++ x) same_rest;
        c = next.some_c;
        more = stop.more ++ next.some_text;
        begins = record {
          n = stop.n;
          from_least = stop.from_least;
          to_most = stop.to_most;
          rest = next.some_text;
          text = sym (append_assoc stop.front stop.more next.some_text) ∙ ap (λ x. x ++ next.some_text) (sym stop.begins) ∙ append_assoc (decimal stop.n) (end ∷ []) next.some_text;
          holds = next.some;
        };
        same = λ b tail behind has. ap (λ r. after_number r scan) (stop.same b tail behind (same_rest ∙ has));
      }

  pub scans_number : Scans (λ bytes. after_number (number least most end bytes) scan) (BehindNumber least most end texts)
  scans_number = record {
    given = λ bytes c is. given_number_ bytes c (number least most end bytes) refl is;
    back = back_number;
    stops = λ bytes rest is. stops_number_ bytes rest (number least most end bytes) refl is;
    some_c = (s least (omega arith) some).some_c;
    some_text = decimal least ++ end ∷ (s least (omega arith) some).some_text;
    some = record { n = least; from_least = omega arith; to_most = some; rest = (s least (omega arith) some).some_text; text = refl; holds = (s least (omega arith) some).some };
  }

-- ---- one of two bytes

pub record BehindByte (b : ℕ) (texts : Texts) (c : Certificate) (bytes : List ℕ) : Type 0 where
  pub rest : List ℕ
  pub text : bytes ≡ b ∷ rest
  pub holds : texts c rest

abbrev pub EitherByte : ℕ → Texts → ℕ → Texts → Texts
EitherByte a one b two c bytes = BehindByte a one c bytes ⊎ BehindByte b two c bytes

module _ (a : ℕ) (first : Scanner) (one : Texts) (b : ℕ) (second : Scanner) (two : Texts) (differ : (b == a) ≡ false) (s : Scans first one) (t : Scans second two) where
  at_first : (rest : List ℕ) → choice a first b second (a ∷ rest) ≡ first rest
  at_first rest = ap (λ test. cond test (first rest) (cond (a == b) (second rest) (Err (a ∷ rest)))) (eq-eqb a a refl)

  at_second : (rest : List ℕ) → choice a first b second (b ∷ rest) ≡ second rest
  at_second rest =
      ap (λ test. cond test (first rest) (cond (b == b) (second rest) (Err (b ∷ rest)))) differ
      ∙ ap (λ test. cond test (second rest) (Err (b ∷ rest))) (eq-eqb b b refl)

  given_choice : (d : ℕ) (bytes : List ℕ) (c : Certificate) (x y : Bool) → (d == a) ≡ x → (d == b) ≡ y → cond x (first bytes) (cond y (second bytes) (Err (d ∷ bytes))) ≡ Ok c → EitherByte a one b two c (d ∷ bytes)
  given_choice d bytes c true y is_a is_b is = inl (record { rest = bytes; text = ap (λ e. e ∷ bytes) (eqb-true d a is_a); holds = s.given bytes c is })
  given_choice d bytes c false true is_a is_b is = inr (record { rest = bytes; text = ap (λ e. e ∷ bytes) (eqb-true d b is_b); holds = t.given bytes c is })
  given_choice d bytes c false false is_a is_b is = cc

  given_either : (bytes : List ℕ) (c : Certificate) → choice a first b second bytes ≡ Ok c → EitherByte a one b two c bytes
  given_either [] c is = cc
  given_either (d ∷ bytes) c is = given_choice d bytes c (d == a) (d == b) refl refl is

  back_either : (bytes : List ℕ) (c : Certificate) → EitherByte a one b two c bytes → choice a first b second bytes ≡ Ok c
  back_either bytes c (inl h) = ap (choice a first b second) h.text ∙ at_first h.rest ∙ s.back h.rest c h.holds
  back_either bytes c (inr h) = ap (choice a first b second) h.text ∙ at_second h.rest ∙ t.back h.rest c h.holds

  stops_choice : (d : ℕ) (bytes rest : List ℕ) (x y : Bool) → (d == a) ≡ x → (d == b) ≡ y → cond x (first bytes) (cond y (second bytes) (Err (d ∷ bytes))) ≡ Err rest → Stops (choice a first b second) (EitherByte a one b two) (d ∷ bytes) rest
  stops_choice d bytes rest true y is_a is_b is =
      let stop = s.stops bytes rest is in
      record {
        front = a ∷ stop.front;
        are = λ i. eqb-true d a is_a i ∷ stop.are i;
        c = stop.c;
        more = stop.more;
        begins = inl (record { rest = stop.front ++ stop.more; text = refl; holds = stop.begins });
        same = λ e tail behind has. at_first (stop.front ++ e ∷ behind) ∙ stop.same e tail behind has;
      }
  stops_choice d bytes rest false true is_a is_b is =
      let stop = t.stops bytes rest is in
      record {
        front = b ∷ stop.front;
        are = λ i. eqb-true d b is_b i ∷ stop.are i;
        c = stop.c;
        more = stop.more;
        begins = inr (record { rest = stop.front ++ stop.more; text = refl; holds = stop.begins });
        same = λ e tail behind has. at_second (stop.front ++ e ∷ behind) ∙ stop.same e tail behind has;
      }
  stops_choice d bytes rest false false is_a is_b is =
      let left : d ∷ bytes ≡ rest = cc in
      record {
        front = [];
        are = left;
        c = s.some_c;
        more = a ∷ s.some_text;
        begins = inl (record { rest = s.some_text; text = refl; holds = s.some });
        same = λ e tail behind has.
            subst (λ f. choice a first b second (f ∷ behind) ≡ Err (f ∷ behind)) (heads d e bytes tail (left ∙ has))
            (ap (λ x. cond x (first behind) (cond (d == b) (second behind) (Err (d ∷ behind)))) is_a ∙ ap (λ y. cond y (second behind) (Err (d ∷ behind))) is_b);
      }

  stops_either : (bytes rest : List ℕ) → choice a first b second bytes ≡ Err rest → Stops (choice a first b second) (EitherByte a one b two) bytes rest
  stops_either [] rest is =
      let none : [] ≡ rest = cc in
      record {
        front = [];
        are = none;
        c = s.some_c;
        more = a ∷ s.some_text;
        begins = inl (record { rest = s.some_text; text = refl; holds = s.some });
        same = λ e tail behind has. absurd (clash e tail (none ∙ has));
      }
  stops_either (d ∷ bytes) rest is = stops_choice d bytes rest (d == a) (d == b) refl refl is

  pub scans_either : Scans (choice a first b second) (EitherByte a one b two)
  scans_either = record {
    given = given_either;
    back = back_either;
    stops = stops_either;
    some_c = s.some_c;
    some_text = a ∷ s.some_text;
    some = inl (record { rest = s.some_text; text = refl; holds = s.some });
  }
